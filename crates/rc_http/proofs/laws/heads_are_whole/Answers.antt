use Rattle.rc_http.proofs.WholeLemmas.{whole_request, whole_response}
use Rattle.rc_http.proofs.laws.heads_are_whole.Goals as goal

pub returns : goal.returns
returns c = record { requests = whole_request; responses = whole_response }
