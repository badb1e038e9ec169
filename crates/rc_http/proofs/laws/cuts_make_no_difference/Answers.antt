use Rattle.rc_http.proofs.StreamLemmas.{cuts}
use Rattle.rc_http.proofs.laws.cuts_make_no_difference.Goals as goal

pub returns : goal.returns
returns c = cuts
