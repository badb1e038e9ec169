use Rattle.rc_http.proofs.StreamLemmas.{fresh_read}
use Rattle.rc_http.proofs.laws.fresh_has_read_nothing.Goals as goal

pub returns : goal.returns
returns c = fresh_read
