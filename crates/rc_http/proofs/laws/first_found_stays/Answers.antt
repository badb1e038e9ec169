use Rattle.rc_http.proofs.LookLemmas.{looks_kept}
use Rattle.rc_http.proofs.laws.first_found_stays.Goals as goal

pub returns : goal.returns
returns c = looks_kept
