use Rattle.rc_http.proofs.LookLemmas.{looks_unique}
use Rattle.rc_http.proofs.laws.octets_amount_to_one_thing.Goals as goal

pub returns : goal.returns
returns c = looks_unique
