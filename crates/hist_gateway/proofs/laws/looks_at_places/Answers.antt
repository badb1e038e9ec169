use Rattle.hist_gateway.proofs.LooksLemmas.{look-at-all, look-at-one}
use Rattle.hist_gateway.proofs.laws.looks_at_places.Goals as goal

pub returns-clause-all : goal.returns-clause-all
returns-clause-all c = look-at-all

pub returns-clause-one : goal.returns-clause-one
returns-clause-one c = look-at-one
