use Rattle.hist_world.proofs.Unrefused.{left-at, live-at, plain-at}
use Rattle.hist_world.proofs.laws.few_halves_are_live.Goals as goal

pub returns-clause-plain : goal.returns-clause-plain
returns-clause-plain c = plain-at

pub returns-clause-left : goal.returns-clause-left
returns-clause-left c = left-at

pub returns-clause-live : goal.returns-clause-live
returns-clause-live c = live-at
