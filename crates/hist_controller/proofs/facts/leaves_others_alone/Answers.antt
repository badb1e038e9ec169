use Rattle.hist_controller.proofs.NextOrders.{gives-next}
use Rattle.hist_controller.proofs.Touch.{part-did, own-one, next-untouched, none-untouched}
use Rattle.hist_controller.proofs.facts.leaves_others_alone.Goals as goal

pub returns-clause-part : goal.returns-clause-part
returns-clause-part c = part-did

pub returns-clause-one : goal.returns-clause-one
returns-clause-one c = own-one

pub returns-clause-gives : goal.returns-clause-gives
returns-clause-gives c = gives-next

pub returns-clause-untouched : goal.returns-clause-untouched
returns-clause-untouched c = next-untouched

pub returns-clause-nothing : goal.returns-clause-nothing
returns-clause-nothing c = none-untouched
