use Rattle.hist_controller.proofs.Homes.{in-home, out-home, one-put, in-removal, out-removal}
use Rattle.hist_controller.proofs.laws.has_homes.Goals as goal

pub returns-clause-inbound : goal.returns-clause-inbound
returns-clause-inbound c = λ p h l g x i. let k = in-home p h l g x i in (k.at, k.known, k.low)

pub returns-clause-outbound : goal.returns-clause-outbound
returns-clause-outbound c = out-home

pub returns-clause-one : goal.returns-clause-one
returns-clause-one c = one-put

pub returns-clause-in_removal : goal.returns-clause-in_removal
returns-clause-in_removal c = in-removal

pub returns-clause-out_removal : goal.returns-clause-out_removal
returns-clause-out_removal c = out-removal
