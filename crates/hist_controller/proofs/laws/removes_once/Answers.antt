use Rattle.hist_controller.proofs.Removed.{removed-once}
use Rattle.hist_controller.proofs.laws.removes_once.Goals as goal

pub returns-clause-outbound : goal.returns-clause-outbound
returns-clause-outbound c = λ p h l n g. (removed-once p h l n g).0

pub returns-clause-inbound : goal.returns-clause-inbound
returns-clause-inbound c = λ p h l n g. (removed-once p h l n g).1
