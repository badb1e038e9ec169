use Rattle.hist_controller.proofs.Policies.{lists-right}
use Rattle.hist_controller.proofs.laws.orders_newest_lists.Goals as goal

pub returns : goal.returns
returns c = lists-right
