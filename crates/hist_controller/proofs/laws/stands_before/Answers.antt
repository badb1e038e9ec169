use Rattle.hist_controller.proofs.Befores.{all-before}
use Rattle.hist_controller.proofs.laws.stands_before.Goals as goal

pub returns : goal.returns
returns c = all-before
