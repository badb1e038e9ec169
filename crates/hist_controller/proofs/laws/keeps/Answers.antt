use Rattle.hist_controller.proofs.KeptState.{keeps}
use Rattle.hist_controller.proofs.laws.keeps.Goals as goal

pub returns : goal.returns
returns c = keeps
