use Rattle.hist_controller.proofs.Caused.{caused}
use Rattle.hist_controller.proofs.laws.puts_for_causes.Goals as goal

pub returns : goal.returns
returns c = caused
