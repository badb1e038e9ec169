use Rattle.ctl_law.proofs.Steps.{begins}
use Rattle.ctl_law.proofs.laws.begins.Goals as goal

pub returns : goal.returns
returns c = begins
