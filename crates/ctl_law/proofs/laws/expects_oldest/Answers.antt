use Rattle.ctl_law.proofs.Steps.{expects}
use Rattle.ctl_law.proofs.laws.expects_oldest.Goals as goal

pub returns : goal.returns
returns c = expects
