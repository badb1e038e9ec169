use Rattle.ctl_tunnels.proofs.HalfNames.{half-is}
use Rattle.ctl_tunnels.proofs.laws.half_names_are_read.Goals as goal

pub returns : goal.returns
returns c = half-is
