use Rattle.gw_law.proofs.Sound.{sound-past}
use Rattle.gw_law.proofs.laws.pasts_have_no_fault.Goals as goal

pub returns : goal.returns
returns c = sound-past
