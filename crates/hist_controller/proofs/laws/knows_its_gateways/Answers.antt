use Rattle.hist_controller.proofs.Accepts.{placings}
use Rattle.hist_controller.proofs.laws.knows_its_gateways.Goals as goal

pub returns : goal.returns
returns c = λ p h l d i. let k = placings p h l d i in (k.sender, k.receiver, k.apart)
