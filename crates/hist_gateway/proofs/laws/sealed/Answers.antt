use Rattle.hist_gateway.proofs.Delivery.{sealed-is}
use Rattle.hist_gateway.proofs.laws.sealed.Goals as goal

pub returns : goal.returns
returns c = sealed-is c.sealed_view.ensures.view
