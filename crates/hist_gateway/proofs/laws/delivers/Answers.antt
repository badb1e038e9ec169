use Rattle.hist_gateway.proofs.Delivery.{delivers-is}
use Rattle.hist_gateway.proofs.laws.delivers.Goals as goal

pub returns : goal.returns
returns c = delivers-is
