use Rattle.hist_gateway.proofs.OwnActs.{stays-elsewhere}
use Rattle.hist_gateway.proofs.laws.stays_elsewhere.Goals as goal

pub returns : goal.returns
returns c = stays-elsewhere
