use Rattle.live_messages.proofs.Holding.{read-held}
use Rattle.live_messages.proofs.laws.readers_hold.Goals as goal

pub returns : goal.returns
returns c = read-held
