use Rattle.hist_safety.proofs.Ended.{doomed-ended}
use Rattle.hist_safety.proofs.laws.removed_is_ended.Goals as goal

pub returns : goal.returns
returns c = doomed-ended
