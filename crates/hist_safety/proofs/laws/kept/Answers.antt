use Rattle.hist_safety.proofs.Invariant.{kept}
use Rattle.hist_safety.proofs.laws.kept.Goals as goal

pub returns : goal.returns
returns c = kept
