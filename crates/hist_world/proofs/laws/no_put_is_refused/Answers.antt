use Rattle.hist_world.proofs.Unrefused.{unrefused}
use Rattle.hist_world.proofs.laws.no_put_is_refused.Goals as goal

pub returns : goal.returns
returns c = unrefused
