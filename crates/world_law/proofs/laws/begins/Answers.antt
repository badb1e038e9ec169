use Rattle.world_law.proofs.Start.{begins}
use Rattle.world_law.proofs.laws.begins.Goals as goal

pub returns : goal.returns
returns c = λ header i. begins header (c.begins.ensures header i)
