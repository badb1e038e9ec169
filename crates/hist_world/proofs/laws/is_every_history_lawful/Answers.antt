use Rattle.hist_world.specs.Block.{nothing}
use Rattle.hist_world.proofs.Runs.{lawful-history, start}
use Rattle.hist_world.proofs.laws.is_every_history_lawful.Goals as goal

pub returns : goal.returns
returns c = λ shows header events i k. lawful-history shows header nothing events i k (start header)
