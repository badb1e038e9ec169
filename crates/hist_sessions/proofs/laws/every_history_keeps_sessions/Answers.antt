use Rattle.hist_world.specs.Block.{nothing}
use Rattle.hist_world.proofs.Runs.{start}
use Rattle.hist_sessions.proofs.Keeps.{keep-block, keep-history}
use Rattle.hist_sessions.proofs.Pipes.{keeps-before}
use Rattle.hist_sessions.proofs.laws.every_history_keeps_sessions.Goals as goal

pub returns : goal.returns
returns c = record {
  event = keep-block;
  history = λ shows header es i k. keep-history shows header nothing es i k (start header) tt;
  back = keeps-before;
}
