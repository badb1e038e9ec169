use Rattle.std.proofs.Common.{[]}
use Rattle.hist_world.specs.Block.{history, nothing}
use Rattle.hist_world.proofs.Runs.{start}
use Rattle.hist_sessions.proofs.Keeps.{keep-history}
use Rattle.hist_sessions.proofs.Pipes.{down-is, pipe-follows}
use Rattle.hist_sessions.proofs.laws.pipes_follow_histories.Goals as goal

pub returns : goal.returns
returns c = record {
  acts = pipe-follows;
  history = λ shows header es request response line g i k. pipe-follows request response line g [] (history shows header nothing es)
      (keep-history shows header nothing es i k (start header) tt);
  down = down-is;
}
