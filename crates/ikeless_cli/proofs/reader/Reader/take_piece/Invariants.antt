use Rattle.std.proofs.Common.{◌≡◌, ◌++◌, List, ℕ, length, false}
use Rattle.ikeless_cli.specs.Reader.{Goes, SinkTells}
use Rattle.ikeless_cli.proofs.reader.Reader.take_piece.Given as goal

abbrev pub invariant-loop-line : goal.invariant-loop-line
invariant-loop-line g l = record {
  so_far : (front : List ℕ) × (front ++ l.rest ≡ l.piece) × Goes l.initial.self l.self (g.K.Sink.written l.initial.output)
      (g.K.Sink.written l.output) front;
  sink : SinkTells (g.K.Sink.faults l.initial.output) (g.K.Sink.faults l.output) (g.K.Sink.last_failed l.initial.output)
      (g.K.Sink.last_failed l.output) false;
}

abbrev pub decreases-loop-line : goal.decreases-loop-line
decreases-loop-line g l = length l.rest
