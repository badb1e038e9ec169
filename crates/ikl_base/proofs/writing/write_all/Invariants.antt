use Rattle.std.proofs.Common.{◌≡◌, ◌++◌, List, ℕ, length}
use Rattle.ikl_base.specs.Outside.{Gains, IsCalm}
use Rattle.ikl_base.proofs.writing.write_all.Given as goal

abbrev pub invariant-loop-rest : goal.invariant-loop-rest
invariant-loop-rest g l = record {
  so_far : (front : List ℕ) × (front ++ l.rest ≡ l.piece) × Gains (g.K.Sink.written l.initial.output) (g.K.Sink.written l.output) front;
  kept : g.K.Sink.faults l.output ≡ g.K.Sink.faults l.initial.output;
  calm : IsCalm (g.K.Sink.last_failed l.initial.output) → IsCalm (g.K.Sink.last_failed l.output);
}

abbrev pub decreases-loop-rest : goal.decreases-loop-rest
decreases-loop-rest g l = length l.rest
