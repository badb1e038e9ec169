use Rattle.std.proofs.Common.{◌≡◌, ◌≤◌, List, ℕ, length, false}
use Rattle.ikl_base.specs.Outside.{Gains, Loses}
use Rattle.ikeless_cli.specs.Reader.{Reads, SinkTells}
use Rattle.ikeless_cli.proofs.replay.run.Given as goal

abbrev pub invariant-turns : goal.invariant-turns
invariant-turns g l = record {
  so_far : (octets : List ℕ) × (text : List ℕ) × Loses (g.S.Source.left l.initial.input) (g.S.Source.left l.input) octets
      × Gains (g.K.Sink.written l.initial.output) (g.K.Sink.written l.output) text × Reads octets text l.reader × (l._turn ≤ length octets);
  size : length l.buf ≡ 65536;
  source : g.S.Source.faults l.initial.input ≤ g.S.Source.faults l.input;
  sink : SinkTells (g.K.Sink.faults l.initial.output) (g.K.Sink.faults l.output) (g.K.Sink.last_failed l.initial.output)
      (g.K.Sink.last_failed l.output) false;
}
