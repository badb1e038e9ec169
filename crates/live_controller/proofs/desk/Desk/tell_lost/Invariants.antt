use Rattle.std.proofs.Common.{◌<◌, length}
use Rattle.std.specs.Prelude.{All}
use Rattle.live_controller.specs.Desks.{Keeps, Serves}
use Rattle.live_controller.specs.Doings.{AreLater}
use Rattle.live_controller.proofs.desk.Desk.tell_lost.Given as goal

abbrev pub invariant-loop-i : goal.invariant-loop-i
invariant-loop-i g l = record {
  serves : Serves l.self (g.L.Dialer.peers l.dialer) (g.L.Dialer.is_up l.dialer);
  keeps : Keeps l.initial.self l.self;
  lost : All (λ k. k < length l.initial.self.peers) l.lost.items;
  later : AreLater (g.L.Dialer.faults l.initial.dialer) (g.L.Dialer.faults l.dialer);
}
