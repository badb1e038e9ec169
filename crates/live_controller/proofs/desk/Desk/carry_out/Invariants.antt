use Rattle.std.proofs.Common.{◌≡◌, ◌<◌, length, take}
use Rattle.std.specs.Prelude.{All}
use Rattle.live_controller.specs.Desks.{Keeps, Serves}
use Rattle.live_controller.specs.Doings.{AreCalm, AreLater, Carried, IsReady}
use Rattle.live_controller.proofs.desk.Desk.carry_out.Given as goal

abbrev pub invariant-loop-act : goal.invariant-loop-act
invariant-loop-act g l = record {
  serves : Serves l.self (g.L.Dialer.peers l.dialer) (g.L.Dialer.is_up l.dialer);
  keeps : Keeps l.initial.self l.self;
  lost : All (λ k. k < length l.initial.self.peers) l.lost.items;
  core : l.self.controller ≡ l.initial.self.controller;
  later : AreLater (g.L.Dialer.faults l.initial.dialer) (g.L.Dialer.faults l.dialer);
  carried : AreCalm (g.L.Dialer.faults l.initial.dialer) (g.L.Dialer.faults l.dialer) → All (IsReady l.initial.self.links.items) l.act-items
      → Carried l.initial.self.peers (take l.act-index l.act-items) l.initial.self l.self l.initial.lost.items l.lost.items
      (g.L.Dialer.held l.initial.dialer) (g.L.Dialer.held l.dialer);
}
