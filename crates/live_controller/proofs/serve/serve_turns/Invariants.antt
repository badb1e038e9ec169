use Rattle.std.proofs.Common.{◌≡◌, ◌≤◌, true, false, length}
use Rattle.ikl_base.specs.Outside.{HasRisen}
use Rattle.live_controller.specs.Desks.{Serves}
use Rattle.live_controller.specs.Doings.{AreCalm, AreLater}
use Rattle.live_controller.specs.Endings.{AcceptTells}
use Rattle.live_controller.proofs.Turning.{SoFar}
use Rattle.live_controller.proofs.serve.serve_turns.Given as goal

abbrev pub invariant-turns : goal.invariant-turns
invariant-turns g l = record {
  serves : Serves l.desk (g.L.Dialer.peers l.dialer) (g.L.Dialer.is_up l.dialer);
  taken : l.session.is_there ≡ true → g.D.Dock.is_taken l.commands ≡ true;
  tells : AcceptTells (g.D.Dock.accept_faults l.initial.commands) (g.D.Dock.accept_faults l.commands)
      (g.D.Dock.accept_failed l.initial.commands) (g.D.Dock.accept_failed l.commands) false;
  room : length l.buf ≡ 65536;
  later : AreLater (g.L.Dialer.faults l.initial.dialer) (g.L.Dialer.faults l.dialer);
  dock_later : g.D.Dock.faults l.initial.commands ≤ g.D.Dock.faults l.commands;
  served : AreCalm (g.L.Dialer.faults l.initial.dialer) (g.L.Dialer.faults l.dialer)
      → (HasRisen (g.D.Dock.faults l.initial.commands) (g.D.Dock.faults l.commands) → ⊥)
      → SoFar l.initial.desk.peers l._turn (record { dock = g.D.Dock.held l.initial.commands; peers = g.L.Dialer.held l.initial.dialer })
      (record { dock = g.D.Dock.held l.commands; peers = g.L.Dialer.held l.dialer }) l.desk l.session;
}
