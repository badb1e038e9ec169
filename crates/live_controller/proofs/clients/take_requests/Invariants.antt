use Rattle.std.proofs.Common.{◌≡◌, ◌≤◌, ◌++◌, List, true, length}
use Rattle.ikl_base.specs.Outside.{HasRisen}
use Rattle.ikeless_tree.specs.declared.command.Peer.{Peer}
use Rattle.live_controller.specs.Desks.{Serves}
use Rattle.live_controller.specs.Doings.{AreCalm, AreLater}
use Rattle.live_controller.specs.Found.{Devices}
use Rattle.live_controller.specs.Past.{Item}
use Rattle.live_controller.specs.Stands.{AreRequests, NodeStands}
use Rattle.live_controller.proofs.clients.take_requests.Given as goal

abbrev pub invariant-requests : goal.invariant-requests
invariant-requests g l = record {
  serves : Serves l.desk (g.L.Dialer.peers l.dialer) (g.L.Dialer.is_up l.dialer);
  peers : l.desk.peers ≡ l.initial.desk.peers;
  taken : g.D.Dock.is_taken l.commands ≡ true;
  accepts : (g.D.Dock.accept_faults l.commands ≡ g.D.Dock.accept_faults l.initial.commands) ×
      (g.D.Dock.accept_failed l.commands ≡ g.D.Dock.accept_failed l.initial.commands);
  later : AreLater (g.L.Dialer.faults l.initial.dialer) (g.L.Dialer.faults l.dialer);
  dock_later : g.D.Dock.faults l.initial.commands ≤ g.D.Dock.faults l.commands;
  goes : AreCalm (g.L.Dialer.faults l.initial.dialer) (g.L.Dialer.faults l.dialer)
      → (HasRisen (g.D.Dock.faults l.initial.commands) (g.D.Dock.faults l.commands) → ⊥)
      → (ps : List Peer) (start : Devices) (past : List Item)
      → NodeStands ps start past l.octets (record { dock = g.D.Dock.held l.initial.commands; peers = g.L.Dialer.held l.initial.dialer })
      l.initial.desk l.initial.session
      → (more : List Item) × AreRequests more × NodeStands ps start (more ++ past) l.rest
      (record { dock = g.D.Dock.held l.commands; peers = g.L.Dialer.held l.dialer }) l.desk l.session;
}

abbrev pub decreases-requests : goal.decreases-requests
decreases-requests g l = length l.rest
