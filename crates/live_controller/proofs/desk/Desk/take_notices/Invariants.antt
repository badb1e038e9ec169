use Rattle.std.proofs.Common.{◌++◌, List, length}
use Rattle.ikeless_tree.specs.declared.command.Peer.{Peer}
use Rattle.live_controller.specs.Desks.{Keeps, Serves}
use Rattle.live_controller.specs.Doings.{AreCalm, AreLater}
use Rattle.live_controller.specs.Found.{Devices}
use Rattle.live_controller.specs.Past.{Item}
use Rattle.live_controller.specs.Stands.{AreLines, PeersStand, left_at, none_left}
use Rattle.live_controller.proofs.desk.Desk.take_notices.Given as goal

abbrev pub invariant-lines : goal.invariant-lines
invariant-lines g l = record {
  serves : Serves l.self (g.L.Dialer.peers l.dialer) (g.L.Dialer.is_up l.dialer);
  keeps : Keeps l.initial.self l.self;
  later : AreLater (g.L.Dialer.faults l.initial.dialer) (g.L.Dialer.faults l.dialer);
  goes : AreCalm (g.L.Dialer.faults l.initial.dialer) (g.L.Dialer.faults l.dialer) → (ps : List Peer) (start : Devices) (past : List Item)
      → PeersStand ps start past none_left (left_at l.g l.octets) (g.L.Dialer.held l.initial.dialer) l.initial.self
      → (more : List Item) × AreLines l.g more × PeersStand ps start (more ++ past) none_left (left_at l.g l.rest)
      (g.L.Dialer.held l.dialer) l.self;
}

abbrev pub decreases-lines : goal.decreases-lines
decreases-lines g l = length l.rest
