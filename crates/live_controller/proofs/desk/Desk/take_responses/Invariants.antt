use Rattle.std.proofs.Common.{◌++◌, List, length}
use Rattle.ikeless_tree.specs.declared.command.Peer.{Peer}
use Rattle.live_controller.specs.Desks.{Keeps, Serves}
use Rattle.live_controller.specs.Doings.{AreCalm, AreLater}
use Rattle.live_controller.specs.Found.{Devices}
use Rattle.live_controller.specs.Past.{Item}
use Rattle.live_controller.specs.Stands.{AreResponses, PeersStand, left_at, none_left}
use Rattle.live_controller.proofs.desk.Desk.take_responses.Given as goal

abbrev pub invariant-messages : goal.invariant-messages
invariant-messages g l = record {
  serves : Serves l.self (g.L.Dialer.peers l.dialer) (g.L.Dialer.is_up l.dialer);
  keeps : Keeps l.initial.self l.self;
  later : AreLater (g.L.Dialer.faults l.initial.dialer) (g.L.Dialer.faults l.dialer);
  goes : AreCalm (g.L.Dialer.faults l.initial.dialer) (g.L.Dialer.faults l.dialer) → (ps : List Peer) (start : Devices) (past : List Item)
      → PeersStand ps start past (left_at l.g l.octets) none_left (g.L.Dialer.held l.initial.dialer) l.initial.self
      → (more : List Item) × AreResponses l.g more × PeersStand ps start (more ++ past) (left_at l.g l.rest) none_left
      (g.L.Dialer.held l.dialer) l.self;
}

abbrev pub decreases-messages : goal.decreases-messages
decreases-messages g l = length l.rest
