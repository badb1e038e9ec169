use Rattle.std.proofs.Common.{◌≡◌, List, length}
use Rattle.ikeless_tree.specs.declared.command.Peer.{Peer}
use Rattle.live_controller.specs.Desks.{Serves}
use Rattle.live_controller.specs.Doings.{AreCalm, AreLater}
use Rattle.live_controller.specs.Found.{Devices}
use Rattle.live_controller.specs.Past.{Item}
use Rattle.live_controller.specs.Stands.{AreRead, PeersStand, none_left}
use Rattle.live_controller.proofs.desk.Desk.read_open.Given as goal

abbrev pub invariant-loop-g : goal.invariant-loop-g
invariant-loop-g g l = record {
  serves : Serves l.self (g.L.Dialer.peers l.dialer) (g.L.Dialer.is_up l.dialer);
  peers : l.self.peers ≡ l.initial.self.peers;
  room : length l.buf ≡ 65536;
  later : AreLater (g.L.Dialer.faults l.initial.dialer) (g.L.Dialer.faults l.dialer);
  goes : AreCalm (g.L.Dialer.faults l.initial.dialer) (g.L.Dialer.faults l.dialer) → (ps : List Peer) (start : Devices) (past : List Item)
      → PeersStand ps start past none_left none_left (g.L.Dialer.held l.initial.dialer) l.initial.self
      → (now : List Item) × AreRead ps l.g past now × PeersStand ps start now none_left none_left (g.L.Dialer.held l.dialer) l.self;
}
