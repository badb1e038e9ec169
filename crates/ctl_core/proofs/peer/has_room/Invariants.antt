use Rattle.std.proofs.Common.{◌≡◌, ◌≤◌, drop, min, length}
use Rattle.ctl_core.specs.Room.{has_room_for}
use Rattle.ctl_core.proofs.peer.has_room.Given as goal

abbrev pub invariant-loop-i : goal.invariant-loop-i
invariant-loop-i l = (l.count ≡ min (length l.stations) (length l.queues))
    × (has_room_for l.stations l.queues ≡ has_room_for (drop l.i l.stations) (drop l.i l.queues))
