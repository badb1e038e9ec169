use Rattle.std.proofs.Common.{◌≡◌, ℕ, ◌++◌, ◌<◌, true, take, drop, min, length}
use Rattle.ctl_core.specs.Pass.{with_queues}
use Rattle.ctl_core.specs.Room.{has_room_for}
use Rattle.ctl_core.proofs.peer.append_queues.Given as goal

abbrev pub invariant-loop-i : goal.invariant-loop-i
invariant-loop-i l =
    (l.count ≡ min (length l.initial.stations.items) (length l.initial.queues.items))
    × (l.stations.items ≡ with_queues (take l.i l.initial.stations.items) (take l.i l.initial.queues.items)
    ++ drop l.i l.initial.stations.items)
    × (drop l.i l.queues.items ≡ drop l.i l.initial.queues.items)
    × (length l.queues.items ≡ length l.initial.queues.items)
    × (length l.stations.items ≡ length l.initial.stations.items)
    × (has_room_for (drop l.i l.initial.stations.items) (drop l.i l.initial.queues.items) ≡ true)
