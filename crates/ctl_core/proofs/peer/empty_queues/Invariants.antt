use Rattle.std.proofs.Common.{◌≡◌, take, map, []}
use Rattle.ctl_core.proofs.peer.empty_queues.Given as goal

abbrev pub invariant-loop-station : goal.invariant-loop-station
invariant-loop-station l = l.queues.items ≡ map (λ s. []) (take l._station-index l.stations)
