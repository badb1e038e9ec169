use Rattle.std.proofs.Common.{◌≡◌, take, map}
use Rattle.ctl_core.specs.Core.{is_ready}
use Rattle.ctl_core.proofs.peer.readiness.Given as goal

abbrev pub invariant-loop-station : goal.invariant-loop-station
invariant-loop-station l = l.ready.items ≡ map (λ s. is_ready s.session) (take l.station-index l.stations)
