use Rattle.std.proofs.Common.{◌≡◌, map}
use Rattle.ctl_core.specs.Core.{station_of}
use Rattle.ctl_core.proofs.peer.stations_of.Given as goal

abbrev pub invariant-loop-peer : goal.invariant-loop-peer
invariant-loop-peer l = l.stations.items ≡ map station_of l.yielded
