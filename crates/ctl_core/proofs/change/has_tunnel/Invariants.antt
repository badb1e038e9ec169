use Rattle.std.proofs.Common.{◌≡◌, drop, min, length}
use Rattle.ctl_core.specs.Changes.{has_tunnel}
use Rattle.ctl_core.proofs.change.has_tunnel.Given as goal

abbrev pub invariant-loop-i : goal.invariant-loop-i
invariant-loop-i l = (l.count ≡ min (length l.tunnels) (length l.pairs))
    × (has_tunnel l.reqid l.tunnels l.pairs ≡ has_tunnel l.reqid (drop l.i l.tunnels) (drop l.i l.pairs))
