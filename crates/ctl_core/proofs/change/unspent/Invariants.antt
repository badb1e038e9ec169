use Rattle.std.proofs.Common.{◌≡◌, ◌++◌, drop, min, length}
use Rattle.ctl_core.specs.Changes.{unspent_tunnels, unspent_pairs}
use Rattle.ctl_core.proofs.change.unspent.Given as goal

abbrev pub invariant-loop-i : goal.invariant-loop-i
invariant-loop-i l = (l.count ≡ min (length l.tunnels) (length l.pairs))
    × (l.kept.items ++ unspent_tunnels (drop l.i l.tunnels) (drop l.i l.pairs) ≡ l.initial.kept.items ++ unspent_tunnels l.tunnels l.pairs)
    × (l.come.items ++ unspent_pairs (drop l.i l.tunnels) (drop l.i l.pairs) ≡ l.initial.come.items ++ unspent_pairs l.tunnels l.pairs)
