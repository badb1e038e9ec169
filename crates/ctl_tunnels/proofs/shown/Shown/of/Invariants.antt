use Rattle.std.proofs.Common.{◌≡◌, ℕ, take, nat_eq}
use Rattle.std.specs.HashSet.{contains}
use Rattle.ctl_tunnels.specs.Halves.{shows_in, shows_out}
use Rattle.ctl_tunnels.proofs.shown.Shown.of.Given as goal

abbrev pub invariant-loop-name : goal.invariant-loop-name
invariant-loop-name l =
    ((n : ℕ) → contains nat_eq l.shown.inbound n ≡ shows_in (take l.name-index l.names) n)
    × ((n : ℕ) → contains nat_eq l.shown.outbound n ≡ shows_out (take l.name-index l.names) n)
