use Rattle.std.proofs.Common.{◌≡◌, ◌<◌, ℕ, false}
use Rattle.yang_values.specs.Addresses.{is_double_at}
use Rattle.yang_values.proofs.groups.find_double.Given as goal

abbrev pub invariant-loop-i : goal.invariant-loop-i
invariant-loop-i l = (k : ℕ) → k < l.i → is_double_at l.t k ≡ false
