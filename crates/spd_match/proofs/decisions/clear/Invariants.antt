use Rattle.std.proofs.Common.{◌≡◌, [], length, take}
use Rattle.spd_match.specs.Kept.{kept_at}
use Rattle.spd_match.proofs.decisions.clear.Given as goal

abbrev pub invariant-loop-i : goal.invariant-loop-i
invariant-loop-i l = record {
  length : length l.places.items ≡ length l.initial.places.items;
  nothing : kept_at (take l.i l.places.items) ≡ [];
}
