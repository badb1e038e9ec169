-- Facts on truth values that several proofs cite.
use Rattle.std.proofs.Common.{◌≡◌, Bool, true, false, not, ◌&&◌, ◌||◌, ◌⊎◌, inl, inr, refl, arith}

pub or-right : (a b : Bool) → b ≡ true → (a || b) ≡ true
or-right true b e = refl
or-right false b e = e

pub and-no : (a b : Bool) → b ≡ false → (a && b) ≡ false
and-no true b e = e
and-no false b e = refl

pub second-of-4 : (a b c d : Bool) → (a && b && c && d) ≡ true → b ≡ true
second-of-4 a b c d e = grind arith

pub split-or : (a b : Bool) → (not a || b) ≡ true → (a ≡ false) ⊎ (b ≡ true)
split-or true b e = inr e
split-or false b e = inl refl
