-- The parts of a dotted quad.
use Rattle.std.proofs.Common.{◌≡◌, ℕ, Bool, true, false, ◌&&◌, List, [], ◌∷◌, Err, refl}
use Rattle.yang_values.specs.Numbers.{is_number}
use Rattle.yang_values.specs.Addresses.{quad_of}
use Rattle.yang_values.specs.declared.value.BadValue.TheVariants.{Form}

not_all : (x y z w : Bool) → (x && y) ≡ true → (z && w) ≡ false → (x && (y && (z && (w && true)))) ≡ false
not_all true true true true h k = k
not_all true true true false h k = refl
not_all true true false w h k = refl
not_all true false z w h k = cc
not_all false y z w h k = refl

-- the last two parts aren't both numbers
pub bad_quad : (parts : List (List ℕ)) (a b c d : List ℕ) → parts ≡ a ∷ b ∷ c ∷ d ∷ [] → (is_number a && is_number b) ≡ true
    → (is_number c && is_number d) ≡ false → Err Form ≡ quad_of parts
unfolding quad_of
bad_quad parts a b c d e h k =
    let bad = not_all (is_number a) (is_number b) (is_number c) (is_number d) h k in
    rw (e, bad) refl
