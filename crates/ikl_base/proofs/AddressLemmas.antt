-- The host bits of a prefix are zero.
use Rattle.std.proofs.Common.{◌≡◌, ℕ, ◌-◌, ◌*◌, ◌/◌, ◌%◌, ◌^◌, List, [], ◌∷◌, true, refl, ◌∙◌, ap, arith}
use Rattle.std.proofs.Math.Nat.{mul-mod_left}
use Rattle.std.proofs.lemmas.Nat.{div-add-mod'}
use Rattle.ikl_base.specs.declared.address.Addr.{Addr}
use Rattle.ikl_base.specs.declared.address.Addr.TheVariants.{V4, V6}
use Rattle.ikl_base.specs.Address.{bits_of, are_zero_from, cleared_from, is_clear_from, address_cleared}

whole : (x m : ℕ) → x - x % m ≡ x / m * m
whole x m = let e = div-add-mod' x m in omega (arith, e)

pub whole-mod : (x m : ℕ) → (x - x % m) % m ≡ 0
whole-mod x m = ap (λ y. y % m) (whole x m) ∙ mul-mod_left (x / m) m

pub are_zero_from-cleared : (bits : ℕ) (xs : List ℕ) → are_zero_from bits (cleared_from bits xs) ≡ true
are_zero_from-cleared bits [] = refl
are_zero_from-cleared bits (x ∷ xs) =
    let ih = are_zero_from-cleared (bits - 8) xs in
    let first = whole-mod x (2 ^ (8 - bits)) in
    grind (arith, ih, first)

pub is_clear_from-cleared : (bits : ℕ) (a : Addr) → is_clear_from bits (address_cleared bits a) ≡ true
is_clear_from-cleared bits (V4 octets) = are_zero_from-cleared bits octets
is_clear_from-cleared bits (V6 octets) = are_zero_from-cleared bits octets

pub bits_of-cleared : (bits : ℕ) (a : Addr) → bits_of (address_cleared bits a) ≡ bits_of a
bits_of-cleared bits (V4 octets) = refl
bits_of-cleared bits (V6 octets) = refl
