-- The laws of GF(2)[x] modulo x^d + low, for every d and every low below 2^d.
use Rattle.std.specs.Prelude.{◌≡◌, ℕ, ◌+◌, ◌^◌, ◌<◌, List, [], ◌∷◌, ◌++◌, bit_xor, All}
use Rattle.gf_poly.specs.Poly.{product, remainder, multiply, power_sum}

-- p is q times x^d + low, plus the remainder, for some q
abbrev pub RemaindersDivide : Type 0
RemaindersDivide = (d low n p : ℕ) → low < 2 ^ d → 0 < d → p < 2 ^ n
    → (q : ℕ) × (q < 2 ^ n) × (p ≡ bit_xor (product n (2 ^ d + low) q) (remainder d low n p))

-- a remainder has a degree below d
abbrev pub RemaindersFit : Type 0
RemaindersFit = (d low n p : ℕ) → low < 2 ^ d → 0 < d → remainder d low n p < 2 ^ d

-- a product of elements is an element again: its degree is below d
abbrev pub ProductsFit : Type 0
ProductsFit = (d low a b : ℕ) → low < 2 ^ d → a < 2 ^ d → multiply d low a b < 2 ^ d

-- (a b) c is a (b c) modulo x^d + low
abbrev pub ProductsAssociate : Type 0
ProductsAssociate = (d low a b c : ℕ) → low < 2 ^ d → a < 2 ^ d → b < 2 ^ d → c < 2 ^ d
    → multiply d low (multiply d low a b) c ≡ multiply d low a (multiply d low b c)

-- a b is b a modulo x^d + low
abbrev pub ProductsCommute : Type 0
ProductsCommute = (d low a b : ℕ) → low < 2 ^ d → a < 2 ^ d → b < 2 ^ d → multiply d low a b ≡ multiply d low b a

-- (a + b) c is a c + b c modulo x^d + low
abbrev pub ProductsDistribute : Type 0
ProductsDistribute = (d low a b c : ℕ) → low < 2 ^ d → a < 2 ^ d → b < 2 ^ d
    → multiply d low (bit_xor a b) c ≡ bit_xor (multiply d low a c) (multiply d low b c)

-- 1 b is b modulo x^d + low
abbrev pub OneIsUnit : Type 0
OneIsUnit = (d low b : ℕ) → low < 2 ^ d → 0 < d → b < 2 ^ d → multiply d low 1 b ≡ b

-- a sum of powers with one element more behind it: what was there is added to that element, and all times h (Horner's rule)
abbrev pub HornerLaw : Type 0
HornerLaw = (d low h x : ℕ) (xs : List ℕ) → low < 2 ^ d → 0 < d → h < 2 ^ d → x < 2 ^ d → All (λ y. y < 2 ^ d) xs
    → power_sum d low h (xs ++ x ∷ []) ≡ multiply d low (bit_xor (power_sum d low h xs) x) h
