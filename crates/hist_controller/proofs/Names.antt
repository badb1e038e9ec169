-- Halves of different serials, and the two of one serial, have different names.
use Rattle.std.proofs.Common.{◌≡◌, ℕ, ◌^◌, ◌<◌, List, [], ◌∷◌, drop, ap, arith}
use Rattle.std.proofs.lemmas.Fmt.{decimal_injective}
use Rattle.ikeless_tree.specs.Half.{in_name, out_name}

pub in-names : (m n : ℕ) → m < 2 ^ 64 → n < 2 ^ 64 → in_name m ≡ in_name n → m ≡ n
unfolding in_name
in-names m n p q e = decimal_injective m n p q (ap (drop 3) e)

pub out-names : (m n : ℕ) → m < 2 ^ 64 → n < 2 ^ 64 → out_name m ≡ out_name n → m ≡ n
unfolding out_name
out-names m n p q e = decimal_injective m n p q (ap (drop 4) e)

head-of : List ℕ → ℕ
head-of [] = 0
head-of (x ∷ xs) = x

pub no-both : (m n : ℕ) → in_name m ≡ out_name n → ⊥
unfolding in_name out_name head-of
no-both m n e = let q : ◌≡◌ {A = ℕ} 105 111 = ap head-of e in absurd (omega arith)
