-- A test of every number below a bound, so that one computation proves a table.
use Rattle.std.proofs.Common.{◌≡◌, ℕ, zero, suc, ◌<◌, ◌&&◌, Bool, true, inl, inr, arith}
use Rattle.std.proofs.lemmas.Bool.{and_parts, cases_eq}

-- p holds of each number below n
abbrev pub all_below : (ℕ → Bool) → ℕ → Bool
all_below p zero = true
all_below p (suc n) = p n && all_below p n

pub all_below_at : (p : ℕ → Bool) (n x : ℕ) → all_below p n ≡ true → x < n → p x ≡ true
all_below_at p zero x h lt = absurd (omega arith)
all_below_at p (suc n) x h lt =
    let both = and_parts (p n) (all_below p n) h in
    elim (cases_eq x n) [
      | inl same ↦ rw same both.0
      | inr other ↦ all_below_at p n x both.1 (omega arith)
    ]
