-- A text cut at its first mark.
use Rattle.std.proofs.Common.{◌≡◌, ℕ, ◌+◌, ◌<◌, ◌≤◌, List, [], ◌∷◌, Bool, true, false, length, Option, Some, None, refl, ap, ◌∙◌, arith, nat_lt, cond, ltb-true, ltb-false, length-drop}
use Rattle.std.specs.List.{slice_split, onto_first, position_or_len, before_first, after_first}
use Rattle.std.proofs.lemmas.List.Splits.{length-slice_split, slice_split-cons_no, slice_split_first}
use Rattle.yang_values.specs.Parts.{cut_at}

-- a text without a mark is one part
pub split_whole : (p : ℕ → Bool) (t : List ℕ) → length t ≤ position_or_len p t → slice_split p t ≡ t ∷ []
split_whole p [] h = refl
split_whole p (c ∷ cs) h = by_test (p c) refl (split_whole p cs)
  where
    by_test : (b : Bool) → p c ≡ b → (length cs ≤ position_or_len p cs → slice_split p cs ≡ cs ∷ [])
        → slice_split p (c ∷ cs) ≡ (c ∷ cs) ∷ []
    by_test true e ih = let at : position_or_len p (c ∷ cs) ≡ 0 = rw e refl in absurd (omega (arith, h, at))
    by_test false e ih =
        let at : position_or_len p (c ∷ cs) ≡ 1 + position_or_len p cs = rw e refl in
        slice_split-cons_no p c cs e ∙ ap (onto_first c) (ih (omega (arith, h, at)))

-- a text with a mark
pub split_at_mark : (p : ℕ → Bool) (t part rest : List ℕ) → Some (part, rest) ≡ cut_at p t
    → (slice_split p t ≡ part ∷ slice_split p rest) × (length rest < length t)
unfolding cut_at
split_at_mark p t part rest e = by_test (nat_lt (position_or_len p t) (length t)) refl e
  where
    by_test : (b : Bool) → nat_lt (position_or_len p t) (length t) ≡ b
        → ◌≡◌ {A = Option (List ℕ × List ℕ)} (Some (part, rest)) (cond b (Some (before_first p t, after_first p t)) None)
        → (slice_split p t ≡ part ∷ slice_split p rest) × (length rest < length t)
    by_test true lt found =
        let below : position_or_len p t < length t = ltb-true _ _ lt in
        let pair : (part, rest) ≡ (before_first p t, after_first p t) = cc in
        let front : part ≡ before_first p t = ap (λ (q : List ℕ × List ℕ). q.0) pair in
        let behind : rest ≡ after_first p t = ap (λ (q : List ℕ × List ℕ). q.1) pair in
        let split : slice_split p t ≡ part ∷ slice_split p rest = rw (front, behind) (slice_split_first p t 0 below) in
        let short : length rest < length t = rw (behind, length-drop) (omega (arith, below)) in
        (split, short)
    by_test false lt found = cc

-- a text without one
pub split_without_mark : (p : ℕ → Bool) (t : List ℕ) → None ≡ cut_at p t → slice_split p t ≡ t ∷ []
unfolding cut_at
split_without_mark p t e = by_test (nat_lt (position_or_len p t) (length t)) refl e
  where
    by_test : (b : Bool) → nat_lt (position_or_len p t) (length t) ≡ b
        → ◌≡◌ {A = Option (List ℕ × List ℕ)} None (cond b (Some (before_first p t, after_first p t)) None)
        → slice_split p t ≡ t ∷ []
    by_test true lt found = cc
    by_test false lt found = split_whole p t (ltb-false _ _ lt)

-- there is always a part
pub some_part : (p : ℕ → Bool) (t : List ℕ) → 0 < length (slice_split p t)
some_part p t = let e = length-slice_split p t in omega (arith, e)
