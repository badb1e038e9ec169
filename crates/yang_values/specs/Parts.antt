-- A text cut at a mark, and the values of its parts.
use Rattle.std.specs.Prelude.{ℕ, Bool, if◌then◌else◌, nat_lt, List, [], ◌∷◌, length, Option, Some, None, option_and_then}
use Rattle.std.specs.List.{slice_split, position_or_len, before_first, after_first}

-- the text before the first mark and the text after it, where there is a mark
unfoldable pub cut_at : (ℕ → Bool) → List ℕ → Option (List ℕ × List ℕ)
cut_at is_mark t =
    if nat_lt (position_or_len is_mark t) (length t) then Some (before_first is_mark t, after_first is_mark t)
    else None

-- the parts of what stands behind a mark, or none
abbrev pub parts_in : (ℕ → Bool) → Option (List ℕ) → List (List ℕ)
parts_in is_mark None = []
parts_in is_mark (Some t) = slice_split is_mark t

infixl 10 ◌>>=◌
-- goes on with the value, where there is one
abbrev pub ◌>>=◌ : {A B : Type 0} → Option A → (A → Option B) → Option B
o >>= f = option_and_then f o

-- the values of texts of which each has one
unfoldable pub each : (List ℕ → Option ℕ) → List (List ℕ) → Option (List ℕ)
each value_of [] = Some []
each value_of (t ∷ ts) = do
  value ← value_of t
  values ← each value_of ts
  Some (value ∷ values)
