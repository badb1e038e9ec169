-- What a clock tells.
use Rattle.std.specs.Prelude.{◌≡◌, ℕ, List, [], ◌∷◌, Option, Some, None}

-- the next reading; 0 where there was none
abbrev pub reading : List ℕ → ℕ
reading [] = 0
reading (seconds ∷ rest) = seconds

-- the readings after it; the last one stays
abbrev pub readings_after : List ℕ → List ℕ
readings_after [] = []
readings_after (seconds ∷ []) = seconds ∷ []
readings_after (seconds ∷ second ∷ rest) = second ∷ rest

-- A call gives the next reading, in seconds. A clock either tells its readings before and after a call, or never does; then nothing is
-- said.
abbrev pub Tells : Option (List ℕ) → Option (List ℕ) → ℕ → Type 0
Tells None None seconds = Unit {0}
Tells None (Some new) seconds = ⊥
Tells (Some old) None seconds = ⊥
Tells (Some old) (Some new) seconds = (seconds ≡ reading old) × (new ≡ readings_after old)
