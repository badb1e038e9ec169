-- Keys of halves by their places, and an index of the last place of each key.
use Rattle.std.specs.Prelude.{◌≡◌, ℕ, ◌+◌, ◌&&◌, nat_eq, not, Bool, true, false, cond, List, [], ◌∷◌, Option, Some, None}
use Rattle.std.specs.List.{list_any}
use Rattle.indexmap.specs.IndexMap.{IndexMap, get}

-- what stands at a place is this key
abbrev pub is_key : ℕ → Option ℕ → Bool
is_key k None = false
is_key k (Some own) = nat_eq own k

-- the place of the last of them
abbrev pub later : ℕ → Option ℕ → Option ℕ → Option ℕ
later k x (Some i) = Some (i + 1)
later k x None = cond (is_key k x) (Some 0) None

-- the last place at which the key stands, counted from 0
abbrev pub last_place : ℕ → List (Option ℕ) → Option ℕ
last_place k [] = None
last_place k (x ∷ xs) = later k x (last_place k xs)

-- whether a key stands among them
abbrev pub is_among : Option ℕ → List (Option ℕ) → Bool
is_among None xs = false
is_among (Some k) xs = list_any (is_key k) xs

-- no key stands twice
abbrev pub are_keys_apart : List (Option ℕ) → Bool
are_keys_apart [] = true
are_keys_apart (x ∷ xs) = not (is_among x xs) && are_keys_apart xs

-- a map, where there is one, gives the last place of each key
abbrev pub IsIndexed : {S : Type 0} → List (Option ℕ) → Option (IndexMap ℕ ℕ S) → Type 0
IsIndexed keys None = Unit {0}
IsIndexed keys (Some places) = (k : ℕ) → get nat_eq places k ≡ last_place k keys
