-- Halves by their places.
use Rattle.std.specs.Prelude.{ℕ, true, List, [], ◌∷◌, if◌then◌else◌}
use Rattle.std.specs.Str.{bytes_eq}
use Rattle.life_count.specs.Lifetime.{counts_of, is_reached, with_told}
use Rattle.sad_store.specs.declared.half.Half.{Half}
use Rattle.sad_store.specs.Halves.{halves_without, with_life}

-- the change is made of the half of this name alone
abbrev pub under : List ℕ → (Half → Half) → Half → Half
under name f x = if bytes_eq name x.entry.name then f x else x

-- a soft expiry of the half was told
abbrev pub softly_told : Half → Half
softly_told x = with_life (with_told true x.life) x

-- halves but those of these names
abbrev pub without_all : List (List ℕ) → List Half → List Half
without_all [] xs = xs
without_all (name ∷ names) xs = without_all names (halves_without name xs)

-- the names of the halves that reach a hard limit at this clock
abbrev pub names_reached : ℕ → List Half → List (List ℕ)
names_reached now [] = []
names_reached now (x ∷ xs) = if is_reached x.life.hard (counts_of now x.life) then x.entry.name
    ∷ names_reached now xs else names_reached now xs
