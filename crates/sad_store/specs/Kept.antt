-- What the store keeps of its halves: their names are apart, and it has a column of the SPIs of those that are inbound, no two of
-- which are one, and a column of the `reqid`s of those that are outbound.
use Rattle.std.specs.Prelude.{◌≡◌, ℕ, not, ◌&&◌, Bool, true, List, [], ◌∷◌, map, Option, Some, None, if◌then◌else◌}
use Rattle.std.specs.List.{list_any}
use Rattle.std.specs.Str.{bytes_eq}
use Rattle.ikeless_tree.specs.Half.{is_inbound}
use Rattle.ikeless_tree.specs.declared.sad.SadEntry.{SadEntry}
use Rattle.sad_store.specs.declared.half.Half.{Half}
use Rattle.sad_store.specs.Halves.{names_of, entries_of}

-- no name stands twice
abbrev pub are_names_apart : List (List ℕ) → Bool
are_names_apart [] = true
are_names_apart (x ∷ xs) = not (list_any (λ y. bytes_eq y x) xs) && are_names_apart xs

-- the SPI of an inbound half
abbrev pub spi_key : SadEntry → Option ℕ
spi_key e = if is_inbound e.name then Some e.spi else None

-- the `reqid` of an outbound half
abbrev pub reqid_key : SadEntry → Option ℕ
reqid_key e = if is_inbound e.name then None else Some e.reqid

-- each column has, at the place of each half, its key or nothing
pub record IsKept (xs : List Half) (spi_keys reqid_keys : List (Option ℕ)) : Type 0 where
  pub apart : are_names_apart (names_of xs) ≡ true
  pub spis : spi_keys ≡ map spi_key (entries_of xs)
  pub reqids : reqid_keys ≡ map reqid_key (entries_of xs)
