-- What packets, datagrams and readings of the clock change of what a gateway keeps.
use Rattle.std.specs.Prelude.{ℕ, true, List, ◌∷◌, map, take}
use Rattle.sad_store.specs.declared.half.Half.{Half}
use Rattle.sad_store.specs.Halves.{changed, look_at, send, take_number, with_overflow}
use Rattle.hist_gateway.specs.Places.{without_all}
use Rattle.gw_tables.specs.Kept.{Kept, with_clock, with_halves}

-- the half at a place is changed and looked at
abbrev pub used_at : (Half → Half) → ℕ → Kept → Kept
used_at f i k = with_halves (changed (λ y. look_at k.clock (f y)) i k.halves) k

-- it sends its next number, with these ESP octets
abbrev pub sent_at : ℕ → ℕ → Kept → Kept
sent_at size i k = used_at (send k.clock size) i k

-- it takes a number, with these ESP octets
abbrev pub taken_at : ℕ → ℕ → ℕ → Kept → Kept
taken_at size n i k = used_at (take_number k.clock size n) i k

-- an overflow of its numbers was told
abbrev pub told_at : ℕ → Kept → Kept
told_at i k = with_halves (changed (with_overflow true) i k.halves) k

-- at a reading of the clock all halves are looked at
abbrev pub looked_at : ℕ → Kept → Kept
looked_at now k = with_halves (map (look_at now) k.halves) (with_clock now k)

-- the halves of these names are gone
abbrev pub removed_all : List (List ℕ) → Kept → Kept
removed_all names k = with_halves (without_all names k.halves) k

-- the policies whose acquire stands are these
abbrev pub with_acquires : List (List ℕ) → Kept → Kept
with_acquires names k = record k { acquires = names }

-- one more SPI was told, and only the last 64 stand
abbrev pub with_bad_spi : ℕ → Kept → Kept
with_bad_spi spi k = record k { bad_spis = take 64 (spi ∷ k.bad_spis) }
