-- The halves of associations at one gateway, with what is counted of each since its installation (RFC 4301 section 4.4.2).
use Rattle.std.specs.Prelude.{ℕ, zero, suc, ◌+◌, ◌==◌, ◌&&◌, nat_le, not, Bool, false, List, [], ◌∷◌, length, map, find, Option, Some, None, if◌then◌else◌}
use Rattle.std.specs.List.{list_any}
use Rattle.std.specs.Str.{bytes_eq}
use Rattle.ip_packet.specs.View.{Packet}
use Rattle.ikeless_tree.specs.Half.{is_inbound}
use Rattle.ikeless_tree.specs.declared.sad.SadEntry.{SadEntry}
use Rattle.ikeless_tree.specs.declared.entry.Direction.TheVariants.{Out}
use Rattle.replay_win.specs.Marks.{Marks, marked, no_marks}
use Rattle.spd_match.specs.Match.{holds_packet}
use Rattle.life_count.specs.Lifetime.{Lifetime, begun, counted, looked, with_told}
use Rattle.sad_store.specs.declared.half.Half.{Half}

-- ---- one half

-- a half that is installed now
abbrev pub fresh : ℕ → SadEntry → Half
fresh now e = record { entry = e; sent = 0; window = no_marks e.window; life = begun e.hard e.soft now; overflow = false }

-- the last number sent under the half is this
abbrev pub with_sent : ℕ → Half → Half
with_sent n x = record x { sent = n }

-- the anti-replay window of the half is this
abbrev pub with_window : Marks → Half → Half
with_window w x = record x { window = w }

-- what is counted of the half is this
abbrev pub with_life : Lifetime → Half → Half
with_life l x = record x { life = l }

-- whether an overflow of the half's numbers stands that was told
abbrev pub with_overflow : Bool → Half → Half
with_overflow b x = record x { overflow = b }

-- one more number is sent under this half, with these ESP octets at this clock
abbrev pub send : ℕ → ℕ → Half → Half
send now size x = with_life (counted size now x.life) (with_sent (x.sent + 1) x)

-- the number is taken under this half, with these ESP octets at this clock
abbrev pub take_number : ℕ → ℕ → ℕ → Half → Half
take_number now size n x = with_life (counted size now x.life) (with_window (marked x.window n) x)

-- one more number is sent under this half; its use isn't counted yet
abbrev pub number_next : Half → Half
number_next x = with_sent (x.sent + 1) x

-- the number is marked in the half's window; its use isn't counted yet
abbrev pub mark_number : ℕ → Half → Half
mark_number n x = with_window (marked x.window n) x

-- one more use with these ESP octets at this clock, and a look; a look alone
abbrev pub use_half : ℕ → ℕ → Half → Half
use_half size now x = with_life (looked now (counted size now x.life)) x

-- a look alone at this clock: what its limits tell stands then
abbrev pub look_at : ℕ → Half → Half
look_at now x = with_life (looked now x.life) x

-- nothing that was told of this half stands
abbrev pub hushed : Half → Half
hushed x = with_overflow false (with_life (with_told false x.life) x)

-- ---- the halves, in the order of their installation

-- the halves as they were installed, without their counts
abbrev pub entries_of : List Half → List SadEntry
entries_of xs = map (λ x. x.entry) xs

-- the names of the halves, in the order of their installation
abbrev pub names_of : List Half → List (List ℕ)
names_of xs = map (λ x. x.entry.name) xs

-- the half has this name
abbrev pub is_half_named : List ℕ → Half → Bool
is_half_named name x = bytes_eq x.entry.name name

-- one of the halves has this name
abbrev pub has_half_named : List ℕ → List Half → Bool
has_half_named name xs = list_any (is_half_named name) xs

-- halves but those of this name
abbrev pub halves_without : List ℕ → List Half → List Half
halves_without name [] = []
halves_without name (x ∷ xs) = if bytes_eq x.entry.name name then halves_without name xs else x ∷ halves_without name xs

-- the half at this place is another one
abbrev pub changed : (Half → Half) → ℕ → List Half → List Half
changed f i [] = []
changed f zero (x ∷ xs) = f x ∷ xs
changed f (suc i) (x ∷ xs) = x ∷ changed f i xs

-- ---- look-ups

-- the inbound half that an SPI names (RFC 4301 section 4.1)
abbrev pub is_half_of_spi : ℕ → Half → Bool
is_half_of_spi spi x = is_inbound x.entry.name && (x.entry.spi == spi)

-- the inbound half that the SPI names, where there is one
abbrev pub half_by_spi : ℕ → List Half → Option Half
half_by_spi spi xs = find (is_half_of_spi spi) xs

-- an outbound half with this reqid whose selector holds the packet
abbrev pub may_seal : ℕ → Packet → SadEntry → Bool
may_seal reqid v e = not (is_inbound e.name) && ((e.reqid == reqid) && holds_packet e.selector Out v)

-- the newest half for the packet: one among the later halves, or else this one
abbrev pub newer_half : ℕ → Packet → Half → Option Half → Option Half
newer_half reqid v x (Some y) = Some y
newer_half reqid v x None = if may_seal reqid v x.entry then Some x else None

-- the newest such half
abbrev pub newest_half : ℕ → Packet → List Half → Option Half
newest_half reqid v [] = None
newest_half reqid v (x ∷ xs) = newer_half reqid v x (newest_half reqid v xs)

-- where it stands
abbrev pub later_place : ℕ → Packet → Half → Option ℕ → Option ℕ
later_place reqid v x (Some i) = Some (i + 1)
later_place reqid v x None = if may_seal reqid v x.entry then Some 0 else None

-- the place of the newest half for the packet, counted from 0 in the order of installation
abbrev pub newest_place : ℕ → Packet → List Half → Option ℕ
newest_place reqid v [] = None
newest_place reqid v (x ∷ xs) = later_place reqid v x (newest_place reqid v xs)

-- ---- why a half isn't installed

-- a name that a half has, an SPI that an inbound half has, and a list that is full
abbrev pub is_name_taken : SadEntry → List Half → Bool
is_name_taken e xs = has_half_named e.name xs

-- the half is inbound, and an inbound one has its SPI
abbrev pub is_spi_taken : SadEntry → List Half → Bool
is_spi_taken e xs = is_inbound e.name && list_any (is_half_of_spi e.spi) xs

-- there are the 4,096 halves that a gateway may hold
abbrev pub is_full : List Half → Bool
is_full xs = nat_le 4096 (length xs)
