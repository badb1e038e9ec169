-- What every lawful history keeps, in the five parts that safety stands on. A past has its newest act first.
use Rattle.std.specs.Prelude.{◌≡◌, ℕ, ◌^◌, ◌≤◌, ◌<◌, true, false, List, [], ◌∷◌, Some, Ok, ◌⊎◌}
use Rattle.std.specs.Int.{w64, to_be_bytes}
use Rattle.std.specs.Str.{bytes_eq}
use Rattle.ikl_base.specs.Address.{AreOneFamily}
use Rattle.ip_packet.specs.View.{Packet, view_of}
use Rattle.ikeless_tree.specs.declared.sad.SadEntry.{SadEntry}
use Rattle.ikeless_tree.specs.declared.entry.Direction.TheVariants.{Out}
use Rattle.ikeless_tree.specs.declared.order.Order.TheVariants as asks
use Rattle.ikeless_tree.specs.Half.{is_inbound, other_half, aes_part, in_half, out_half}
use Rattle.spd_match.specs.Match.{holds_packet}
use Rattle.replay_win.specs.Marks.{is_among}
use Rattle.hist_acts.specs.declared.act.Act.{Act}
use Rattle.hist_acts.specs.Sessions.{answered, handled, is_open, openings, order_at, orders, session_taken, was_cut}
use Rattle.hist_halves.specs.Halves as halves
use Rattle.hist_halves.specs.Sealed.{by_spi}
use Rattle.hist_safety.specs.Orders.{is_removal_ordered, is_removal_answered, is_put_accepted, is_removal_handled, mirrored, order_of, was_order_given, place_of, session_of, site}
use Rattle.hist_safety.specs.Carried.{HalfSeals, was_given, was_sealed, was_sent}

-- the put of the half is handled, or passed over
abbrev pub IsBehind : List ℕ → List Act → Type 0
IsBehind x h = place_of x h ≤ handled (site x h) (session_of x h) h

-- the put of the half can't be handled any more: its session isn't the one taken, or it is behind
abbrev pub Never : List ℕ → List Act → Type 0
Never x h = session_taken (site x h) h ≡ session_of x h → IsBehind x h

-- this put was ordered there, and no other put of its half
abbrev pub IsPutAt : List ℕ → ℕ → ℕ → SadEntry → List Act → Type 0
IsPutAt g s k e h = (was_order_given e.name h ≡ true) × (site e.name h ≡ g) × (session_of e.name h ≡ s) × (place_of e.name h ≡ k)
    × (order_of e.name h ≡ Some e)

-- what stands is what was ordered, where it was ordered
abbrev pub PutIs : List ℕ → List ℕ → SadEntry → List Act → Type 0
PutIs g x e h = (e.name ≡ x) × (was_order_given x h ≡ true) × (site x h ≡ g) × (order_of x h ≡ Some e)

-- the two halves of an association: one key, one SPI, mirrored selectors, two gateways, and the inbound one installed first
abbrev pub Pair : List ℕ → List Act → Type 0
Pair t h =
    (o : SadEntry) × (i : SadEntry) × (order_of (out_half t) h ≡ Some o) × (order_of (in_half t) h ≡ Some i) × (o.key ≡ i.key)
    × (o.spi ≡ i.spi)
    × (i.selector ≡ mirrored o.selector) × (bytes_eq (site (in_half t) h) (site (out_half t) h) ≡ false)
    × (is_put_accepted (in_half t) h ≡ true)

-- the key and IV were used by an outbound half that has the key, with a number up to its count
abbrev pub Under : List ℕ → List ℕ → List Act → Type 0
Under c iv h =
    (g x : List ℕ) × (e : SadEntry) × (k : ℕ) × (halves.put_of g x h ≡ Some e) × (aes_part e.key ≡ c) × (iv ≡ to_be_bytes w64 k)
    × (k < 2 ^ 32) × (k ≤ halves.sent g x h) × (is_inbound x ≡ false)

-- the half is gone for good
abbrev pub Dead : List ℕ → List Act → Type 0
Dead x h = (is_removal_ordered x h ≡ true) × Never x h × (halves.is_live (site x h) x h ≡ false)

-- the outbound half was never ordered, or is gone for good
abbrev pub Last : List ℕ → List Act → Type 0
Last t h = (was_order_given (out_half t) h ≡ false) ⊎ (is_removal_handled (out_half t) h ≡ true)

-- what a datagram that was sent carries, and under which entry
abbrev pub Carried : List ℕ → List ℕ → ℕ → List ℕ → List ℕ → List Act → Type 0
Carried g x n b p h =
    (o : SadEntry) × (packet : Packet) × (order_of x h ≡ Some o) × (site x h ≡ g) × (is_inbound x ≡ false) × (n < 2 ^ 32)
    × HalfSeals o n p b × (view_of p ≡ Ok packet) × (holds_packet o.selector Out packet ≡ true)

-- the half is one of these
abbrev pub IsOneOf : SadEntry → List SadEntry → Type 0
IsOneOf e [] = ⊥
IsOneOf e (d ∷ ds) = (d ≡ e) ⊎ IsOneOf e ds

-- a number that was given is among those taken under the half
abbrev pub WasGiven : List ℕ → ℕ → List Act → Type 0
WasGiven x n h = (g : List ℕ) × (halves.was_put g x h ≡ true) × (is_among n (halves.numbers_taken g x h) ≡ true)

-- a datagram with this number was sent under the half
abbrev pub NumberSent : List ℕ → ℕ → List Act → Type 0
NumberSent x n h = (g b p : List ℕ) × (was_sent g x n b p h ≡ true)

-- All five parts. They hold before the first act, and after each act that may happen.
pub record Kept (h : List Act) : Type 0 where
  -- sessions: the one taken is the last one opened, or none; one that was cut isn't open; what is heard was handled before,
  -- and what is handled was ordered
  pub taken_last : (g : List ℕ) → (session_taken g h ≡ 0) ⊎ (session_taken g h ≡ openings g h)
  pub cut_older : (g : List ℕ) (s : ℕ) → was_cut g s h ≡ true → is_open g h ≡ true → s < openings g h
  pub heard_handled : (g : List ℕ) (s : ℕ) → answered g s h ≤ handled g s h
  pub handled_ordered : (g : List ℕ) (s : ℕ) → handled g s h ≤ orders g s h
  -- keys
  pub ordered_once : (g : List ℕ) (s k : ℕ) (e : SadEntry) → order_at g s k h ≡ Some (asks.Put e) → IsPutAt g s k e h
  pub order_stands : (x : List ℕ) (e : SadEntry) → order_of x h ≡ Some e → order_at (site x h) (session_of x h) (place_of x h) h ≡ Some
      (asks.Put e)
  pub put_as_ordered : (g x : List ℕ) (e : SadEntry) → halves.put_of g x h ≡ Some e → PutIs g x e h
  pub own_key : (t : List ℕ) → was_order_given (out_half t) h ≡ true → Pair t h
  pub ends : (x : List ℕ) (e : SadEntry) → order_of x h ≡ Some e → AreOneFamily e.local e.remote
  pub keys_differ : (t u : List ℕ) (d e : SadEntry) → order_of (in_half t) h ≡ Some d → order_of (in_half u) h ≡ Some e
      → aes_part d.key ≡ aes_part e.key → t ≡ u
  pub numbers : (c iv : List ℕ) → was_sealed c iv h ≡ true → Under c iv h
  -- finality
  pub doomed_ordered : (x : List ℕ) → is_removal_ordered x h ≡ true → was_order_given x h ≡ true
  pub dead : (x : List ℕ) → is_removal_handled x h ≡ true → Dead x h
  pub known_dead : (x : List ℕ) → is_removal_answered x h ≡ true → is_removal_handled x h ≡ true
  -- halves
  pub inbound_first : (t : List ℕ) → was_order_given (out_half t) h ≡ true → halves.was_put (site (in_half t) h) (in_half t) h ≡ true
  pub outbound_last : (t : List ℕ) → is_removal_ordered (in_half t) h ≡ true → Last t h
  pub stays : (g x : List ℕ) → halves.was_put g x h ≡ true → (halves.is_live g x h ≡ true)
      ⊎ ((halves.is_lapsed g x h ≡ true) ⊎ (is_removal_ordered x h ≡ true))
  pub listed : (g : List ℕ) (e : SadEntry) → IsOneOf e (halves.live g h) → (halves.put_of g e.name h ≡ Some e)
      × (halves.is_live g e.name h ≡ true)
  pub live_listed : (g x : List ℕ) → halves.is_live g x h ≡ true → (e : SadEntry) × IsOneOf e (halves.live g h) × (e.name ≡ x)
  pub spi_names : (g : List ℕ) (spi : ℕ) (e : SadEntry) → by_spi spi (halves.live g h) ≡ Some e →
      (halves.put_of g e.name h ≡ Some e) × (halves.is_live g e.name h ≡ true) × (is_inbound e.name ≡ true) × (e.spi ≡ spi)
  pub spi_finds : (g t : List ℕ) (spi : ℕ) (e : SadEntry) → halves.is_live g (in_half t) h ≡ true → halves.put_of g (in_half t) h ≡ Some e
      → e.spi ≡ spi → by_spi spi (halves.live g h) ≡ Some e
  -- window
  pub carried : (g x : List ℕ) (n : ℕ) (b p : List ℕ) → was_sent g x n b p h ≡ true → Carried g x n b p h
  pub given : (x : List ℕ) (n : ℕ) → was_given x n h ≡ true → WasGiven x n h
  pub taken_sent : (g x : List ℕ) (n : ℕ) → is_among n (halves.numbers_taken g x h) ≡ true → NumberSent (other_half x) n h
