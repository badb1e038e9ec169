-- Which notices a block tells, exactly where: what a packet or a datagram asks for and lacks, and which halves are looked at.
use Rattle.std.specs.Prelude.{◌≡◌, ℕ, ◌==◌, ◌&&◌, ◌||◌, nat_le, nat_lt, Bool, true, false, List, [], ◌∷◌, length, Some, None, Ok}
use Rattle.std.specs.List.{list_any}
use Rattle.ip_packet.specs.View.{Packet, view_of}
use Rattle.ikeless_tree.specs.declared.entry.Action.TheVariants as actions
use Rattle.ikeless_tree.specs.declared.entry.Direction.TheVariants.{Out}
use Rattle.ikeless_tree.specs.declared.entry.SpdEntry.{SpdEntry}
use Rattle.ikeless_tree.specs.declared.sad.SadEntry.{SadEntry}
use Rattle.ikeless_tree.specs.declared.order.Notice.{Notice}
use Rattle.ikeless_tree.specs.declared.order.Notice.TheVariants as notices
use Rattle.spd_match.specs.Match.{first_entry}
use Rattle.esp_frame.specs.Esp.{spi_of}
use Rattle.hist_acts.specs.declared.act.Act.{Act}
use Rattle.hist_acts.specs.declared.act.Act.TheVariants as acts
use Rattle.hist_acts.specs.Past.{clock, force}
use Rattle.hist_halves.specs.Sealed.{by_spi}
use Rattle.hist_halves.specs.Halves.{live, sent}
use Rattle.hist_gateway.specs.Uses.{is_use}
use Rattle.hist_gateway.specs.Expiries.{reaches_hard, reaches_soft}
use Rattle.hist_gateway.specs.Let.{newest}
use Rattle.hist_gateway.specs.Arrive.{is_sealed_for}
use Rattle.hist_gateway.specs.Block.{Gateway, GatewayEvent, Let, Arrive}

-- ---- what an act tells

-- it gives such a notice
abbrev pub is_notice : (Notice → Bool) → Act → Bool
is_notice is_such (acts.Notice f s n) = is_such n
is_notice is_such _ = false

-- that no half has this SPI
abbrev pub is_bad_spi_of : ℕ → Notice → Bool
is_bad_spi_of spi (notices.BadSpi k) = k == spi
is_bad_spi_of spi _ = false

-- ---- what is asked for and lacks

-- the packet from inside is first held by a protect entry in force
pub record AsksToSeal (g : List ℕ) (h : List Act) (o : List ℕ) (v : Packet) (p : SpdEntry) : Type 0 where
  pub view : view_of o ≡ Ok v
  pub fits : nat_lt 65000 (length o) ≡ false
  pub first : first_entry (force g h) Out v ≡ Some p
  pub action : p.action ≡ actions.Protect

-- no live outbound half is for it; the entry has this name
pub record LacksHalf (g : List ℕ) (h : List Act) (o name : List ℕ) : Type 0 where
  pub packet : Packet
  pub entry : SpdEntry
  pub asks : AsksToSeal g h o packet entry
  pub none : newest entry.reqid packet (live g h) ≡ None
  pub named : entry.name ≡ name

-- the newest one for it has sent its last number; the half has this name
pub record LacksNumber (c : Gateway) (h : List Act) (o x : List ℕ) : Type 0 where
  pub packet : Packet
  pub entry : SpdEntry
  pub half : SadEntry
  pub asks : AsksToSeal c.name h o packet entry
  pub newest : newest entry.reqid packet (live c.name h) ≡ Some half
  pub spent : nat_le c.seq_last (sent c.name half.name h) ≡ true
  pub named : half.name ≡ x

-- the datagram from outside is whole ESP for the gateway's own address, and no live inbound half has its SPI
pub record LacksSpi (c : Gateway) (h : List Act) (o : List ℕ) (spi : ℕ) : Type 0 where
  pub packet : Packet
  pub view : view_of o ≡ Ok packet
  pub own : is_sealed_for c.address packet ≡ true
  pub whole : nat_lt (length packet.payload) 34 ≡ false
  pub none : by_spi (spi_of packet.payload) (live c.name h) ≡ None
  pub named : spi_of packet.payload ≡ spi

-- the event is a packet from inside
abbrev pub is_let : GatewayEvent → Bool
is_let (Let o) = true
is_let _ = false

-- the event is a datagram from outside
abbrev pub is_arrive : GatewayEvent → Bool
is_arrive (Arrive o) = true
is_arrive _ = false

-- ---- which halves are looked at

-- after its past the act is a use of the half, or a reading that raises the clock, at which every live half is looked at
abbrev pub is_looked_at : List ℕ → List ℕ → Act → List Act → Bool
is_looked_at g x (acts.Now t) h = nat_lt (clock h) t
is_looked_at g x a h = is_use g x a h

-- among these acts, after what was before them, is one after which the live half is looked at and reaches what is asked for
abbrev pub is_reached_in : (List Act → SadEntry → Bool) → List ℕ → List ℕ → List Act → List Act → Bool
is_reached_in reaches g x h [] = false
is_reached_in reaches g x h (a ∷ more) = (is_looked_at g x a h && list_any (reaches (a ∷ h)) (live g h))
    || is_reached_in reaches g x (a ∷ h) more

-- a hard limit is reached at a look, or a soft one of which nothing stands
abbrev pub is_hard_reached_in : List ℕ → List ℕ → List Act → List Act → Bool
is_hard_reached_in g x h more = is_reached_in (λ k. reaches_hard g k x) g x h more

-- at a look at the half a soft limit is reached, no hard one, and no soft expiry of it stands
abbrev pub is_soft_reached_in : List ℕ → List ℕ → List Act → List Act → Bool
is_soft_reached_in g x h more = is_reached_in (λ k. reaches_soft g k x) g x h more
