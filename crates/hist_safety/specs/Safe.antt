-- What is safe, in five parts, each said of an act and what happened before it. A past has its newest act first.
use Rattle.std.specs.Prelude.{◌≡◌, ℕ, true, false, List, [], ◌∷◌, Some, Ok, ◌⊎◌}
use Rattle.std.specs.Str.{bytes_eq}
use Rattle.ip_packet.specs.View.{Packet, view_of}
use Rattle.ikeless_tree.specs.declared.sad.SadEntry.{SadEntry}
use Rattle.ikeless_tree.specs.declared.command.Peer.{Peer}
use Rattle.esp_frame.specs.Esp.{iv_of}
use Rattle.replay_win.specs.Marks.{verdict_over}
use Rattle.replay_win.specs.declared.verdict.Verdict.TheVariants.{Fresh}
use Rattle.ikeless_tree.specs.Half.{is_inbound, other_half, in_half, out_half}
use Rattle.hist_acts.specs.declared.act.Act.{Act}
use Rattle.hist_acts.specs.declared.act.Act.TheVariants as acts
use Rattle.hist_halves.specs.Sealed.{esp_of, number_of}
use Rattle.hist_halves.specs.Halves.{is_lapsed, is_live, put_of, numbers_taken, was_put}
use Rattle.hist_safety.specs.Clear.{ClearIsLet}
use Rattle.hist_safety.specs.Orders.{is_removal_ordered, site}
use Rattle.hist_safety.specs.Carried.{address_of, aes_in, was_given, was_sealed, was_sent}

-- each packet that leaves in clear is that of the Let just before, and a bypass entry in force holds it first
abbrev pub IsClearSafe : Act → List Act → Type 0
IsClearSafe (acts.Clear g o) h = ClearIsLet h g o
IsClearSafe _ h = Unit {0}

-- no two datagrams are sealed with one AES key and one IV
abbrev pub IsKeySafe : Act → List Act → Type 0
IsKeySafe (acts.Sent g x n o) h = was_sealed (aes_in (put_of g x h)) (iv_of (esp_of o)) h ≡ false
IsKeySafe _ h = Unit {0}

-- A packet given under an inbound half: its association has its other half at another gateway, there a datagram was sent
-- under that half with the same number for a Let of the same packet, and no packet was given for this datagram before.
pub record GaveWasSent (g x : List ℕ) (n : ℕ) (p : List ℕ) (h : List Act) : Type 0 where
  pub inbound : is_inbound x ≡ true
  pub here : g ≡ site x h
  pub elsewhere : bytes_eq (site (other_half x) h) g ≡ false
  pub octets : List ℕ
  pub before : was_sent (site (other_half x) h) (other_half x) n octets p h ≡ true
  pub first : was_given x n h ≡ false

-- each packet that comes out of a tunnel was let in at its other end, and comes out once
abbrev pub IsGaveSafe : Act → List Act → Type 0
IsGaveSafe (acts.Gave g x n p) h = GaveWasSent g x n p h
IsGaveSafe _ h = Unit {0}

-- what is sent has its inbound half installed, and live there unless it met its hard limit or its gateway restarted since
abbrev pub IsSentSafe : Act → List Act → Type 0
IsSentSafe (acts.Sent g x n o) h =
    (was_put (site (other_half x) h) (other_half x) h ≡ true)
    × ((is_live (site (other_half x) h) (other_half x) h ≡ true) ⊎ (is_lapsed (site (other_half x) h) (other_half x) h ≡ true))
IsSentSafe _ h = Unit {0}

-- A datagram o at g that must be given: it is for the gateway's own address and unchanged in its ESP octets since it was
-- sent for a Let of the packet p, its number is fresh, no removal of its inbound half was ordered, and that half met no hard
-- limit and no restart of its gateway since it was installed.
pub record MustGive (gateways : List Peer) (g o serial p : List ℕ) (half : SadEntry) (h : List Act) : Type 0 where
  pub here : g ≡ site (in_half serial) h
  pub packet : Packet
  pub view : view_of o ≡ Ok packet
  pub proto : packet.proto ≡ 50
  pub own : address_of gateways g ≡ Some packet.dst
  pub sender : List ℕ
  pub number : ℕ
  pub unchanged : was_sent sender (out_half serial) number (esp_of o) p h ≡ true
  pub put : put_of g (in_half serial) h ≡ Some half
  pub fresh : verdict_over half.window (numbers_taken g (in_half serial) h) (number_of half (numbers_taken g (in_half serial) h) (esp_of o))
      ≡ Fresh
  pub stays : is_removal_ordered (in_half serial) h ≡ false
  pub whole : is_lapsed g (in_half serial) h ≡ false

-- what must be given is given, with the packet of its Let
abbrev pub IsArrivalSafe : List Peer → Act → List Act → Type 0
IsArrivalSafe gateways a (acts.Arrived g o ∷ h) =
    (serial p : List ℕ) (half : SadEntry) → MustGive gateways g o serial p half h
    → a ≡ acts.Gave g (in_half serial) (number_of half (numbers_taken g (in_half serial) h) (esp_of o)) p
IsArrivalSafe gateways a _ = Unit {0}

-- The five parts hold of each act and of what happened before it. That nothing is left open at the end is `IsLastSafe`.
abbrev pub Safe : List Peer → List Act → Type 0
Safe gateways [] = Unit {0}
Safe gateways (a ∷ h) =
    IsClearSafe a h × IsKeySafe a h × IsGaveSafe a h × IsSentSafe a h × IsArrivalSafe gateways a h × Safe gateways h

-- nothing that must be given is left without its answer at the end
abbrev pub IsLastSafe : List Peer → List Act → Type 0
IsLastSafe gateways (acts.Arrived g o ∷ h) = (serial p : List ℕ) (half : SadEntry) → MustGive gateways g o serial p half h → ⊥
IsLastSafe gateways _ = Unit {0}
