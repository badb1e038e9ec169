-- What a datagram carries from gateway to gateway: ESP octets sealed under an outbound half (RFC 4303), and the conditions
-- under which they are sent and given. A past has its newest act first.
use Rattle.std.specs.Prelude.{◌≡◌, ℕ, ◌+◌, ◌^◌, ◌<◌, ◌==◌, ◌&&◌, ◌||◌, Bool, true, false, List, [], ◌∷◌, find, Option, Some, None, Ok}
use Rattle.std.specs.Str.{bytes_eq}
use Rattle.ikl_base.specs.declared.address.Addr.{Addr}
use Rattle.ip_packet.specs.View.{Packet, view_of}
use Rattle.ip_packet.specs.Field.{next_header}
use Rattle.ikeless_tree.specs.declared.sad.SadEntry.{SadEntry}
use Rattle.ikeless_tree.specs.declared.command.Peer.{Peer}
use Rattle.ikeless_tree.specs.declared.entry.Direction.TheVariants.{In, Out}
use Rattle.ikeless_tree.specs.Half.{is_inbound, other_half, aes_part}
use Rattle.spd_match.specs.Match.{holds_packet}
use Rattle.esp_frame.specs.Esp.{EspOpens, Inner, Keying, esp, iv_of, keying, spi_of}
use Rattle.replay_win.specs.Marks.{verdict_over}
use Rattle.replay_win.specs.declared.verdict.Verdict.TheVariants.{Fresh}
use Rattle.hist_acts.specs.declared.act.Act.{Act}
use Rattle.hist_acts.specs.declared.act.Act.TheVariants as acts
use Rattle.hist_halves.specs.Sealed.{by_spi, esp_of, number_of}
use Rattle.hist_halves.specs.Halves.{is_half, is_live, is_sealed, live, put_of, sent, numbers_taken}

-- how the octets of a half are sealed
abbrev pub keying_of : SadEntry → Keying
keying_of e = keying e.spi e.key

-- The half seals the packet p with the number n to the octets b, and opens octets to a text. Halves with numbers of 64 bits
-- will differ here and in `number_of`.
abbrev pub HalfSeals : SadEntry → ℕ → List ℕ → List ℕ → Type 0
HalfSeals half n p b = b ≡ esp (keying_of half) n (next_header p) p

-- The ICV of the ESP octets is right under the half's key, and the text is what was sealed: the packet, its padding and the ESP trailer.
abbrev pub HalfOpens : SadEntry → List ℕ → List ℕ → Type 0
HalfOpens half b text = EspOpens (keying_of half) b text

-- the address of a peer; none where there is no peer
abbrev pub address_in : Option Peer → Option Addr
address_in None = None
address_in (Some p) = Some p.address

-- the address of a gateway
abbrev pub address_of : List Peer → List ℕ → Option Addr
address_of gateways g = address_in (find (λ p. bytes_eq p.name g) gateways)

-- ---- sending

-- A packet p from inside leaves g as the datagram o, sealed under the half x with the number n: the half is outbound and
-- live, its selector holds the packet, and the number is one more than the last.
pub record Sends (g x : List ℕ) (n : ℕ) (p o : List ℕ) (h : List Act) : Type 0 where
  pub half : SadEntry
  pub put : put_of g x h ≡ Some half
  pub live : is_live g x h ≡ true
  pub outbound : is_inbound x ≡ false
  pub packet : Packet
  pub view : view_of p ≡ Ok packet
  pub holds : holds_packet half.selector Out packet ≡ true
  pub number : n ≡ sent g x h + 1
  pub small : n < 2 ^ 32
  pub sealed : HalfSeals half n p (esp_of o)

-- ---- arriving

-- A datagram o at g comes to the half: it is ESP for the gateway's own address, its SPI is that of a live inbound half, and
-- its number is fresh there (RFC 4303 sections 3.4.2 and 3.4.3).
pub record ComesTo (gateways : List Peer) (g o : List ℕ) (half : SadEntry) (h : List Act) : Type 0 where
  pub packet : Packet
  pub view : view_of o ≡ Ok packet
  pub proto : packet.proto ≡ 50
  pub own : address_of gateways g ≡ Some packet.dst
  pub found : by_spi (spi_of (esp_of o)) (live g h) ≡ Some half
  pub fresh : verdict_over half.window (numbers_taken g half.name h) (number_of half (numbers_taken g half.name h) (esp_of o)) ≡ Fresh

-- The arrival isn't forged: if it comes to a half and opens under its key, its ESP octets were sent under the other half.
abbrev pub IsGenuine : List Peer → List ℕ → List ℕ → List Act → Type 0
IsGenuine gateways g o h =
    (half : SadEntry) (text : List ℕ) → ComesTo gateways g o half h → HalfOpens half (esp_of o) text
    → is_sealed (other_half half.name) (esp_of o) h ≡ true

-- the arrival comes to a half and opens under its key
abbrev pub IsOpened : List Peer → List ℕ → List ℕ → List Act → Type 0
IsOpened gateways g o h = (half : SadEntry) × (text : List ℕ) × ComesTo gateways g o half h × HalfOpens half (esp_of o) text

-- The arrival has the packet p under the half x with the number n: it comes to the half and opens to a packet that has a
-- view of the version told, and that the half's selector holds as inbound (RFC 4301 section 5.2).
pub record Delivers (gateways : List Peer) (g o x : List ℕ) (n : ℕ) (p : List ℕ) (h : List Act) : Type 0 where
  pub half : SadEntry
  pub comes : ComesTo gateways g o half h
  pub name : half.name ≡ x
  pub number : n ≡ number_of half (numbers_taken g x h) (esp_of o)
  pub text : List ℕ
  pub opens : HalfOpens half (esp_of o) text
  pub inner : Inner text (next_header p) p
  pub packet : Packet
  pub view : view_of p ≡ Ok packet
  pub holds : holds_packet half.selector In packet ≡ true

-- the arrival has no packet for the gateway's inside
abbrev pub IsUndelivered : List Peer → List ℕ → List ℕ → List Act → Type 0
IsUndelivered gateways g o h = (x : List ℕ) (n : ℕ) (p : List ℕ) → Delivers gateways g o x n p h → ⊥

-- ---- what was sent and given

-- the newest act is that the packet p came from inside g
abbrev pub is_let : List ℕ → List ℕ → List Act → Bool
is_let g p (acts.Let f o ∷ h) = bytes_eq f g && bytes_eq o p
is_let g p _ = false

-- a datagram with these ESP octets left g under the half x with this number, for a Let of the packet p
abbrev pub was_sent : List ℕ → List ℕ → ℕ → List ℕ → List ℕ → List Act → Bool
was_sent g x n b p [] = false
was_sent g x n b p (acts.Sent f y m o ∷ h) =
    (is_half f y g x && (m == n) && bytes_eq (esp_of o) b && is_let f p h) || was_sent g x n b p h
was_sent g x n b p (_ ∷ h) = was_sent g x n b p h

-- a packet was given under a half of this name with this number
abbrev pub was_given : List ℕ → ℕ → List Act → Bool
was_given x n [] = false
was_given x n (acts.Gave f y m o ∷ h) = (bytes_eq y x && (m == n)) || was_given x n h
was_given x n (_ ∷ h) = was_given x n h

-- the AES key of an entry, without its salt; no octets where there is no entry
abbrev pub aes_in : Option SadEntry → List ℕ
aes_in None = []
aes_in (Some e) = aes_part e.key

-- a datagram was sealed with this AES key and this IV
abbrev pub was_sealed : List ℕ → List ℕ → List Act → Bool
was_sealed key iv [] = false
was_sealed key iv (acts.Sent f y m o ∷ h) =
    (bytes_eq (aes_in (put_of f y h)) key && bytes_eq (iv_of (esp_of o)) iv) || was_sealed key iv h
was_sealed key iv (_ ∷ h) = was_sealed key iv h
