-- What the acts of a gateway say of the past before them.
use Rattle.std.specs.Prelude.{◌≡◌, ℕ, ◌+◌, ◌==◌, ◌&&◌, nat_le, nat_lt, not, Bool, true, false, List, [], ◌∷◌, length, Some, Ok}
use Rattle.std.specs.List.{list_any}
use Rattle.std.specs.Str.{bytes_eq}
use Rattle.ip_packet.specs.View.{Packet, view_of}
use Rattle.ikeless_tree.specs.declared.sad.SadEntry.{SadEntry}
use Rattle.ikeless_tree.specs.declared.entry.SpdEntry.{SpdEntry}
use Rattle.ikeless_tree.specs.declared.entry.Action.{Action}
use Rattle.ikeless_tree.specs.declared.entry.Action.TheVariants as actions
use Rattle.ikeless_tree.specs.declared.entry.Direction.TheVariants.{In, Out}
use Rattle.ikeless_tree.specs.declared.ends.GoneWhy.{GoneWhy}
use Rattle.ikeless_tree.specs.declared.ends.GoneWhy.TheVariants as gone
use Rattle.replay_win.specs.declared.verdict.Verdict.TheVariants as verdicts
use Rattle.replay_win.specs.Marks.{verdict_over}
use Rattle.esp_frame.specs.Esp.{keying, spi_of}
use Rattle.esp_frame.specs.Open as esp
use Rattle.ikeless_tree.specs.Half.{is_inbound}
use Rattle.spd_match.specs.Match.{first_entry, holds_packet}
use Rattle.hist_acts.specs.declared.act.Act.{Act}
use Rattle.hist_acts.specs.declared.act.Act.TheVariants as acts
use Rattle.hist_acts.specs.Past.{force}
use Rattle.hist_acts.specs.Sessions as sessions
use Rattle.hist_halves.specs.Sealed.{is_opened, by_spi, number_of}
use Rattle.hist_halves.specs.Halves.{live, is_live, put_of, sent, numbers_taken}
use Rattle.hist_gateway.specs.Datagram.{datagram}
use Rattle.hist_gateway.specs.Block.{Gateway}
use Rattle.hist_gateway.specs.Let.{newest}
use Rattle.hist_gateway.specs.Handle.{requests}
use Rattle.hist_gateway.specs.Arrive.{is_sealed_for, is_told_version}

-- one of these halves has this name
abbrev pub has_half : List ℕ → List SadEntry → Bool
has_half name halves = list_any (λ e. bytes_eq e.name name) halves

-- a half that the act installs at the gateway has a name that no live half has
abbrev pub IsNewHalf : List ℕ → List Act → Act → Type 0
IsNewHalf g h (acts.Put f e) = bytes_eq f g ≡ true → has_half e.name (live g h) ≡ false
IsNewHalf g h _ = Unit {0}

-- each of these acts, after those before it
abbrev pub AreNewHalves : List ℕ → List Act → List Act → Type 0
AreNewHalves g h [] = Unit {0}
AreNewHalves g h (a ∷ more) = IsNewHalf g h a × AreNewHalves g (a ∷ h) more

-- the newest act is a Let of this packet, and the first entry in force that holds it has this action
pub record LetBefore (h : List Act) (g o : List ℕ) (v : Packet) (p : SpdEntry) (a : Action) : Type 0 where
  pub older : List Act
  pub before : h ≡ acts.Let g o ∷ older
  pub view : view_of o ≡ Ok v
  pub first : first_entry (force g h) Out v ≡ Some p
  pub action : p.action ≡ a

-- what leaves in clear is the packet let in just before, and a bypass entry in force lets it
pub record IsLetOut (h : List Act) (g o : List ℕ) : Type 0 where
  pub packet : Packet
  pub entry : SpdEntry
  pub let_before : LetBefore h g o packet entry actions.Bypass

-- What is sent is the packet let in just before, which a protect entry in force holds, sealed under the newest live half for it
-- with the next number, which is at most the last one.
pub record IsSealedLet (c : Gateway) (h : List Act) (g x : List ℕ) (n : ℕ) (d : List ℕ) : Type 0 where
  pub octets : List ℕ
  pub packet : Packet
  pub entry : SpdEntry
  pub half : SadEntry
  pub let_before : LetBefore h g octets packet entry actions.Protect
  pub newest : newest entry.reqid packet (live g h) ≡ Some half
  pub name : x ≡ half.name
  pub number : n ≡ sent g x h + 1
  pub in_limit : nat_le c.seq_last (sent g x h) ≡ false
  pub datagram : d ≡ datagram half n packet octets

-- The datagram that arrived just before is ESP for the gateway's own address with the SPI of a live inbound half, its number was not
-- taken before and is inside the window, and it opens to the text.
pub record OpensArrival (c : Gateway) (h : List Act) (g : List ℕ) : Type 0 where
  pub older : List Act
  pub octets : List ℕ
  pub outer : Packet
  pub half : SadEntry
  pub text : List ℕ
  pub before : h ≡ acts.Arrived g octets ∷ older
  pub view : view_of octets ≡ Ok outer
  pub own : is_sealed_for c.address outer ≡ true
  pub spi : by_spi (spi_of outer.payload) (live g h) ≡ Some half
  pub fresh : verdict_over half.window (numbers_taken g half.name h) (number_of half (numbers_taken g half.name h) outer.payload) ≡
      verdicts.Fresh
  pub opened : esp.opened (keying half.spi half.key) outer.payload ≡ Some text

-- What is given is the packet in what the datagram opens to, under the half that has its SPI, with its number.
pub record IsOpenedArrival (c : Gateway) (h : List Act) (g x : List ℕ) (n : ℕ) (p : List ℕ) : Type 0 where
  pub opens : OpensArrival c h g
  pub inner : Packet
  pub next : ℕ
  pub name : x ≡ opens.half.name
  pub number : n ≡ number_of opens.half (numbers_taken g x h) opens.outer.payload
  pub packet : esp.inner_packet opens.text ≡ Some (record { next = next; octets = p })
  pub inner_view : view_of p ≡ Ok inner
  pub version : is_told_version next p ≡ true
  pub held : holds_packet opens.half.selector In inner ≡ true

-- what is dropped after its tag was right was opened
abbrev pub GatewayMayDrop : Gateway → List Act → List ℕ → Bool → Type 0
GatewayMayDrop c h g true = OpensArrival c h g
GatewayMayDrop c h g false = Unit {0}

-- what passes in clear is the datagram that arrived just before, and a bypass entry in force lets it
pub record IsArrivalIn (h : List Act) (g o : List ℕ) : Type 0 where
  pub older : List Act
  pub packet : Packet
  pub entry : SpdEntry
  pub before : h ≡ acts.Arrived g o ∷ older
  pub view : view_of o ≡ Ok packet
  pub first : first_entry (force g h) In packet ≡ Some entry
  pub action : entry.action ≡ actions.Bypass

-- A half that is installed has a name that no live half has, and where it is inbound an SPI that no live inbound half has, and
-- there is room for it.
pub record IsInstallable (halves : List SadEntry) (e : SadEntry) : Type 0 where
  pub name : has_half e.name halves ≡ false
  pub spi : (is_inbound e.name && list_any (λ x. is_inbound x.name && (x.spi == e.spi)) halves) ≡ false
  pub room : nat_le 4096 (length halves) ≡ false

-- a half that is removed is live
abbrev pub MayGo : List ℕ → List Act → List ℕ → GoneWhy → Type 0
MayGo g h x gone.Removed = has_half x (live g h) ≡ true
MayGo g h x gone.Hard = Unit {0}

-- what an act of a gateway says of the past before it
abbrev pub GatewayMayAct : Gateway → List Act → Act → Type 0
GatewayMayAct c h (acts.Clear f o) = IsLetOut h f o
GatewayMayAct c h (acts.Sent f x n d) = IsSealedLet c h f x n d
GatewayMayAct c h (acts.Gave f x n p) = IsOpenedArrival c h f x n p
GatewayMayAct c h (acts.Pass f o) = IsArrivalIn h f o
GatewayMayAct c h (acts.Drop f w) = GatewayMayDrop c h f (is_opened w)
GatewayMayAct c h (acts.Put f e) = IsInstallable (live f h) e
GatewayMayAct c h (acts.Gone f x w) = MayGo f h x w
GatewayMayAct c h (acts.Opened f s) = s ≡ sessions.openings f h + 1
GatewayMayAct c h (acts.Handled f s k a) = (s ≡ sessions.session_taken f h) × (k ≡ requests f h + 1)
GatewayMayAct c h _ = Unit {0}

-- each of these acts, after those before it
abbrev pub GatewayMayActAll : Gateway → List Act → List Act → Type 0
GatewayMayActAll c h [] = Unit {0}
GatewayMayActAll c h (a ∷ more) = GatewayMayAct c h a × GatewayMayActAll c (a ∷ h) more

-- each act of a past may follow those before it
abbrev pub IsGatewayPast : Gateway → List Act → Type 0
IsGatewayPast c [] = Unit {0}
IsGatewayPast c (a ∷ h) = GatewayMayAct c h a × IsGatewayPast c h

-- a half that the act installs at the gateway may be installed there
abbrev pub MayInstall : List ℕ → List Act → Act → Type 0
MayInstall g h (acts.Put f e) = bytes_eq f g ≡ true → IsInstallable (live g h) e
MayInstall g h _ = Unit {0}

-- so did each act of a past
abbrev pub AreInstalled : List ℕ → List Act → Type 0
AreInstalled g [] = Unit {0}
AreInstalled g (a ∷ h) = MayInstall g h a × AreInstalled g h

-- ---- sessions

-- the act numbers sessions as they are opened, and a request by the session taken; before a restart none was answered without a session
abbrev pub IsNumbered : List ℕ → List Act → Act → Type 0
IsNumbered g h (acts.Opened f s) = bytes_eq f g ≡ true → s ≡ sessions.openings g h + 1
IsNumbered g h (acts.Handled f s k a) = bytes_eq f g ≡ true → s ≡ sessions.session_taken g h
IsNumbered g h (acts.Boot f) = bytes_eq f g ≡ true → sessions.handled g 0 h ≡ 0
IsNumbered g h _ = Unit {0}

-- the act is a restart, of whatever gateway
abbrev pub is_boot : Act → Bool
is_boot (acts.Boot f) = true
is_boot _ = false

-- so did each act of a past
abbrev pub AreNumbered : List ℕ → List Act → Type 0
AreNumbered g [] = Unit {0}
AreNumbered g (a ∷ h) = IsNumbered g h a × AreNumbered g h

-- ---- what the live halves of such a past are

-- no two halves have one name, and no two inbound ones one SPI
abbrev pub are_apart : List SadEntry → Bool
are_apart [] = true
are_apart (e ∷ es) = not (has_half e.name es) && are_apart es

-- one of the halves is inbound and has this SPI
abbrev pub has_inbound_spi : ℕ → List SadEntry → Bool
has_inbound_spi spi es = list_any (λ x. is_inbound x.name && (x.spi == spi)) es

-- no two inbound halves have one SPI
abbrev pub are_spis_apart : List SadEntry → Bool
are_spis_apart [] = true
are_spis_apart (e ∷ es) = not (is_inbound e.name && has_inbound_spi e.spi es) && are_spis_apart es

-- the halves are those that were installed last under their names
abbrev pub ArePut : List ℕ → List Act → List SadEntry → Type 0
ArePut g h [] = Unit {0}
ArePut g h (e ∷ es) = (put_of g e.name h ≡ Some e) × ArePut g h es

-- the live halves: each as it was installed last, no name and no inbound SPI twice, and 4,096 at most
pub record AreHalves (g : List ℕ) (h : List Act) : Type 0 where
  pub put : ArePut g h (live g h)
  pub apart : are_apart (live g h) ≡ true
  pub own_spis : are_spis_apart (live g h) ≡ true
  pub few : nat_le (length (live g h)) 4096 ≡ true

-- a live outbound half for the packet
pub record IsHalfFor (g : List ℕ) (h : List Act) (reqid : ℕ) (v : Packet) (e : SadEntry) : Type 0 where
  pub live : is_live g e.name h ≡ true
  pub put : put_of g e.name h ≡ Some e
  pub outbound : is_inbound e.name ≡ false
  pub own_reqid : (e.reqid == reqid) ≡ true
  pub holds : holds_packet e.selector Out v ≡ true

-- a live inbound half with the SPI
pub record IsHalfOf (g : List ℕ) (h : List Act) (spi : ℕ) (e : SadEntry) : Type 0 where
  pub live : is_live g e.name h ≡ true
  pub put : put_of g e.name h ≡ Some e
  pub inbound : is_inbound e.name ≡ true
  pub own_spi : (e.spi == spi) ≡ true

-- ---- what must be given

-- The datagram is ESP for the gateway's own address with the SPI of a live inbound half, its number is fresh, it opens to a packet of
-- the version told, and the half's selector holds that packet.
pub record IsDelivery (c : Gateway) (h : List Act) (o : List ℕ) (outer inner : Packet) (e : SadEntry) (text : List ℕ) (next : ℕ)
    (p : List ℕ) : Type 0 where
  pub view : view_of o ≡ Ok outer
  pub own : is_sealed_for c.address outer ≡ true
  pub whole : nat_lt (length outer.payload) 34 ≡ false
  pub spi : by_spi (spi_of outer.payload) (live c.name h) ≡ Some e
  pub fresh : verdict_over e.window (numbers_taken c.name e.name h) (number_of e (numbers_taken c.name e.name h) outer.payload) ≡
      verdicts.Fresh
  pub opened : esp.opened (keying e.spi e.key) outer.payload ≡ Some text
  pub packet : esp.inner_packet text ≡ Some (record { next = next; octets = p })
  pub inner_view : view_of p ≡ Ok inner
  pub version : is_told_version next p ≡ true
  pub held : holds_packet e.selector In inner ≡ true
