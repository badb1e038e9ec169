-- Datagrams from one gateway to the other, and what answers them. Sealing isn't computed, since AES over the inverses of its
-- definition is too dear: a datagram is its header followed by what `esp` gives for key, number and packet. Its length, SPI and
-- number are computed, and that it opens to the packet again is a law of ESP.
use Rattle.std.proofs.Common.{◌≡◌, ℕ, ◌+◌, ◌&&◌, nat_lt, true, false, List, [], ◌∷◌, length, take, Some, None, Ok, refl, ◌∙◌, ap}
use Rattle.std.proofs.lemmas.Bool.{or_left, and_from}
use Rattle.std.specs.Str.{bytes_eq}
use Rattle.ikl_base.specs.declared.address.Addr.{Addr}
use Rattle.ikl_base.specs.declared.address.Addr.TheVariants.{V4}
use Rattle.ip_packet.specs.Outer.{outer_header}
use Rattle.ip_packet.specs.View.{Packet, view_of}
use Rattle.ikeless_tree.specs.declared.sad.SadEntry.{SadEntry}
use Rattle.ikeless_tree.specs.declared.order.Notice.TheVariants as notices
use Rattle.ikeless_tree.specs.declared.drops.DropWhy.TheVariants as why
use Rattle.gcm_seal.specs.Gcm.{sealed, tag_of}
use Rattle.esp_frame.specs.Esp.{Keying, esp, keying, pad_len, padded, seq_of, spi_of}
use Rattle.esp_frame.specs.Open.{opened}
use Rattle.esp_frame.proofs.Opens.{opened_finds, sealed_opens}
use Rattle.replay_win.specs.declared.verdict.Verdict.TheVariants.{Fresh, Seen}
use Rattle.replay_win.specs.Marks.{verdict_over}
use Rattle.ikeless_tree.specs.Half.{other_half}
use Rattle.hist_acts.specs.declared.act.Act.{Act}
use Rattle.hist_acts.specs.declared.act.Act.TheVariants as acts
use Rattle.hist_acts.specs.declared.event.Event.{Event}
use Rattle.hist_acts.specs.Past.{events_taken}
use Rattle.hist_halves.specs.Halves.{is_sealed, live, numbers_taken}
use Rattle.hist_halves.specs.Sealed.{by_spi, esp_of, payload_of}
use Rattle.hist_gateway.specs.Arrive.{by_text}
use Rattle.hist_gateway.specs.Block as node
use Rattle.hist_gateway.specs.Datagram.{datagram}
use Rattle.hist_gateway.specs.Let.{unless}
use Rattle.hist_gateway.specs.Look.{tells}
use Rattle.hist_gateway.specs.Stands.{does_bad_spi_stand}
use Rattle.hist_safety.proofs.Basics.{name-self, name-true}
use Rattle.hist_world.specs.Block.{Past, Shows, took}
use Rattle.hist_world.proofs.Goes.{Comes, Goes, answers-no-half, answers-seen, answers-text, arrived, arrives, genuine-no-half, genuine-sent}
use Rattle.hist_world.proofs.Shown.{b, greatest, out1, out3, packet_6, sent, two}

-- the packet in its sealed form: SPI, number and text under the key of this half
abbrev pub octets : SadEntry → ℕ → List ℕ
octets e n = esp (keying e.spi e.key) n 41 packet_6

-- what a datagram from a to b with these octets says
abbrev pub carrier : List ℕ → Packet
carrier o = record { src = V4 (192 ∷ 0 ∷ 2 ∷ 1 ∷ []); dst = V4 (198 ∷ 51 ∷ 100 ∷ 1 ∷ []); proto = 50; ports = None; df = true; payload = o }

-- what they open to
abbrev pub text : List ℕ
text = padded (pad_len (length packet_6)) 41 packet_6

abbrev pub own_b : Addr
own_b = V4 (198 ∷ 51 ∷ 100 ∷ 1 ∷ [])

abbrev pub gateway_b : node.Gateway
gateway_b = record { name = b; address = own_b; seq_last = greatest }

-- the datagram o carries the packet under the half e with the number n
pub record Carries (o : List ℕ) (e : SadEntry) (n : ℕ) : Type 0 where
  pub view : view_of o ≡ Ok (carrier (octets e n))
  pub long : nat_lt (length (octets e n)) 34 ≡ false
  pub spi : spi_of (octets e n) ≡ e.spi
  pub number : seq_of (octets e n) ≡ n

pub carries1 : Carries (sent out1 1) out1 1
unfolding view_of datagram outer_header esp sealed tag_of keying packet_6
carries1 = record { view = refl; long = refl; spi = refl; number = refl }

pub carries2 : Carries (sent out1 2) out1 2
unfolding view_of datagram outer_header esp sealed tag_of keying packet_6
carries2 = record { view = refl; long = refl; spi = refl; number = refl }

pub carries3 : Carries (sent out3 1) out3 1
unfolding view_of datagram outer_header esp sealed tag_of keying packet_6
carries3 = record { view = refl; long = refl; spi = refl; number = refl }

-- ---- their outer header, SPI, number and IV, in octets

pub begins1 : take 36 (sent out1 1) ≡ 69 ∷ 0 ∷ 0 ∷ 108 ∷ 0 ∷ 1 ∷ 64 ∷ 0 ∷ 64 ∷ 50 ∷ 78 ∷ 41 ∷ 192 ∷ 0 ∷ 2 ∷ 1 ∷ 198 ∷ 51 ∷ 100 ∷ 1 ∷ 0 ∷ 0
    ∷ 1 ∷ 1 ∷ 0 ∷ 0 ∷ 0 ∷ 1 ∷ 0 ∷ 0 ∷ 0 ∷ 0 ∷ 0 ∷ 0 ∷ 0 ∷ 1 ∷ []
unfolding datagram outer_header esp sealed tag_of keying packet_6
begins1 = refl

pub begins2 : take 36 (sent out1 2) ≡ 69 ∷ 0 ∷ 0 ∷ 108 ∷ 0 ∷ 2 ∷ 64 ∷ 0 ∷ 64 ∷ 50 ∷ 78 ∷ 40 ∷ 192 ∷ 0 ∷ 2 ∷ 1 ∷ 198 ∷ 51 ∷ 100 ∷ 1 ∷ 0 ∷ 0
    ∷ 1 ∷ 1 ∷ 0 ∷ 0 ∷ 0 ∷ 2 ∷ 0 ∷ 0 ∷ 0 ∷ 0 ∷ 0 ∷ 0 ∷ 0 ∷ 2 ∷ []
unfolding datagram outer_header esp sealed tag_of keying packet_6
begins2 = refl

pub begins3 : take 36 (sent out3 1) ≡ 69 ∷ 0 ∷ 0 ∷ 108 ∷ 0 ∷ 1 ∷ 64 ∷ 0 ∷ 64 ∷ 50 ∷ 78 ∷ 41 ∷ 192 ∷ 0 ∷ 2 ∷ 1 ∷ 198 ∷ 51 ∷ 100 ∷ 1 ∷ 0 ∷ 0
    ∷ 1 ∷ 3 ∷ 0 ∷ 0 ∷ 0 ∷ 1 ∷ 0 ∷ 0 ∷ 0 ∷ 0 ∷ 0 ∷ 0 ∷ 0 ∷ 1 ∷ []
unfolding datagram outer_header esp sealed tag_of keying packet_6
begins3 = refl

-- ---- what answers them

-- the octets of what was sent are among those that were sent
pub was-sealed : (e : SadEntry) (n m : ℕ) (o x f : List ℕ) (h : List Act) → Carries o e n → is_sealed x (octets e n) (acts.Sent f x m o ∷ h)
    ≡ true
was-sealed e n m o x f h c =
    let same : esp_of o ≡ octets e n = ap payload_of c.view in
    or_left (bytes_eq x x && bytes_eq (esp_of o) (octets e n)) (is_sealed x (octets e n) h)
    (and_from (bytes_eq x x) (bytes_eq (esp_of o) (octets e n)) (name-self x) (name-true (esp_of o) (octets e n) same))

-- where a datagram comes to b, and what is known of it there
pub record At (e d : SadEntry) (n : ℕ) (h : List Act) : Type 0 where
  pub found : by_spi e.spi (live b h) ≡ Some d
  pub key : keying d.spi d.key ≡ keying e.spi e.key
  pub sealed : is_sealed (other_half d.name) (octets e n) h ≡ true

pub found-at : (e d : SadEntry) (n : ℕ) (o : List ℕ) (h : List Act) → Carries o e n → by_spi e.spi (live b h) ≡ Some d
    → by_spi (spi_of (octets e n)) (live b h) ≡ Some d
found-at e d n o h c f = ap (λ (z : ℕ). by_spi z (live b h)) c.spi ∙ f

pub opens-at : (e d : SadEntry) (n : ℕ) → keying d.spi d.key ≡ keying e.spi e.key → opened (keying d.spi d.key) (octets e n) ≡ Some text
opens-at e d n k = ap (λ (z : Keying). opened z (octets e n)) k ∙ opened_finds (keying e.spi e.key) (octets e n) text
    (sealed_opens (keying e.spi e.key) n 41 packet_6)

-- it is fresh: it opens, and what was sealed is looked at
pub gives : (shows : Shows) (p : Past) (v : Event) (o : List ℕ) (e d : SadEntry) (n : ℕ) (xs : List Act)
    → Comes shows (two greatest) p v gateway_b o → Carries o e n → At e d n (took p.world)
    → verdict_over d.window (numbers_taken b d.name (acts.Arrived b o ∷ took p.world)) n ≡ Fresh
    → by_text b (acts.Arrived b o ∷ took p.world) d n (Some text) ≡ xs
    → Goes shows (two greatest) p (v ∷ []) (acts.Took (events_taken p.world + 1) ∷ acts.Arrived b o ∷ xs)
    (arrived p (acts.Arrived b o ∷ xs))
gives shows p v o e d n xs m c i fresh w =
    let h : List Act = took p.world in
    let found = found-at e d n o h c i.found in
    let genuine = genuine-sent b own_b h o (carrier (octets e n)) d c.view found i.sealed in
    let answer = answers-text b own_b (acts.Arrived b o ∷ h) o (carrier (octets e n)) d n (Some text) c.view refl c.long found c.number
    fresh (opens-at e d n i.key) in
    arrives shows (two greatest) p v gateway_b o (acts.Arrived b o ∷ xs) m genuine (ap (λ z. acts.Arrived b o ∷ z) (answer ∙ w))

-- its number was taken
pub repeats : (shows : Shows) (p : Past) (v : Event) (o : List ℕ) (e d : SadEntry) (n : ℕ) → Comes shows (two greatest) p v gateway_b o
    → Carries o e n → At e d n (took p.world)
    → verdict_over d.window (numbers_taken b d.name (acts.Arrived b o ∷ took p.world)) n ≡ Seen
    → Goes shows (two greatest) p (v ∷ []) (acts.Took (events_taken p.world + 1) ∷ acts.Arrived b o ∷ acts.Drop b why.Seen ∷ [])
    (arrived p (acts.Arrived b o ∷ acts.Drop b why.Seen ∷ []))
repeats shows p v o e d n m c i seen =
    let h : List Act = took p.world in
    let found = found-at e d n o h c i.found in
    let genuine = genuine-sent b own_b h o (carrier (octets e n)) d c.view found i.sealed in
    let answer = answers-seen b own_b (acts.Arrived b o ∷ h) o (carrier (octets e n)) d n c.view refl c.long found c.number seen in
    arrives shows (two greatest) p v gateway_b o (acts.Arrived b o ∷ acts.Drop b why.Seen ∷ []) m genuine
    (ap (λ z. acts.Arrived b o ∷ z) answer)

-- no half has its SPI
pub comes-to-none : (shows : Shows) (p : Past) (v : Event) (o : List ℕ) (e : SadEntry) (n : ℕ) (xs : List Act)
    → Comes shows (two greatest) p v gateway_b o → Carries o e n
    → by_spi e.spi (live b (took p.world)) ≡ None
    → acts.Drop b why.BadSpi ∷ unless (does_bad_spi_stand b e.spi (acts.Arrived b o ∷ took p.world))
    (tells b (acts.Arrived b o ∷ took p.world) (notices.BadSpi e.spi)) ≡ xs
    → Goes shows (two greatest) p (v ∷ []) (acts.Took (events_taken p.world + 1) ∷ acts.Arrived b o ∷ xs)
    (arrived p (acts.Arrived b o ∷ xs))
comes-to-none shows p v o e n xs m c f w =
    let h : List Act = took p.world in
    let found : by_spi (spi_of (octets e n)) (live b h) ≡ None = ap (λ (z : ℕ). by_spi z (live b h)) c.spi ∙ f in
    let genuine = genuine-no-half b own_b h o (carrier (octets e n)) c.view found in
    let answer = answers-no-half b own_b (acts.Arrived b o ∷ h) o (carrier (octets e n)) e.spi xs c.view refl c.long c.spi f w in
    arrives shows (two greatest) p v gateway_b o (acts.Arrived b o ∷ xs) m genuine (ap (λ z. acts.Arrived b o ∷ z) answer)
