-- What answers a datagram from outside has lines, and what arrives is octets.
use Rattle.std.proofs.Common.{◌≡◌, ℕ, ◌<◌, ◌^◌, ◌==◌, ◌&&◌, not, nat_lt, Bool, true, false, List, [], ◌∷◌, length, take, drop, Option, Some, None, Result, Ok, Err, refl, subst, arith, if◌then◌else◌}
use Rattle.std.specs.Prelude.{find}
use Rattle.std.specs.List.{AllByRecursion}
use Rattle.std.proofs.lemmas.List.Elements.{All-drop, All-take}
use Rattle.ikl_base.specs.declared.address.Addr.{Addr}
use Rattle.ip_packet.specs.declared.packet.NotPacket.{NotPacket}
use Rattle.ip_packet.specs.View.{Packet, view_of}
use Rattle.ikeless_tree.specs.Half.{is_inbound}
use Rattle.ikeless_tree.specs.Typed.{AreOctets}
use Rattle.ikeless_tree.specs.declared.command.Peer.{Peer}
use Rattle.ikeless_tree.specs.declared.entry.Action.{Action}
use Rattle.ikeless_tree.specs.declared.entry.Action.TheVariants as actions
use Rattle.ikeless_tree.specs.declared.entry.Direction.TheVariants.{In}
use Rattle.ikeless_tree.specs.declared.entry.SpdEntry.{SpdEntry}
use Rattle.ikeless_tree.specs.declared.order.Notice.TheVariants as notices
use Rattle.ikeless_tree.specs.declared.drops.DropWhy.{DropWhy}
use Rattle.ikeless_tree.specs.declared.drops.DropWhy.TheVariants as why
use Rattle.ikeless_tree.specs.declared.sad.SadEntry.{SadEntry}
use Rattle.esp_frame.specs.Esp.{keying, seq_of, spi_of}
use Rattle.esp_frame.specs.Open as esp
use Rattle.line_words.specs.Spelling.{IsKnown}
use Rattle.replay_win.specs.Marks.{greatest, verdict_over}
use Rattle.replay_win.specs.declared.verdict.Verdict.{Verdict}
use Rattle.replay_win.specs.declared.verdict.Verdict.TheVariants as verdicts
use Rattle.spd_match.specs.Match.{first_entry, holds_packet}
use Rattle.hist_acts.specs.declared.act.Act.{Act}
use Rattle.hist_acts.specs.declared.act.Act.TheVariants as acts
use Rattle.hist_acts.specs.Past.{force}
use Rattle.hist_halves.specs.Halves.{live, numbers_taken}
use Rattle.hist_halves.specs.Sealed.{by_spi, number_from, number_of}
use Rattle.hist_gateway.specs.Arrive.{arrive_acts, arrive_by_action, arrive_by_entry, arrive_by_half, arrive_by_view, by_inner, by_packet, by_text, by_verdict, drops, esp_acts, is_sealed_for, is_told_version}
use Rattle.hist_gateway.specs.Datagram.{fault_why}
use Rattle.hist_gateway.specs.Look.{tells}
use Rattle.hist_gateway.specs.Stands.{does_bad_spi_stand}
use Rattle.acts_spell.specs.Spelled.{IsSpelled}
use Rattle.acts_spell.proofs.Each.{some-is}
use Rattle.acts_spell.proofs.Octets.{IsOctet, word-small}
use Rattle.acts_spell.proofs.Ciphers.{inner-octets, keying-cipher, opened-octets}
use Rattle.acts_spell.proofs.Packets.{view-typed}
use Rattle.acts_spell.proofs.Found.{AreSpelled, IsGoodHalf, live-good}
use Rattle.acts_spell.proofs.Notices.{half-named, look-spelled, told-spelled, unless-spelled}

-- ---- numbers in ESP octets

pub spi-small : (b : List ℕ) → AreOctets b → spi_of b < 2 ^ 32
spi-small b h = word-small (take 4 b) (All-take IsOctet 4 b h)

seq-small : (b : List ℕ) → AreOctets b → seq_of b < 2 ^ 32
seq-small b h = word-small (take 4 (drop 4 b)) (All-take IsOctet 4 (drop 4 b) (All-drop IsOctet 4 b h))

widened : (n : ℕ) → n < 2 ^ 32 → n < 2 ^ 64
widened n l = omega (arith, l)

pub from-small : (e : SadEntry) (top : ℕ) (b : List ℕ) → AreOctets b → number_from e top b < 2 ^ 64
unfolding number_from
from-small e top b h = widened (seq_of b) (seq-small b h)

number-small : (e : SadEntry) (numbers b : List ℕ) → AreOctets b → number_of e numbers b < 2 ^ 64
number-small e numbers b h = from-small e (greatest numbers) b h

-- ---- the half of an SPI

found-if : (b : Bool) (d e : SadEntry) (r : Option SadEntry) → IsGoodHalf d → (r ≡ Some e → IsGoodHalf e)
    → (if b then Some d else r) ≡ Some e → IsGoodHalf e
found-if true d e r g f h = subst IsGoodHalf (some-is d e h) g
found-if false d e r g f h = f h

found-good : (p : SadEntry → Bool) (es : List SadEntry) (e : SadEntry) → AllByRecursion IsGoodHalf es → find p es ≡ Some e → IsGoodHalf e
found-good p [] e g h = cc
found-good p (d ∷ es) e g h = found-if (p d) d e (find p es) g.0 (found-good p es e g.1) h

-- ---- each answer

record Comes (gs : List Peer) (g b : List ℕ) (h : List Act) : Type 0 where
  pub known : IsKnown gs g
  pub octets : AreOctets b
  pub past : AreSpelled gs h

dropped : (gs : List Peer) (g : List ℕ) (xs : List Act) (w : DropWhy) → IsKnown gs g → AreSpelled gs xs → AreSpelled gs (acts.Drop g w ∷ xs)
dropped gs g xs w k s = ((k, tt), s)

drop-spelled : (gs : List Peer) (g : List ℕ) (w : DropWhy) → IsKnown gs g → IsSpelled gs (acts.Drop g w)
drop-spelled gs g w k = (k, tt)

-- what was found inside
record Opens (gs : List Peer) (g : List ℕ) (e : SadEntry) (n : ℕ) : Type 0 where
  pub known : IsKnown gs g
  pub half : IsGoodHalf e
  pub number : n < 2 ^ 64

gave-spelled : (gs : List Peer) (g : List ℕ) (e : SadEntry) (n : ℕ) (p : List ℕ) → Opens gs g e n → AreOctets p → (b c : Bool)
    → IsSpelled gs (if b then acts.Drop g why.Inner else if c then acts.Gave g e.name n p else acts.Drop g why.Selector)
gave-spelled gs g e n p o h true c = drop-spelled gs g why.Inner o.known
gave-spelled gs g e n p o h false true = ((o.known, half-named e o.half.0), (o.number, h))
gave-spelled gs g e n p o h false false = drop-spelled gs g why.Selector o.known

inner-spelled : (gs : List Peer) (g : List ℕ) (e : SadEntry) (n next : ℕ) (p : List ℕ) → Opens gs g e n → AreOctets p
    → (r : Result Packet NotPacket) → IsSpelled gs (by_inner g e n next p r)
inner-spelled gs g e n next p o h (Err fault) = drop-spelled gs g why.Inner o.known
inner-spelled gs g e n next p o h (Ok v) = gave-spelled gs g e n p o h (not (is_told_version next p)) (holds_packet e.selector In v)

dummy-if : (gs : List Peer) (g : List ℕ) (b : Bool) (a : Act) → IsKnown gs g → IsSpelled gs a
    → IsSpelled gs (if b then acts.Drop g why.Dummy else a)
dummy-if gs g true a k s = drop-spelled gs g why.Dummy k
dummy-if gs g false a k s = s

packet-spelled : (gs : List Peer) (g : List ℕ) (e : SadEntry) (n : ℕ) (found : Option esp.InnerPacket) → Opens gs g e n
    → ((p : esp.InnerPacket) → found ≡ Some p → AreOctets p.octets)
    → IsSpelled gs (by_packet g e n found)
packet-spelled gs g e n None o h = drop-spelled gs g why.Padding o.known
packet-spelled gs g e n (Some p) o h =
    dummy-if gs g (p.next == 59) (by_inner g e n p.next p.octets (view_of p.octets)) o.known
    (inner-spelled gs g e n p.next p.octets o (h p refl) (view_of p.octets))

-- the text that the octets open to
text-spelled : (gs : List Peer) (g : List ℕ) (h : List Act) (e : SadEntry) (n : ℕ) → AreSpelled gs h → Opens gs g e n
    → (found : Option (List ℕ)) → ((x : List ℕ) → found ≡ Some x → AreOctets x)
    → AreSpelled gs (by_text g h e n found)
text-spelled gs g h e n s o None f = dropped gs g [] why.Auth o.known tt
text-spelled gs g h e n s o (Some x) f =
    let a : Act = by_packet g e n (esp.inner_packet x) in
    let one = packet-spelled gs g e n (esp.inner_packet x) o (λ p q. inner-octets x p (f x refl) q) in
    (one, look-spelled gs g (a ∷ h) (e ∷ []) o.known (one, s) (o.half, tt))

verdict-spelled : (gs : List Peer) (g b : List ℕ) (h : List Act) (e : SadEntry) (n : ℕ) → Comes gs g b h → Opens gs g e n → (v : Verdict)
    → AreSpelled gs (by_verdict g h b e n v)
verdict-spelled gs g b h e n c o verdicts.Zero = dropped gs g [] why.Zero c.known tt
verdict-spelled gs g b h e n c o verdicts.Old = dropped gs g [] why.Old c.known tt
verdict-spelled gs g b h e n c o verdicts.Seen = dropped gs g [] why.Seen c.known tt
verdict-spelled gs g b h e n c o verdicts.Fresh =
    text-spelled gs g h e n c.past o (esp.opened (keying e.spi e.key) b)
    (λ x q. opened-octets (keying e.spi e.key) b x (keying-cipher e.spi e.key o.half.1.key) c.octets q)

half-spelled : (gs : List Peer) (g b : List ℕ) (h : List Act) → Comes gs g b h → (found : Option SadEntry)
    → by_spi (spi_of b) (live g h) ≡ found → AreSpelled gs (arrive_by_half g h b found)
half-spelled gs g b h c None q =
    dropped gs g _ why.BadSpi c.known
    (unless-spelled gs (does_bad_spi_stand g (spi_of b) h) (tells g h (notices.BadSpi (spi_of b)))
    (told-spelled gs g h (notices.BadSpi (spi_of b)) c.known c.past (tt, spi-small b c.octets)))
half-spelled gs g b h c (Some e) q =
    let good = found-good (λ d. is_inbound d.name && (d.spi == spi_of b)) (live g h) e (live-good gs g h c.past) q in
    let n : ℕ = number_of e (numbers_taken g e.name h) b in
    verdict-spelled gs g b h e n c (record { known = c.known; half = good; number = number-small e (numbers_taken g e.name h) b c.octets })
    (verdict_over e.window (numbers_taken g e.name h) n)

short-if : (gs : List Peer) (g b : List ℕ) (h : List Act) (t : Bool) → Comes gs g b h
    → AreSpelled gs (if t then drops g why.Short else arrive_by_half g h b (by_spi (spi_of b) (live g h)))
short-if gs g b h true c = dropped gs g [] why.Short c.known tt
short-if gs g b h false c = half-spelled gs g b h c (by_spi (spi_of b) (live g h)) refl

action-spelled : (gs : List Peer) (g o : List ℕ) (a : Action) → IsKnown gs g → AreOctets o → IsSpelled gs (arrive_by_action g o a)
action-spelled gs g o actions.Protect k h = (k, tt)
action-spelled gs g o actions.Bypass k h = (k, h)
action-spelled gs g o actions.Discard k h = (k, tt)

entry-spelled : (gs : List Peer) (g o : List ℕ) (found : Option SpdEntry) → IsKnown gs g → AreOctets o
    → IsSpelled gs (arrive_by_entry g o found)
entry-spelled gs g o None k h = (k, tt)
entry-spelled gs g o (Some p) k h = action-spelled gs g o p.action k h

sealed-if : (gs : List Peer) (g o : List ℕ) (h : List Act) (v : Packet) (t : Bool) → Comes gs g o h → AreOctets v.payload
    → AreSpelled gs (if t then esp_acts g h v.payload else arrive_by_entry g o (first_entry (force g h) In v) ∷ [])
sealed-if gs g o h v true c p =
    short-if gs g v.payload h (nat_lt (length v.payload) 34) (record { known = c.known; octets = p; past = c.past })
sealed-if gs g o h v false c p = (entry-spelled gs g o (first_entry (force g h) In v) c.known c.octets, tt)

view-spelled : (gs : List Peer) (g o : List ℕ) (own : Addr) (h : List Act) → Comes gs g o h → (r : Result Packet NotPacket) → view_of o ≡ r
    → AreSpelled gs (arrive_by_view g own h o r)
view-spelled gs g o own h c (Err fault) e = dropped gs g [] (fault_why fault) c.known tt
view-spelled gs g o own h c (Ok v) e = sealed-if gs g o h v (is_sealed_for own v) c (view-typed o v c.octets e).payload

pub arrive-spelled : (gs : List Peer) (g o : List ℕ) (own : Addr) (h : List Act) → IsKnown gs g → AreOctets o → AreSpelled gs h
    → AreSpelled gs (arrive_acts g own h o)
unfolding arrive_acts
arrive-spelled gs g o own h k a s = view-spelled gs g o own h (record { known = k; octets = a; past = s }) (view_of o) refl
