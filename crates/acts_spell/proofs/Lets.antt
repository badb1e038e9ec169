-- What answers a packet from inside has lines.
use Rattle.std.proofs.Common.{◌≡◌, ℕ, ◌+◌, ◌<◌, ◌≤◌, ◌^◌, ◌==◌, nat_le, nat_lt, not, Bool, true, false, List, [], ◌∷◌, length, Option, Some, None, Result, Ok, Err, refl, subst, arith, if◌then◌else◌}
use Rattle.std.specs.Prelude.{find}
use Rattle.std.specs.List.{AllByRecursion}
use Rattle.ip_packet.specs.declared.packet.NotPacket.{NotPacket}
use Rattle.ip_packet.specs.Field.{next_header, version}
use Rattle.ip_packet.specs.View.{Packet, view_of}
use Rattle.ikeless_tree.specs.Check.{entry_fault, first_of, is_spd_name, spd_fault}
use Rattle.ikeless_tree.specs.Typed.{AreOctets}
use Rattle.ikeless_tree.specs.declared.command.Peer.{Peer}
use Rattle.ikeless_tree.specs.declared.entry.Action.{Action}
use Rattle.ikeless_tree.specs.declared.entry.Action.TheVariants as actions
use Rattle.ikeless_tree.specs.declared.entry.Direction.TheVariants.{Out}
use Rattle.ikeless_tree.specs.declared.entry.SpdEntry.{SpdEntry}
use Rattle.ikeless_tree.specs.declared.order.Notice.TheVariants as notices
use Rattle.ikeless_tree.specs.declared.drops.DropWhy.TheVariants as why
use Rattle.ikeless_tree.specs.declared.fault.TreeFault.{TreeFault}
use Rattle.ikeless_tree.specs.declared.fault.TreeFault.TheVariants as faults
use Rattle.ikeless_tree.specs.declared.sad.SadEntry.{SadEntry}
use Rattle.esp_frame.specs.Esp.{esp_len, keying, pad_len}
use Rattle.esp_frame.specs.Laws.{SealedLength}
use Rattle.line_words.specs.Spelling.{IsKnown}
use Rattle.sad_store.specs.Halves.{may_seal}
use Rattle.spd_match.specs.Match.{decides, first_entry}
use Rattle.hist_acts.specs.declared.act.Act.{Act}
use Rattle.hist_acts.specs.declared.act.Act.TheVariants as acts
use Rattle.hist_acts.specs.Past.{force}
use Rattle.hist_halves.specs.Halves.{live, sent}
use Rattle.hist_gateway.specs.Datagram.{datagram, fault_why, flow_of}
use Rattle.hist_gateway.specs.Let.{let_acts, let_by_action, let_by_entry, let_by_half, let_by_view, newer, newest, send_acts, unless}
use Rattle.hist_gateway.specs.Look.{tells}
use Rattle.hist_gateway.specs.Stands.{does_acquire_stand, was_overflow_given}
use Rattle.rc_resource.proofs.NameLemmas.{policy_found}
use Rattle.acts_spell.specs.Spelled.{IsSpelled}
use Rattle.acts_spell.proofs.Each.{some-is}
use Rattle.acts_spell.proofs.Ciphers.{esp-octets, keying-cipher}
use Rattle.acts_spell.proofs.Packets.{IsTypedView, datagram-octets, flow-packet, flow-typed, view-typed}
use Rattle.acts_spell.proofs.Found.{AreSpelled, IsGoodHalf, force-good, live-good}
use Rattle.acts_spell.proofs.Notices.{half-named, look-spelled, told-spelled, unless-spelled}

-- ---- a policy's name

unfaulted : (b : Bool) (f : TreeFault) (r : Option TreeFault) → (if b then Some f else r) ≡ None → r ≡ None
unfaulted true f r e = cc
unfaulted false f r e = e

named-if : (b : Bool) (f : TreeFault) (r : Option TreeFault) → (if not b then Some f else r) ≡ None → b ≡ true
named-if true f r e = refl
named-if false f r e = cc

first-none : (a b : Option TreeFault) → first_of a b ≡ None → a ≡ None
first-none None b e = refl
first-none (Some f) b e = e

entry-named : (e : SpdEntry) → spd_fault (e ∷ []) ≡ None → is_spd_name e.name ≡ true
unfolding spd_fault entry_fault
entry-named e h =
    let one : first_of (entry_fault [] e) None ≡ None = unfaulted false faults.TooMany (first_of (entry_fault [] e) None) h in
    let two = unfaulted false faults.DuplicateName _ (first-none (entry_fault [] e) None one) in
    named-if (is_spd_name e.name) faults.BadName _ two

pub policy-named : (p : SpdEntry → Bool) (list : List SpdEntry) (e : SpdEntry) → spd_fault list ≡ None → find p list ≡ Some e
    → is_spd_name e.name ≡ true
policy-named p list e h f = entry-named e (policy_found p list e h f)

-- ---- the newest half

newer-good : (r : ℕ) (v : Packet) (d e : SadEntry) (b : Bool) → IsGoodHalf d → (if b then Some d else None) ≡ Some e → IsGoodHalf e
newer-good r v d e true g h = subst IsGoodHalf (some-is d e h) g
newer-good r v d e false g h = cc

found-good : (r : ℕ) (v : Packet) (d e : SadEntry) (found : Option SadEntry) → IsGoodHalf d → (found ≡ Some e → IsGoodHalf e)
    → newer r v d found ≡ Some e → IsGoodHalf e
found-good r v d e (Some x) g ih h = ih h
found-good r v d e None g ih h = newer-good r v d e (may_seal r v d) g h

newest-good : (r : ℕ) (v : Packet) (es : List SadEntry) (e : SadEntry) → AllByRecursion IsGoodHalf es → newest r v es ≡ Some e
    → IsGoodHalf e
newest-good r v [] e g h = cc
newest-good r v (d ∷ es) e g h = found-good r v d e (newest r v es) g.0 (newest-good r v es e g.1) h

-- ---- the datagram

padded-short : (n : ℕ) → n ≤ 65000 → esp_len n < 65500
padded-short n h = let few : pad_len n < 4 = omega arith in omega (arith, few, h)

next-octet : (b : Bool) → (if b then 4 else 41) < 256
next-octet true = omega arith
next-octet false = omega arith

sealed-octets : SealedLength → (e : SadEntry) (n : ℕ) (v : Packet) (o : List ℕ) → IsGoodHalf e → AreOctets o → length o ≤ 65000
    → AreOctets (datagram e n v o)
sealed-octets sizes e n v o g h l =
    let size = sizes (keying e.spi e.key) n (next_header o) o in
    let short = padded-short (length o) l in
    datagram-octets e n v o g.1.local g.1.remote (omega (arith, size, short))
    (esp-octets (keying e.spi e.key) n (next_header o) o (keying-cipher e.spi e.key g.1.key) (next-octet (version o == 4)) h)

-- ---- each answer

record Comes (gs : List Peer) (g o : List ℕ) (q : ℕ) (h : List Act) : Type 0 where
  pub known : IsKnown gs g
  pub octets : AreOctets o
  pub last : q < 2 ^ 32
  pub past : AreSpelled gs h
  pub sizes : SealedLength

dropped : (gs : List Peer) (g : List ℕ) (xs : List Act) (w : _) → IsKnown gs g → AreSpelled gs xs → AreSpelled gs (acts.Drop g w ∷ xs)
dropped gs g xs w k s = ((k, tt), s)

below : (n q : ℕ) → nat_le q n ≡ false → q < 2 ^ 32 → n + 1 < 2 ^ 64
below n q e l = grind (arith, e, l)

sent-spelled : (gs : List Peer) (g o : List ℕ) (q : ℕ) (h : List Act) (v : Packet) (e : SadEntry) → Comes gs g o q h → length o ≤ 65000
    → IsGoodHalf e
    → (b : Bool) → nat_le q (sent g e.name h) ≡ b
    → AreSpelled gs
    (if b then acts.Drop g why.SeqLimit ∷ unless (was_overflow_given g e.name h) (tells g h (notices.SeqOverflow e.name))
    else send_acts g h e (sent g e.name h + 1) (datagram e (sent g e.name h + 1) v o))
sent-spelled gs g o q h v e c l good true t =
    dropped gs g _ why.SeqLimit c.known
    (unless-spelled gs (was_overflow_given g e.name h) (tells g h (notices.SeqOverflow e.name))
    (told-spelled gs g h (notices.SeqOverflow e.name) c.known c.past (half-named e good.0, tt)))
sent-spelled gs g o q h v e c l good false t =
    let n : ℕ = sent g e.name h + 1 in
    let a : Act = acts.Sent g e.name n (datagram e n v o) in
    let s : IsSpelled gs a =
    ((c.known, half-named e good.0), (below (sent g e.name h) q t c.last, sealed-octets c.sizes e n v o good c.octets l)) in
    (s, look-spelled gs g (a ∷ h) (e ∷ []) c.known (s, c.past) (good, tt))

half-spelled : (gs : List Peer) (g o : List ℕ) (q : ℕ) (h : List Act) (v : Packet) (p : SpdEntry) → Comes gs g o q h → length o ≤ 65000
    → IsTypedView v → is_spd_name p.name ≡ true
    → (found : Option SadEntry) → newest p.reqid v (live g h) ≡ found → AreSpelled gs (let_by_half g q h o v p found)
half-spelled gs g o q h v p c l t n None e =
    dropped gs g _ why.NoSa c.known
    (unless-spelled gs (does_acquire_stand g p.name h) (tells g h (notices.Acquire p.name (flow_of v)))
    (told-spelled gs g h (notices.Acquire p.name (flow_of v)) c.known c.past ((n, flow-packet v t), flow-typed v t)))
half-spelled gs g o q h v p c l t n (Some d) e =
    sent-spelled gs g o q h v d c l (newest-good p.reqid v (live g h) d (live-good gs g h c.past) e) (nat_le q (sent g d.name h)) refl

action-spelled : (gs : List Peer) (g o : List ℕ) (q : ℕ) (h : List Act) (v : Packet) (p : SpdEntry) → Comes gs g o q h → length o ≤ 65000
    → IsTypedView v → is_spd_name p.name ≡ true
    → (a : Action) → AreSpelled gs (let_by_action g q h o v p a)
action-spelled gs g o q h v p c l t n actions.Protect = half-spelled gs g o q h v p c l t n (newest p.reqid v (live g h)) refl
action-spelled gs g o q h v p c l t n actions.Bypass = ((c.known, c.octets), tt)
action-spelled gs g o q h v p c l t n actions.Discard = dropped gs g [] why.Discard c.known tt

entry-spelled : (gs : List Peer) (g o : List ℕ) (q : ℕ) (h : List Act) (v : Packet) → Comes gs g o q h → length o ≤ 65000 → IsTypedView v
    → (found : Option SpdEntry) → first_entry (force g h) Out v ≡ found → AreSpelled gs (let_by_entry g q h o v found)
entry-spelled gs g o q h v c l t None e = dropped gs g [] why.NoPolicy c.known tt
entry-spelled gs g o q h v c l t (Some p) e =
    action-spelled gs g o q h v p c l t (policy-named (decides Out v) (force g h) p (force-good gs g h c.past).0.fits e) p.action

short : (n : ℕ) → nat_lt 65000 n ≡ false → n ≤ 65000
short n e = grind (arith, e)

long-if : (gs : List Peer) (g o : List ℕ) (q : ℕ) (h : List Act) (v : Packet) → Comes gs g o q h → IsTypedView v → (b : Bool)
    → nat_lt 65000 (length o) ≡ b
    → AreSpelled gs (if b then acts.Drop g why.TooLong ∷ [] else let_by_entry g q h o v (first_entry (force g h) Out v))
long-if gs g o q h v c t true e = dropped gs g [] why.TooLong c.known tt
long-if gs g o q h v c t false e = entry-spelled gs g o q h v c (short (length o) e) t (first_entry (force g h) Out v) refl

view-spelled : (gs : List Peer) (g o : List ℕ) (q : ℕ) (h : List Act) → Comes gs g o q h → (r : Result Packet NotPacket) → view_of o ≡ r
    → AreSpelled gs (let_by_view g q h o r)
view-spelled gs g o q h c (Err fault) e = dropped gs g [] (fault_why fault) c.known tt
view-spelled gs g o q h c (Ok v) e = long-if gs g o q h v c (view-typed o v c.octets e) (nat_lt 65000 (length o)) refl

pub let-spelled : SealedLength → (gs : List Peer) (g o : List ℕ) (q : ℕ) (h : List Act) → IsKnown gs g → AreOctets o → q < 2 ^ 32
    → AreSpelled gs h → AreSpelled gs (let_acts g q h o)
unfolding let_acts
let-spelled sizes gs g o q h k a l s =
    view-spelled gs g o q h (record { known = k; octets = a; last = l; past = s; sizes = sizes }) (view_of o) refl
