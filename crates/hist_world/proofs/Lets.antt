-- The answer of a gateway to a packet from inside may happen in the world.
use Rattle.std.proofs.Common.{◌≡◌, ℕ, ◌+◌, ◌<◌, ◌^◌, Bool, true, false, ◌==◌, not, ◌&&◌, nat_le, nat_lt, List, [], ◌∷◌, length, Option, Some, None, Result, Ok, Err, refl, sym, ◌∙◌, ap, subst, inl, inr, arith, if◌then◌else◌}
use Rattle.ikl_base.specs.Address.{AreOneFamily}
use Rattle.ip_packet.specs.declared.packet.NotPacket.{NotPacket}
use Rattle.ip_packet.specs.View.{Packet, view_of}
use Rattle.ip_packet.specs.Outer.{outer_header}
use Rattle.ip_packet.proofs.OuterViews.{sealed}
use Rattle.ip_packet.specs.Field.{next_header}
use Rattle.ikeless_tree.specs.declared.sad.SadEntry.{SadEntry}
use Rattle.ikeless_tree.specs.declared.command.Peer.{Peer}
use Rattle.ikeless_tree.specs.declared.entry.SpdEntry.{SpdEntry}
use Rattle.ikeless_tree.specs.declared.entry.Action.{Action}
use Rattle.ikeless_tree.specs.declared.entry.Action.TheVariants as actions
use Rattle.ikeless_tree.specs.declared.entry.Direction.TheVariants.{Out}
use Rattle.ikeless_tree.specs.declared.order.Notice.TheVariants as notices
use Rattle.ikeless_tree.specs.declared.drops.DropWhy.TheVariants as why
use Rattle.esp_frame.specs.Esp.{esp, keying}
use Rattle.ikeless_tree.specs.Half.{is_inbound}
use Rattle.spd_match.specs.Match.{first_entry, holds_packet}
use Rattle.sad_store.specs.Halves.{may_seal}
use Rattle.hist_acts.specs.declared.act.Act.{Act}
use Rattle.hist_acts.specs.declared.act.Act.TheVariants as acts
use Rattle.hist_acts.specs.Past.{after, force}
use Rattle.hist_halves.specs.Sealed.{esp_of}
use Rattle.hist_halves.specs.Halves.{is_live, live, put_of, sent}
use Rattle.hist_gateway.specs.Stands.{does_acquire_stand, was_overflow_given}
use Rattle.hist_gateway.specs.Datagram.{datagram, fault_why, flow_of, outer_of}
use Rattle.hist_gateway.specs.Look.{look, tells}
use Rattle.hist_gateway.specs.Let.{let_by_action, let_by_entry, let_by_half, let_by_view, let_acts, newer, newest, send_acts, unless}
use Rattle.hist_gateway.specs.Block.{Gateway}
use Rattle.hist_gateway.specs.May.{GatewayMayActAll, IsLetOut, IsSealedLet, GatewayMayAct}
use Rattle.hist_safety.specs.Carried.{Sends, keying_of}
use Rattle.hist_safety.specs.Law.{IsLawful, AllMayHappen, MayHappen, is_ready}
use Rattle.hist_safety.specs.Clear.{ClearIsLet}
use Rattle.hist_safety.proofs.Basics.{no, both-right, some-is}
use Rattle.hist_safety.specs.Kept.{IsOneOf}
use Rattle.hist_safety.proofs.Live.{stands}
use Rattle.hist_safety.proofs.Orders.{put-order}
use Rattle.hist_safety.proofs.Pairs.{ends}
use Rattle.hist_world.proofs.Followers.{are_followers, follow, look-follows, unless-follows}

abbrev pub OneFamily : SadEntry → Type 0
OneFamily e = AreOneFamily e.local e.remote

-- a live half has ends of one family
live-ends : (gs : List Peer) (g : List ℕ) (e : SadEntry) (h : List Act) → IsLawful gs h → put_of g e.name h ≡ Some e → OneFamily e
live-ends gs g e h l p = let o = put-order gs g e.name e h l p in ends gs e.name e h l o.3

-- ---- the newest half for a packet

abbrev IsNewest : ℕ → Packet → List SadEntry → SadEntry → Type 0
IsNewest r v es e = IsOneOf e es × (may_seal r v e ≡ true)

newest-last : (r : ℕ) (v : Packet) (d e : SadEntry) (es : List SadEntry) (b : Bool) → may_seal r v d ≡ b
    → (if b then Some d else None) ≡ Some e → IsNewest r v (d ∷ es) e
newest-last r v d e es true q p = let s = some-is d e p in (inl s, subst (λ (z : SadEntry). may_seal r v z ≡ true) s q)
newest-last r v d e es false q p = cc

newest-case : (r : ℕ) (v : Packet) (d e : SadEntry) (es : List SadEntry) (found : Option SadEntry) → (found ≡ Some e → IsNewest r v es e)
    → newer r v d found ≡ Some e → IsNewest r v (d ∷ es) e
newest-case r v d e es (Some x) ih p = let t = ih p in (inr t.0, t.1)
newest-case r v d e es None ih p = newest-last r v d e es (may_seal r v d) refl p

newest-is : (r : ℕ) (v : Packet) (es : List SadEntry) (e : SadEntry) → newest r v es ≡ Some e → IsNewest r v es e
newest-is r v [] e p = cc
newest-is r v (d ∷ es) e p = newest-case r v d e es (newest r v es) (newest-is r v es e) p

-- ---- the datagram that is sent

pub datagram-esp : (e : SadEntry) (n : ℕ) (v : Packet) (o : List ℕ) → OneFamily e
    → esp_of (datagram e n v o) ≡ esp (keying_of e) n (next_header o) o
unfolding datagram outer_header
datagram-esp e n v o family =
    let b : List ℕ = esp (keying e.spi e.key) n (next_header o) o in
    let w = sealed (outer_of e n v (length b)) e.local e.remote b family refl in
    rw w refl

-- ---- what the answer says

holds-of : (a b c : Bool) → (not a && (b && c)) ≡ true → (a ≡ false) × (c ≡ true)
holds-of false b c p = (refl, both-right b c p)
holds-of true b c p = absurd (no p)

below : (q n : ℕ) → nat_le q n ≡ false → q < 2 ^ 32 → n + 1 < 2 ^ 32
below q n p l = grind (arith, p, l)

let-octets : (f g o p : List ℕ) (h older : List Act) → acts.Let f o ∷ h ≡ acts.Let g p ∷ older → (f ≡ g) × (o ≡ p) × (h ≡ older)
let-octets f g o p h older e = grind (arith, e)

sends-may : (gs : List Peer) (c : Gateway) (g o x d : List ℕ) (n : ℕ) (h : List Act) → IsLawful gs h → c.seq_last < 2 ^ 32
    → IsSealedLet c (acts.Let g o ∷ h) g x n d → Sends g x n o d h
sends-may gs c g o x d n h l low s =
    let b = let-octets g g o s.octets h s.let_before.older s.let_before.before in
    let new = newest-is s.entry.reqid s.packet (live g h) s.half s.newest in
    let st = stands gs g s.half h l new.0 in
    let fits = holds-of (is_inbound s.half.name) (s.half.reqid == s.entry.reqid) (holds_packet s.half.selector Out s.packet) new.1 in
    let m : n ≡ sent g x h + 1 = s.number in
    let small : sent g x h + 1 < 2 ^ 32 = below c.seq_last (sent g x h) s.in_limit low in
    record {
      half = s.half;
      put = subst (λ (z : List ℕ). put_of g z h ≡ Some s.half) (sym s.name) st.0;
      live = subst (λ (z : List ℕ). is_live g z h ≡ true) (sym s.name) st.1;
      outbound = subst (λ (z : List ℕ). is_inbound z ≡ false) (sym s.name) fits.0;
      packet = s.packet;
      view = subst (λ (z : List ℕ). view_of z ≡ Ok s.packet) (sym b.1) s.let_before.view;
      holds = fits.1;
      number = m;
      small = subst (λ (z : ℕ). z < 2 ^ 32) (sym m) small;
      sealed = ap esp_of s.datagram ∙ datagram-esp s.half n s.packet s.octets (live-ends gs g s.half h l st.0)
          ∙ ap (λ (z : List ℕ). esp (keying_of s.half) n (next_header z) z) (sym b.1);
    }

-- an answer of the gateway
abbrev pub LetAnswer : List ℕ → Act → Type 0
LetAnswer g (acts.Clear f o) = f ≡ g
LetAnswer g (acts.Sent f x n d) = f ≡ g
LetAnswer g (acts.Drop f w) = f ≡ g
LetAnswer g _ = ⊥

-- an answer, and what follows it
pub record Shaped (ok : Act → Type 0) (xs : List Act) : Type 0 where
  pub first : Act
  pub rest : List Act
  pub parts : xs ≡ first ∷ rest
  pub fits : ok first
  pub follow : are_followers rest ≡ true

abbrev pub shaped : (ok : Act → Type 0) (a : Act) (rest : List Act) → ok a → are_followers rest ≡ true → Shaped ok (a ∷ rest)
shaped ok a rest fits follow = record { first = a; rest = rest; parts = refl; fits = fits; follow = follow }

pub shaped-if : (ok : Act → Type 0) (b : Bool) (xs ys : List Act) → Shaped ok xs → Shaped ok ys → Shaped ok (if b then xs else ys)
shaped-if ok true xs ys p q = p
shaped-if ok false xs ys p q = q

let-half : (g o : List ℕ) (q : ℕ) (h : List Act) (v : Packet) (p : SpdEntry) (found : Option SadEntry)
    → Shaped (LetAnswer g) (let_by_half g q h o v p found)
let-half g o q h v p None =
    let told : List Act = tells g h (notices.Acquire p.name (flow_of v)) in
    shaped (LetAnswer g) (acts.Drop g why.NoSa) (unless (does_acquire_stand g p.name h) told) refl
    (unless-follows (does_acquire_stand g p.name h) told refl)
let-half g o q h v p (Some e) =
    let told : List Act = tells g h (notices.SeqOverflow e.name) in
    let n : ℕ = sent g e.name h + 1 in
    let d : List ℕ = datagram e n v o in
    shaped-if (LetAnswer g) (nat_le q (sent g e.name h)) (acts.Drop g why.SeqLimit ∷ unless (was_overflow_given g e.name h) told)
    (send_acts g h e n d)
    (shaped (LetAnswer g) (acts.Drop g why.SeqLimit) (unless (was_overflow_given g e.name h) told) refl
    (unless-follows (was_overflow_given g e.name h) told refl))
    (shaped (LetAnswer g) (acts.Sent g e.name n d) (look g (acts.Sent g e.name n d ∷ h) (e ∷ [])) refl
    (look-follows g (acts.Sent g e.name n d ∷ h) (e ∷ [])))

let-action : (g o : List ℕ) (q : ℕ) (h : List Act) (v : Packet) (p : SpdEntry) (a : Action)
    → Shaped (LetAnswer g) (let_by_action g q h o v p a)
let-action g o q h v p actions.Protect = let-half g o q h v p (newest p.reqid v (live g h))
let-action g o q h v p actions.Bypass = shaped (LetAnswer g) (acts.Clear g o) [] refl refl
let-action g o q h v p actions.Discard = shaped (LetAnswer g) (acts.Drop g why.Discard) [] refl refl

let-entry : (g o : List ℕ) (q : ℕ) (h : List Act) (v : Packet) (found : Option SpdEntry)
    → Shaped (LetAnswer g) (let_by_entry g q h o v found)
let-entry g o q h v None = shaped (LetAnswer g) (acts.Drop g why.NoPolicy) [] refl refl
let-entry g o q h v (Some p) = let-action g o q h v p p.action

let-view : (g o : List ℕ) (q : ℕ) (h : List Act) (r : Result Packet NotPacket) → Shaped (LetAnswer g) (let_by_view g q h o r)
let-view g o q h (Err fault) = shaped (LetAnswer g) (acts.Drop g (fault_why fault)) [] refl refl
let-view g o q h (Ok v) =
    shaped-if (LetAnswer g) (nat_lt 65000 (length o)) (acts.Drop g why.TooLong ∷ [])
    (let_by_entry g q h o v (first_entry (force g h) Out v))
    (shaped (LetAnswer g) (acts.Drop g why.TooLong) [] refl refl) (let-entry g o q h v (first_entry (force g h) Out v))

pub let-shape : (g o : List ℕ) (q : ℕ) (h : List Act) → Shaped (LetAnswer g) (let_acts g q h o)
unfolding let_acts
let-shape g o q h = let-view g o q h (view_of o)

clear-may : (h : List Act) (f o : List ℕ) → IsLetOut h f o → ClearIsLet h f o
clear-may h f o s = record {
  older = s.let_before.older;
  let_before = s.let_before.before;
  bypass = record {
    packet = s.packet;
    entry = s.entry;
    view = s.let_before.view;
    first = s.let_before.first;
    action =
        s.let_before.action;
  };
}

answer-may : (gs : List Peer) (c : Gateway) (g o : List ℕ) (h : List Act) (a : Act) → IsLawful gs h → c.seq_last < 2 ^ 32
    → LetAnswer g a → GatewayMayAct c (acts.Let g o ∷ h) a → MayHappen gs a (acts.Let g o ∷ h) × (is_ready (a ∷ acts.Let g o ∷ h) ≡ true)
answer-may gs c g o h (acts.Clear f p) l low fits m = (clear-may (acts.Let g o ∷ h) f p m, refl)
answer-may gs c g o h (acts.Sent f x n d) l low fits m =
    let m2 : IsSealedLet c (acts.Let g o ∷ h) g x n d = subst (λ (z : List ℕ). IsSealedLet c (acts.Let g o ∷ h) z x n d) fits m in
    ((sym fits, subst (λ (z : List ℕ). Sends z x n o d h) (sym fits) (sends-may gs c g o x d n h l low m2)), refl)
answer-may gs c g o h (acts.Drop f w) l low fits m = (sym fits, refl)
answer-may gs c g o h a l low fits m = absurd fits

-- the answer to a packet and what follows it
pub let-may : (gs : List Peer) (c : Gateway) (g o : List ℕ) (h : List Act) → IsLawful gs h → c.seq_last < 2 ^ 32
    → GatewayMayActAll c (acts.Let g o ∷ h) (let_acts g c.seq_last (acts.Let g o ∷ h) o)
    → AllMayHappen gs (acts.Let g o ∷ h) (let_acts g c.seq_last (acts.Let g o ∷ h) o)
    × (is_ready (after (acts.Let g o ∷ h) (let_acts g c.seq_last (acts.Let g o ∷ h) o)) ≡ true)
let-may gs c g o h l low all =
    let w : List Act = acts.Let g o ∷ h in
    let s = let-shape g o c.seq_last w in
    let all2 : GatewayMayActAll c w (s.first ∷ s.rest) = subst (GatewayMayActAll c w) s.parts all in
    let a = answer-may gs c g o h s.first l low s.fits all2.0 in
    let f = follow gs (s.first ∷ w) s.rest a.1 s.follow in
    let P : List Act → Type 0 = λ xs. AllMayHappen gs w xs × (is_ready (after w xs) ≡ true) in
    subst P (sym s.parts) ((a.0, f.0), f.1)
