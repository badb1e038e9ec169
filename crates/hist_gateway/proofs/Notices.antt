-- A notice of a flow without a half, of a last number or of an unknown SPI is given exactly where it is asked for and none stands.
use Rattle.std.proofs.Common.{◌≡◌, ℕ, ◌+◌, ◌==◌, max, Bool, true, false, not, ◌||◌, nat_le, nat_lt, List, [], ◌∷◌, ◌++◌, length, Option, Some, None, Result, Ok, Err, refl, sym, ◌∙◌, ap, subst, if◌then◌else◌}
use Rattle.std.proofs.Math.Bool.{or-false, and-false}
use Rattle.std.proofs.lemmas.Bool.{false≢true, false_from_ne_true, eqb-true, eq-eqb}
use Rattle.std.proofs.lemmas.List.Folds.{list_any-append}
use Rattle.std.specs.List.{list_any}
use Rattle.std.specs.Str.{bytes_eq}
use Rattle.ip_packet.specs.declared.packet.NotPacket.{NotPacket}
use Rattle.ip_packet.specs.View.{Packet, view_of}
use Rattle.ikeless_tree.specs.declared.entry.SpdEntry.{SpdEntry}
use Rattle.ikeless_tree.specs.declared.entry.Action.{Action}
use Rattle.ikeless_tree.specs.declared.entry.Action.TheVariants as actions
use Rattle.ikeless_tree.specs.declared.entry.Direction.TheVariants.{In, Out}
use Rattle.ikeless_tree.specs.declared.sad.Limits.{Limits}
use Rattle.ikeless_tree.specs.declared.sad.SadEntry.{SadEntry}
use Rattle.ikeless_tree.specs.declared.order.Notice.{Notice}
use Rattle.ikeless_tree.specs.declared.order.Notice.TheVariants as notices
use Rattle.ikeless_tree.specs.declared.drops.DropWhy.TheVariants as why
use Rattle.reply_table.specs.declared.ask.Change.{Change}
use Rattle.reply_table.specs.declared.ask.Change.TheVariants as changes
use Rattle.reply_table.specs.Reply as table
use Rattle.replay_win.specs.declared.verdict.Verdict.{Verdict}
use Rattle.replay_win.specs.declared.verdict.Verdict.TheVariants as verdicts
use Rattle.replay_win.specs.Marks.{verdict_over}
use Rattle.esp_frame.specs.Esp.{keying, spi_of}
use Rattle.esp_frame.specs.Open as esp
use Rattle.spd_match.specs.Match.{first_entry, holds_packet}
use Rattle.sad_store.specs.Halves.{may_seal}
use Rattle.life_count.specs.declared.event.LifeEvent.{LifeEvent}
use Rattle.life_count.specs.declared.event.LifeEvent.TheVariants as life
use Rattle.life_count.specs.Lifetime.{expiry}
use Rattle.hist_acts.specs.declared.act.Act.{Act}
use Rattle.hist_acts.specs.declared.act.Act.TheVariants as acts
use Rattle.hist_acts.specs.Past.{clock, force}
use Rattle.hist_acts.specs.Sessions as sessions
use Rattle.hist_halves.specs.Sealed.{by_spi, number_of}
use Rattle.hist_halves.specs.Halves.{live, is_live, sent, numbers_taken}
use Rattle.hist_gateway.specs.Uses.{counts}
use Rattle.hist_gateway.specs.Stands.{is_acquire_of, is_overflow_of, does_acquire_stand, was_overflow_given, does_overflow_stand, does_bad_spi_stand}
use Rattle.hist_gateway.specs.Rows.{tree_of}
use Rattle.hist_gateway.specs.Datagram.{datagram, flow_of}
use Rattle.hist_gateway.specs.Look.{event_of, given_by, goings, expiries, look, tells}
use Rattle.hist_gateway.specs.Let.{newer, newest, unless, send_acts, let_by_half, let_by_action, let_by_entry, let_by_view, let_acts}
use Rattle.hist_gateway.specs.Arrive as arrive
use Rattle.hist_gateway.specs.Handle.{answer_of, change_acts, requests}
use Rattle.hist_gateway.specs.Block.{Gateway, GatewayEvent, Let, Arrive, Clock, Handle, Session_taken, gw_block}
use Rattle.hist_gateway.specs.May.{has_half}
use Rattle.hist_gateway.specs.Notices.{is_notice, is_bad_spi_of, AsksToSeal, LacksHalf, LacksNumber, LacksSpi, is_let, is_arrive}
use Rattle.hist_gateway.proofs.KeepsLemmas.{same-refl, same-is}
use Rattle.hist_gateway.proofs.PlainReadings.{live-is, overflow-is}
use Rattle.hist_gateway.proofs.Expiries.{clock-if, goings-quiet}

-- no expiry is such a notice
abbrev NoExpiry : (Notice → Bool) → Type 0
NoExpiry q = (x : List ℕ) (soft : Bool) (c : Limits) → q (notices.Expire x soft c) ≡ false

-- ---- a look gives expiries alone

given-none : (q : Notice → Bool) → NoExpiry q → (g name : List ℕ) (t : ℕ) (c : Limits) (e : LifeEvent) (rest : List Act) →
    list_any (is_notice q) (given_by g t (expiry name c e) ++ rest) ≡ list_any (is_notice q) rest
given-none q free g name t c life.Nothing rest = refl
given-none q free g name t c life.Soft rest = ap (λ z. z || list_any (is_notice q) rest) (free name true c)
given-none q free g name t c life.Hard rest = ap (λ z. z || list_any (is_notice q) rest) (free name false c)

expiries-none : (q : Notice → Bool) → NoExpiry q → (g : List ℕ) (h : List Act) (es : List SadEntry)
    → list_any (is_notice q) (expiries g h es) ≡ false
expiries-none q free g h [] = refl
expiries-none q free g h (e ∷ es) =
    given-none q free g e.name (sessions.session_taken g h) (counts g e.name h) (event_of g h e) (expiries g h es)
    ∙ expiries-none q free g h es

look-none : (q : Notice → Bool) → NoExpiry q → (g : List ℕ) (h : List Act) (es : List SadEntry)
    → list_any (is_notice q) (look g h es) ≡ false
look-none q free g h es =
    list_any-append (is_notice q) (goings g h es) (expiries g h es)
    ∙ (ap (λ z. z || list_any (is_notice q) (expiries g h es)) (goings-quiet (is_notice q) g h (λ e. refl) es)
    ∙ expiries-none q free g h es)

unless-none : (q : Notice → Bool) (b : Bool) (g : List ℕ) (h : List Act) (n : Notice) → q n ≡ false
    → list_any (is_notice q) (unless b (tells g h n)) ≡ false
unless-none q true g h n e = refl
unless-none q false g h n e = or-false (q n) ∙ e

-- ---- a packet from inside

-- where such a notice is among the acts, the packet asks to be sealed and lacks a half, or a number
let-told : {A : Type 0} (q : Notice → Bool) (c : Gateway) (h : List Act) (o : List ℕ) → NoExpiry q →
    ((v : Packet) (p : SpdEntry) → AsksToSeal c.name h o v p → newest p.reqid v (live c.name h) ≡ None →
    list_any (is_notice q)
    (unless (does_acquire_stand c.name p.name h) (tells c.name (acts.Let c.name o ∷ h) (notices.Acquire p.name (flow_of v)))) ≡ true
    → A) →
    ((v : Packet) (p : SpdEntry) (e : SadEntry) → AsksToSeal c.name h o v p → newest p.reqid v (live c.name h) ≡ Some e
    → nat_le c.seq_last (sent c.name e.name h) ≡ true →
    list_any (is_notice q) (unless (was_overflow_given c.name e.name h) (tells c.name (acts.Let c.name o ∷ h) (notices.SeqOverflow e.name)))
    ≡ true → A) →
    list_any (is_notice q) (gw_block c h (Let o)) ≡ true → A
unfolding let_acts
let-told {A} q c h o free lacks spent t = by-view (view_of o) refl t
  where
    past : List Act
    past = acts.Let c.name o ∷ h

    by-number : (v : Packet) (p : SpdEntry) (e : SadEntry) → AsksToSeal c.name h o v p → newest p.reqid v (live c.name h) ≡ Some e
        → (b : Bool) → nat_le c.seq_last (sent c.name e.name h) ≡ b →
        list_any (is_notice q) (if b then acts.Drop c.name why.SeqLimit
        ∷ unless (was_overflow_given c.name e.name h) (tells c.name past (notices.SeqOverflow e.name)) else send_acts c.name past e
        (sent c.name e.name h + 1) (datagram e (sent c.name e.name h + 1) v o)) ≡ true → A
    by-number v p e a n true s t = spent v p e a n s t
    by-number v p e a n false s t =
        absurd (false≢true (sym
        (look-none q free c.name (acts.Sent c.name e.name (sent c.name e.name h + 1) (datagram e (sent c.name e.name h + 1) v o) ∷ past) (e
        ∷ [])) ∙ t))

    by-half : (v : Packet) (p : SpdEntry) (found : Option SadEntry) → AsksToSeal c.name h o v p → newest p.reqid v (live c.name h) ≡ found
        → list_any (is_notice q) (let_by_half c.name c.seq_last past o v p found) ≡ true → A
    by-half v p None a n t = lacks v p a n t
    by-half v p (Some e) a n t = by-number v p e a n (nat_le c.seq_last (sent c.name e.name h)) refl t

    by-action : (v : Packet) (p : SpdEntry) → view_of o ≡ Ok v → nat_lt 65000 (length o) ≡ false
        → first_entry (force c.name h) Out v ≡ Some p → (d : Action) → p.action ≡ d
        → list_any (is_notice q) (let_by_action c.name c.seq_last past o v p d) ≡ true → A
    by-action v p r f e actions.Protect d t =
        by-half v p (newest p.reqid v (live c.name h)) (record { view = r; fits = f; first = e; action = d }) refl t
    by-action v p r f e actions.Bypass d t = absurd (false≢true t)
    by-action v p r f e actions.Discard d t = absurd (false≢true t)

    by-entry : (v : Packet) (p : Option SpdEntry) → view_of o ≡ Ok v → nat_lt 65000 (length o) ≡ false
        → first_entry (force c.name h) Out v ≡ p → list_any (is_notice q) (let_by_entry c.name c.seq_last past o v p) ≡ true → A
    by-entry v None r f e t = absurd (false≢true t)
    by-entry v (Some p) r f e t = by-action v p r f e p.action refl t

    by-length : (v : Packet) → view_of o ≡ Ok v → (b : Bool) → nat_lt 65000 (length o) ≡ b
        → list_any (is_notice q) (if b then acts.Drop c.name why.TooLong
        ∷ [] else let_by_entry c.name c.seq_last past o v (first_entry (force c.name h) Out v)) ≡ true → A
    by-length v r true f t = absurd (false≢true t)
    by-length v r false f t = by-entry v (first_entry (force c.name h) Out v) r f refl t

    by-view : (r : Result Packet NotPacket) → view_of o ≡ r → list_any (is_notice q) (let_by_view c.name c.seq_last past o r) ≡ true → A
    by-view (Err fault) e t = absurd (false≢true t)
    by-view (Ok v) e t = by-length v e (nat_lt 65000 (length o)) refl t

-- what answers a packet that asks to be sealed
asks-acts : (c : Gateway) (h : List Act) (o : List ℕ) (v : Packet) (p : SpdEntry) → AsksToSeal c.name h o v p →
    let_acts c.name c.seq_last (acts.Let c.name o ∷ h) o ≡ let_by_half c.name c.seq_last (acts.Let c.name o ∷ h) o v p
    (newest p.reqid v (live c.name h))
unfolding let_acts
asks-acts c h o v p a =
    let past : List Act = acts.Let c.name o ∷ h in
    ap (let_by_view c.name c.seq_last past o) a.view
    ∙ (ap (λ b. if b then acts.Drop c.name why.TooLong
    ∷ [] else let_by_entry c.name c.seq_last past o v (first_entry (force c.name h) Out v)) a.fits
    ∙ (ap (let_by_entry c.name c.seq_last past o v) a.first
    ∙ ap (let_by_action c.name c.seq_last past o v p) a.action))

-- ---- an acquire

pub acquire-lacks : (c : Gateway) (h : List Act) (o name : List ℕ) → list_any (is_notice (is_acquire_of name)) (gw_block c h (Let o)) ≡ true
    →
    LacksHalf c.name h o name × (does_acquire_stand c.name name h ≡ false)
acquire-lacks c h o name t =
    let-told (is_acquire_of name) c h o (λ x soft n. refl)
    (λ v p a n t. lacks v p a n (does_acquire_stand c.name p.name h) refl t)
    (λ v p e a n s t. absurd
    (false≢true (sym (unless-none (is_acquire_of name) (was_overflow_given c.name e.name h) c.name (acts.Let c.name o ∷ h)
    (notices.SeqOverflow e.name) refl) ∙ t))) t
  where
    lacks : (v : Packet) (p : SpdEntry) → AsksToSeal c.name h o v p → newest p.reqid v (live c.name h) ≡ None → (b : Bool)
        → does_acquire_stand c.name p.name h ≡ b →
        list_any (is_notice (is_acquire_of name)) (unless b (tells c.name (acts.Let c.name o ∷ h) (notices.Acquire p.name (flow_of v)))) ≡
        true →
        LacksHalf c.name h o name × (does_acquire_stand c.name name h ≡ false)
    lacks v p a n true s t = absurd (false≢true t)
    lacks v p a n false s t =
        let same : p.name ≡ name = same-is p.name name (sym (or-false (bytes_eq p.name name)) ∙ t) in
        (record { packet = v; entry = p; asks = a; none = n; named = same }, subst (λ z. does_acquire_stand c.name z h ≡ false) same s)

pub lacks-acquire : (c : Gateway) (h : List Act) (o name : List ℕ) → LacksHalf c.name h o name → does_acquire_stand c.name name h ≡ false →
    list_any (is_notice (is_acquire_of name)) (gw_block c h (Let o)) ≡ true
lacks-acquire c h o name r s =
    let past : List Act = acts.Let c.name o ∷ h in
    let own : does_acquire_stand c.name r.entry.name h ≡ false = subst (λ z. does_acquire_stand c.name z h ≡ false) (sym r.named) s in
    let same : bytes_eq r.entry.name name ≡ true = subst (λ z. bytes_eq r.entry.name z ≡ true) r.named (same-refl r.entry.name) in
    ap (list_any (is_notice (is_acquire_of name))) (asks-acts c h o r.packet r.entry r.asks
    ∙ ap (let_by_half c.name c.seq_last past o r.packet r.entry) r.none)
    ∙ (ap (λ b. list_any (is_notice (is_acquire_of name)) (unless b (tells c.name past (notices.Acquire r.entry.name (flow_of r.packet)))))
    own
    ∙ (or-false (bytes_eq r.entry.name name) ∙ same))

-- ---- an overflow

newest-if : (r : ℕ) (v : Packet) (x e : SadEntry) (found : Option SadEntry) (es : List SadEntry)
    → (found ≡ Some e → has_half e.name es ≡ true) → newer r v x found ≡ Some e → has_half e.name (x ∷ es) ≡ true
newest-if r v x e (Some y) es ih t = let more = ih t in ap (λ z. bytes_eq x.name e.name || z) more ∙ or-yes (bytes_eq x.name e.name)
  where
    or-yes : (b : Bool) → (b || true) ≡ true
    or-yes true = refl
    or-yes false = refl
newest-if r v x e None es ih t = by-seal (may_seal r v x) t
  where
    by-seal : (b : Bool) → (if b then Some x else None) ≡ Some e → has_half e.name (x ∷ es) ≡ true
    by-seal true t = let same : x ≡ e = cc in
        subst (λ z. has_half z.name (x ∷ es) ≡ true) same (ap (λ z. z || has_half x.name es) (same-refl x.name))
    by-seal false t = cc

newest-among : (r : ℕ) (v : Packet) (e : SadEntry) (es : List SadEntry) → newest r v es ≡ Some e → has_half e.name es ≡ true
newest-among r v e [] t = cc
newest-among r v e (x ∷ es) t = newest-if r v x e (newest r v es) es (λ s. newest-among r v e es s) t

newest-live : (g : List ℕ) (h : List Act) (r : ℕ) (v : Packet) (e : SadEntry) → newest r v (live g h) ≡ Some e → is_live g e.name h ≡ true
newest-live g h r v e t = sym (live-is g e.name h) ∙ newest-among r v e (live g h) t

pub overflow-lacks : (c : Gateway) (h : List Act) (o x : List ℕ) → list_any (is_notice (is_overflow_of x)) (gw_block c h (Let o)) ≡ true →
    LacksNumber c h o x × (does_overflow_stand c.name x h ≡ false)
overflow-lacks c h o x t =
    let-told (is_overflow_of x) c h o (λ y soft n. refl)
    (λ v p a n t. absurd (false≢true
    (sym (unless-none (is_overflow_of x) (does_acquire_stand c.name p.name h) c.name (acts.Let c.name o ∷ h)
    (notices.Acquire p.name (flow_of v)) refl) ∙ t)))
    (λ v p e a n s t. lacks v p e a n s (was_overflow_given c.name e.name h) refl t) t
  where
    lacks : (v : Packet) (p : SpdEntry) (e : SadEntry) → AsksToSeal c.name h o v p → newest p.reqid v (live c.name h) ≡ Some e
        → nat_le c.seq_last (sent c.name e.name h) ≡ true → (b : Bool) → was_overflow_given c.name e.name h ≡ b →
        list_any (is_notice (is_overflow_of x)) (unless b (tells c.name (acts.Let c.name o ∷ h) (notices.SeqOverflow e.name))) ≡ true →
        LacksNumber c h o x × (does_overflow_stand c.name x h ≡ false)
    lacks v p e a n s true w t = absurd (false≢true t)
    lacks v p e a n s false w t =
        let same : e.name ≡ x = same-is e.name x (sym (or-false (bytes_eq e.name x)) ∙ t) in
        let stands : does_overflow_stand c.name e.name h ≡ false = overflow-is c.name e.name h (newest-live c.name h p.reqid v e n) ∙ w in (
          record { packet = v; entry = p; half = e; asks = a; newest = n; spent = s; named = same },
          subst
              (λ z. does_overflow_stand c.name z h ≡ false) same stands,
        )

pub lacks-overflow : (c : Gateway) (h : List Act) (o x : List ℕ) → LacksNumber c h o x → does_overflow_stand c.name x h ≡ false →
    list_any (is_notice (is_overflow_of x)) (gw_block c h (Let o)) ≡ true
lacks-overflow c h o x r s =
    let past : List Act = acts.Let c.name o ∷ h in
    let e : SadEntry = r.half in
    let n : ℕ = sent c.name e.name h + 1 in
    let stands : does_overflow_stand c.name e.name h ≡ false = subst (λ z. does_overflow_stand c.name z h ≡ false) (sym r.named) s in
    let own : was_overflow_given c.name e.name h ≡ false =
    sym (overflow-is c.name e.name h (newest-live c.name h r.entry.reqid r.packet e r.newest)) ∙ stands in
    let same : bytes_eq e.name x ≡ true = subst (λ z. bytes_eq e.name z ≡ true) r.named (same-refl e.name) in
    ap (list_any (is_notice (is_overflow_of x))) (asks-acts c h o r.packet r.entry r.asks
    ∙ (ap (let_by_half c.name c.seq_last past o r.packet r.entry) r.newest
    ∙ ap (λ b. if b then acts.Drop c.name why.SeqLimit
    ∷ unless (was_overflow_given c.name e.name h) (tells c.name past (notices.SeqOverflow e.name)) else send_acts c.name past e n
    (datagram e n r.packet o)) r.spent))
    ∙ (ap (λ b. list_any (is_notice (is_overflow_of x)) (unless b (tells c.name past (notices.SeqOverflow e.name)))) own
    ∙ (or-false (bytes_eq e.name x) ∙ same))

-- ---- a datagram from outside

inner-none : (q : Notice → Bool) (g : List ℕ) (e : SadEntry) (n next : ℕ) (p : List ℕ) (r : Result Packet NotPacket)
    → is_notice q (arrive.by_inner g e n next p r) ≡ false
inner-none q g e n next p (Err fault) = refl
inner-none q g e n next p (Ok v) = by-version (not (arrive.is_told_version next p)) (holds_packet e.selector In v)
  where
    by-version : (b d : Bool) → is_notice q (if b then acts.Drop g why.Inner else if d then acts.Gave g e.name n p
        else acts.Drop g why.Selector) ≡ false
    by-version true d = refl
    by-version false true = refl
    by-version false false = refl

packet-none : (q : Notice → Bool) (g : List ℕ) (e : SadEntry) (n : ℕ) (p : Option esp.InnerPacket)
    → is_notice q (arrive.by_packet g e n p) ≡ false
packet-none q g e n None = refl
packet-none q g e n (Some p) = by-dummy (p.next == 59)
  where
    by-dummy : (b : Bool) → is_notice q (if b then acts.Drop g why.Dummy else arrive.by_inner g e n p.next p.octets (view_of p.octets)) ≡
        false
    by-dummy true = refl
    by-dummy false = inner-none q g e n p.next p.octets (view_of p.octets)

text-none : (q : Notice → Bool) → NoExpiry q → (g : List ℕ) (h : List Act) (e : SadEntry) (n : ℕ) (x : Option (List ℕ))
    → list_any (is_notice q) (arrive.by_text g h e n x) ≡ false
text-none q free g h e n None = refl
text-none q free g h e n (Some x) =
    let a : Act = arrive.by_packet g e n (esp.inner_packet x) in
    ap (λ z. z || list_any (is_notice q) (look g (a ∷ h) (e ∷ []))) (packet-none q g e n (esp.inner_packet x))
    ∙ look-none q free g (a ∷ h) (e ∷ [])

verdict-none : (q : Notice → Bool) → NoExpiry q → (g b : List ℕ) (h : List Act) (e : SadEntry) (n : ℕ) (w : Verdict)
    → list_any (is_notice q) (arrive.by_verdict g h b e n w) ≡ false
verdict-none q free g b h e n verdicts.Zero = refl
verdict-none q free g b h e n verdicts.Old = refl
verdict-none q free g b h e n verdicts.Seen = refl
verdict-none q free g b h e n verdicts.Fresh = text-none q free g h e n (esp.opened (keying e.spi e.key) b)

entry-none : (q : Notice → Bool) (g o : List ℕ) (p : Option SpdEntry) → list_any (is_notice q) (arrive.arrive_by_entry g o p ∷ []) ≡ false
entry-none q g o None = refl
entry-none q g o (Some p) = by-action p.action
  where
    by-action : (a : Action) → list_any (is_notice q) (arrive.arrive_by_action g o a ∷ []) ≡ false
    by-action actions.Protect = refl
    by-action actions.Bypass = refl
    by-action actions.Discard = refl

-- where such a notice is among the acts, the datagram lacks a half
arrive-told : {A : Type 0} (q : Notice → Bool) (c : Gateway) (h : List Act) (o : List ℕ) → NoExpiry q →
    ((v : Packet) → view_of o ≡ Ok v → arrive.is_sealed_for c.address v ≡ true → nat_lt (length v.payload) 34 ≡ false
    → by_spi (spi_of v.payload) (live c.name h) ≡ None →
    list_any (is_notice q) (unless (does_bad_spi_stand c.name (spi_of v.payload) h)
    (tells c.name (acts.Arrived c.name o ∷ h) (notices.BadSpi (spi_of v.payload)))) ≡ true → A) →
    list_any (is_notice q) (gw_block c h (Arrive o)) ≡ true → A
unfolding arrive.arrive_acts
arrive-told {A} q c h o free lacks t = by-view (view_of o) refl t
  where
    past : List Act
    past = acts.Arrived c.name o ∷ h

    by-half : (v : Packet) (found : Option SadEntry) → view_of o ≡ Ok v → arrive.is_sealed_for c.address v ≡ true
        → nat_lt (length v.payload) 34 ≡ false → by_spi (spi_of v.payload) (live c.name h) ≡ found →
        list_any (is_notice q) (arrive.arrive_by_half c.name past v.payload found) ≡ true → A
    by-half v None r own f e t = lacks v r own f e t
    by-half v (Some e) r own f s t =
        let n : ℕ = number_of e (numbers_taken c.name e.name h) v.payload in
        absurd (false≢true (sym (verdict-none q free c.name v.payload past e n (verdict_over e.window (numbers_taken c.name e.name h) n))
        ∙ t))

    by-length : (v : Packet) → view_of o ≡ Ok v → arrive.is_sealed_for c.address v ≡ true → (b : Bool) → nat_lt (length v.payload) 34 ≡ b →
        list_any (is_notice q) (if b then arrive.drops c.name why.Short else arrive.arrive_by_half c.name past v.payload
        (by_spi (spi_of v.payload) (live c.name h))) ≡ true → A
    by-length v r own true f t = absurd (false≢true t)
    by-length v r own false f t = by-half v (by_spi (spi_of v.payload) (live c.name h)) r own f refl t

    by-own : (v : Packet) → view_of o ≡ Ok v → (b : Bool) → arrive.is_sealed_for c.address v ≡ b →
        list_any (is_notice q) (if b then arrive.esp_acts c.name past v.payload else arrive.arrive_by_entry c.name o
        (first_entry (force c.name h) In v) ∷ []) ≡ true → A
    by-own v r true own t = by-length v r own (nat_lt (length v.payload) 34) refl t
    by-own v r false own t = absurd (false≢true (sym (entry-none q c.name o (first_entry (force c.name h) In v)) ∙ t))

    by-view : (r : Result Packet NotPacket) → view_of o ≡ r → list_any (is_notice q) (arrive.arrive_by_view c.name c.address past o r) ≡
        true → A
    by-view (Err fault) e t = absurd (false≢true t)
    by-view (Ok v) e t = by-own v e (arrive.is_sealed_for c.address v) refl t

pub spi-lacks : (c : Gateway) (h : List Act) (o : List ℕ) (spi : ℕ) → list_any (is_notice (is_bad_spi_of spi)) (gw_block c h (Arrive o)) ≡
    true →
    LacksSpi c h o spi × (does_bad_spi_stand c.name spi h ≡ false)
spi-lacks c h o spi t =
    arrive-told (is_bad_spi_of spi) c h o (λ y soft n. refl)
    (λ v r own f e t. lacks v r own f e (does_bad_spi_stand c.name (spi_of v.payload) h) refl t) t
  where
    lacks : (v : Packet) → view_of o ≡ Ok v → arrive.is_sealed_for c.address v ≡ true → nat_lt (length v.payload) 34 ≡ false
        → by_spi (spi_of v.payload) (live c.name h) ≡ None → (b : Bool) → does_bad_spi_stand c.name (spi_of v.payload) h ≡ b →
        list_any (is_notice (is_bad_spi_of spi)) (unless b (tells c.name (acts.Arrived c.name o ∷ h) (notices.BadSpi (spi_of v.payload)))) ≡
        true →
        LacksSpi c h o spi × (does_bad_spi_stand c.name spi h ≡ false)
    lacks v r own f e true s t = absurd (false≢true t)
    lacks v r own f e false s t =
        let same : spi_of v.payload ≡ spi = eqb-true (spi_of v.payload) spi (sym (or-false (spi_of v.payload == spi)) ∙ t) in (
          record { packet = v; view = r; own = own; whole = f; none = e; named = same },
          subst
              (λ (z : ℕ). does_bad_spi_stand c.name z h ≡ false) same s,
        )

pub lacks-spi : (c : Gateway) (h : List Act) (o : List ℕ) (spi : ℕ) → LacksSpi c h o spi → does_bad_spi_stand c.name spi h ≡ false →
    list_any (is_notice (is_bad_spi_of spi)) (gw_block c h (Arrive o)) ≡ true
unfolding arrive.arrive_acts
lacks-spi c h o spi r s =
    let past : List Act = acts.Arrived c.name o ∷ h in
    let b : List ℕ = r.packet.payload in
    let own : does_bad_spi_stand c.name (spi_of b) h ≡ false = subst (λ (z : ℕ). does_bad_spi_stand c.name z h ≡ false) (sym r.named) s in
    let same : (spi_of b == spi) ≡ true = subst (λ (z : ℕ). (spi_of b == z) ≡ true) r.named (eq-eqb (spi_of b) (spi_of b) refl) in
    ap (list_any (is_notice (is_bad_spi_of spi))) (ap (arrive.arrive_by_view c.name c.address past o) r.view
    ∙ (ap (λ d. if d then arrive.esp_acts c.name past b else arrive.arrive_by_entry c.name o (first_entry (force c.name h) In r.packet)
    ∷ []) r.own
    ∙ (ap (λ d. if d then arrive.drops c.name why.Short else arrive.arrive_by_half c.name past b (by_spi (spi_of b) (live c.name h)))
    r.whole
    ∙ ap (arrive.arrive_by_half c.name past b) r.none)))
    ∙ (ap (λ d. list_any (is_notice (is_bad_spi_of spi)) (unless d (tells c.name past (notices.BadSpi (spi_of b))))) own
    ∙ (or-false (spi_of b == spi) ∙ same))

-- ---- no other event gives one

change-none : (q : Notice → Bool) (g : List ℕ) (r : table.Outcome) (c : Change) → list_any (is_notice q) (change_acts g r c) ≡ false
change-none q g r changes.Nothing = refl
change-none q g r changes.Spd = refl
change-none q g r (changes.Put e) = refl
change-none q g r (changes.Gone name) = refl

clock-none : (q : Notice → Bool) → NoExpiry q → (c : Gateway) (h : List Act) (t : ℕ) → list_any (is_notice q) (gw_block c h (Clock t)) ≡
    false
clock-none q free c h t =
    let past : List Act = acts.Now (max t (clock h)) ∷ h in
    clock-if (is_notice q) c.name past false (nat_lt (clock h) t) (look-none q free c.name past (live c.name h))
    ∙ and-false (nat_lt (clock h) t)

handle-none : (q : Notice → Bool) (c : Gateway) (h : List Act) (r : table.Outcome) (s k : ℕ)
    → list_any (is_notice q) (change_acts c.name r r.change ++ acts.Handled c.name s k (answer_of r) ∷ []) ≡ false
handle-none q c h r s k =
    list_any-append (is_notice q) (change_acts c.name r r.change) (acts.Handled c.name s k (answer_of r) ∷ [])
    ∙ ap (λ z. z || false) (change-none q c.name r r.change)

-- an event that is neither a packet nor a datagram
others-none : (q : Notice → Bool) → NoExpiry q → (c : Gateway) (h : List Act) (e : GatewayEvent) → is_let e ≡ false → is_arrive e ≡ false
    → list_any (is_notice q) (gw_block c h e) ≡ false
others-none q free c h (Let o) i j = absurd (false≢true (sym i))
others-none q free c h (Arrive o) i j = absurd (false≢true (sym j))
others-none q free c h (Clock t) i j = clock-none q free c h t
others-none q free c h (Handle (Ok ask)) i j = handle-none q c h (table.reply (tree_of c.name h) ask) (sessions.session_taken c.name h)
    (requests c.name h + 1)
others-none q free c h (Handle (Err fault)) i j = refl
others-none q free c h Session_taken i j = refl

-- a datagram gives no notice of a packet
arrive-none : (q : Notice → Bool) → NoExpiry q → ((spi : ℕ) → q (notices.BadSpi spi) ≡ false) → (c : Gateway) (h : List Act) (o : List ℕ)
    → list_any (is_notice q) (gw_block c h (Arrive o)) ≡ false
arrive-none q free other c h o =
    false_from_ne_true (list_any (is_notice q) (gw_block c h (Arrive o)))
    (λ t. arrive-told q c h o free
    (λ v r own f e t. false≢true (sym (unless-none q (does_bad_spi_stand c.name (spi_of v.payload) h) c.name (acts.Arrived c.name o ∷ h)
    (notices.BadSpi (spi_of v.payload)) (other (spi_of v.payload))) ∙ t)) t)

packets-only : (q : Notice → Bool) → NoExpiry q → ((spi : ℕ) → q (notices.BadSpi spi) ≡ false)
    → (c : Gateway) (h : List Act) (e : GatewayEvent) → is_let e ≡ false → list_any (is_notice q) (gw_block c h e) ≡ false
packets-only q free other c h (Arrive o) i = arrive-none q free other c h o
packets-only q free other c h (Let o) i = others-none q free c h (Let o) i refl
packets-only q free other c h (Clock t) i = others-none q free c h (Clock t) refl refl
packets-only q free other c h (Handle r) i = others-none q free c h (Handle r) refl refl
packets-only q free other c h Session_taken i = refl

pub acquires-only : (c : Gateway) (h : List Act) (e : GatewayEvent) (name : List ℕ) → is_let e ≡ false
    → list_any (is_notice (is_acquire_of name)) (gw_block c h e) ≡ false
acquires-only c h e name i = packets-only (is_acquire_of name) (λ x soft n. refl) (λ spi. refl) c h e i

pub overflows-only : (c : Gateway) (h : List Act) (e : GatewayEvent) (x : List ℕ) → is_let e ≡ false
    → list_any (is_notice (is_overflow_of x)) (gw_block c h e) ≡ false
overflows-only c h e x i = packets-only (is_overflow_of x) (λ y soft n. refl) (λ spi. refl) c h e i

let-no-spi : (c : Gateway) (h : List Act) (o : List ℕ) (spi : ℕ) → list_any (is_notice (is_bad_spi_of spi)) (gw_block c h (Let o)) ≡ false
let-no-spi c h o spi =
    let q : Notice → Bool = is_bad_spi_of spi in
    let past : List Act = acts.Let c.name o ∷ h in
    false_from_ne_true (list_any (is_notice q) (gw_block c h (Let o)))
    (λ t. let-told q c h o (λ y soft n. refl)
    (λ v p a n t. false≢true (sym (unless-none q (does_acquire_stand c.name p.name h) c.name past (notices.Acquire p.name (flow_of v)) refl)
    ∙ t))
    (λ v p e a n s t. false≢true (sym (unless-none q (was_overflow_given c.name e.name h) c.name past (notices.SeqOverflow e.name) refl)
    ∙ t)) t)

pub spis-only : (c : Gateway) (h : List Act) (e : GatewayEvent) (spi : ℕ) → is_arrive e ≡ false
    → list_any (is_notice (is_bad_spi_of spi)) (gw_block c h e) ≡ false
spis-only c h (Let o) spi i = let-no-spi c h o spi
spis-only c h (Arrive o) spi i = absurd (false≢true (sym i))
spis-only c h (Clock t) spi i = others-none (is_bad_spi_of spi) (λ y soft n. refl) c h (Clock t) refl refl
spis-only c h (Handle r) spi i = others-none (is_bad_spi_of spi) (λ y soft n. refl) c h (Handle r) refl refl
spis-only c h Session_taken spi i = refl
