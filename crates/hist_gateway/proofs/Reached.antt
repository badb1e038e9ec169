-- In each block what a limit ends and tells is there exactly where it is reached at a look.
use Rattle.std.proofs.Common.{◌≡◌, ◌⊎◌, inl, inr, ℕ, ◌+◌, ◌==◌, max, Bool, true, false, not, ◌&&◌, ◌||◌, nat_le, nat_lt, List, [], ◌∷◌, ◌++◌, length, Option, Some, None, Result, Ok, Err, refl, sym, ◌∙◌, ap, subst, arith, if◌then◌else◌}
use Rattle.std.proofs.Math.Bool.{or-false, and-false}
use Rattle.std.proofs.lemmas.Bool.{false≢true, and_parts, and_left, or_parts, not-true}
use Rattle.std.proofs.lemmas.Grind.{common_steps}
use Rattle.std.specs.List.{list_any}
use Rattle.std.specs.Str.{bytes_eq}
use Rattle.ip_packet.specs.declared.packet.NotPacket.{NotPacket}
use Rattle.ip_packet.specs.declared.packet.NotPacket.TheVariants as faults
use Rattle.ip_packet.specs.View.{Packet, view_of}
use Rattle.ikeless_tree.specs.declared.entry.SpdEntry.{SpdEntry}
use Rattle.ikeless_tree.specs.declared.entry.Action.{Action}
use Rattle.ikeless_tree.specs.declared.entry.Action.TheVariants as actions
use Rattle.ikeless_tree.specs.declared.entry.Direction.TheVariants.{In, Out}
use Rattle.ikeless_tree.specs.declared.sad.SadEntry.{SadEntry}
use Rattle.ikeless_tree.specs.declared.order.Answer.{Answer}
use Rattle.ikeless_tree.specs.declared.order.Notice.{Notice}
use Rattle.ikeless_tree.specs.declared.order.Notice.TheVariants as notices
use Rattle.ikeless_tree.specs.declared.drops.DropWhy.{DropWhy}
use Rattle.ikeless_tree.specs.declared.drops.DropWhy.TheVariants as why
use Rattle.ikeless_tree.specs.declared.ends.GoneWhy.TheVariants as gone
use Rattle.ikeless_tree.specs.Half.{is_inbound}
use Rattle.reply_table.specs.declared.ask.Change.{Change}
use Rattle.reply_table.specs.declared.ask.Change.TheVariants as changes
use Rattle.reply_table.specs.Reply as table
use Rattle.replay_win.specs.declared.verdict.Verdict.{Verdict}
use Rattle.replay_win.specs.declared.verdict.Verdict.TheVariants as verdicts
use Rattle.replay_win.specs.Marks.{verdict_over}
use Rattle.esp_frame.specs.Esp.{keying, spi_of}
use Rattle.esp_frame.specs.Open as esp
use Rattle.spd_match.specs.Match.{first_entry}
use Rattle.sad_store.specs.Halves.{may_seal}
use Rattle.life_count.specs.Lifetime.{is_reached, expiry}
use Rattle.hist_acts.specs.declared.act.Act.{Act}
use Rattle.hist_acts.specs.declared.act.Act.TheVariants as acts
use Rattle.hist_acts.specs.Past.{clock, force}
use Rattle.hist_acts.specs.Sessions as sessions
use Rattle.hist_halves.specs.Sealed.{by_spi, esp_of, payload_of, number_of, is_opened}
use Rattle.hist_halves.specs.Halves.{live, sent, numbers_taken}
use Rattle.hist_gateway.specs.Uses.{arrival, counts, is_for}
use Rattle.hist_gateway.specs.Stands.{does_acquire_stand, was_soft_given, was_overflow_given, does_bad_spi_stand}
use Rattle.hist_gateway.specs.Rows.{tree_of}
use Rattle.hist_gateway.specs.Datagram.{datagram, fault_why, flow_of}
use Rattle.hist_gateway.specs.Look.{event_of, given_by, goings, expiries, look, tells}
use Rattle.hist_gateway.specs.Let.{newer, newest, unless, send_acts, let_by_half, let_by_action, let_by_entry, let_by_view, let_acts}
use Rattle.hist_gateway.specs.Arrive as arrive
use Rattle.hist_gateway.specs.Handle.{answer_of, change_acts, fault_answer, requests}
use Rattle.hist_gateway.specs.Block.{Gateway, GatewayEvent, Let, Arrive, Clock, Handle, Session_taken, clock_acts, gw_block}
use Rattle.hist_gateway.specs.May.{has_half, are_apart, AreInstalled}
use Rattle.hist_gateway.specs.Expiries.{is_hard_end, is_hard_expiry, is_soft_expiry, reaches_hard, reaches_soft}
use Rattle.hist_gateway.specs.Notices.{is_looked_at, is_reached_in, is_hard_reached_in, is_soft_reached_in}
use Rattle.hist_gateway.proofs.KeepsLemmas.{same-refl, same-is, same-sym}
use Rattle.hist_gateway.proofs.LiveHalves.{halves-are}
use Rattle.hist_gateway.proofs.MachineBlocks.{UseAct, use-packet}
use Rattle.hist_gateway.proofs.Expiries.{clock-if, look-end, look-hard, look-soft}

-- ---- one half among others

abbrev InList : SadEntry → List SadEntry → Type 0
InList e [] = ⊥
InList e (x ∷ xs) = (x ≡ e) ⊎ InList e xs

newer-in : (r : ℕ) (v : Packet) (x e : SadEntry) (found : Option SadEntry) (es : List SadEntry) → (found ≡ Some e → InList e es)
    → newer r v x found ≡ Some e → InList e (x ∷ es)
newer-in r v x e (Some y) es ih t = inr (ih t)
newer-in r v x e None es ih t = by-seal (may_seal r v x) t
  where
    by-seal : (b : Bool) → (if b then Some x else None) ≡ Some e → InList e (x ∷ es)
    by-seal true t = let same : x ≡ e = cc in inl same
    by-seal false t = cc

newest-in : (r : ℕ) (v : Packet) (e : SadEntry) (es : List SadEntry) → newest r v es ≡ Some e → InList e es
newest-in r v e [] t = cc
newest-in r v e (x ∷ es) t = newer-in r v x e (newest r v es) es (λ s. newest-in r v e es s) t

spi-step : (x e : SadEntry) (found : Option SadEntry) (es : List SadEntry) (b : Bool) → (found ≡ Some e → InList e es)
    → (if b then Some x else found) ≡ Some e → InList e (x ∷ es)
spi-step x e found es true ih t = let same : x ≡ e = cc in inl same
spi-step x e found es false ih t = inr (ih t)

spi-in : (spi : ℕ) (e : SadEntry) (es : List SadEntry) → by_spi spi es ≡ Some e → InList e es
spi-in spi e [] t = cc
spi-in spi e (x ∷ es) t = spi-step x e (by_spi spi es) es (is_inbound x.name && (x.spi == spi)) (λ s. spi-in spi e es s) t

-- what is asked of a half is asked of that name alone
abbrev OfName : List ℕ → (SadEntry → Bool) → Type 0
OfName x p = (e : SadEntry) → bytes_eq e.name x ≡ false → p e ≡ false

others-not : (x : List ℕ) (p : SadEntry → Bool) → OfName x p → (es : List SadEntry) → has_half x es ≡ false → list_any p es ≡ false
others-not x p own [] a = refl
others-not x p own (e ∷ es) a = let r = or_parts (bytes_eq e.name x) (has_half x es) a in rw (own e r.0, others-not x p own es r.1) refl

other-name : (y x : List ℕ) (z : List ℕ) → bytes_eq z y ≡ false → y ≡ x → bytes_eq z x ≡ false
other-name y x z a e = subst (λ w. bytes_eq z w ≡ false) e a

away-name : (e y : SadEntry) (es : List SadEntry) → InList e es → has_half y.name es ≡ false → bytes_eq e.name y.name ≡ false
away-name e y [] i a = absurd i
away-name e y (z ∷ es) (inl same) a =
    subst (λ w. bytes_eq w.name y.name ≡ false) same (or_parts (bytes_eq z.name y.name) (has_half y.name es) a).0
away-name e y (z ∷ es) (inr i) a = away-name e y es i (or_parts (bytes_eq z.name y.name) (has_half y.name es) a).1

only-one : (x : List ℕ) (p : SadEntry → Bool) → OfName x p → (e : SadEntry) (es : List SadEntry) → are_apart es ≡ true → InList e es
    → bytes_eq e.name x ≡ true → list_any p es ≡ p e
only-one x p own e [] a i n = absurd i
only-one x p own e (y ∷ es) a (inl same) n =
    let r = and_parts (not (has_half y.name es)) (are_apart es) a in
    let name : y.name ≡ x = ap (λ z. z.name) same ∙ same-is e.name x n in
    let rest : list_any p es ≡ false = others-not x p own es (subst (λ z. has_half z es ≡ false) name (not-true (has_half y.name es) r.0))
    in
    ap (λ z. p y || z) rest ∙ (or-false (p y) ∙ ap p same)
only-one x p own e (y ∷ es) a (inr i) n =
    let r = and_parts (not (has_half y.name es)) (are_apart es) a in
    let away : bytes_eq e.name y.name ≡ false = away-name e y es i (not-true (has_half y.name es) r.0) in
    let other : bytes_eq y.name x ≡ false = other-name e.name x y.name (same-sym y.name e.name ∙ away) (same-is e.name x n) in
    ap (λ z. z || list_any p es) (own y other) ∙ only-one x p own e es r.1 i n

one-of-name : (x : List ℕ) (p : SadEntry → Bool) → OfName x p → (e : SadEntry) (es : List SadEntry) → are_apart es ≡ true → InList e es
    → (b : Bool) → bytes_eq e.name x ≡ b → p e ≡ (b && list_any p es)
one-of-name x p own e es a i true n = sym (only-one x p own e es a i n)
one-of-name x p own e es a i false n = own e n

-- ---- what is asked of a block

abbrev is_expiry : Notice → Bool
is_expiry (notices.Expire y soft c) = true
is_expiry _ = false

-- the act is neither the end of a half nor an expiry
abbrev is_plain : Act → Bool
is_plain (acts.Gone f y w) = false
is_plain (acts.Notice f s n) = not (is_expiry n)
is_plain _ = true

-- what is told at a look, and by no other act
record IsTold (g x : List ℕ) (p : Act → Bool) (reaches : List Act → SadEntry → Bool) : Type 0 where
  pub looks : (h : List Act) (es : List SadEntry) → list_any p (look g h es) ≡ list_any (reaches h) es
  pub named : (h : List Act) → OfName x (reaches h)
  pub plain : (a : Act) → is_plain a ≡ true → p a ≡ false

-- the acts, after what was before them, are told exactly where they reach it
abbrev Agrees : (Act → Bool) → (List Act → SadEntry → Bool) → List ℕ → List ℕ → List Act → List Act → Type 0
Agrees p reaches g x h xs = list_any p xs ≡ is_reached_in reaches g x h xs

-- ---- the acts of a look are none after which a half is looked at

idle-step : (reaches : List Act → SadEntry → Bool) (g x : List ℕ) (k : List Act) (e : SadEntry) (going rest : List Act) (b : Bool)
    → ((k : List Act) → is_reached_in reaches g x k (going ++ rest) ≡ false) →
    is_reached_in reaches g x k ((if b then acts.Gone g e.name gone.Hard ∷ going else going) ++ rest) ≡ false
idle-step reaches g x k e going rest true ih = ih (acts.Gone g e.name gone.Hard ∷ k)
idle-step reaches g x k e going rest false ih = ih k

given-idle : (reaches : List Act → SadEntry → Bool) (g x : List ℕ) (k : List Act) (s : ℕ) (ns : List Notice) (rest : List Act)
    → ((k : List Act) → is_reached_in reaches g x k rest ≡ false) → is_reached_in reaches g x k (given_by g s ns ++ rest) ≡ false
given-idle reaches g x k s [] rest ih = ih k
given-idle reaches g x k s (n ∷ ns) rest ih = given-idle reaches g x (acts.Notice g s n ∷ k) s ns rest ih

expiries-idle : (reaches : List Act → SadEntry → Bool) (g x : List ℕ) (k h : List Act) (es : List SadEntry)
    → is_reached_in reaches g x k (expiries g h es) ≡ false
expiries-idle reaches g x k h [] = refl
expiries-idle reaches g x k h (e ∷ es) =
    given-idle reaches g x k (sessions.session_taken g h) (expiry e.name (counts g e.name h) (event_of g h e)) (expiries g h es)
    (λ k. expiries-idle reaches g x k h es)

goings-idle : (reaches : List Act → SadEntry → Bool) (g x : List ℕ) (k h : List Act) (es : List SadEntry) (rest : List Act)
    → ((k : List Act) → is_reached_in reaches g x k rest ≡ false) → is_reached_in reaches g x k (goings g h es ++ rest) ≡ false
goings-idle reaches g x k h [] rest ih = ih k
goings-idle reaches g x k h (e ∷ es) rest ih = idle-step reaches g x k e (goings g h es) rest (is_reached e.hard (counts g e.name h))
    (λ k. goings-idle reaches g x k h es rest ih)

look-idle : (reaches : List Act → SadEntry → Bool) (g x : List ℕ) (k h : List Act) (es : List SadEntry)
    → is_reached_in reaches g x k (look g h es) ≡ false
look-idle reaches g x k h es = goings-idle reaches g x k h es (expiries g h es) (λ k. expiries-idle reaches g x k h es)

-- ---- a use, and what isn't one

-- a use of a half of this list is looked at
use-agrees : (g x : List ℕ) (p : Act → Bool) (reaches : List Act → SadEntry → Bool) → IsTold g x p reaches
    → (a : Act) (h : List Act) (e : SadEntry) → p a ≡ false → is_looked_at g x a h ≡ bytes_eq e.name x →
    are_apart (live g h) ≡ true → InList e (live g h) → Agrees p reaches g x h (a ∷ look g (a ∷ h) (e ∷ []))
use-agrees g x p reaches is a h e quiet used apart i =
    let k : List Act = a ∷ h in
    ap (λ z. z || list_any p (look g k (e ∷ []))) quiet
    ∙ (is.looks k (e ∷ [])
    ∙ (or-false (reaches k e)
    ∙ (one-of-name x (reaches k) (is.named k) e (live g h) apart i (bytes_eq e.name x) refl
    ∙ (ap (λ z. z && list_any (reaches k) (live g h)) (sym used)
    ∙ (sym (or-false (is_looked_at g x a h && list_any (reaches k) (live g h)))
    ∙ ap (λ z. (is_looked_at g x a h && list_any (reaches k) (live g h)) || z) (sym (look-idle reaches g x k k (e ∷ []))))))))

-- one act that isn't looked after, before others
idle-agrees : (g x : List ℕ) (p : Act → Bool) (reaches : List Act → SadEntry → Bool) (a : Act) (h more : List Act) → p a ≡ false
    → is_looked_at g x a h ≡ false → Agrees p reaches g x (a ∷ h) more → Agrees p reaches g x h (a ∷ more)
idle-agrees g x p reaches a h more quiet idle rest =
    ap (λ z. z || list_any p more) quiet
    ∙ (rest ∙ ap (λ z. (z && list_any (reaches (a ∷ h)) (live g h)) || is_reached_in reaches g x (a ∷ h) more) (sym idle))

-- a packet let in is no arrival
let-idle : (g x f o : List ℕ) (w : DropWhy) (h : List Act) → is_looked_at g x (acts.Drop g w) (acts.Let f o ∷ h) ≡ false
let-idle g x f o w h = and-false (bytes_eq g g && is_opened w)

closed-idle : (g x : List ℕ) (w : DropWhy) (h : List Act) → is_opened w ≡ false → is_looked_at g x (acts.Drop g w) h ≡ false
closed-idle g x w h e = ap (λ z. (bytes_eq g g && z) && is_for x (live g h) (arrival g h)) e
    ∙ ap (λ z. z && is_for x (live g h) (arrival g h)) (and-false (bytes_eq g g))

unless-agrees : (g x : List ℕ) (p : Act → Bool) (reaches : List Act → SadEntry → Bool) (b : Bool) (h k : List Act) (n : Notice)
    → p (acts.Notice g (sessions.session_taken g k) n) ≡ false → Agrees p reaches g x h (unless b (tells g k n))
unless-agrees g x p reaches true h k n e = refl
unless-agrees g x p reaches false h k n e = ap (λ z. z || false) e

-- ---- a packet from inside

let-agrees : (c : Gateway) (x : List ℕ) (p : Act → Bool) (reaches : List Act → SadEntry → Bool) (h : List Act) (o : List ℕ)
    → IsTold c.name x p reaches → are_apart (live c.name h) ≡ true → Agrees p reaches c.name x h (gw_block c h (Let o))
unfolding let_acts
let-agrees c x p reaches h o is apart = idle-agrees c.name x p reaches (acts.Let c.name o) h
    (let_by_view c.name c.seq_last past o (view_of o)) (is.plain (acts.Let c.name o) refl) refl (by-view (view_of o))
  where
    g : List ℕ
    g = c.name

    past : List Act
    past = acts.Let c.name o ∷ h

    dropped : (w : DropWhy) (more : List Act) → Agrees p reaches g x (acts.Drop g w ∷ past) more
        → Agrees p reaches g x past (acts.Drop g w ∷ more)
    dropped w more rest = idle-agrees g x p reaches (acts.Drop g w) past more (is.plain (acts.Drop g w) refl) (let-idle g x g o w h) rest

    by-number : (v : Packet) (e : SadEntry) (b : Bool) → InList e (live g h) →
        Agrees p reaches g x past (if b then acts.Drop g why.SeqLimit
        ∷ unless (was_overflow_given g e.name h) (tells g past (notices.SeqOverflow e.name))
        else send_acts g past e (sent g e.name h + 1) (datagram e (sent g e.name h + 1) v o))
    by-number v e true i =
        dropped why.SeqLimit (unless (was_overflow_given g e.name h) (tells g past (notices.SeqOverflow e.name)))
        (unless-agrees g x p reaches (was_overflow_given g e.name h) (acts.Drop g why.SeqLimit ∷ past) past (notices.SeqOverflow e.name)
        (is.plain (acts.Notice g (sessions.session_taken g past) (notices.SeqOverflow e.name)) refl))
    by-number v e false i =
        let n : ℕ = sent g e.name h + 1 in
        use-agrees g x p reaches is (acts.Sent g e.name n (datagram e n v o)) past e (is.plain (acts.Sent g e.name n (datagram e n v o))
        refl) (ap (λ z. z && bytes_eq e.name x) (same-refl g)) apart i

    by-half : (v : Packet) (q : SpdEntry) (found : Option SadEntry) → newest q.reqid v (live g h) ≡ found
        → Agrees p reaches g x past (let_by_half g c.seq_last past o v q found)
    by-half v q None e =
        dropped why.NoSa (unless (does_acquire_stand g q.name h) (tells g past (notices.Acquire q.name (flow_of v))))
        (unless-agrees g x p reaches (does_acquire_stand g q.name h) (acts.Drop g why.NoSa ∷ past) past (notices.Acquire q.name (flow_of v))
        (is.plain (acts.Notice g (sessions.session_taken g past) (notices.Acquire q.name (flow_of v))) refl))
    by-half v q (Some e) n = by-number v e (nat_le c.seq_last (sent g e.name h)) (newest-in q.reqid v e (live g h) n)

    by-action : (v : Packet) (q : SpdEntry) (d : Action) → Agrees p reaches g x past (let_by_action g c.seq_last past o v q d)
    by-action v q actions.Protect = by-half v q (newest q.reqid v (live g h)) refl
    by-action v q actions.Bypass = idle-agrees g x p reaches (acts.Clear g o) past [] (is.plain (acts.Clear g o) refl) refl refl
    by-action v q actions.Discard = dropped why.Discard [] refl

    by-entry : (v : Packet) (q : Option SpdEntry) → Agrees p reaches g x past (let_by_entry g c.seq_last past o v q)
    by-entry v None = dropped why.NoPolicy [] refl
    by-entry v (Some q) = by-action v q q.action

    by-length : (v : Packet) (b : Bool) → Agrees p reaches g x past (if b then acts.Drop g why.TooLong
        ∷ [] else let_by_entry g c.seq_last past o v (first_entry (force g h) Out v))
    by-length v true = dropped why.TooLong [] refl
    by-length v false = by-entry v (first_entry (force g h) Out v)

    by-view : (r : Result Packet NotPacket) → Agrees p reaches g x past (let_by_view g c.seq_last past o r)
    by-view (Err fault) = dropped (fault_why fault) [] refl
    by-view (Ok v) = by-length v (nat_lt 65000 (length o))

-- ---- a datagram from outside

fault-closed : (fault : NotPacket) → is_opened (fault_why fault) ≡ false
fault-closed faults.Fragment = refl
fault-closed f = refl

use-quiet : (g x : List ℕ) (p : Act → Bool) (reaches : List Act → SadEntry → Bool) → IsTold g x p reaches → (e : SadEntry) (n : ℕ) (a : Act)
    → UseAct g e n a → p a ≡ false
use-quiet g x p reaches is e n a (inl (q, same)) = ap p same ∙ is.plain (acts.Gave g e.name n q) refl
use-quiet g x p reaches is e n a (inr (w, same, op)) = ap p same ∙ is.plain (acts.Drop g w) refl

use-looked : (g x o : List ℕ) (h : List Act) (e : SadEntry) (n : ℕ) (a : Act) → by_spi (spi_of (esp_of o)) (live g h) ≡ Some e
    → UseAct g e n a → is_looked_at g x a (acts.Arrived g o ∷ h) ≡ bytes_eq e.name x
use-looked g x o h e n a found (inl (q, same)) = rw same (ap (λ z. z && bytes_eq e.name x) (same-refl g))
use-looked g x o h e n a found (inr (w, same, op)) = rw (same, op, same-refl g, found) refl

arrive-agrees : (c : Gateway) (x : List ℕ) (p : Act → Bool) (reaches : List Act → SadEntry → Bool) (h : List Act) (o : List ℕ)
    → IsTold c.name x p reaches → are_apart (live c.name h) ≡ true → Agrees p reaches c.name x h (gw_block c h (Arrive o))
unfolding arrive.arrive_acts
arrive-agrees c x p reaches h o is apart = idle-agrees c.name x p reaches (acts.Arrived c.name o) h
    (arrive.arrive_by_view c.name c.address past o (view_of o)) (is.plain (acts.Arrived c.name o) refl) refl (by-view (view_of o) refl)
  where
    g : List ℕ
    g = c.name

    past : List Act
    past = acts.Arrived c.name o ∷ h

    dropped : (w : DropWhy) (more : List Act) → is_opened w ≡ false → Agrees p reaches g x (acts.Drop g w ∷ past) more
        → Agrees p reaches g x past (acts.Drop g w ∷ more)
    dropped w more closed rest = idle-agrees g x p reaches (acts.Drop g w) past more (is.plain (acts.Drop g w) refl)
        (closed-idle g x w past closed) rest

    by-text : (e : SadEntry) (n : ℕ) (t : Option (List ℕ)) → by_spi (spi_of (esp_of o)) (live g h) ≡ Some e
        → Agrees p reaches g x past (arrive.by_text g past e n t)
    by-text e n None f = dropped why.Auth [] refl refl
    by-text e n (Some t) f =
        let a : Act = arrive.by_packet g e n (esp.inner_packet t) in
        let u = use-packet g e n (esp.inner_packet t) in
        use-agrees g x p reaches is a past e (use-quiet g x p reaches is e n a u) (use-looked g x o h e n a f u) apart
        (spi-in (spi_of (esp_of o)) e (live g h) f)

    by-verdict : (b : List ℕ) (e : SadEntry) (n : ℕ) (w : Verdict) → by_spi (spi_of (esp_of o)) (live g h) ≡ Some e
        → Agrees p reaches g x past (arrive.by_verdict g past b e n w)
    by-verdict b e n verdicts.Zero f = dropped why.Zero [] refl refl
    by-verdict b e n verdicts.Old f = dropped why.Old [] refl refl
    by-verdict b e n verdicts.Seen f = dropped why.Seen [] refl refl
    by-verdict b e n verdicts.Fresh f = by-text e n (esp.opened (keying e.spi e.key) b) f

    by-half : (v : Packet) (found : Option SadEntry) → esp_of o ≡ v.payload → by_spi (spi_of v.payload) (live g h) ≡ found
        → Agrees p reaches g x past (arrive.arrive_by_half g past v.payload found)
    by-half v None s f =
        let spi : ℕ = spi_of v.payload in
        dropped why.BadSpi (unless (does_bad_spi_stand g spi h) (tells g past (notices.BadSpi spi))) refl
        (unless-agrees g x p reaches (does_bad_spi_stand g spi h) (acts.Drop g why.BadSpi ∷ past) past (notices.BadSpi spi)
        (is.plain (acts.Notice g (sessions.session_taken g past) (notices.BadSpi spi)) refl))
    by-half v (Some e) s f =
        let n : ℕ = number_of e (numbers_taken g e.name h) v.payload in
        by-verdict v.payload e n (verdict_over e.window (numbers_taken g e.name h) n) (ap (λ z. by_spi (spi_of z) (live g h)) s ∙ f)

    by-length : (v : Packet) (b : Bool) → esp_of o ≡ v.payload
        → Agrees p reaches g x past (if b then arrive.drops g why.Short else arrive.arrive_by_half g past v.payload
        (by_spi (spi_of v.payload) (live g h)))
    by-length v true s = dropped why.Short [] refl refl
    by-length v false s = by-half v (by_spi (spi_of v.payload) (live g h)) s refl

    by-action : (d : Action) → Agrees p reaches g x past (arrive.arrive_by_action g o d ∷ [])
    by-action actions.Protect = dropped why.ClearRefused [] refl refl
    by-action actions.Bypass = idle-agrees g x p reaches (acts.Pass g o) past [] (is.plain (acts.Pass g o) refl) refl refl
    by-action actions.Discard = dropped why.Discard [] refl refl

    by-entry : (q : Option SpdEntry) → Agrees p reaches g x past (arrive.arrive_by_entry g o q ∷ [])
    by-entry None = dropped why.NoPolicy [] refl refl
    by-entry (Some q) = by-action q.action

    by-own : (v : Packet) (b : Bool) → esp_of o ≡ v.payload
        → Agrees p reaches g x past (if b then arrive.esp_acts g past v.payload else arrive.arrive_by_entry g o
        (first_entry (force g h) In v) ∷ [])
    by-own v true s = by-length v (nat_lt (length v.payload) 34) s
    by-own v false s = by-entry (first_entry (force g h) In v)

    by-view : (r : Result Packet NotPacket) → view_of o ≡ r → Agrees p reaches g x past (arrive.arrive_by_view g c.address past o r)
    by-view (Err fault) e = dropped (fault_why fault) [] (fault-closed fault) refl
    by-view (Ok v) e = by-own v (arrive.is_sealed_for c.address v) (ap payload_of e)

-- ---- other events

raises : (t now : ℕ) (a b : Bool) → nat_lt now (max t now) ≡ a → nat_lt now t ≡ b → a ≡ b
raises t now true true p q = refl
raises t now false false p q = refl
raises t now true false p q = absurd (let v : true ≡ false = grind (arith, common_steps) in cc)
raises t now false true p q = absurd (let v : true ≡ false = grind (arith, common_steps) in cc)

clock-idle : (reaches : List Act → SadEntry → Bool) (g x : List ℕ) (k h : List Act) (b : Bool)
    → is_reached_in reaches g x k (clock_acts g h b) ≡ false
clock-idle reaches g x k h true = look-idle reaches g x k h (live g h)
clock-idle reaches g x k h false = refl

clock-agrees : (c : Gateway) (x : List ℕ) (p : Act → Bool) (reaches : List Act → SadEntry → Bool) (h : List Act) (t : ℕ)
    → IsTold c.name x p reaches → Agrees p reaches c.name x h (gw_block c h (Clock t))
clock-agrees c x p reaches h t is =
    let g : List ℕ = c.name in
    let past : List Act = acts.Now (max t (clock h)) ∷ h in
    let raised = raises t (clock h) (nat_lt (clock h) (max t (clock h))) (nat_lt (clock h) t) refl refl in
    let reached : Bool = list_any (reaches past) (live g h) in
    ap (λ z. z || list_any p (clock_acts g past (nat_lt (clock h) t))) (is.plain (acts.Now (max t (clock h))) refl)
    ∙ (clock-if p g past reached (nat_lt (clock h) t) (is.looks past (live g h))
    ∙ (ap (λ z. z && reached) (sym raised)
    ∙ (sym (or-false (nat_lt (clock h) (max t (clock h)) && reached))
    ∙ ap (λ z. (nat_lt (clock h) (max t (clock h)) && reached) || z) (sym (clock-idle reaches g x past past (nat_lt (clock h) t))))))

-- ---- each of the three

no-end : (x : List ℕ) (a : Act) → is_plain a ≡ true → is_hard_end x a ≡ false
no-end x (acts.Gone f y w) e = absurd (false≢true e)
no-end x a e = refl

no-hard : (x : List ℕ) (a : Act) → is_plain a ≡ true → is_hard_expiry x a ≡ false
no-hard x (acts.Notice f s (notices.Expire y soft c)) e = absurd (false≢true e)
no-hard x a e = refl

no-soft : (x : List ℕ) (a : Act) → is_plain a ≡ true → is_soft_expiry x a ≡ false
no-soft x (acts.Notice f s (notices.Expire y soft c)) e = absurd (false≢true e)
no-soft x a e = refl

hard-name : (g x : List ℕ) (h : List Act) → OfName x (reaches_hard g h x)
hard-name g x h e n = and_left (bytes_eq e.name x) (is_reached e.hard (counts g e.name h)) n

soft-name : (g x : List ℕ) (h : List Act) → OfName x (reaches_soft g h x)
soft-name g x h e n = and_left (bytes_eq e.name x) (not (is_reached e.hard (counts g e.name h))
    && (is_reached e.soft (counts g e.name h) && not (was_soft_given g e.name h))) n

hard-end-is : (g x : List ℕ) → IsTold g x (is_hard_end x) (λ k. reaches_hard g k x)
hard-end-is g x = record { looks = look-end g x; named = hard-name g x; plain = no-end x }

hard-expiry-is : (g x : List ℕ) → IsTold g x (is_hard_expiry x) (λ k. reaches_hard g k x)
hard-expiry-is g x = record { looks = look-hard g x; named = hard-name g x; plain = no-hard x }

soft-expiry-is : (g x : List ℕ) → IsTold g x (is_soft_expiry x) (λ k. reaches_soft g k x)
soft-expiry-is g x = record { looks = look-soft g x; named = soft-name g x; plain = no-soft x }

-- ---- every event

-- a request reaches nothing
changed-agrees : (g x : List ℕ) (p : Act → Bool) (reaches : List Act → SadEntry → Bool) (h : List Act) (r : table.Outcome) (s k : ℕ)
    (a : Change) → IsTold g x p reaches →
    ((name : List ℕ) → p (acts.Gone g name gone.Removed) ≡ false)
    → Agrees p reaches g x h (change_acts g r a ++ acts.Handled g s k (answer_of r) ∷ [])
changed-agrees g x p reaches h r s k changes.Nothing is removed = ap (λ z. z || false) (is.plain (acts.Handled g s k (answer_of r)) refl)
changed-agrees g x p reaches h r s k changes.Spd is removed =
    rw (is.plain (acts.Policy g r.tree.spd) refl, is.plain (acts.Handled g s k (answer_of r)) refl) refl
changed-agrees g x p reaches h r s k (changes.Put e) is removed =
    rw (is.plain (acts.Put g e) refl, is.plain (acts.Handled g s k (answer_of r)) refl) refl
changed-agrees g x p reaches h r s k (changes.Gone name) is removed = rw (removed name, is.plain (acts.Handled g s k (answer_of r)) refl)
    refl

block-agrees : (c : Gateway) (x : List ℕ) (p : Act → Bool) (reaches : List Act → SadEntry → Bool) (h : List Act) (e : GatewayEvent)
    → IsTold c.name x p reaches →
    ((name : List ℕ) → p (acts.Gone c.name name gone.Removed) ≡ false) → AreInstalled c.name h
    → Agrees p reaches c.name x h (gw_block c h e)
block-agrees c x p reaches h (Let o) is removed are = let-agrees c x p reaches h o is (halves-are c.name h are).apart
block-agrees c x p reaches h (Arrive o) is removed are = arrive-agrees c x p reaches h o is (halves-are c.name h are).apart
block-agrees c x p reaches h (Clock t) is removed are = clock-agrees c x p reaches h t is
block-agrees c x p reaches h (Handle (Ok ask)) is removed are =
    let r : table.Outcome = table.reply (tree_of c.name h) ask in
    changed-agrees c.name x p reaches h r (sessions.session_taken c.name h) (requests c.name h + 1) r.change is removed
block-agrees c x p reaches h (Handle (Err fault)) is removed are =
    ap (λ z. z || false) (is.plain (acts.Handled c.name (sessions.session_taken c.name h) (requests c.name h + 1) (fault_answer fault))
    refl)
block-agrees c x p reaches h Session_taken is removed are =
    ap (λ z. z || false) (is.plain (acts.Opened c.name (sessions.openings c.name h + 1)) refl)

pub ends-reached : (c : Gateway) (h : List Act) (e : GatewayEvent) (x : List ℕ) → AreInstalled c.name h
    → list_any (is_hard_end x) (gw_block c h e) ≡ is_hard_reached_in c.name x h (gw_block c h e)
ends-reached c h e x are = block-agrees c x (is_hard_end x) (λ k. reaches_hard c.name k x) h e (hard-end-is c.name x) (λ name. refl) are

pub hard-reached : (c : Gateway) (h : List Act) (e : GatewayEvent) (x : List ℕ) → AreInstalled c.name h
    → list_any (is_hard_expiry x) (gw_block c h e) ≡ is_hard_reached_in c.name x h (gw_block c h e)
hard-reached c h e x are = block-agrees c x (is_hard_expiry x) (λ k. reaches_hard c.name k x) h e (hard-expiry-is c.name x) (λ name. refl)
    are

pub soft-reached : (c : Gateway) (h : List Act) (e : GatewayEvent) (x : List ℕ) → AreInstalled c.name h
    → list_any (is_soft_expiry x) (gw_block c h e) ≡ is_soft_reached_in c.name x h (gw_block c h e)
soft-reached c h e x are = block-agrees c x (is_soft_expiry x) (λ k. reaches_soft c.name k x) h e (soft-expiry-is c.name x) (λ name. refl)
    are
