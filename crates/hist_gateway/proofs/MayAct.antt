-- Every act of a block may follow those before it.
use Rattle.std.proofs.Common.{◌≡◌, ℕ, suc, ◌+◌, ◌==◌, max, Bool, true, false, not, ◌&&◌, ◌||◌, nat_le, nat_lt, List, [], ◌∷◌, ◌++◌, length, map, Option, Some, None, Result, Ok, Err, refl, sym, ◌∙◌, ap, subst, if◌then◌else◌}
use Rattle.std.proofs.lemmas.Bool.{or_parts, not-false}
use Rattle.std.specs.List.{list_any}
use Rattle.ip_packet.specs.declared.packet.NotPacket.{NotPacket}
use Rattle.ip_packet.specs.declared.packet.NotPacket.TheVariants as faults
use Rattle.ip_packet.specs.View.{Packet, view_of}
use Rattle.ikeless_tree.specs.declared.sad.SadEntry.{SadEntry}
use Rattle.ikeless_tree.specs.declared.sad.Tree.{Tree}
use Rattle.ikeless_tree.specs.declared.entry.SpdEntry.{SpdEntry}
use Rattle.ikeless_tree.specs.declared.entry.Action.{Action}
use Rattle.ikeless_tree.specs.declared.entry.Action.TheVariants as actions
use Rattle.ikeless_tree.specs.declared.entry.Direction.TheVariants.{In, Out}
use Rattle.ikeless_tree.specs.declared.order.Notice.{Notice}
use Rattle.ikeless_tree.specs.declared.order.Notice.TheVariants as notices
use Rattle.ikeless_tree.specs.declared.drops.DropWhy.TheVariants as why
use Rattle.ikeless_tree.specs.declared.ends.GoneWhy.{GoneWhy}
use Rattle.ikeless_tree.specs.declared.ends.GoneWhy.TheVariants as gone
use Rattle.ikeless_tree.specs.Half.{is_inbound}
use Rattle.hist_halves.specs.Halves.{is_hard}
use Rattle.reply_table.specs.declared.ask.Ask.{Ask}
use Rattle.reply_table.specs.declared.ask.Change.{Change}
use Rattle.reply_table.specs.declared.ask.Change.TheVariants as changes
use Rattle.reply_table.specs.Reply as table
use Rattle.replay_win.specs.declared.verdict.Verdict.{Verdict}
use Rattle.replay_win.specs.declared.verdict.Verdict.TheVariants as verdicts
use Rattle.replay_win.specs.Marks.{verdict_over}
use Rattle.esp_frame.specs.Esp.{keying, spi_of}
use Rattle.esp_frame.specs.Open as esp
use Rattle.spd_match.specs.Match.{first_entry, holds_packet}
use Rattle.life_count.specs.Lifetime.{is_reached, expiry}
use Rattle.hist_acts.specs.declared.act.Act.{Act}
use Rattle.hist_acts.specs.declared.act.Act.TheVariants as acts
use Rattle.hist_acts.specs.Past.{after, force, clock}
use Rattle.hist_acts.specs.Sessions as sessions
use Rattle.hist_halves.specs.Sealed.{is_opened, by_spi, number_of}
use Rattle.hist_halves.specs.Halves.{live, sent, numbers_taken}
use Rattle.hist_gateway.specs.Uses.{counts}
use Rattle.hist_gateway.specs.Stands.{does_acquire_stand, was_overflow_given, does_bad_spi_stand}
use Rattle.hist_gateway.specs.Rows.{row_of, tree_of}
use Rattle.hist_gateway.specs.Datagram.{fault_why, datagram, flow_of}
use Rattle.hist_gateway.specs.Look.{event_of, given_by, goings, expiries, look, tells}
use Rattle.hist_gateway.specs.Let.{newest, unless, send_acts, let_by_half, let_by_action, let_by_entry, let_by_view, let_acts}
use Rattle.hist_gateway.specs.Arrive as arrive
use Rattle.hist_gateway.specs.Handle.{Fault, answer_of, handle_acts, change_acts, requests}
use Rattle.hist_gateway.specs.Block.{Gateway, GatewayEvent, Let, Arrive, Clock, Handle, Session_taken, gw_block, clock_acts}
use Rattle.ikeless_tree.specs.declared.sad.SadRow.{SadRow}
use Rattle.hist_gateway.proofs.KeepsLemmas.{same-is}
use Rattle.hist_gateway.specs.May.{IsInstallable, IsNewHalf, AreNewHalves, MayInstall, AreInstalled, LetBefore, OpensArrival, GatewayMayDrop, GatewayMayAct, GatewayMayActAll, IsGatewayPast, IsNumbered, AreNumbered, is_boot}

-- ---- acts that say nothing of their past

abbrev says : Act → Bool
says (acts.Clear f o) = true
says (acts.Sent f x n d) = true
says (acts.Gave f x n p) = true
says (acts.Pass f o) = true
says (acts.Put f e) = true
says (acts.Gone f x w) = not (is_hard w)
says (acts.Drop f w) = is_opened w
says (acts.Opened f s) = true
says (acts.Handled f s k a) = true
says _ = false

plain-gone : (q : Gateway) (h : List Act) (f x : List ℕ) (w : GoneWhy) → not (is_hard w) ≡ false → GatewayMayAct q h (acts.Gone f x w)
plain-gone q h f x gone.Removed e = cc
plain-gone q h f x gone.Hard e = tt

plain-drop : (q : Gateway) (h : List Act) (f : List ℕ) (b : Bool) → b ≡ false → GatewayMayDrop q h f b
plain-drop q h f true e = cc
plain-drop q h f false e = tt

plain : (q : Gateway) (h : List Act) (a : Act) → says a ≡ false → GatewayMayAct q h a
plain q h (acts.Clear f o) e = cc
plain q h (acts.Sent f x n d) e = cc
plain q h (acts.Gave f x n p) e = cc
plain q h (acts.Pass f o) e = cc
plain q h (acts.Put f x) e = cc
plain q h (acts.Gone f x w) e = plain-gone q h f x w e
plain q h (acts.Drop f w) e = plain-drop q h f (is_opened w) e
plain q h (acts.Opened f s) e = cc
plain q h (acts.Handled f s k a) e = cc
plain q h a e = tt

abbrev some-says : List Act → Bool
some-says xs = list_any says xs

all-plain : (q : Gateway) (h xs : List Act) → some-says xs ≡ false → GatewayMayActAll q h xs
all-plain q h [] e = tt
all-plain q h (a ∷ xs) e = let p = or_parts (says a) (some-says xs) e in (plain q h a p.0, all-plain q (a ∷ h) xs p.1)

says-append : (xs ys : List Act) → some-says xs ≡ false → some-says ys ≡ false → some-says (xs ++ ys) ≡ false
says-append [] ys p q = q
says-append (a ∷ xs) ys p q =
    let r = or_parts (says a) (some-says xs) p in
    rw r.0 (says-append xs ys r.1 q)

says-if : (b : Bool) (xs ys : List Act) → some-says xs ≡ false → some-says ys ≡ false → some-says (if b then xs else ys) ≡ false
says-if true xs ys p q = p
says-if false xs ys p q = q

says-unless : (b : Bool) (xs : List Act) → some-says xs ≡ false → some-says (unless b xs) ≡ false
says-unless true xs p = refl
says-unless false xs p = p

says-given : (g : List ℕ) (s : ℕ) (ns : List Notice) → some-says (given_by g s ns) ≡ false
says-given g s [] = refl
says-given g s (n ∷ ns) = says-given g s ns

says-goings : (g : List ℕ) (h : List Act) (es : List SadEntry) → some-says (goings g h es) ≡ false
says-goings g h [] = refl
says-goings g h (e ∷ es) =
    says-if (is_reached e.hard (counts g e.name h)) (acts.Gone g e.name gone.Hard ∷ goings g h es) (goings g h es) (says-goings g h es)
    (says-goings g h es)

says-expiries : (g : List ℕ) (h : List Act) (es : List SadEntry) → some-says (expiries g h es) ≡ false
says-expiries g h [] = refl
says-expiries g h (e ∷ es) =
    let ns : List Notice = expiry e.name (counts g e.name h) (event_of g h e) in
    says-append (given_by g (sessions.session_taken g h) ns) (expiries g h es) (says-given g (sessions.session_taken g h) ns)
    (says-expiries g h es)

says-look : (g : List ℕ) (h : List Act) (es : List SadEntry) → some-says (look g h es) ≡ false
says-look g h es = says-append (goings g h es) (expiries g h es) (says-goings g h es) (says-expiries g h es)

-- ---- a packet from inside

may-if : (q : Gateway) (h : List Act) (b : Bool) (xs ys : List Act) → (b ≡ true → GatewayMayActAll q h xs)
    → (b ≡ false → GatewayMayActAll q h ys) → GatewayMayActAll q h (if b then xs else ys)
may-if q h true xs ys p r = p refl
may-if q h false xs ys p r = r refl

may-half : (q : Gateway) (g o : List ℕ) (h : List Act) (v : Packet) (p : SpdEntry) (found : Option SadEntry) →
    LetBefore h g o v p actions.Protect → newest p.reqid v (live g h) ≡ found
    → GatewayMayActAll q h (let_by_half g q.seq_last h o v p found)
may-half q g o h v p None let_before new =
    all-plain q h (let_by_half g q.seq_last h o v p None)
    (says-unless (does_acquire_stand g p.name h) (tells g h (notices.Acquire p.name (flow_of v))) refl)
may-half q g o h v p (Some e) let_before new =
    let limit : List Act = acts.Drop g why.SeqLimit ∷ unless (was_overflow_given g e.name h) (tells g h (notices.SeqOverflow e.name)) in
    let n : ℕ = sent g e.name h + 1 in
    let d : List ℕ = datagram e n v o in
    may-if q h (nat_le q.seq_last (sent g e.name h)) limit (send_acts g h e n d)
    (λ _. all-plain q h limit (says-unless (was_overflow_given g e.name h) (tells g h (notices.SeqOverflow e.name)) refl))
    (λ below. (
      record {
        octets = o;
        packet = v;
        entry = p;
        half = e;
        let_before = let_before;
        newest = new;
        name = refl;
        number = refl;
        in_limit =
            below;
        datagram = refl;
      },
      all-plain q (acts.Sent g e.name n d ∷ h) (look g (acts.Sent g e.name n d ∷ h) (e ∷ []))
          (says-look g (acts.Sent g e.name n d ∷ h) (e ∷ [])),
    ))

may-action : (q : Gateway) (g o : List ℕ) (h older : List Act) (v : Packet) (p : SpdEntry) (a : Action) → h ≡ acts.Let g o ∷ older
    → view_of o ≡ Ok v →
    first_entry (force g h) Out v ≡ Some p → p.action ≡ a → GatewayMayActAll q h (let_by_action g q.seq_last h o v p a)
may-action q g o h older v p actions.Protect before seen first act =
    may-half q g o h v p (newest p.reqid v (live g h)) (record { older = older; before = before; view = seen; first = first; action = act })
    refl
may-action q g o h older v p actions.Bypass before seen first act =
    (record { packet = v; entry = p; let_before = record { older = older; before = before; view = seen; first = first; action = act } }, tt)
may-action q g o h older v p actions.Discard before seen first act = (tt, tt)

may-entry : (q : Gateway) (g o : List ℕ) (h older : List Act) (v : Packet) (p : Option SpdEntry) → h ≡ acts.Let g o ∷ older
    → view_of o ≡ Ok v →
    first_entry (force g h) Out v ≡ p → GatewayMayActAll q h (let_by_entry g q.seq_last h o v p)
may-entry q g o h older v None before seen first = (tt, tt)
may-entry q g o h older v (Some p) before seen first = may-action q g o h older v p p.action before seen first refl

may-fault : (q : Gateway) (h : List Act) (g : List ℕ) (fault : NotPacket) → GatewayMayAct q h (acts.Drop g (fault_why fault))
may-fault q h g faults.Short = tt
may-fault q h g faults.Version = tt
may-fault q h g faults.Length = tt
may-fault q h g faults.HeaderSum = tt
may-fault q h g faults.Fragment = tt

may-view : (q : Gateway) (g o : List ℕ) (h older : List Act) (r : Result Packet NotPacket) → h ≡ acts.Let g o ∷ older → view_of o ≡ r
    → GatewayMayActAll q h (let_by_view g q.seq_last h o r)
may-view q g o h older (Err fault) before seen = (may-fault q h g fault, tt)
may-view q g o h older (Ok v) before seen =
    may-if q h (nat_lt 65000 (length o)) (acts.Drop g why.TooLong ∷ []) (let_by_entry g q.seq_last h o v (first_entry (force g h) Out v))
    (λ _. (tt, tt))
    (λ _. may-entry q g o h older v (first_entry (force g h) Out v) before seen refl)

pub may-let : (q : Gateway) (g o : List ℕ) (h : List Act)
    → GatewayMayActAll q (acts.Let g o ∷ h) (let_acts g q.seq_last (acts.Let g o ∷ h) o)
unfolding let_acts
may-let q g o h = may-view q g o (acts.Let g o ∷ h) h (view_of o) refl refl

-- ---- a datagram from outside

follow-if : (q : Gateway) (h : List Act) (b : Bool) (x y : Act) → (b ≡ true → GatewayMayAct q h x) → (b ≡ false → GatewayMayAct q h y)
    → GatewayMayAct q h (if b then x else y)
follow-if q h true x y p r = p refl
follow-if q h false x y p r = r refl

may-inner : (q : Gateway) (h : List Act) (g : List ℕ) (came : OpensArrival q h g) (n : ℕ) (p : List ℕ) (next : ℕ)
    (r : Result Packet NotPacket) →
    n ≡ number_of came.half (numbers_taken g came.half.name h) came.outer.payload
    → esp.inner_packet came.text ≡ Some (record { next = next; octets = p }) → view_of p ≡ r →
    GatewayMayAct q h (arrive.by_inner g came.half n next p r)
may-inner q h g came n p next (Err fault) number packet seen = came
may-inner q h g came n p next (Ok w) number packet seen =
    let e : SadEntry = came.half in
    follow-if q h (not (arrive.is_told_version next p)) (acts.Drop g why.Inner) (if holds_packet e.selector In w then acts.Gave g e.name n p
    else acts.Drop g why.Selector) (λ _. came)
    (λ told. follow-if q h (holds_packet e.selector In w) (acts.Gave g e.name n p) (acts.Drop g why.Selector)
    (λ held. record {
      opens = came;
      inner = w;
      next = next;
      name = refl;
      number = number;
      packet = packet;
      inner_view = seen;
      version =
          not-false (arrive.is_told_version next p) told;
      held = held;
    })
    (λ _. came))

may-packet : (q : Gateway) (h : List Act) (g : List ℕ) (came : OpensArrival q h g) (n : ℕ) (p : Option esp.InnerPacket) →
    n ≡ number_of came.half (numbers_taken g came.half.name h) came.outer.payload → esp.inner_packet came.text ≡ p
    → GatewayMayAct q h (arrive.by_packet g came.half n p)
may-packet q h g came n None number packet = came
may-packet q h g came n (Some p) number packet =
    follow-if q h (p.next == 59) (acts.Drop g why.Dummy) (arrive.by_inner g came.half n p.next p.octets (view_of p.octets)) (λ _. came)
    (λ _. may-inner q h g came n p.octets p.next (view_of p.octets) number packet refl)

may-text : (q : Gateway) (h older : List Act) (g o : List ℕ) (v : Packet) (e : SadEntry) (x : Option (List ℕ)) → h ≡ acts.Arrived g o
    ∷ older → view_of o ≡ Ok v →
    arrive.is_sealed_for q.address v ≡ true → by_spi (spi_of v.payload) (live g h) ≡ Some e →
    verdict_over e.window (numbers_taken g e.name h) (number_of e (numbers_taken g e.name h) v.payload) ≡ verdicts.Fresh
    → esp.opened (keying e.spi e.key) v.payload ≡ x →
    GatewayMayActAll q h (arrive.by_text g h e (number_of e (numbers_taken g e.name h) v.payload) x)
may-text q h older g o v e None before seen own spi fresh op = (tt, tt)
may-text q h older g o v e (Some x) before seen own spi fresh op =
    let n : ℕ = number_of e (numbers_taken g e.name h) v.payload in
    let a : Act = arrive.by_packet g e n (esp.inner_packet x) in
    let came : OpensArrival q h g = record {
      older = older;
      octets = o;
      outer = v;
      half = e;
      text = x;
      before = before;
      view = seen;
      own =
          own;
      spi = spi;
      fresh = fresh;
      opened = op;
    } in
    (may-packet q h g came n (esp.inner_packet x) refl refl, all-plain q (a ∷ h) (look g (a ∷ h) (e ∷ [])) (says-look g (a ∷ h) (e ∷ [])))

may-verdict : (q : Gateway) (h older : List Act) (g o : List ℕ) (v : Packet) (e : SadEntry) (w : Verdict) → h ≡ acts.Arrived g o ∷ older
    → view_of o ≡ Ok v →
    arrive.is_sealed_for q.address v ≡ true → by_spi (spi_of v.payload) (live g h) ≡ Some e →
    verdict_over e.window (numbers_taken g e.name h) (number_of e (numbers_taken g e.name h) v.payload) ≡ w →
    GatewayMayActAll q h (arrive.by_verdict g h v.payload e (number_of e (numbers_taken g e.name h) v.payload) w)
may-verdict q h older g o v e verdicts.Zero before seen own spi judged = (tt, tt)
may-verdict q h older g o v e verdicts.Old before seen own spi judged = (tt, tt)
may-verdict q h older g o v e verdicts.Seen before seen own spi judged = (tt, tt)
may-verdict q h older g o v e verdicts.Fresh before seen own spi judged =
    may-text q h older g o v e (esp.opened (keying e.spi e.key) v.payload) before seen own spi judged refl

may-found : (q : Gateway) (h older : List Act) (g o : List ℕ) (v : Packet) (found : Option SadEntry) → h ≡ acts.Arrived g o ∷ older
    → view_of o ≡ Ok v →
    arrive.is_sealed_for q.address v ≡ true → by_spi (spi_of v.payload) (live g h) ≡ found
    → GatewayMayActAll q h (arrive.arrive_by_half g h v.payload found)
may-found q h older g o v None before seen own spi =
    all-plain q h (arrive.arrive_by_half g h v.payload None) (says-unless (does_bad_spi_stand g (spi_of v.payload) h)
    (tells g h (notices.BadSpi (spi_of v.payload))) refl)
may-found q h older g o v (Some e) before seen own spi =
    may-verdict q h older g o v e (verdict_over e.window (numbers_taken g e.name h) (number_of e (numbers_taken g e.name h) v.payload))
    before seen own spi refl

pass-action : (q : Gateway) (h older : List Act) (g o : List ℕ) (v : Packet) (p : SpdEntry) (a : Action) → h ≡ acts.Arrived g o ∷ older
    → view_of o ≡ Ok v →
    first_entry (force g h) In v ≡ Some p → p.action ≡ a → GatewayMayAct q h (arrive.arrive_by_action g o a)
pass-action q h older g o v p actions.Protect before seen first act = tt
pass-action q h older g o v p actions.Bypass before seen first act =
    record { older = older; packet = v; entry = p; before = before; view = seen; first = first; action = act }
pass-action q h older g o v p actions.Discard before seen first act = tt

pass-entry : (q : Gateway) (h older : List Act) (g o : List ℕ) (v : Packet) (p : Option SpdEntry) → h ≡ acts.Arrived g o ∷ older
    → view_of o ≡ Ok v →
    first_entry (force g h) In v ≡ p → GatewayMayAct q h (arrive.arrive_by_entry g o p)
pass-entry q h older g o v None before seen first = tt
pass-entry q h older g o v (Some p) before seen first = pass-action q h older g o v p p.action before seen first refl

may-arrived : (q : Gateway) (h older : List Act) (g o : List ℕ) (r : Result Packet NotPacket) → h ≡ acts.Arrived g o ∷ older → view_of o ≡ r
    →
    GatewayMayActAll q h (arrive.arrive_by_view g q.address h o r)
may-arrived q h older g o (Err fault) before seen = (may-fault q h g fault, tt)
may-arrived q h older g o (Ok v) before seen =
    may-if q h (arrive.is_sealed_for q.address v) (arrive.esp_acts g h v.payload) (arrive.arrive_by_entry g o (first_entry (force g h) In v)
    ∷ [])
    (λ own. may-if q h (nat_lt (length v.payload) 34) (arrive.drops g why.Short)
    (arrive.arrive_by_half g h v.payload (by_spi (spi_of v.payload) (live g h))) (λ _. (tt, tt))
    (λ _. may-found q h older g o v (by_spi (spi_of v.payload) (live g h)) before seen own refl))
    (λ _. (pass-entry q h older g o v (first_entry (force g h) In v) before seen refl, tt))

pub may-arrive : (q : Gateway) (g o : List ℕ) (h : List Act)
    → GatewayMayActAll q (acts.Arrived g o ∷ h) (arrive.arrive_acts g q.address (acts.Arrived g o ∷ h) o)
unfolding arrive.arrive_acts
may-arrive q g o h = may-arrived q (acts.Arrived g o ∷ h) h g o (view_of o) refl refl

-- ---- a request

pub any-map : (p : SadRow → Bool) (f : SadEntry → SadRow) (es : List SadEntry) → list_any p (map f es) ≡ list_any (λ e. p (f e)) es
any-map p f [] = refl
any-map p f (e ∷ es) = ap (λ t. p (f e) || t) (any-map p f es)

length-map : (f : SadEntry → SadRow) (es : List SadEntry) → length (map f es) ≡ length es
length-map f [] = refl
length-map f (e ∷ es) = ap (λ n. suc n) (length-map f es)

may-change : (q : Gateway) (g : List ℕ) (h : List Act) (r : table.Outcome) (c : Change) → table.Fits (tree_of g h) c
    → GatewayMayActAll q h (change_acts g r c)
may-change q g h r changes.Nothing fits = tt
may-change q g h r changes.Spd fits = (tt, tt)
may-change q g h r (changes.Put e) fits =
    let name = any-map (table.is_row e.name) (row_of g h) (live g h) in
    let spi = any-map (λ r. is_inbound r.entry.name && (r.entry.spi == e.spi)) (row_of g h) (live g h) in
    let room = length-map (row_of g h) (live g h) in (
      record {
        name = sym name ∙ fits.0;
        spi = ap (λ b. is_inbound e.name && b) (sym spi) ∙ fits.1;
        room = ap (λ n. nat_le 4096 n) (sym room) ∙ fits.2;
      },
      tt,
    )
may-change q g h r (changes.Gone name) fits = let there = any-map (table.is_row name) (row_of g h) (live g h) in (sym there ∙ fits, tt)

may-append : (q : Gateway) (h xs : List Act) (a : Act) → GatewayMayAct q (after h xs) a → GatewayMayActAll q h xs
    → GatewayMayActAll q h (xs ++ a ∷ [])
may-append q h [] a last m = (last, tt)
may-append q h (x ∷ xs) a last m = (m.0, may-append q (x ∷ h) xs a last m.1)

-- a change is none of sessions and requests
same-session : (g : List ℕ) (h : List Act) (r : table.Outcome) (c : Change) →
    (sessions.session_taken g h ≡ sessions.session_taken g (after h (change_acts g r c)))
    × (requests g h + 1 ≡ requests g (after h (change_acts g r c)) + 1)
same-session g h r changes.Nothing = (refl, refl)
same-session g h r changes.Spd = (refl, refl)
same-session g h r (changes.Put e) = (refl, refl)
same-session g h r (changes.Gone name) = (refl, refl)

-- what every reply's change says of the databases
abbrev pub AllFit : Type 0
AllFit = (t : Tree) (a : Ask) → table.Fits t (table.reply t a).change

may-handle : (q : Gateway) (g : List ℕ) (h : List Act) (request : Result Ask Fault) → AllFit
    → GatewayMayActAll q h (handle_acts g (sessions.session_taken g h) (requests g h + 1) h request)
may-handle q g h (Ok ask) fits =
    let r : table.Outcome = table.reply (tree_of g h) ask in
    may-append q h (change_acts g r r.change) (acts.Handled g (sessions.session_taken g h) (requests g h + 1) (answer_of r))
    (same-session g h r r.change)
    (may-change q g h r r.change (fits (tree_of g h) ask))
may-handle q g h (Err fault) fits = ((refl, refl), tt)

-- ---- the whole

may-clock : (q : Gateway) (g : List ℕ) (h : List Act) (raised : Bool) → GatewayMayActAll q h (clock_acts g h raised)
may-clock q g h true = all-plain q h (look g h (live g h)) (says-look g h (live g h))
may-clock q g h false = tt

pub may-block : AllFit → (c : Gateway) (h : List Act) (e : GatewayEvent) → GatewayMayActAll c h (gw_block c h e)
may-block fits c h (Let o) = (tt, may-let c c.name o h)
may-block fits c h (Arrive o) = (tt, may-arrive c c.name o h)
may-block fits c h (Clock t) = (tt, may-clock c c.name (acts.Now (max t (clock h)) ∷ h) (nat_lt (clock h) t))
may-block fits c h (Handle request) = may-handle c c.name h request fits
may-block fits c h Session_taken = (refl, tt)

may-install : (q : Gateway) (g : List ℕ) (h : List Act) (a : Act) → GatewayMayAct q h a → MayInstall g h a
may-install q g h (acts.Put f e) may = λ at. subst (λ n. IsInstallable (live n h) e) (same-is f g at) may
may-install q g h a may = tt

pub installed : (q : Gateway) (g : List ℕ) (h xs : List Act) → GatewayMayActAll q h xs → AreInstalled g h → AreInstalled g (after h xs)
installed q g h [] may are = are
installed q g h (a ∷ xs) may are = installed q g (a ∷ h) xs may.1 (may-install q g h a may.0, are)

pub lawful-installed : (q : Gateway) (g : List ℕ) (h : List Act) → IsGatewayPast q h → AreInstalled g h
lawful-installed q g [] l = tt
lawful-installed q g (a ∷ h) l = (may-install q g h a l.0, lawful-installed q g h l.1)

new-half : (q : Gateway) (g : List ℕ) (h : List Act) (a : Act) → GatewayMayAct q h a → IsNewHalf g h a
new-half q g h (acts.Put f e) may = λ at. (may-install q g h (acts.Put f e) may at).name
new-half q g h a may = tt

pub new-halves : (q : Gateway) (g : List ℕ) (h xs : List Act) → GatewayMayActAll q h xs → AreNewHalves g h xs
new-halves q g h [] may = tt
new-halves q g h (a ∷ xs) may = (new-half q g h a may.0, new-halves q g (a ∷ h) xs may.1)

-- ---- sessions

may-number : (q : Gateway) (g : List ℕ) (h : List Act) (a : Act) → GatewayMayAct q h a → is_boot a ≡ false → IsNumbered g h a
may-number q g h (acts.Opened f s) may away = λ at. subst (λ n. s ≡ sessions.openings n h + 1) (same-is f g at) may
may-number q g h (acts.Handled f s k a) may away = λ at. subst (λ n. s ≡ sessions.session_taken n h) (same-is f g at) may.0
may-number q g h (acts.Boot f) may away = cc
may-number q g h a may away = tt

pub lawful-numbered : (q : Gateway) (g : List ℕ) (h : List Act) → IsGatewayPast q h → list_any is_boot h ≡ false → AreNumbered g h
lawful-numbered q g [] l away = tt
lawful-numbered q g (a ∷ h) l away = let p = or_parts (is_boot a) (list_any is_boot h) away in
    (may-number q g h a l.0 p.0, lawful-numbered q g h l.1 p.1)
