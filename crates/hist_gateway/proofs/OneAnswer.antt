-- Each packet and each datagram has exactly one answer, and no other event has one.
use Rattle.std.proofs.Common.{◌≡◌, ℕ, ◌+◌, ◌==◌, max, Bool, true, false, not, nat_le, nat_lt, List, [], ◌∷◌, ◌++◌, length, Option, Some, None, Result, Ok, Err, refl, if◌then◌else◌}
use Rattle.std.proofs.lemmas.Bool.{or_parts}
use Rattle.std.specs.List.{list_any}
use Rattle.ikl_base.specs.declared.address.Addr.{Addr}
use Rattle.ip_packet.specs.declared.packet.NotPacket.{NotPacket}
use Rattle.ip_packet.specs.View.{Packet, view_of}
use Rattle.ikeless_tree.specs.declared.sad.SadEntry.{SadEntry}
use Rattle.ikeless_tree.specs.declared.entry.SpdEntry.{SpdEntry}
use Rattle.ikeless_tree.specs.declared.entry.Action.{Action}
use Rattle.ikeless_tree.specs.declared.entry.Action.TheVariants as actions
use Rattle.ikeless_tree.specs.declared.entry.Direction.TheVariants.{In, Out}
use Rattle.ikeless_tree.specs.declared.order.Notice.{Notice}
use Rattle.ikeless_tree.specs.declared.order.Notice.TheVariants as notices
use Rattle.ikeless_tree.specs.declared.drops.DropWhy.TheVariants as why
use Rattle.ikeless_tree.specs.declared.ends.GoneWhy.TheVariants as gone
use Rattle.reply_table.specs.declared.ask.Ask.{Ask}
use Rattle.reply_table.specs.declared.ask.Change.{Change}
use Rattle.reply_table.specs.declared.ask.Change.TheVariants as changes
use Rattle.reply_table.specs.Reply as table
use Rattle.replay_win.specs.declared.verdict.Verdict.{Verdict}
use Rattle.replay_win.specs.declared.verdict.Verdict.TheVariants as verdicts
use Rattle.replay_win.specs.Marks.{verdict_over}
use Rattle.esp_frame.specs.Esp.{keying, spi_of}
use Rattle.esp_frame.specs.Open as esp
use Rattle.spd_match.specs.Match.{first_entry, holds_packet}
use Rattle.life_count.specs.Lifetime.{is_reached, expiry}
use Rattle.hist_acts.specs.declared.act.Act.{Act}
use Rattle.hist_acts.specs.declared.act.Act.TheVariants as acts
use Rattle.hist_acts.specs.Past.{force, clock}
use Rattle.hist_acts.specs.Sessions as sessions
use Rattle.hist_halves.specs.Sealed.{by_spi, number_of}
use Rattle.hist_halves.specs.Halves.{live, sent, numbers_taken}
use Rattle.hist_gateway.specs.Uses.{counts}
use Rattle.hist_gateway.specs.Stands.{does_acquire_stand, was_overflow_given, does_bad_spi_stand}
use Rattle.hist_gateway.specs.Rows.{tree_of}
use Rattle.hist_gateway.specs.Datagram.{datagram, flow_of}
use Rattle.hist_gateway.specs.Look.{event_of, given_by, goings, expiries, look, tells}
use Rattle.hist_gateway.specs.Let.{newest, unless, send_acts, let_by_half, let_by_action, let_by_entry, let_by_view, let_acts}
use Rattle.hist_gateway.specs.Arrive as arrive
use Rattle.hist_gateway.specs.Handle.{Fault, answer_of, change_acts, requests}
use Rattle.hist_gateway.specs.Block.{Gateway, Let, Arrive, Clock, Handle, gw_block}
use Rattle.hist_gateway.specs.Answers.{is_let_answer, is_arrival_answer, is_answer, is_answered_by, has_one_answer}

abbrev some : List Act → Bool
some xs = list_any is_answer xs

some-append : (xs ys : List Act) → some xs ≡ false → some ys ≡ false → some (xs ++ ys) ≡ false
some-append [] ys p q = q
some-append (a ∷ xs) ys p q = let r = or_parts (is_answer a) (some xs) p in rw r.0 (some-append xs ys r.1 q)

some-if : (b : Bool) (xs ys : List Act) → some xs ≡ false → some ys ≡ false → some (if b then xs else ys) ≡ false
some-if true xs ys p q = p
some-if false xs ys p q = q

some-unless : (b : Bool) (xs : List Act) → some xs ≡ false → some (unless b xs) ≡ false
some-unless true xs p = refl
some-unless false xs p = p

some-given : (g : List ℕ) (s : ℕ) (ns : List Notice) → some (given_by g s ns) ≡ false
some-given g s [] = refl
some-given g s (n ∷ ns) = some-given g s ns

some-goings : (g : List ℕ) (h : List Act) (es : List SadEntry) → some (goings g h es) ≡ false
some-goings g h [] = refl
some-goings g h (e ∷ es) =
    some-if (is_reached e.hard (counts g e.name h)) (acts.Gone g e.name gone.Hard ∷ goings g h es) (goings g h es) (some-goings g h es)
    (some-goings g h es)

some-expiries : (g : List ℕ) (h : List Act) (es : List SadEntry) → some (expiries g h es) ≡ false
some-expiries g h [] = refl
some-expiries g h (e ∷ es) =
    let ns : List Notice = expiry e.name (counts g e.name h) (event_of g h e) in
    some-append (given_by g (sessions.session_taken g h) ns) (expiries g h es) (some-given g (sessions.session_taken g h) ns)
    (some-expiries g h es)

pub some-look : (g : List ℕ) (h : List Act) (es : List SadEntry) → some (look g h es) ≡ false
some-look g h es = some-append (goings g h es) (expiries g h es) (some-goings g h es) (some-expiries g h es)

-- ---- a packet from inside

first-of : (fits : Act → Bool) (a : Act) (more : List Act) → fits a ≡ true → some more ≡ false → is_answered_by fits (a ∷ more) ≡ true
first-of fits a more p q = rw (p, q) refl

pick : (fits : Act → Bool) (b : Bool) (xs ys : List Act) → is_answered_by fits xs ≡ true → is_answered_by fits ys ≡ true
    → is_answered_by fits (if b then xs else ys) ≡ true
pick fits true xs ys p q = p
pick fits false xs ys p q = q

out-half : (q : ℕ) (g o : List ℕ) (h : List Act) (v : Packet) (p : SpdEntry) (found : Option SadEntry)
    → is_answered_by is_let_answer (let_by_half g q h o v p found) ≡ true
out-half q g o h v p None =
    let ns : List Act = unless (does_acquire_stand g p.name h) (tells g h (notices.Acquire p.name (flow_of v))) in
    first-of is_let_answer (acts.Drop g why.NoSa) ns refl
    (some-unless (does_acquire_stand g p.name h) (tells g h (notices.Acquire p.name (flow_of v))) refl)
out-half q g o h v p (Some e) =
    let ns : List Act = unless (was_overflow_given g e.name h) (tells g h (notices.SeqOverflow e.name)) in
    let n : ℕ = sent g e.name h + 1 in
    let a : Act = acts.Sent g e.name n (datagram e n v o) in
    pick is_let_answer (nat_le q (sent g e.name h)) (acts.Drop g why.SeqLimit ∷ ns) (send_acts g h e n (datagram e n v o))
    (first-of is_let_answer (acts.Drop g why.SeqLimit) ns refl
    (some-unless (was_overflow_given g e.name h) (tells g h (notices.SeqOverflow e.name)) refl))
    (first-of is_let_answer a (look g (a ∷ h) (e ∷ [])) refl (some-look g (a ∷ h) (e ∷ [])))

out-action : (q : ℕ) (g o : List ℕ) (h : List Act) (v : Packet) (p : SpdEntry) (a : Action)
    → is_answered_by is_let_answer (let_by_action g q h o v p a) ≡ true
out-action q g o h v p actions.Protect = out-half q g o h v p (newest p.reqid v (live g h))
out-action q g o h v p actions.Bypass = refl
out-action q g o h v p actions.Discard = refl

out-entry : (q : ℕ) (g o : List ℕ) (h : List Act) (v : Packet) (p : Option SpdEntry)
    → is_answered_by is_let_answer (let_by_entry g q h o v p) ≡ true
out-entry q g o h v None = refl
out-entry q g o h v (Some p) = out-action q g o h v p p.action

out-view : (q : ℕ) (g o : List ℕ) (h : List Act) (r : Result Packet NotPacket) → is_answered_by is_let_answer (let_by_view g q h o r) ≡ true
out-view q g o h (Err fault) = refl
out-view q g o h (Ok v) =
    pick is_let_answer (nat_lt 65000 (length o)) (acts.Drop g why.TooLong ∷ []) (let_by_entry g q h o v (first_entry (force g h) Out v))
    refl
    (out-entry q g o h v (first_entry (force g h) Out v))

pub one-let : (c : Gateway) (h : List Act) (o : List ℕ) → has_one_answer is_let_answer (gw_block c h (Let o)) ≡ true
unfolding let_acts
one-let c h o = out-view c.seq_last c.name o (acts.Let c.name o ∷ h) (view_of o)

-- ---- a datagram from outside

fits-if : (b : Bool) (x y : Act) → is_arrival_answer x ≡ true → is_arrival_answer y ≡ true → is_arrival_answer (if b then x else y) ≡ true
fits-if true x y p q = p
fits-if false x y p q = q

fits-inner : (g : List ℕ) (e : SadEntry) (n next : ℕ) (p : List ℕ) (r : Result Packet NotPacket)
    → is_arrival_answer (arrive.by_inner g e n next p r) ≡ true
fits-inner g e n next p (Err fault) = refl
fits-inner g e n next p (Ok v) =
    fits-if (not (arrive.is_told_version next p)) (acts.Drop g why.Inner) (if holds_packet e.selector In v then acts.Gave g e.name n p
    else acts.Drop g why.Selector) refl
    (fits-if (holds_packet e.selector In v) (acts.Gave g e.name n p) (acts.Drop g why.Selector) refl refl)

fits-packet : (g : List ℕ) (e : SadEntry) (n : ℕ) (p : Option esp.InnerPacket) → is_arrival_answer (arrive.by_packet g e n p) ≡ true
fits-packet g e n None = refl
fits-packet g e n (Some p) = fits-if (p.next == 59) (acts.Drop g why.Dummy) (arrive.by_inner g e n p.next p.octets (view_of p.octets)) refl
    (fits-inner g e n p.next p.octets (view_of p.octets))

in-text : (g : List ℕ) (h : List Act) (e : SadEntry) (n : ℕ) (x : Option (List ℕ))
    → is_answered_by is_arrival_answer (arrive.by_text g h e n x) ≡ true
in-text g h e n None = refl
in-text g h e n (Some x) =
    let a : Act = arrive.by_packet g e n (esp.inner_packet x) in
    first-of is_arrival_answer a (look g (a ∷ h) (e ∷ [])) (fits-packet g e n (esp.inner_packet x)) (some-look g (a ∷ h) (e ∷ []))

in-verdict : (g b : List ℕ) (h : List Act) (e : SadEntry) (n : ℕ) (w : Verdict)
    → is_answered_by is_arrival_answer (arrive.by_verdict g h b e n w) ≡ true
in-verdict g b h e n verdicts.Zero = refl
in-verdict g b h e n verdicts.Old = refl
in-verdict g b h e n verdicts.Seen = refl
in-verdict g b h e n verdicts.Fresh = in-text g h e n (esp.opened (keying e.spi e.key) b)

in-half : (g b : List ℕ) (h : List Act) (found : Option SadEntry) → is_answered_by is_arrival_answer (arrive.arrive_by_half g h b found) ≡
    true
in-half g b h None =
    let ns : List Act = unless (does_bad_spi_stand g (spi_of b) h) (tells g h (notices.BadSpi (spi_of b))) in
    first-of is_arrival_answer (acts.Drop g why.BadSpi) ns refl
    (some-unless (does_bad_spi_stand g (spi_of b) h) (tells g h (notices.BadSpi (spi_of b))) refl)
in-half g b h (Some e) =
    let n : ℕ = number_of e (numbers_taken g e.name h) b in
    in-verdict g b h e n (verdict_over e.window (numbers_taken g e.name h) n)

in-action : (g o : List ℕ) (a : Action) → is_arrival_answer (arrive.arrive_by_action g o a) ≡ true
in-action g o actions.Protect = refl
in-action g o actions.Bypass = refl
in-action g o actions.Discard = refl

in-entry : (g o : List ℕ) (p : Option SpdEntry) → is_arrival_answer (arrive.arrive_by_entry g o p) ≡ true
in-entry g o None = refl
in-entry g o (Some p) = in-action g o p.action

in-view : (g o : List ℕ) (own : Addr) (h : List Act) (r : Result Packet NotPacket)
    → is_answered_by is_arrival_answer (arrive.arrive_by_view g own h o r) ≡ true
in-view g o own h (Err fault) = refl
in-view g o own h (Ok v) =
    pick is_arrival_answer (arrive.is_sealed_for own v) (arrive.esp_acts g h v.payload)
    (arrive.arrive_by_entry g o (first_entry (force g h) In v) ∷ [])
    (pick is_arrival_answer (nat_lt (length v.payload) 34) (arrive.drops g why.Short)
    (arrive.arrive_by_half g h v.payload (by_spi (spi_of v.payload) (live g h))) refl
    (in-half g v.payload h (by_spi (spi_of v.payload) (live g h))))
    (first-of is_arrival_answer (arrive.arrive_by_entry g o (first_entry (force g h) In v)) [] (in-entry g o (first_entry (force g h) In v))
    refl)

pub one-arrive : (c : Gateway) (h : List Act) (o : List ℕ) → has_one_answer is_arrival_answer (gw_block c h (Arrive o)) ≡ true
unfolding arrive.arrive_acts
one-arrive c h o = in-view c.name o c.address (acts.Arrived c.name o ∷ h) (view_of o)

-- ---- other events

pub none-clock : (c : Gateway) (h : List Act) (t : ℕ) → list_any is_answer (gw_block c h (Clock t)) ≡ false
none-clock c h t =
    let now : List Act = acts.Now (max t (clock h)) ∷ h in
    some-if (nat_lt (clock h) t) (look c.name now (live c.name now)) [] (some-look c.name now (live c.name now)) refl

none-change : (g : List ℕ) (r : table.Outcome) (c : Change) → some (change_acts g r c) ≡ false
none-change g r changes.Nothing = refl
none-change g r changes.Spd = refl
none-change g r (changes.Put e) = refl
none-change g r (changes.Gone name) = refl

pub none-handle : (c : Gateway) (h : List Act) (request : Result Ask Fault) → list_any is_answer (gw_block c h (Handle request)) ≡ false
none-handle c h (Ok ask) =
    let r : table.Outcome = table.reply (tree_of c.name h) ask in
    some-append (change_acts c.name r r.change) (acts.Handled c.name (sessions.session_taken c.name h) (requests c.name h + 1) (answer_of r)
    ∷ []) (none-change c.name r r.change) refl
none-handle c h (Err fault) = refl
