-- The machine does what the law says.
use Rattle.std.proofs.Common.{◌≡◌, ◌⊎◌, inl, inr, ℕ, ◌+◌, ◌==◌, max, Bool, true, false, not, ◌&&◌, nat_le, nat_lt, List, [], ◌∷◌, ◌++◌, Option, Some, None, Result, Ok, Err, map, fold, length, refl, sym, ◌∙◌, ap, arith, if◌then◌else◌}
use Rattle.std.specs.Option.{option_map}
use Rattle.ikl_base.specs.declared.address.Addr.{Addr}
use Rattle.ip_packet.specs.declared.packet.NotPacket.{NotPacket}
use Rattle.ip_packet.specs.View.{Packet, view_of}
use Rattle.ikeless_tree.specs.declared.sad.SadEntry.{SadEntry}
use Rattle.ikeless_tree.specs.declared.sad.SadRow.{SadRow}
use Rattle.ikeless_tree.specs.declared.sad.Limits.{Limits}
use Rattle.ikeless_tree.specs.declared.entry.SpdEntry.{SpdEntry}
use Rattle.ikeless_tree.specs.declared.entry.Action.{Action}
use Rattle.ikeless_tree.specs.declared.entry.Action.TheVariants as actions
use Rattle.ikeless_tree.specs.declared.entry.Direction.TheVariants.{In, Out}
use Rattle.ikeless_tree.specs.declared.order.Notice.TheVariants as notices
use Rattle.ikeless_tree.specs.declared.drops.DropWhy.{DropWhy}
use Rattle.ikeless_tree.specs.declared.drops.DropWhy.TheVariants as why
use Rattle.ikeless_tree.specs.declared.ends.GoneWhy.TheVariants as gone
use Rattle.ikeless_tree.specs.Half.{is_inbound}
use Rattle.reply_table.specs.declared.ask.Ask.{Ask}
use Rattle.reply_table.specs.Reply.{reply}
use Rattle.replay_win.specs.declared.verdict.Verdict.{Verdict}
use Rattle.replay_win.specs.declared.verdict.Verdict.TheVariants as verdicts
use Rattle.replay_win.specs.Marks.{judged, marked, no_marks, verdict_over}
use Rattle.esp_frame.specs.Esp.{keying, spi_of}
use Rattle.esp_frame.specs.Open as esp
use Rattle.spd_match.specs.Match.{first_entry, holds_packet}
use Rattle.life_count.specs.Lifetime.{is_reached, expiry}
use Rattle.sad_store.specs.declared.half.Half.{Half}
use Rattle.sad_store.specs.Halves.{may_seal, send, take_number, newest_half, newer_half, half_by_spi}
use Rattle.hist_acts.specs.declared.act.Act.{Act}
use Rattle.hist_acts.specs.declared.act.Act.TheVariants as acts
use Rattle.hist_acts.specs.Past.{force, clock}
use Rattle.hist_acts.specs.Sessions as sessions
use Rattle.hist_halves.specs.Sealed.{by_spi, esp_of, number_from, number_of, payload_of, is_opened}
use Rattle.hist_halves.specs.Halves.{live, sent, numbers_taken}
use Rattle.hist_gateway.specs.Uses.{arrival, octets_in, counts, is_for}
use Rattle.hist_gateway.specs.Stands.{was_overflow_given}
use Rattle.hist_gateway.specs.Rows.{row_of, tree_of}
use Rattle.hist_gateway.specs.Datagram.{datagram, flow_of}
use Rattle.hist_gateway.specs.Look.{event_of, given_by, goings, expiries, look, tells}
use Rattle.hist_gateway.specs.Let.{newer, newest, unless, send_acts, let_by_half, let_by_action, let_by_entry, let_by_view, let_acts}
use Rattle.hist_gateway.specs.Arrive as arrive
use Rattle.hist_gateway.specs.Handle.{Fault, handle_acts, reply_acts, requests}
use Rattle.hist_gateway.specs.Block.{Gateway, GatewayEvent, Let, Arrive, Clock, Handle, Session_taken, gw_block, clock_acts}
use Rattle.hist_gateway.specs.State.{half_of, state_of, sent_under, given_under, opened_under}
use Rattle.hist_gateway.specs.Machine.{goings_of, expiries_of, look_of, sends_of, out_by_half, out_by_action, out_by_entry, out_by_view, uses_of, in_by_text, in_by_verdict, in_by_number, in_by_half, in_esp, in_by_view, row_from, tree_from, handles, ticks, acts_of}
use Rattle.hist_gateway.proofs.KeepsLemmas.{same-refl, sent-split, gave-split, opened-split, window-top, NumberFor, number-either}
use Rattle.hist_gateway.proofs.PlainReadings.{acquires-is}

-- ---- looks

goings-is : (g : List ℕ) (h : List Act) (es : List SadEntry) → goings_of g (clock h) (map (half_of g h) es) ≡ goings g h es
goings-is g h [] = refl
goings-is g h (e ∷ es) = ap (λ t. if is_reached e.hard (counts g e.name h) then acts.Gone g e.name gone.Hard ∷ t else t) (goings-is g h es)

expiries-is : (g : List ℕ) (h : List Act) (es : List SadEntry) → expiries_of g (sessions.session_taken g h) (clock h) (map (half_of g h) es)
    ≡ expiries g h es
expiries-is g h [] = refl
expiries-is g h (e ∷ es) = ap (λ t. given_by g (sessions.session_taken g h) (expiry e.name (counts g e.name h) (event_of g h e)) ++ t)
    (expiries-is g h es)

pub look-is : (g : List ℕ) (h : List Act) (es : List SadEntry) → look_of g (sessions.session_taken g h) (clock h) (map (half_of g h) es) ≡
    look g h es
look-is g h es = rw (goings-is g h es, expiries-is g h es) refl

-- ---- a packet from inside

newer-is : (f : SadEntry → Half) (g : List ℕ) (h : List Act) (r : ℕ) (v : Packet) (e : SadEntry) (b : Bool) →
    (if b then Some (half_of g h e) else None) ≡ option_map (half_of g h) (if b then Some e else None)
newer-is f g h r v e true = refl
newer-is f g h r v e false = refl

newest-step : (g : List ℕ) (h : List Act) (r : ℕ) (v : Packet) (e : SadEntry) (found : Option SadEntry) →
    newer_half r v (half_of g h e) (option_map (half_of g h) found) ≡ option_map (half_of g h) (newer r v e found)
newest-step g h r v e None = newer-is (half_of g h) g h r v e (may_seal r v e)
newest-step g h r v e (Some x) = refl

newest-is : (g : List ℕ) (h : List Act) (r : ℕ) (v : Packet) (es : List SadEntry) →
    newest_half r v (map (half_of g h) es) ≡ option_map (half_of g h) (newest r v es)
newest-is g h r v [] = refl
newest-is g h r v (e ∷ es) = rw (newest-is g h r v es) (newest-step g h r v e (newest r v es))

sends-is : (g : List ℕ) (h : List Act) (e : SadEntry) (n : ℕ) (d : List ℕ) → sends_of g (state_of g h) (half_of g h e) n d ≡ send_acts g h e
    n d
sends-is g h e n d =
    let a : Act = acts.Sent g e.name n d in
    let own = sent-split g g e.name d n h e true (same-refl g) (same-refl e.name) in
    let under : sent_under e.name (clock h) (octets_in (Some d)) (half_of g h e) ≡ send (clock h) (octets_in (Some d)) (half_of g h e) =
    rw (same-refl e.name) refl in
    let l = look-is g (a ∷ h) (e ∷ []) in
    let p = ap (λ x. a ∷ look_of g (sessions.session_taken g h) (clock h) (x ∷ [])) (own ∙ under) in
    sym p ∙ ap (λ t. a ∷ t) l

out-half : (g o : List ℕ) (q : ℕ) (h : List Act) (v : Packet) (p : SpdEntry) (found : Option SadEntry) →
    out_by_half g q (state_of g h) o v p (option_map (half_of g h) found) ≡ let_by_half g q h o v p found
out-half g o q h v p None =
    ap (λ b. acts.Drop g why.NoSa ∷ unless b (tells g h (notices.Acquire p.name (flow_of v)))) (acquires-is g p.name h)
out-half g o q h v p (Some e) =
    ap (λ t. if nat_le q (sent g e.name h) then acts.Drop g why.SeqLimit
    ∷ unless (was_overflow_given g e.name h) (tells g h (notices.SeqOverflow e.name)) else t)
    (sends-is g h e (sent g e.name h + 1) (datagram e (sent g e.name h + 1) v o))

out-action : (g o : List ℕ) (q : ℕ) (h : List Act) (v : Packet) (p : SpdEntry) (a : Action)
    → out_by_action g q (state_of g h) o v p a ≡ let_by_action g q h o v p a
out-action g o q h v p actions.Protect = rw (newest-is g h p.reqid v (live g h)) (out-half g o q h v p (newest p.reqid v (live g h)))
out-action g o q h v p actions.Bypass = refl
out-action g o q h v p actions.Discard = refl

out-entry : (g o : List ℕ) (q : ℕ) (h : List Act) (v : Packet) (p : Option SpdEntry) → out_by_entry g q (state_of g h) o v p ≡ let_by_entry
    g q h o v p
out-entry g o q h v None = refl
out-entry g o q h v (Some p) = out-action g o q h v p p.action

out-view : (g o : List ℕ) (q : ℕ) (h : List Act) (r : Result Packet NotPacket) → out_by_view g q (state_of g h) o r ≡ let_by_view g q h o r
out-view g o q h (Err fault) = refl
out-view g o q h (Ok v) =
    ap (λ t. if nat_lt 65000 (length o) then acts.Drop g why.TooLong ∷ [] else t) (out-entry g o q h v (first_entry (force g h) Out v))

let-is : (g o : List ℕ) (q : ℕ) (h : List Act) → out_by_view g q (state_of g h) o (view_of o) ≡ let_acts g q (acts.Let g o ∷ h) o
unfolding let_acts
let-is g o q h = out-view g o q (acts.Let g o ∷ h) (view_of o)

-- ---- a datagram from outside

-- the acts after which a half is looked at
abbrev pub UseAct : List ℕ → SadEntry → ℕ → Act → Type 0
UseAct g e n a = ((p : List ℕ) × (a ≡ acts.Gave g e.name n p)) ⊎ ((w : DropWhy) × (a ≡ acts.Drop g w) × (is_opened w ≡ true))

look-after : (g o : List ℕ) (h : List Act) (e : SadEntry) (n : ℕ) (a : Act) → sessions.session_taken g (a ∷ h) ≡ sessions.session_taken g h
    → clock (a ∷ h) ≡ clock h →
    look_of g (sessions.session_taken g h) (clock h) (half_of g (a ∷ h) e ∷ []) ≡ look_of g (sessions.session_taken g h) (clock h)
    (take_number (clock h) (octets_in (Some o)) n (half_of g h e) ∷ []) →
    uses_of g (state_of g h) o (half_of g h e) n a ≡ arrive.use_acts g h e a
look-after g o h e n a session now same =
    let l = look-is g (a ∷ h) (e ∷ []) in
    let m : look_of g (sessions.session_taken g h) (clock h) (half_of g (a ∷ h) e ∷ []) ≡ look g (a ∷ h) (e ∷ []) =
    ap (λ t. look_of g t (clock h) (half_of g (a ∷ h) e ∷ [])) (sym session)
    ∙ (ap (λ t. look_of g (sessions.session_taken g (a ∷ h)) t (half_of g (a ∷ h) e ∷ [])) (sym now) ∙ l) in
    ap (λ t. a ∷ t) (sym same ∙ m)

gave-look : (g o p : List ℕ) (h : List Act) (e : SadEntry) (n : ℕ) → arrival g h ≡ Some o →
    uses_of g (state_of g h) o (half_of g h e) n (acts.Gave g e.name n p) ≡ arrive.use_acts g h e (acts.Gave g e.name n p)
gave-look g o p h e n came =
    let own = gave-split g g e.name p n h e true (same-refl g) (same-refl e.name) in
    let under : given_under e.name (clock h) (octets_in (arrival g h)) n (half_of g h e) ≡ take_number (clock h) (octets_in (Some o)) n
    (half_of g h e) = rw (same-refl e.name, came) refl in
    look-after g o h e n (acts.Gave g e.name n p) refl refl (ap (λ x. look_of g (sessions.session_taken g h) (clock h) (x ∷ [])) (own
    ∙ under))

drop-look : (g o : List ℕ) (h : List Act) (e : SadEntry) (n : ℕ) (w : DropWhy) → arrival g h ≡ Some o
    → is_for e.name (live g h) (Some o) ≡ true → is_opened w ≡ true →
    uses_of g (state_of g h) o (half_of g h e) n (acts.Drop g w) ≡ arrive.use_acts g h e (acts.Drop g w)
drop-look g o h e n w came mine op = by-number (number-either e.name (half_of g h e).window.top (live g h) o)
  where
    by-number : NumberFor e.name (half_of g h e).window.top (live g h) o → uses_of g (state_of g h) o (half_of g h e) n (acts.Drop g w) ≡
        arrive.use_acts g h e (acts.Drop g w)
    by-number (inl p) = let no : true ≡ false = sym mine ∙ p.0 in cc
    by-number (inr (m, p, r)) =
        let own = opened-split g g w h e (same-refl g) op in
        let under : opened_under (live g h) (arrival g h) (clock h) (half_of g h e) ≡ take_number (clock h) (octets_in (Some o)) m
        (half_of g h e) = rw (came, r) refl in
        look-after g o h e n (acts.Drop g w) refl refl (ap (λ x. look_of g (sessions.session_taken g h) (clock h) (x ∷ [])) (own ∙ under))

use-look : (g o : List ℕ) (h : List Act) (e : SadEntry) (n : ℕ) (a : Act) → arrival g h ≡ Some o → is_for e.name (live g h) (Some o) ≡ true
    → UseAct g e n a →
    uses_of g (state_of g h) o (half_of g h e) n a ≡ arrive.use_acts g h e a
use-look g o h e n a came mine (inl (p, is)) = rw is (gave-look g o p h e n came)
use-look g o h e n a came mine (inr (w, is, op)) = rw is (drop-look g o h e n w came mine op)

use-selector : (g p : List ℕ) (e : SadEntry) (n : ℕ) (b : Bool)
    → UseAct g e n (if b then acts.Gave g e.name n p else acts.Drop g why.Selector)
use-selector g p e n true = inl (p, refl)
use-selector g p e n false = inr (why.Selector, refl, refl)

use-version : (g p : List ℕ) (e : SadEntry) (n : ℕ) (v : Packet) (b : Bool) →
    UseAct g e n (if b then acts.Drop g why.Inner else if holds_packet e.selector In v then acts.Gave g e.name n p
    else acts.Drop g why.Selector)
use-version g p e n v true = inr (why.Inner, refl, refl)
use-version g p e n v false = use-selector g p e n (holds_packet e.selector In v)

use-inner : (g p : List ℕ) (e : SadEntry) (n next : ℕ) (r : Result Packet NotPacket) → UseAct g e n (arrive.by_inner g e n next p r)
use-inner g p e n next (Err fault) = inr (why.Inner, refl, refl)
use-inner g p e n next (Ok v) = use-version g p e n v (not (arrive.is_told_version next p))

use-dummy : (g : List ℕ) (e : SadEntry) (n : ℕ) (p : esp.InnerPacket) (b : Bool) →
    UseAct g e n (if b then acts.Drop g why.Dummy else arrive.by_inner g e n p.next p.octets (view_of p.octets))
use-dummy g e n p true = inr (why.Dummy, refl, refl)
use-dummy g e n p false = use-inner g p.octets e n p.next (view_of p.octets)

pub use-packet : (g : List ℕ) (e : SadEntry) (n : ℕ) (p : Option esp.InnerPacket) → UseAct g e n (arrive.by_packet g e n p)
use-packet g e n None = inr (why.Padding, refl, refl)
use-packet g e n (Some p) = use-dummy g e n p (p.next == 59)

in-text : (g o : List ℕ) (h : List Act) (e : SadEntry) (n : ℕ) (text : Option (List ℕ)) → arrival g h ≡ Some o
    → is_for e.name (live g h) (Some o) ≡ true →
    in_by_text g (state_of g h) o (half_of g h e) n text ≡ arrive.by_text g h e n text
in-text g o h e n None came mine = refl
in-text g o h e n (Some x) came mine = use-look g o h e n (arrive.by_packet g e n (esp.inner_packet x)) came mine
    (use-packet g e n (esp.inner_packet x))

in-verdict : (g o b : List ℕ) (h : List Act) (e : SadEntry) (n : ℕ) (w : Verdict) → arrival g h ≡ Some o
    → is_for e.name (live g h) (Some o) ≡ true →
    in_by_verdict g (state_of g h) o b (half_of g h e) n w ≡ arrive.by_verdict g h b e n w
in-verdict g o b h e n verdicts.Zero came mine = refl
in-verdict g o b h e n verdicts.Old came mine = refl
in-verdict g o b h e n verdicts.Seen came mine = refl
in-verdict g o b h e n verdicts.Fresh came mine = in-text g o h e n (esp.opened (keying e.spi e.key) b) came mine

-- a window's verdict is that over all numbers taken
abbrev pub Judges : Type 0
Judges = (size : ℕ) (numbers_taken : List ℕ) (s : ℕ) → judged (fold marked (no_marks size) numbers_taken) s ≡ verdict_over size
    numbers_taken s

-- the found half is the one that the datagram is for
in-found : (g o b : List ℕ) (h : List Act) (found : Option SadEntry) → Judges → arrival g h ≡ Some o → esp_of o ≡ b
    → by_spi (spi_of b) (live g h) ≡ found →
    in_by_half g (state_of g h) o b (option_map (half_of g h) found) ≡ arrive.arrive_by_half g h b found
in-found g o b h None judges came same found = refl
in-found g o b h (Some e) judges came same found =
    let mine : is_for e.name (live g h) (Some o) ≡ true = rw (same, found) (same-refl e.name) in
    let n : ℕ = number_of e (numbers_taken g e.name h) b in
    ap (λ top. in_by_number g (state_of g h) o b (half_of g h e) (number_from e top b)) (window-top e.window (numbers_taken g e.name h))
    ∙ (ap (λ w. in_by_verdict g (state_of g h) o b (half_of g h e) n w) (judges e.window (numbers_taken g e.name h) n)
    ∙ in-verdict g o b h e n (verdict_over e.window (numbers_taken g e.name h) n) came mine)

spi-step : (g : List ℕ) (h : List Act) (e : SadEntry) (found : Option SadEntry) (rest : Option Half) (b : Bool)
    → rest ≡ option_map (half_of g h) found →
    (if b then Some (half_of g h e) else rest) ≡ option_map (half_of g h) (if b then Some e else found)
spi-step g h e found rest true same = refl
spi-step g h e found rest false same = same

spi-is : (g : List ℕ) (h : List Act) (spi : ℕ) (es : List SadEntry) → half_by_spi spi (map (half_of g h) es) ≡ option_map (half_of g h)
    (by_spi spi es)
spi-is g h spi [] = refl
spi-is g h spi (e ∷ es) =
    spi-step g h e (by_spi spi es) (half_by_spi spi (map (half_of g h) es)) (is_inbound e.name && (e.spi == spi)) (spi-is g h spi es)

in-esp : (g o b : List ℕ) (h : List Act) → Judges → arrival g h ≡ Some o → esp_of o ≡ b → in_esp g (state_of g h) o b ≡ arrive.esp_acts g h
    b
in-esp g o b h judges came same =
    ap (λ t. if nat_lt (length b) 34 then arrive.drops g why.Short else t)
    (ap (λ x. in_by_half g (state_of g h) o b x) (spi-is g h (spi_of b) (live g h)) ∙ in-found g o b h (by_spi (spi_of b) (live g h)) judges
    came same refl)

in-view : (g o : List ℕ) (own : Addr) (h : List Act) (r : Result Packet NotPacket) → Judges → arrival g h ≡ Some o → view_of o ≡ r →
    in_by_view g own (state_of g h) o r ≡ arrive.arrive_by_view g own h o r
in-view g o own h (Err fault) judges came seen = refl
in-view g o own h (Ok v) judges came seen =
    ap (λ t. if arrive.is_sealed_for own v then t else arrive.arrive_by_entry g o (first_entry (force g h) In v) ∷ [])
    (in-esp g o v.payload h judges came (ap payload_of seen))

arrive-is : (g o : List ℕ) (own : Addr) (h : List Act) → Judges → in_by_view g own (state_of g h) o (view_of o) ≡ arrive.arrive_acts g own
    (acts.Arrived g o ∷ h) o
unfolding arrive.arrive_acts
arrive-is g o own h judges = in-view g o own (acts.Arrived g o ∷ h) (view_of o) judges (rw (same-refl g) refl) refl

-- ---- the clock

clock-now : (t now : ℕ) → max (max t now) now ≡ max t now
clock-now t now = omega arith

clock-look : (g : List ℕ) (t : ℕ) (h : List Act) →
    look_of g (sessions.session_taken g h) (max t (clock h)) (map (half_of g h) (live g h)) ≡ look g (acts.Now (max t (clock h)) ∷ h)
    (live g h)
clock-look g t h =
    let l = look-is g (acts.Now (max t (clock h)) ∷ h) (live g h) in
    ap (λ now. look_of g (sessions.session_taken g h) now (map (half_of g h) (live g h))) (sym (clock-now t (clock h))) ∙ l

clock-is : (g : List ℕ) (t : ℕ) (h : List Act) → ticks g (state_of g h) t ≡ clock_acts g (acts.Now (max t (clock h)) ∷ h)
    (nat_lt (clock h) t)
clock-is g t h = ap (λ x. if nat_lt (clock h) t then x else []) (clock-look g t h)

-- ---- a request

abbrev row-with : SadEntry → Limits → ℕ → SadRow
row-with e c top = record { entry = e; state = record { current = c; top = top } }

pub row-is : (g : List ℕ) (h : List Act) (e : SadEntry) → row_from (clock h) (half_of g h e) ≡ row_of g h e
row-is g h e =
    ap (λ top. row-with e (counts g e.name h) (if is_inbound e.name then top else sent g e.name h))
    (window-top e.window (numbers_taken g e.name h))

rows-are : (g : List ℕ) (h : List Act) (es : List SadEntry) → map (row_from (clock h)) (map (half_of g h) es) ≡ map (row_of g h) es
rows-are g h [] = refl
rows-are g h (e ∷ es) = let r = row-is g h e in let ih = rows-are g h es in cc

tree-is : (g : List ℕ) (h : List Act) → tree_from (state_of g h) ≡ tree_of g h
tree-is g h = let r = rows-are g h (live g h) in cc

handle-is : (g : List ℕ) (h : List Act) (request : Result Ask Fault) → handles g (state_of g h) request ≡ handle_acts g
    (sessions.session_taken g h) (requests g h + 1) h request
handle-is g h (Ok ask) = ap (λ t. reply_acts g (sessions.session_taken g h) (requests g h + 1) (reply t ask)) (tree-is g h)
handle-is g h (Err fault) = refl

-- ---- the whole

pub acts-are : Judges → (c : Gateway) (h : List Act) (e : GatewayEvent) → acts_of c (state_of c.name h) e ≡ gw_block c h e
acts-are judges c h (Let o) = ap (λ t. acts.Let c.name o ∷ t) (let-is c.name o c.seq_last h)
acts-are judges c h (Arrive o) = ap (λ t. acts.Arrived c.name o ∷ t) (arrive-is c.name o c.address h judges)
acts-are judges c h (Clock t) = ap (λ x. acts.Now (max t (clock h)) ∷ x) (clock-is c.name t h)
acts-are judges c h (Handle request) = handle-is c.name h request
acts-are judges c h Session_taken = refl
