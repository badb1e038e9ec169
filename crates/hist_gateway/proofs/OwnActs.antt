-- The acts of a gateway are its own, so what other gateways keep stays.
use Rattle.std.proofs.Common.{◌≡◌, ℕ, ◌+◌, ◌==◌, Bool, true, false, not, nat_le, nat_lt, List, [], ◌∷◌, ◌++◌, length, Option, Some, None, Result, Ok, Err, refl, sym, ◌∙◌, ap, if◌then◌else◌}
use Rattle.std.proofs.lemmas.Bool.{or_parts, not-false, true≢false}
use Rattle.ikl_base.specs.declared.address.Addr.{Addr}
use Rattle.ip_packet.specs.declared.packet.NotPacket.{NotPacket}
use Rattle.ip_packet.specs.View.{Packet, view_of}
use Rattle.ikeless_tree.specs.declared.sad.SadEntry.{SadEntry}
use Rattle.ikeless_tree.specs.declared.entry.SpdEntry.{SpdEntry}
use Rattle.ikeless_tree.specs.declared.entry.Action.{Action}
use Rattle.ikeless_tree.specs.declared.entry.Action.TheVariants as actions
use Rattle.ikeless_tree.specs.declared.entry.Direction.TheVariants.{In, Out}
use Rattle.ikeless_tree.specs.declared.order.Notice.{Notice}
use Rattle.ikeless_tree.specs.declared.order.Notice.TheVariants as notices
use Rattle.ikeless_tree.specs.declared.drops.DropWhy.TheVariants as why
use Rattle.ikeless_tree.specs.declared.ends.GoneWhy.TheVariants as gone
use Rattle.reply_table.specs.declared.ask.Ask.{Ask}
use Rattle.reply_table.specs.declared.ask.Change.{Change}
use Rattle.reply_table.specs.declared.ask.Change.TheVariants as changes
use Rattle.reply_table.specs.Reply as table
use Rattle.replay_win.specs.declared.verdict.Verdict.{Verdict}
use Rattle.replay_win.specs.declared.verdict.Verdict.TheVariants as verdicts
use Rattle.replay_win.specs.Marks.{verdict_over}
use Rattle.esp_frame.specs.Esp.{keying, spi_of}
use Rattle.esp_frame.specs.Open as esp
use Rattle.spd_match.specs.Match.{first_entry, holds_packet}
use Rattle.life_count.specs.Lifetime.{is_reached, expiry}
use Rattle.hist_acts.specs.declared.act.Act.{Act}
use Rattle.hist_acts.specs.declared.act.Act.TheVariants as acts
use Rattle.hist_acts.specs.Past.{after, force}
use Rattle.hist_acts.specs.Sessions as sessions
use Rattle.hist_halves.specs.Sealed.{by_spi, number_of}
use Rattle.hist_halves.specs.Halves.{live, sent, numbers_taken}
use Rattle.hist_gateway.specs.Uses.{counts}
use Rattle.hist_gateway.specs.Stands.{does_acquire_stand, was_overflow_given, does_bad_spi_stand}
use Rattle.hist_gateway.specs.Rows.{tree_of}
use Rattle.hist_gateway.specs.Datagram.{fault_why, datagram, flow_of}
use Rattle.hist_gateway.specs.Look.{event_of, given_by, goings, expiries, look, tells}
use Rattle.hist_gateway.specs.Let.{newest, unless, send_acts, let_by_half, let_by_action, let_by_entry, let_by_view, let_acts}
use Rattle.hist_gateway.specs.Arrive as arrive
use Rattle.hist_gateway.specs.Handle.{Fault, answer_of, fault_answer, handle_acts, change_acts, requests}
use Rattle.hist_gateway.specs.Block.{Gateway, GatewayEvent, Let, Arrive, Clock, Handle, Session_taken, gw_block}
use Rattle.hist_gateway.specs.Answers.{is_strange, are_strange, is_clock_reading}
use Rattle.std.specs.Str.{bytes_eq}
use Rattle.ikeless_tree.specs.declared.drops.DropWhy.{DropWhy}
use Rattle.hist_gateway.specs.State.{state_of, quiet, is_at}
use Rattle.hist_gateway.specs.May.{IsNewHalf}
use Rattle.hist_gateway.proofs.KeepsLemmas.{keeps, did-away, same-refl, same-is}

abbrev own : List ℕ → List Act → Type 0
own g xs = are_strange g xs ≡ false

own-first : (g : List ℕ) (a : Act) (xs : List Act) → is_strange g a ≡ false → own g xs → own g (a ∷ xs)
own-first g a xs p q = rw p q

own-append : (g : List ℕ) (xs ys : List Act) → own g xs → own g ys → own g (xs ++ ys)
own-append g [] ys p q = q
own-append g (a ∷ xs) ys p q = let r = or_parts (is_strange g a) (are_strange g xs) p in
    own-first g a (xs ++ ys) r.0 (own-append g xs ys r.1 q)

own-if : (g : List ℕ) (b : Bool) (xs ys : List Act) → own g xs → own g ys → own g (if b then xs else ys)
own-if g true xs ys p q = p
own-if g false xs ys p q = q

own-unless : (g : List ℕ) (b : Bool) (xs : List Act) → own g xs → own g (unless b xs)
own-unless g true xs p = refl
own-unless g false xs p = p

mine : (g : List ℕ) → not (bytes_eq g g) ≡ false
mine g = rw (same-refl g) refl

own-given : (g : List ℕ) (s : ℕ) (ns : List Notice) → own g (given_by g s ns)
own-given g s [] = refl
own-given g s (n ∷ ns) = own-first g (acts.Notice g s n) (given_by g s ns) (mine g) (own-given g s ns)

own-tells : (g : List ℕ) (h : List Act) (n : Notice) → own g (tells g h n)
own-tells g h n = own-first g (acts.Notice g (sessions.session_taken g h) n) [] (mine g) refl

own-goings : (g : List ℕ) (h : List Act) (es : List SadEntry) → own g (goings g h es)
own-goings g h [] = refl
own-goings g h (e ∷ es) =
    own-if g (is_reached e.hard (counts g e.name h)) (acts.Gone g e.name gone.Hard ∷ goings g h es) (goings g h es)
    (own-first g (acts.Gone g e.name gone.Hard) (goings g h es) (mine g) (own-goings g h es)) (own-goings g h es)

own-expiries : (g : List ℕ) (h : List Act) (es : List SadEntry) → own g (expiries g h es)
own-expiries g h [] = refl
own-expiries g h (e ∷ es) =
    let ns : List Notice = expiry e.name (counts g e.name h) (event_of g h e) in
    own-append g (given_by g (sessions.session_taken g h) ns) (expiries g h es) (own-given g (sessions.session_taken g h) ns)
    (own-expiries g h es)

own-look : (g : List ℕ) (h : List Act) (es : List SadEntry) → own g (look g h es)
own-look g h es = own-append g (goings g h es) (expiries g h es) (own-goings g h es) (own-expiries g h es)

own-drop : (g : List ℕ) (w : DropWhy) (xs : List Act) → own g xs → own g (acts.Drop g w ∷ xs)
own-drop g w xs p = own-first g (acts.Drop g w) xs (mine g) p

-- ---- a packet from inside

own-half : (q : ℕ) (g o : List ℕ) (h : List Act) (v : Packet) (p : SpdEntry) (found : Option SadEntry)
    → own g (let_by_half g q h o v p found)
own-half q g o h v p None =
    let ns : List Act = tells g h (notices.Acquire p.name (flow_of v)) in
    own-drop g why.NoSa (unless (does_acquire_stand g p.name h) ns)
    (own-unless g (does_acquire_stand g p.name h) ns (own-tells g h (notices.Acquire p.name (flow_of v))))
own-half q g o h v p (Some e) =
    let ns : List Act = tells g h (notices.SeqOverflow e.name) in
    let n : ℕ = sent g e.name h + 1 in
    let a : Act = acts.Sent g e.name n (datagram e n v o) in
    own-if g (nat_le q (sent g e.name h)) (acts.Drop g why.SeqLimit ∷ unless (was_overflow_given g e.name h) ns)
    (send_acts g h e n (datagram e n v o))
    (own-drop g why.SeqLimit (unless (was_overflow_given g e.name h) ns)
    (own-unless g (was_overflow_given g e.name h) ns (own-tells g h (notices.SeqOverflow e.name))))
    (own-first g a (look g (a ∷ h) (e ∷ [])) (mine g) (own-look g (a ∷ h) (e ∷ [])))

own-action : (q : ℕ) (g o : List ℕ) (h : List Act) (v : Packet) (p : SpdEntry) (a : Action) → own g (let_by_action g q h o v p a)
own-action q g o h v p actions.Protect = own-half q g o h v p (newest p.reqid v (live g h))
own-action q g o h v p actions.Bypass = own-first g (acts.Clear g o) [] (mine g) refl
own-action q g o h v p actions.Discard = own-drop g why.Discard [] refl

own-entry : (q : ℕ) (g o : List ℕ) (h : List Act) (v : Packet) (p : Option SpdEntry) → own g (let_by_entry g q h o v p)
own-entry q g o h v None = own-drop g why.NoPolicy [] refl
own-entry q g o h v (Some p) = own-action q g o h v p p.action

own-view : (q : ℕ) (g o : List ℕ) (h : List Act) (r : Result Packet NotPacket) → own g (let_by_view g q h o r)
own-view q g o h (Err fault) = own-drop g (fault_why fault) [] refl
own-view q g o h (Ok v) =
    own-if g (nat_lt 65000 (length o)) (acts.Drop g why.TooLong ∷ []) (let_by_entry g q h o v (first_entry (force g h) Out v))
    (own-drop g why.TooLong [] refl)
    (own-entry q g o h v (first_entry (force g h) Out v))

own-let : (q : ℕ) (g o : List ℕ) (h : List Act) → own g (let_acts g q h o)
unfolding let_acts
own-let q g o h = own-view q g o h (view_of o)

-- ---- a datagram from outside

one-if : (g : List ℕ) (b : Bool) (x y : Act) → is_strange g x ≡ false → is_strange g y ≡ false → is_strange g (if b then x else y) ≡ false
one-if g true x y p q = p
one-if g false x y p q = q

one-inner : (g : List ℕ) (e : SadEntry) (n next : ℕ) (p : List ℕ) (r : Result Packet NotPacket)
    → is_strange g (arrive.by_inner g e n next p r) ≡ false
one-inner g e n next p (Err fault) = mine g
one-inner g e n next p (Ok v) =
    one-if g (not (arrive.is_told_version next p)) (acts.Drop g why.Inner) (if holds_packet e.selector In v then acts.Gave g e.name n p
    else acts.Drop g why.Selector) (mine g)
    (one-if g (holds_packet e.selector In v) (acts.Gave g e.name n p) (acts.Drop g why.Selector) (mine g) (mine g))

one-packet : (g : List ℕ) (e : SadEntry) (n : ℕ) (p : Option esp.InnerPacket) → is_strange g (arrive.by_packet g e n p) ≡ false
one-packet g e n None = mine g
one-packet g e n (Some p) = one-if g (p.next == 59) (acts.Drop g why.Dummy) (arrive.by_inner g e n p.next p.octets (view_of p.octets))
    (mine g) (one-inner g e n p.next p.octets (view_of p.octets))

own-text : (g : List ℕ) (h : List Act) (e : SadEntry) (n : ℕ) (x : Option (List ℕ)) → own g (arrive.by_text g h e n x)
own-text g h e n None = own-drop g why.Auth [] refl
own-text g h e n (Some x) =
    let a : Act = arrive.by_packet g e n (esp.inner_packet x) in
    own-first g a (look g (a ∷ h) (e ∷ [])) (one-packet g e n (esp.inner_packet x)) (own-look g (a ∷ h) (e ∷ []))

own-verdict : (g b : List ℕ) (h : List Act) (e : SadEntry) (n : ℕ) (w : Verdict) → own g (arrive.by_verdict g h b e n w)
own-verdict g b h e n verdicts.Zero = own-drop g why.Zero [] refl
own-verdict g b h e n verdicts.Old = own-drop g why.Old [] refl
own-verdict g b h e n verdicts.Seen = own-drop g why.Seen [] refl
own-verdict g b h e n verdicts.Fresh = own-text g h e n (esp.opened (keying e.spi e.key) b)

own-found : (g b : List ℕ) (h : List Act) (found : Option SadEntry) → own g (arrive.arrive_by_half g h b found)
own-found g b h None =
    let ns : List Act = tells g h (notices.BadSpi (spi_of b)) in
    own-drop g why.BadSpi (unless (does_bad_spi_stand g (spi_of b) h) ns) (own-unless g (does_bad_spi_stand g (spi_of b) h) ns
    (own-tells g h (notices.BadSpi (spi_of b))))
own-found g b h (Some e) =
    let n : ℕ = number_of e (numbers_taken g e.name h) b in
    own-verdict g b h e n (verdict_over e.window (numbers_taken g e.name h) n)

one-action : (g o : List ℕ) (a : Action) → is_strange g (arrive.arrive_by_action g o a) ≡ false
one-action g o actions.Protect = mine g
one-action g o actions.Bypass = mine g
one-action g o actions.Discard = mine g

one-entry : (g o : List ℕ) (p : Option SpdEntry) → is_strange g (arrive.arrive_by_entry g o p) ≡ false
one-entry g o None = mine g
one-entry g o (Some p) = one-action g o p.action

own-seen : (g o : List ℕ) (address : Addr) (h : List Act) (r : Result Packet NotPacket) → own g (arrive.arrive_by_view g address h o r)
own-seen g o address h (Err fault) = own-drop g (fault_why fault) [] refl
own-seen g o address h (Ok v) =
    own-if g (arrive.is_sealed_for address v) (arrive.esp_acts g h v.payload) (arrive.arrive_by_entry g o (first_entry (force g h) In v)
    ∷ [])
    (own-if g (nat_lt (length v.payload) 34) (arrive.drops g why.Short)
    (arrive.arrive_by_half g h v.payload (by_spi (spi_of v.payload) (live g h))) (own-drop g why.Short [] refl)
    (own-found g v.payload h (by_spi (spi_of v.payload) (live g h))))
    (own-first g (arrive.arrive_by_entry g o (first_entry (force g h) In v)) [] (one-entry g o (first_entry (force g h) In v)) refl)

own-arrive : (g o : List ℕ) (address : Addr) (h : List Act) → own g (arrive.arrive_acts g address h o)
unfolding arrive.arrive_acts
own-arrive g o address h = own-seen g o address h (view_of o)

-- ---- a request

own-change : (g : List ℕ) (r : table.Outcome) (c : Change) → own g (change_acts g r c)
own-change g r changes.Nothing = refl
own-change g r changes.Spd = own-first g (acts.Policy g r.tree.spd) [] (mine g) refl
own-change g r (changes.Put e) = own-first g (acts.Put g e) [] (mine g) refl
own-change g r (changes.Gone name) = own-first g (acts.Gone g name gone.Removed) [] (mine g) refl

own-handle : (g : List ℕ) (s k : ℕ) (h : List Act) (request : Result Ask Fault) → own g (handle_acts g s k h request)
own-handle g s k h (Ok ask) =
    let r : table.Outcome = table.reply (tree_of g h) ask in
    own-append g (change_acts g r r.change) (acts.Handled g s k (answer_of r) ∷ []) (own-change g r r.change)
    (own-first g (acts.Handled g s k (answer_of r)) [] (mine g) refl)
own-handle g s k h (Err fault) = own-first g (acts.Handled g s k (fault_answer fault)) [] (mine g) refl

-- ---- what another gateway keeps

own-block : (c : Gateway) (h : List Act) (e : GatewayEvent) → is_clock_reading e ≡ false → own c.name (gw_block c h e)
own-block c h (Let o) away = own-first c.name (acts.Let c.name o) (let_acts c.name c.seq_last (acts.Let c.name o ∷ h) o) (mine c.name)
    (own-let c.seq_last c.name o (acts.Let c.name o ∷ h))
own-block c h (Arrive o) away =
    own-first c.name (acts.Arrived c.name o) (arrive.arrive_acts c.name c.address (acts.Arrived c.name o ∷ h) o) (mine c.name)
    (own-arrive c.name o c.address (acts.Arrived c.name o ∷ h))
own-block c h (Clock t) away = cc
own-block c h (Handle request) away = own-handle c.name (sessions.session_taken c.name h) (requests c.name h + 1) h request
own-block c h Session_taken away = own-first c.name (acts.Opened c.name (sessions.openings c.name h + 1)) [] (mine c.name) refl

-- a name of one gateway isn't that of another
apart : (f g x : List ℕ) → not (bytes_eq f g) ≡ false → bytes_eq g x ≡ false → bytes_eq f x ≡ false
apart f g x mine other = ap (λ n. bytes_eq n x) (same-is f g (not-false (bytes_eq f g) mine)) ∙ other

elsewhere : (g x : List ℕ) (a : Act) → is_strange g a ≡ false → bytes_eq g x ≡ false → is_at x a ≡ false
elsewhere g x (acts.Now t) m o = cc
elsewhere g x (acts.Boot f) m o = cc
elsewhere g x (acts.Policy f list) m o = apart f g x m o
elsewhere g x (acts.Put f e) m o = apart f g x m o
elsewhere g x (acts.Gone f y w) m o = apart f g x m o
elsewhere g x (acts.Sent f y n d) m o = apart f g x m o
elsewhere g x (acts.Drop f w) m o = apart f g x m o
elsewhere g x (acts.Arrived f d) m o = apart f g x m o
elsewhere g x (acts.Gave f y n d) m o = apart f g x m o
elsewhere g x (acts.Opened f s) m o = apart f g x m o
elsewhere g x (acts.Handled f s k r) m o = apart f g x m o
elsewhere g x (acts.Notice f s n) m o = apart f g x m o
elsewhere g x a m o = refl

new-elsewhere : (x : List ℕ) (h : List Act) (a : Act) → is_at x a ≡ false → IsNewHalf x h a
new-elsewhere x h (acts.Put f e) away = λ at. absurd (true≢false (sym at ∙ away))
new-elsewhere x h a away = tt

stays : (g x : List ℕ) (h xs : List Act) → bytes_eq g x ≡ false → own g xs → quiet (state_of x (after h xs)) ≡ quiet (state_of x h)
stays g x h [] other m = refl
stays g x h (a ∷ xs) other m =
    let parts = or_parts (is_strange g a) (are_strange g xs) m in
    let away = elsewhere g x a parts.0 other in
    let k = keeps x h a (new-elsewhere x h a away) in
    let d = did-away x (state_of x h) a away in
    stays g x (a ∷ h) xs other parts.1 ∙ ap quiet (k ∙ sym d)

pub stays-elsewhere : (c : Gateway) (x : List ℕ) (h : List Act) (e : GatewayEvent) → bytes_eq c.name x ≡ false → is_clock_reading e ≡ false
    →
    quiet (state_of x (after h (gw_block c h e))) ≡ quiet (state_of x h)
stays-elsewhere c x h e other away = stays c.name x h (gw_block c h e) other (own-block c h e away)
