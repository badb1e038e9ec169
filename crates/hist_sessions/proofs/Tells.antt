-- The notices of gateways are of the sessions that they have.
use Rattle.std.proofs.Common.{◌≡◌, ℕ, ◌+◌, ◌==◌, Bool, true, false, not, nat_le, nat_lt, List, [], ◌∷◌, ◌++◌, length, Option, Some, None, Result, Ok, Err, refl, ◌∙◌, if◌then◌else◌}
use Rattle.ikl_base.specs.declared.address.Addr.{Addr}
use Rattle.ip_packet.specs.declared.packet.NotPacket.{NotPacket}
use Rattle.ip_packet.specs.View.{Packet, view_of}
use Rattle.ikeless_tree.specs.declared.sad.SadEntry.{SadEntry}
use Rattle.ikeless_tree.specs.declared.command.Peer.{Peer}
use Rattle.ikeless_tree.specs.declared.entry.SpdEntry.{SpdEntry}
use Rattle.ikeless_tree.specs.declared.entry.Action.{Action}
use Rattle.ikeless_tree.specs.declared.entry.Action.TheVariants as actions
use Rattle.ikeless_tree.specs.declared.entry.Direction.TheVariants.{In, Out}
use Rattle.ikeless_tree.specs.declared.order.Answer.{Answer}
use Rattle.ikeless_tree.specs.declared.order.Notice.{Notice}
use Rattle.ikeless_tree.specs.declared.order.Notice.TheVariants as notices
use Rattle.ikeless_tree.specs.declared.drops.DropWhy.TheVariants as why
use Rattle.ikeless_tree.specs.declared.ends.GoneWhy.TheVariants as gone
use Rattle.reply_table.specs.Reply.{Outcome}
use Rattle.reply_table.specs.declared.ask.Change.{Change}
use Rattle.reply_table.specs.declared.ask.Change.TheVariants as changes
use Rattle.replay_win.specs.declared.verdict.Verdict.{Verdict}
use Rattle.replay_win.specs.declared.verdict.Verdict.TheVariants as verdicts
use Rattle.replay_win.specs.Marks.{verdict_over}
use Rattle.esp_frame.specs.Esp.{keying, spi_of}
use Rattle.esp_frame.specs.Open as esp
use Rattle.spd_match.specs.Match.{first_entry, holds_packet}
use Rattle.life_count.specs.Lifetime.{is_reached, expiry}
use Rattle.hist_acts.specs.declared.act.Act.{Act}
use Rattle.hist_acts.specs.declared.act.Act.TheVariants as acts
use Rattle.hist_acts.specs.Past.{after, force}
use Rattle.hist_acts.specs.Sessions.{session_taken}
use Rattle.hist_halves.specs.Sealed.{by_spi, number_of}
use Rattle.hist_halves.specs.Halves.{live, sent, numbers_taken}
use Rattle.hist_gateway.specs.Uses.{counts}
use Rattle.hist_gateway.specs.Stands.{does_acquire_stand, was_overflow_given, does_bad_spi_stand}
use Rattle.hist_gateway.specs.Datagram.{datagram, flow_of}
use Rattle.hist_gateway.specs.Handle.{change_acts}
use Rattle.hist_gateway.specs.Look.{event_of, given_by, goings, expiries, look, tells}
use Rattle.hist_gateway.specs.Let.{newest, unless, send_acts, let_by_half, let_by_action, let_by_entry, let_by_view, let_acts}
use Rattle.hist_gateway.specs.Arrive as arrive
use Rattle.hist_world.specs.Block.{looks}

-- The notices among these acts are of the sessions that their gateways have, and none of the acts begins or ends a session or
-- hears of one.
abbrev pub AllTell : (List ℕ → ℕ) → List Act → Type 0
AllTell taken [] = Unit {0}
AllTell taken (acts.Notice f s n ∷ xs) = (s ≡ taken f) × AllTell taken xs
AllTell taken (acts.Opened f s ∷ xs) = ⊥
AllTell taken (acts.Boot f ∷ xs) = ⊥
AllTell taken (acts.Heard f s n ∷ xs) = ⊥
AllTell taken (_ ∷ xs) = AllTell taken xs

-- they leave the sessions as they are
pub stays-taken : (taken : List ℕ → ℕ) (g : List ℕ) (h xs : List Act) → AllTell taken xs → session_taken g (after h xs) ≡ session_taken g h
stays-taken taken g h [] t = refl
stays-taken taken g h (acts.Notice f s n ∷ xs) t = stays-taken taken g (acts.Notice f s n ∷ h) xs t.1
stays-taken taken g h (acts.Opened f s ∷ xs) t = absurd t
stays-taken taken g h (acts.Boot f ∷ xs) t = absurd t
stays-taken taken g h (acts.Heard f s n ∷ xs) t = absurd t
stays-taken taken g h (a ∷ xs) t = stays-taken taken g (a ∷ h) xs t

-- ---- lists of acts

pub joined : (taken : List ℕ → ℕ) (xs ys : List Act) → AllTell taken xs → AllTell taken ys → AllTell taken (xs ++ ys)
joined taken [] ys p q = q
joined taken (acts.Notice f s n ∷ xs) ys p q = (p.0, joined taken xs ys p.1 q)
joined taken (acts.Opened f s ∷ xs) ys p q = absurd p
joined taken (acts.Boot f ∷ xs) ys p q = absurd p
joined taken (acts.Heard f s n ∷ xs) ys p q = absurd p
joined taken (a ∷ xs) ys p q = joined taken xs ys p q

either : (taken : List ℕ → ℕ) (b : Bool) (xs ys : List Act) → AllTell taken xs → AllTell taken ys → AllTell taken (if b then xs else ys)
either taken true xs ys p q = p
either taken false xs ys p q = q

unless-tells : (taken : List ℕ → ℕ) (b : Bool) (xs : List Act) → AllTell taken xs → AllTell taken (unless b xs)
unless-tells taken true xs p = tt
unless-tells taken false xs p = p

-- the gateway has the session that is told of it
abbrev Takes : (List ℕ → ℕ) → List ℕ → List Act → Type 0
Takes taken g h = session_taken g h ≡ taken g

given-tells : (taken : List ℕ → ℕ) (g : List ℕ) (s : ℕ) (ns : List Notice) → s ≡ taken g → AllTell taken (given_by g s ns)
given-tells taken g s [] e = tt
given-tells taken g s (n ∷ ns) e = (e, given-tells taken g s ns e)

goings-tell : (taken : List ℕ → ℕ) (g : List ℕ) (h : List Act) (es : List SadEntry) → AllTell taken (goings g h es)
goings-tell taken g h [] = tt
goings-tell taken g h (e ∷ es) =
    either taken (is_reached e.hard (counts g e.name h)) (acts.Gone g e.name gone.Hard ∷ goings g h es) (goings g h es)
    (goings-tell taken g h es) (goings-tell taken g h es)

expiries-tell : (taken : List ℕ → ℕ) (g : List ℕ) (h : List Act) (es : List SadEntry) → Takes taken g h → AllTell taken (expiries g h es)
expiries-tell taken g h [] e = tt
expiries-tell taken g h (d ∷ es) e =
    let ns : List Notice = expiry d.name (counts g d.name h) (event_of g h d) in
    joined taken (given_by g (session_taken g h) ns) (expiries g h es) (given-tells taken g (session_taken g h) ns e)
    (expiries-tell taken g h es e)

pub look-tells : (taken : List ℕ → ℕ) (g : List ℕ) (h : List Act) (es : List SadEntry) → Takes taken g h → AllTell taken (look g h es)
look-tells taken g h es e = joined taken (goings g h es) (expiries g h es) (goings-tell taken g h es) (expiries-tell taken g h es e)

pub looks-tell : (taken : List ℕ → ℕ) (h : List Act) (ps : List Peer) → ((g : List ℕ) → Takes taken g h) → AllTell taken (looks h ps)
looks-tell taken h [] e = tt
looks-tell taken h (p ∷ ps) e =
    let xs : List Act = look p.name h (live p.name h) in
    let first : AllTell taken xs = look-tells taken p.name h (live p.name h) (e p.name) in
    joined taken xs (looks (after h xs) ps) first (looks-tell taken (after h xs) ps (λ g. stays-taken taken g h xs first ∙ e g))

-- ---- a packet from inside

half-tells : (taken : List ℕ → ℕ) (q : ℕ) (g o : List ℕ) (h : List Act) (v : Packet) (p : SpdEntry) (found : Option SadEntry)
    → Takes taken g h
    → AllTell taken (let_by_half g q h o v p found)
half-tells taken q g o h v p None e = unless-tells taken (does_acquire_stand g p.name h) (tells g h (notices.Acquire p.name (flow_of v)))
    (e, tt)
half-tells taken q g o h v p (Some d) e =
    let n : ℕ = sent g d.name h + 1 in
    let a : Act = acts.Sent g d.name n (datagram d n v o) in
    either taken (nat_le q (sent g d.name h)) (acts.Drop g why.SeqLimit
    ∷ unless (was_overflow_given g d.name h) (tells g h (notices.SeqOverflow d.name))) (send_acts g h d n (datagram d n v o))
    (unless-tells taken (was_overflow_given g d.name h) (tells g h (notices.SeqOverflow d.name)) (e, tt))
    (look-tells taken g (a ∷ h) (d ∷ []) e)

action-tells : (taken : List ℕ → ℕ) (q : ℕ) (g o : List ℕ) (h : List Act) (v : Packet) (p : SpdEntry) (a : Action) → Takes taken g h
    → AllTell taken (let_by_action g q h o v p a)
action-tells taken q g o h v p actions.Protect e = half-tells taken q g o h v p (newest p.reqid v (live g h)) e
action-tells taken q g o h v p actions.Bypass e = tt
action-tells taken q g o h v p actions.Discard e = tt

entry-tells : (taken : List ℕ → ℕ) (q : ℕ) (g o : List ℕ) (h : List Act) (v : Packet) (p : Option SpdEntry) → Takes taken g h
    → AllTell taken (let_by_entry g q h o v p)
entry-tells taken q g o h v None e = tt
entry-tells taken q g o h v (Some p) e = action-tells taken q g o h v p p.action e

view-tells : (taken : List ℕ → ℕ) (q : ℕ) (g o : List ℕ) (h : List Act) (r : Result Packet NotPacket) → Takes taken g h
    → AllTell taken (let_by_view g q h o r)
view-tells taken q g o h (Err fault) e = tt
view-tells taken q g o h (Ok v) e =
    either taken (nat_lt 65000 (length o)) (acts.Drop g why.TooLong ∷ []) (let_by_entry g q h o v (first_entry (force g h) Out v)) tt
    (entry-tells taken q g o h v (first_entry (force g h) Out v) e)

pub let-tells : (taken : List ℕ → ℕ) (q : ℕ) (g o : List ℕ) (h : List Act) → Takes taken g h → AllTell taken (let_acts g q h o)
unfolding let_acts
let-tells taken q g o h e = view-tells taken q g o h (view_of o) e

-- ---- a datagram from outside

-- an answer to a datagram, which tells nothing
abbrev IsAnswer : Act → Type 0
IsAnswer (acts.Gave f x n p) = Unit {0}
IsAnswer (acts.Pass f o) = Unit {0}
IsAnswer (acts.Drop f w) = Unit {0}
IsAnswer _ = ⊥

answer-if : (b : Bool) (x y : Act) → IsAnswer x → IsAnswer y → IsAnswer (if b then x else y)
answer-if true x y p q = p
answer-if false x y p q = q

inner-answer : (g : List ℕ) (d : SadEntry) (n next : ℕ) (p : List ℕ) (r : Result Packet NotPacket)
    → IsAnswer (arrive.by_inner g d n next p r)
inner-answer g d n next p (Err fault) = tt
inner-answer g d n next p (Ok v) =
    answer-if (not (arrive.is_told_version next p)) (acts.Drop g why.Inner) (if holds_packet d.selector In v then acts.Gave g d.name n p
    else acts.Drop g why.Selector) tt
    (answer-if (holds_packet d.selector In v) (acts.Gave g d.name n p) (acts.Drop g why.Selector) tt tt)

packet-answer : (g : List ℕ) (d : SadEntry) (n : ℕ) (p : Option esp.InnerPacket) → IsAnswer (arrive.by_packet g d n p)
packet-answer g d n None = tt
packet-answer g d n (Some p) =
    answer-if (p.next == 59) (acts.Drop g why.Dummy) (arrive.by_inner g d n p.next p.octets (view_of p.octets)) tt
    (inner-answer g d n p.next p.octets (view_of p.octets))

use-tells : (taken : List ℕ → ℕ) (g : List ℕ) (h : List Act) (d : SadEntry) (a : Act) → IsAnswer a → Takes taken g h
    → AllTell taken (arrive.use_acts g h d a)
use-tells taken g h d (acts.Gave f x n p) i e = look-tells taken g (acts.Gave f x n p ∷ h) (d ∷ []) e
use-tells taken g h d (acts.Pass f o) i e = look-tells taken g (acts.Pass f o ∷ h) (d ∷ []) e
use-tells taken g h d (acts.Drop f w) i e = look-tells taken g (acts.Drop f w ∷ h) (d ∷ []) e
use-tells taken g h d a i e = absurd i

text-tells : (taken : List ℕ → ℕ) (g : List ℕ) (h : List Act) (d : SadEntry) (n : ℕ) (x : Option (List ℕ)) → Takes taken g h
    → AllTell taken (arrive.by_text g h d n x)
text-tells taken g h d n None e = tt
text-tells taken g h d n (Some x) e = use-tells taken g h d (arrive.by_packet g d n (esp.inner_packet x))
    (packet-answer g d n (esp.inner_packet x)) e

verdict-tells : (taken : List ℕ → ℕ) (g : List ℕ) (h : List Act) (b : List ℕ) (d : SadEntry) (n : ℕ) (v : Verdict) → Takes taken g h
    → AllTell taken (arrive.by_verdict g h b d n v)
verdict-tells taken g h b d n verdicts.Zero e = tt
verdict-tells taken g h b d n verdicts.Old e = tt
verdict-tells taken g h b d n verdicts.Seen e = tt
verdict-tells taken g h b d n verdicts.Fresh e = text-tells taken g h d n (esp.opened (keying d.spi d.key) b) e

found-tells : (taken : List ℕ → ℕ) (g : List ℕ) (h : List Act) (b : List ℕ) (found : Option SadEntry) → Takes taken g h
    → AllTell taken (arrive.arrive_by_half g h b found)
found-tells taken g h b None e = unless-tells taken (does_bad_spi_stand g (spi_of b) h) (tells g h (notices.BadSpi (spi_of b))) (e, tt)
found-tells taken g h b (Some d) e =
    let n : ℕ = number_of d (numbers_taken g d.name h) b in
    verdict-tells taken g h b d n (verdict_over d.window (numbers_taken g d.name h) n) e

esp-tells : (taken : List ℕ → ℕ) (g : List ℕ) (h : List Act) (b : List ℕ) → Takes taken g h → AllTell taken (arrive.esp_acts g h b)
esp-tells taken g h b e =
    either taken (nat_lt (length b) 34) (arrive.drops g why.Short) (arrive.arrive_by_half g h b (by_spi (spi_of b) (live g h))) tt
    (found-tells taken g h b (by_spi (spi_of b) (live g h)) e)

clear-action : (taken : List ℕ → ℕ) (g o : List ℕ) (a : Action) → AllTell taken (arrive.arrive_by_action g o a ∷ [])
clear-action taken g o actions.Protect = tt
clear-action taken g o actions.Bypass = tt
clear-action taken g o actions.Discard = tt

clear-tells : (taken : List ℕ → ℕ) (g o : List ℕ) (p : Option SpdEntry) → AllTell taken (arrive.arrive_by_entry g o p ∷ [])
clear-tells taken g o None = tt
clear-tells taken g o (Some p) = clear-action taken g o p.action

arrival-tells : (taken : List ℕ → ℕ) (g : List ℕ) (own : Addr) (h : List Act) (o : List ℕ) (r : Result Packet NotPacket) → Takes taken g h
    → AllTell taken (arrive.arrive_by_view g own h o r)
arrival-tells taken g own h o (Err fault) e = tt
arrival-tells taken g own h o (Ok v) e =
    either taken (arrive.is_sealed_for own v) (arrive.esp_acts g h v.payload) (arrive.arrive_by_entry g o (first_entry (force g h) In v)
    ∷ [])
    (esp-tells taken g h v.payload e) (clear-tells taken g o (first_entry (force g h) In v))

pub arrive-tells : (taken : List ℕ → ℕ) (g : List ℕ) (own : Addr) (h : List Act) (o : List ℕ) → Takes taken g h
    → AllTell taken (arrive.arrive_acts g own h o)
unfolding arrive.arrive_acts
arrive-tells taken g own h o e = arrival-tells taken g own h o (view_of o) e

-- ---- a request

pub handled-tells : (taken : List ℕ → ℕ) (g : List ℕ) (s k : ℕ) (r : Outcome) (a : Answer) (c : Change)
    → AllTell taken (change_acts g r c ++ acts.Handled g s k a ∷ [])
handled-tells taken g s k r a changes.Nothing = tt
handled-tells taken g s k r a changes.Spd = tt
handled-tells taken g s k r a (changes.Put e) = tt
handled-tells taken g s k r a (changes.Gone name) = tt
