-- Each answer of a gateway is that of the reply over the databases as they were before its change.
use Rattle.std.proofs.Common.{◌≡◌, ℕ, ◌+◌, Bool, true, false, nat_lt, max, List, [], ◌∷◌, ◌++◌, Option, Some, None, Ok, refl, sym, ◌∙◌, ap, subst, append-nil, if◌then◌else◌}
use Rattle.std.proofs.lemmas.Bool.{and_from}
use Rattle.std.specs.List.{list_all}
use Rattle.std.specs.Prelude.{find}
use Rattle.std.specs.Str.{bytes_eq}
use Rattle.ip_packet.specs.Ttl.{with_ttl}
use Rattle.ikeless_tree.specs.declared.command.Peer.{Peer}
use Rattle.ikeless_tree.specs.declared.order.Order.{Order}
use Rattle.reply_table.specs.Order.{ask_of}
use Rattle.reply_table.specs.Reply.{Outcome, reply}
use Rattle.reply_table.specs.declared.ask.Change.{Change}
use Rattle.reply_table.specs.declared.ask.Change.TheVariants as changes
use Rattle.hist_acts.specs.declared.act.Act.{Act}
use Rattle.hist_acts.specs.declared.act.Act.TheVariants as acts
use Rattle.hist_acts.specs.declared.event.Event.{Event}
use Rattle.hist_acts.specs.declared.event.Event.TheVariants as events
use Rattle.hist_acts.specs.declared.event.Header.{Header}
use Rattle.hist_acts.specs.Past.{after, clock, events_taken}
use Rattle.hist_acts.specs.Sessions.{next_request, session_taken}
use Rattle.hist_gateway.specs.Block as node
use Rattle.hist_gateway.specs.Handle.{answer_of, change_acts, requests}
use Rattle.hist_gateway.specs.Rows.{tree_of}
use Rattle.hist_gateway.specs.Arrive.{arrive_acts}
use Rattle.hist_gateway.specs.Let.{let_acts}
use Rattle.hist_controller.specs.Acts.{ControllerAct, Opened, Cut, Answered, Heard, Ordered, Accepted, Refused}
use Rattle.hist_controller.specs.Told.{all_told}
use Rattle.hist_safety.proofs.Basics.{no, both-left, both-right}
use Rattle.hist_world.specs.Arrivals.{flipped, is_forged, sent_at}
use Rattle.hist_world.specs.Block.{Past, Shows, arrives_at, at_gateway, block, boots, clock_block, controller_acts, gateway_acts, gateway_at, handles_at, history, looks, is_forged_event, past_after, raised, took, unless_forged, with_peer}
use Rattle.hist_world.proofs.Arrives.{ArriveAnswer, arrive-shape}
use Rattle.hist_world.proofs.Followers.{are_followers, is_follower, looks-follow}
use Rattle.hist_world.proofs.Lets.{LetAnswer, Shaped, let-shape}
use Rattle.hist_world.proofs.Runs.{after-append}
use Rattle.hist_wire.specs.Replies.{AllReplied, IsReplied}

-- so it is of acts in their order after a past
abbrev AllReplies : List Act → List Act → Type 0
AllReplies h [] = Unit {0}
AllReplies h (a ∷ more) = IsReplied a h × AllReplies (a ∷ h) more

replies-append : (h xs ys : List Act) → AllReplies h xs → AllReplies (after h xs) ys → AllReplies h (xs ++ ys)
replies-append h [] ys p q = q
replies-append h (a ∷ xs) ys p q = (p.0, replies-append (a ∷ h) xs ys p.1 q)

-- ---- acts that handle no request

abbrev is_silent : Act → Bool
is_silent (acts.Handled f s k a) = false
is_silent _ = true

abbrev are_silent : List Act → Bool
are_silent xs = list_all is_silent xs

silent : (h xs : List Act) → are_silent xs ≡ true → AllReplies h xs
silent h [] e = tt
silent h (acts.Handled f s k a ∷ xs) e = absurd (no e)
silent h (a ∷ xs) e = (tt, silent (a ∷ h) xs e)

follower-silent : (a : Act) → is_follower a ≡ true → is_silent a ≡ true
follower-silent (acts.Handled f s k a) e = absurd (no e)
follower-silent a e = refl

followers-silent : (xs : List Act) → are_followers xs ≡ true → are_silent xs ≡ true
followers-silent [] e = refl
followers-silent (a ∷ xs) e =
    and_from (is_silent a) (are_silent xs) (follower-silent a (both-left (is_follower a) (are_followers xs) e))
    (followers-silent xs (both-right (is_follower a) (are_followers xs) e))

shaped-silent : (ok : Act → Type 0) (xs : List Act) → ((a : Act) → ok a → is_silent a ≡ true) → Shaped ok xs → are_silent xs ≡ true
shaped-silent ok xs f s = ap are_silent s.parts ∙ and_from (is_silent s.first) (are_silent s.rest) (f s.first s.fits)
    (followers-silent s.rest s.follow)

let-answer : (g : List ℕ) (a : Act) → LetAnswer g a → is_silent a ≡ true
let-answer g (acts.Handled f s k a) e = absurd e
let-answer g a e = refl

arrive-answer : (g : List ℕ) (a : Act) → ArriveAnswer g a → is_silent a ≡ true
arrive-answer g (acts.Handled f s k a) e = absurd e
arrive-answer g a e = refl

let-replies : (h : List Act) (o : List ℕ) (c : Option node.Gateway) → AllReplies h (at_gateway h (node.Let o) c)
let-replies h o None = tt
let-replies h o (Some c) =
    let w : List Act = acts.Let c.name o ∷ h in (
      tt,
      silent w (let_acts c.name c.seq_last w o) (shaped-silent (LetAnswer c.name) (let_acts c.name c.seq_last w o) (let-answer c.name)
          (let-shape c.name o c.seq_last w)),
    )

arrive-replies : (h : List Act) (o : List ℕ) (c : Option node.Gateway) → AllReplies h (arrives_at h o c)
arrive-replies h o None = tt
arrive-replies h o (Some c) = by-forgery (is_forged c.name c.address h o) where
  by-forgery : (b : Bool) → AllReplies h (if b then acts.Arrived c.name o ∷ [] else node.gw_block c h (node.Arrive o))
  by-forgery true = (tt, tt)
  by-forgery false =
      let w : List Act = acts.Arrived c.name o ∷ h in
      let xs : List Act = arrive_acts c.name c.address w o in
      (tt, silent w xs (shaped-silent (ArriveAnswer c.name) xs (arrive-answer c.name) (arrive-shape c.name c.address w o)))

raised-silent : (header : Header) (h : List Act) (b : Bool) → are_silent (raised header h b) ≡ true
raised-silent header h true = followers-silent (looks h header.gateways) (looks-follow h header.gateways)
raised-silent header h false = refl

boot-silent : (g : List ℕ) (c : Option node.Gateway) → are_silent (boots g c) ≡ true
boot-silent g None = refl
boot-silent g (Some c) = refl

told-silent : (ps : List Peer) (xs : List ControllerAct) → are_silent (all_told ps xs) ≡ true
told-silent ps [] = refl
told-silent ps (Opened g s ∷ xs) = told-silent ps xs
told-silent ps (Cut g s ∷ xs) = told-silent ps xs
told-silent ps (Answered g s n a ∷ xs) = told-silent ps xs
told-silent ps (Heard g s t ∷ xs) = told-silent ps xs
told-silent ps (Ordered g s n o ∷ xs) = told-silent ps xs
told-silent ps (Accepted c ∷ xs) = told-silent ps xs
told-silent ps (Refused w ∷ xs) = told-silent ps xs

-- ---- the answer to a request

name-case : (header : Header) (g : List ℕ) (c : node.Gateway) (p : Option Peer) → with_peer header g p ≡ Some c → c.name ≡ g
name-case header g c None e = cc
name-case header g c (Some p) e =
    let w : record { name = g; address = p.address; seq_last = header.seq_last } ≡ c = cc in
    sym (ap (λ (z : node.Gateway). z.name) w)

gateway-name : (header : Header) (g : List ℕ) (c : node.Gateway) → gateway_at header g ≡ Some c → c.name ≡ g
gateway-name header g c e = name-case header g c (find (λ p. bytes_eq p.name g) header.gateways) e

-- after the number of an event
change-replies : (g : List ℕ) (s k n : ℕ) (o : Order) (h : List Act) → next_request g (acts.Took n ∷ h) ≡ Some o → (c : Change)
    → (reply (tree_of g (acts.Took n ∷ h)) (ask_of o)).change ≡ c
    → AllReplies (acts.Took n ∷ h) (change_acts g (reply (tree_of g (acts.Took n ∷ h)) (ask_of o)) c
    ++ acts.Handled g s k (answer_of (reply (tree_of g (acts.Took n ∷ h)) (ask_of o))) ∷ [])
change-replies g s k n o h next changes.Nothing e = ((o, next, refl), tt)
change-replies g s k n o h next changes.Spd e = (tt, ((o, next, refl), tt))
change-replies g s k n o h next (changes.Put d) e = (tt, ((o, next, refl), tt))
change-replies g s k n o h next (changes.Gone x) e = (tt, ((o, next, refl), tt))

request-replies : (n : ℕ) (h : List Act) (o : Order) (c : Option node.Gateway)
    → ((d : node.Gateway) → c ≡ Some d → next_request d.name (acts.Took n ∷ h) ≡ Some o)
    → AllReplies (acts.Took n ∷ h) (at_gateway (acts.Took n ∷ h) (node.Handle (Ok (ask_of o))) c)
request-replies n h o None next = tt
request-replies n h o (Some c) next =
    let w : List Act = acts.Took n ∷ h in
    let r : Outcome = reply (tree_of c.name w) (ask_of o) in
    change-replies c.name (session_taken c.name w) (requests c.name w + 1) n o h (next c refl) r.change refl

down-replies : (header : Header) (g : List ℕ) (n : ℕ) (h : List Act) (o : Option Order) → next_request g (acts.Took n ∷ h) ≡ o
    → AllReplies (acts.Took n ∷ h) (handles_at (acts.Took n ∷ h) (gateway_at header g) o)
down-replies header g n h None e = tt
down-replies header g n h (Some o) e =
    request-replies n h o (gateway_at header g) (λ d at. ap (λ (z : List ℕ). next_request z (acts.Took n ∷ h)) (gateway-name header g d at)
    ∙ e)

-- ---- each event

alone : (h : List Act) (xs : List Act) → AllReplies h xs → AllReplies h (xs ++ [])
alone h xs m = subst (AllReplies h) (sym (append-nil xs)) m

told-replies : (header : Header) (p : Past) (xs : List ControllerAct) → AllReplies (took p.world) (all_told header.gateways xs)
told-replies header p xs = silent (took p.world) (all_told header.gateways xs) (told-silent header.gateways xs)

event-replies : (shows : Shows) (header : Header) (p : Past) (e : Event)
    → AllReplies (took p.world) (gateway_acts shows header (took p.world) e ++ all_told header.gateways (controller_acts header p e))
event-replies shows header p (events.Let g o) = alone (took p.world) _ (let-replies (took p.world) o (gateway_at header g))
event-replies shows header p (events.Arrive g o) = alone (took p.world) _ (arrive-replies (took p.world) o (gateway_at header g))
event-replies shows header p (events.ArriveSent g m) =
    alone (took p.world) _ (arrive-replies (took p.world) (sent_at m (took p.world)) (gateway_at header g))
event-replies shows header p (events.ArriveFlip g m offset bit) =
    alone (took p.world) _ (arrive-replies (took p.world) (flipped offset bit (sent_at m (took p.world))) (gateway_at header g))
event-replies shows header p (events.ArriveTtl g m ttl) =
    alone (took p.world) _ (arrive-replies (took p.world) (with_ttl ttl (sent_at m (took p.world))) (gateway_at header g))
event-replies shows header p (events.Now t) =
    let w : List Act = took p.world in
    let a : Act = acts.Now (max t (clock w)) in
    alone w (clock_block header w t) (
      tt,
      silent (a ∷ w) (raised header (a ∷ w) (nat_lt (clock w) t))
          (raised-silent header (a ∷ w) (nat_lt (clock w) t)),
    )
event-replies shows header p (events.Boot g) = alone (took p.world) _ (silent (took p.world) _ (boot-silent g (gateway_at header g)))
event-replies shows header p (events.Down g) =
    alone (took p.world) _ (down-replies header g (events_taken p.world + 1) p.world (next_request g (took p.world)) refl)
event-replies shows header p (events.Wire g lane) = (tt, tt)
event-replies shows header p (events.Open g) = told-replies header p (controller_acts header p (events.Open g))
event-replies shows header p (events.Cut g) = told-replies header p (controller_acts header p (events.Cut g))
event-replies shows header p (events.Up g) = told-replies header p (controller_acts header p (events.Up g))
event-replies shows header p (events.Note g) = told-replies header p (controller_acts header p (events.Note g))
event-replies shows header p (events.Policy g list) = told-replies header p (controller_acts header p (events.Policy g list))
event-replies shows header p (events.Tunnel spec) = told-replies header p (controller_acts header p (events.Tunnel spec))
event-replies shows header p (events.End reqid) = told-replies header p (controller_acts header p (events.End reqid))
event-replies shows header p (events.Rekey reqid) = told-replies header p (controller_acts header p (events.Rekey reqid))
event-replies shows header p (events.Keys key) = told-replies header p (controller_acts header p (events.Keys key))

-- ---- histories

more-replied : (h xs : List Act) → AllReplied h → AllReplies h xs → AllReplied (after h xs)
more-replied h [] l m = l
more-replied h (a ∷ xs) l m = more-replied (a ∷ h) xs (m.0, l) m.1

pub block-replied : (shows : Shows) (header : Header) (p : Past) (e : Event) → AllReplied p.world
    → AllReplied (after p.world (block shows header p e))
block-replied shows header p e l = more-replied p.world (block shows header p e) l (tt, event-replies shows header p e)

pub history-replied : (shows : Shows) (header : Header) (p : Past) (es : List Event) → AllReplied p.world
    → AllReplied (after p.world (history shows header p es))
history-replied shows header p [] l = l
history-replied shows header p (e ∷ es) l =
    by-forgery (is_forged_event header p e) (history-replied shows header (past_after shows header p e) es
    (block-replied shows header p e l)) where
      by-forgery : (b : Bool)
          → AllReplied (after (past_after shows header p e).world (history shows header (past_after shows header p e) es))
          → AllReplied (after p.world (block shows header p e ++ unless_forged b (history shows header (past_after shows header p e) es)))
      by-forgery true ih = subst (λ (z : List Act). AllReplied (after p.world z)) (sym (append-nil (block shows header p e)))
          (block-replied shows header p e l)
      by-forgery false ih =
          subst AllReplied (sym (after-append p.world (block shows header p e) (history shows header (past_after shows header p e) es))) ih

pub replied-there : (newer older : List Act) (a : Act) → AllReplied (newer ++ a ∷ older) → IsReplied a older
replied-there [] older a l = l.0
replied-there (b ∷ newer) older a l = replied-there newer older a l.1
