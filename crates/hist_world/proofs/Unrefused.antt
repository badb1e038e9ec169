-- No put of a history is refused.
use Rattle.std.proofs.Common.{◌≡◌, ℕ, ◌+◌, ◌≤◌, Bool, true, false, nat_lt, max, length, List, [], ◌∷◌, ◌++◌, Option, Some, None, refl, sym, ◌∙◌, ap, subst, append-nil, if◌then◌else◌}
use Rattle.std.proofs.lemmas.Bool.{and_from}
use Rattle.std.specs.Prelude.{find}
use Rattle.std.specs.List.{list_all}
use Rattle.std.specs.Str.{bytes_eq}
use Rattle.ikeless_tree.specs.declared.command.Peer.{Peer}
use Rattle.ikeless_tree.specs.declared.order.Order.{Order}
use Rattle.reply_table.specs.Order.{ask_of}
use Rattle.reply_table.specs.Reply.{reply}
use Rattle.hist_acts.specs.declared.act.Act.{Act}
use Rattle.hist_acts.specs.declared.act.Act.TheVariants as acts
use Rattle.hist_acts.specs.declared.event.Event.{Event}
use Rattle.hist_acts.specs.declared.event.Event.TheVariants as events
use Rattle.hist_acts.specs.declared.event.Header.{Header}
use Rattle.hist_acts.specs.Past.{after, clock}
use Rattle.hist_acts.specs.Sessions.{next_request, session_taken}
use Rattle.hist_halves.specs.Halves.{live}
use Rattle.hist_gateway.specs.Arrive.{arrive_acts}
use Rattle.hist_gateway.specs.Block as node
use Rattle.hist_gateway.specs.Handle.{answer_of, requests}
use Rattle.hist_gateway.specs.Let.{let_acts}
use Rattle.hist_gateway.specs.Rows.{tree_of}
use Rattle.hist_controller.specs.Acts as controller
use Rattle.hist_controller.specs.Acts.{Way}
use Rattle.hist_controller.specs.Halves.{PlainAnswers}
use Rattle.hist_controller.specs.Past.{left}
use Rattle.hist_controller.specs.Told.{all_told, told}
use Rattle.hist_controller.proofs.Few.{few-left}
use Rattle.hist_safety.proofs.Basics.{no, both-left, both-right}
use Rattle.hist_world.specs.Arrivals.{is_forged}
use Rattle.hist_world.specs.Block.{Past, Shows, arrival_of, arrives_at, at_gateway, block, boots, by_arrival, controller_acts, gateway_acts, gateway_at, handles_at, history, looks, nothing, past_after, raised, took, unless_forged, with_peer, is_forged_event}
use Rattle.hist_world.specs.Events.{AreEventsOf}
use Rattle.hist_world.specs.Headers.{IsHeader}
use Rattle.hist_world.specs.Puts.{NoneRefused}
use Rattle.hist_world.specs.Stands.{AreGenuine, Stands, past_at}
use Rattle.hist_world.proofs.Arrives.{ArriveAnswer, arrive-shape}
use Rattle.hist_world.proofs.Followers.{are_followers, is_follower, looks-follow}
use Rattle.hist_world.proofs.Lets.{LetAnswer, Shaped, let-shape}
use Rattle.hist_world.proofs.Made.{AllCreated, next-made, none-refused, plain, reply-made}
use Rattle.hist_world.proofs.Room.{few-live}
use Rattle.hist_world.proofs.Runs.{after-append, history-at, lawful-history, stands-at, start, step}

-- ---- acts that answer no request

abbrev is_silent : Act → Bool
is_silent (acts.Handled f s k a) = false
is_silent _ = true

abbrev are_silent : List Act → Bool
are_silent xs = list_all is_silent xs

one-silent : (a : Act) (h : List Act) → is_silent a ≡ true → AllCreated h → AllCreated (a ∷ h)
one-silent (acts.Handled f s k a) h e m = absurd (no e)
one-silent a h e m = m

silent-made : (h xs : List Act) → are_silent xs ≡ true → AllCreated h → AllCreated (after h xs)
silent-made h [] e m = m
silent-made h (a ∷ xs) e m = silent-made (a ∷ h) xs (both-right (is_silent a) (are_silent xs) e)
    (one-silent a h (both-left (is_silent a) (are_silent xs) e) m)

joined : (xs ys : List Act) → are_silent xs ≡ true → are_silent ys ≡ true → are_silent (xs ++ ys) ≡ true
joined [] ys p q = q
joined (a ∷ xs) ys p q = and_from (is_silent a) (are_silent (xs ++ ys)) (both-left (is_silent a) (are_silent xs) p)
    (joined xs ys (both-right (is_silent a) (are_silent xs) p) q)

follower-silent : (a : Act) → is_follower a ≡ true → is_silent a ≡ true
follower-silent (acts.Handled f s k a) e = absurd (no e)
follower-silent a e = refl

followers-silent : (xs : List Act) → are_followers xs ≡ true → are_silent xs ≡ true
followers-silent [] e = refl
followers-silent (a ∷ xs) e =
    and_from (is_silent a) (are_silent xs) (follower-silent a (both-left (is_follower a) (are_followers xs) e))
    (followers-silent xs (both-right (is_follower a) (are_followers xs) e))

let-silent : (g : List ℕ) (a : Act) → LetAnswer g a → is_silent a ≡ true
let-silent g (acts.Handled f s k a) e = absurd e
let-silent g a e = refl

arrive-silent : (g : List ℕ) (a : Act) → ArriveAnswer g a → is_silent a ≡ true
arrive-silent g (acts.Handled f s k a) e = absurd e
arrive-silent g a e = refl

shaped-silent : (ok : Act → Type 0) (xs : List Act) → ((a : Act) → ok a → is_silent a ≡ true) → Shaped ok xs → are_silent xs ≡ true
shaped-silent ok xs f s = ap are_silent s.parts ∙ and_from (is_silent s.first) (are_silent s.rest) (f s.first s.fits)
    (followers-silent s.rest s.follow)

lets-silent : (o : List ℕ) (w : List Act) (c : Option node.Gateway) → are_silent (at_gateway w (node.Let o) c) ≡ true
lets-silent o w None = refl
lets-silent o w (Some c) = shaped-silent (LetAnswer c.name) (let_acts c.name c.seq_last (acts.Let c.name o ∷ w) o) (let-silent c.name)
    (let-shape c.name o c.seq_last (acts.Let c.name o ∷ w))

forged-silent : (c : node.Gateway) (w : List Act) (o : List ℕ) (b : Bool)
    → are_silent (if b then acts.Arrived c.name o ∷ [] else node.gw_block c w (node.Arrive o)) ≡ true
forged-silent c w o true = refl
forged-silent c w o false =
    shaped-silent (ArriveAnswer c.name) (arrive_acts c.name c.address (acts.Arrived c.name o ∷ w) o) (arrive-silent c.name)
    (arrive-shape c.name c.address (acts.Arrived c.name o ∷ w) o)

arrives-silent : (w : List Act) (o : List ℕ) (c : Option node.Gateway) → are_silent (arrives_at w o c) ≡ true
arrives-silent w o None = refl
arrives-silent w o (Some c) = forged-silent c w o (is_forged c.name c.address w o)

arrival-silent : (header : Header) (w : List Act) (a : Option (List ℕ × List ℕ)) → are_silent (by_arrival header w a) ≡ true
arrival-silent header w None = refl
arrival-silent header w (Some a) = arrives-silent w a.1 (gateway_at header a.0)

raised-silent : (header : Header) (w : List Act) (b : Bool) → are_silent (raised header w b) ≡ true
raised-silent header w true = followers-silent (looks w header.gateways) (looks-follow w header.gateways)
raised-silent header w false = refl

boots-silent : (g : List ℕ) (c : Option node.Gateway) → are_silent (boots g c) ≡ true
boots-silent g None = refl
boots-silent g (Some c) = refl

one-told : (ps : List Peer) (a : controller.ControllerAct) → are_silent (told ps a) ≡ true
one-told ps (controller.Opened g s) = refl
one-told ps (controller.Cut g s) = refl
one-told ps (controller.Answered g s n a) = refl
one-told ps (controller.Heard g s t) = refl
one-told ps (controller.Ordered g s n o) = refl
one-told ps (controller.Accepted c) = refl
one-told ps (controller.Refused w) = refl

told-silent : (ps : List Peer) (xs : List controller.ControllerAct) → are_silent (all_told ps xs) ≡ true
told-silent ps [] = refl
told-silent ps (a ∷ xs) = joined (told ps a) (all_told ps xs) (one-told ps a) (told-silent ps xs)

-- ---- each event

silent-block : (shows : Shows) (header : Header) (p : Past) (e : Event) → are_silent (gateway_acts shows header (took p.world) e) ≡ true
    → AllCreated p.world → AllCreated (after p.world (block shows header p e))
silent-block shows header p e s m =
    let xs : List Act = gateway_acts shows header (took p.world) e in
    let ys : List Act = all_told header.gateways (controller_acts header p e) in
    silent-made (took p.world) (xs ++ ys) (joined xs ys s (told-silent header.gateways (controller_acts header p e))) m

handles-made : (header : Header) (p : Past) (g : List ℕ) (o : Option Order) (q : Option Peer) → IsHeader header → Stands header p
    → AllCreated p.world → next_request g (took p.world) ≡ o
    → AllCreated (after (took p.world) (handles_at (took p.world) (with_peer header g q) o))
handles-made header p g None q i s m e = m
handles-made header p g (Some o) None i s m e = m
handles-made header p g (Some o) (Some x) i s m e =
    let w : List Act = took p.world in
    let r = reply (tree_of g w) (ask_of o) in
    let made = next-made header.gateways w p.controller g o (s.ready, s.lawful) (record {
      part = s.meet.part;
      past = s.meet.past;
      fit =
          s.meet.fit;
    }) i.named m refl e in
    reply-made g (session_taken g w) (requests g w + 1) r (answer_of r) r.change w made m

down-made : (shows : Shows) (header : Header) (p : Past) (g : List ℕ) → IsHeader header → Stands header p → AllCreated p.world
    → AllCreated (after p.world (block shows header p (events.Down g)))
down-made shows header p g i s m =
    let w : List Act = took p.world in
    let xs : List Act = handles_at w (gateway_at header g) (next_request g w) in
    subst (λ (z : List Act). AllCreated (after w z)) (sym (append-nil xs))
    (handles-made header p g (next_request g w) (find (λ x. bytes_eq x.name g) header.gateways) i s m refl)

step-made : (shows : Shows) (header : Header) (p : Past) (e : Event) → IsHeader header → Stands header p → AllCreated p.world
    → AllCreated (after p.world (block shows header p e))
step-made shows header p (events.Down g) i s m = down-made shows header p g i s m
step-made shows header p (events.Let g o) i s m =
    silent-block shows header p (events.Let g o) (lets-silent o (took p.world) (gateway_at header g)) m
step-made shows header p (events.Now t) i s m =
    silent-block shows header p (events.Now t) (raised-silent header (acts.Now (max t (clock (took p.world))) ∷ took p.world)
    (nat_lt (clock (took p.world)) t)) m
step-made shows header p (events.Boot g) i s m = silent-block shows header p (events.Boot g) (boots-silent g (gateway_at header g)) m
step-made shows header p (events.Wire g lane) i s m = silent-block shows header p (events.Wire g lane) refl m
step-made shows header p e i s m = silent-block shows header p e (arrival-silent header (took p.world) (arrival_of (took p.world) e)) m

-- ---- all events

made-history : (shows : Shows) (header : Header) (p : Past) (es : List Event) → IsHeader header → AreEventsOf header es → Stands header p
    → AllCreated p.world
    → AllCreated (after p.world (history shows header p es))
made-history shows header p [] i k s m = m
made-history shows header p (e ∷ es) i k s m =
    made-case (is_forged_event header p e) refl (λ t. made-history shows header (past_after shows header p e) es i k.1 t
    (step-made shows header p e i s m)) where
      made-case : (b : Bool) → is_forged_event header p e ≡ b
          → (Stands header (past_after shows header p e)
          → AllCreated (after (past_after shows header p e).world (history shows header (past_after shows header p e) es)))
          → AllCreated (after p.world (block shows header p e ++ unless_forged b (history shows header (past_after shows header p e) es)))
      made-case true f ih = subst (λ (z : List Act). AllCreated (after p.world z)) (sym (append-nil (block shows header p e)))
          (step-made shows header p e i s m)
      made-case false f ih =
          subst AllCreated (sym (after-append p.world (block shows header p e) (history shows header (past_after shows header p e) es)))
          (ih (step shows header p e i k.0 s f).stands)

pub unrefused : (shows : Shows) (header : Header) (es : List Event) → IsHeader header → AreEventsOf header es
    → NoneRefused (after [] (history shows header nothing es))
unrefused shows header es i k =
    none-refused header.gateways (after [] (history shows header nothing es)) (lawful-history shows header nothing es i k (start header))
    (made-history shows header nothing es i k (start header) tt)

-- ---- so few halves are live

-- each put was answered with 201 or refused, for the controller
pub plain-at : (shows : Shows) (header : Header) (es : List Event) → IsHeader header → AreEventsOf header es
    → AreGenuine shows header nothing es
    → PlainAnswers (past_at shows header nothing es).controller
plain-at shows header es i k g =
    let p : Past = past_at shows header nothing es in
    let s = stands-at shows header nothing es i k g (start header) in
    plain header.gateways p.world p.controller s.lawful s.meet i.named (subst AllCreated (history-at shows header nothing es g)
    (made-history shows header nothing es i k (start header) tt))

pub left-at : (shows : Shows) (header : Header) (es : List Event) → IsHeader header → AreEventsOf header es
    → AreGenuine shows header nothing es
    → (d : Way) → length (left d (past_at shows header nothing es).controller) ≤ 2
left-at shows header es i k g d =
    let s = stands-at shows header nothing es i k g (start header) in
    few-left (length header.gateways) (past_at shows header nothing es).controller s.meet.past (plain-at shows header es i k g) d

pub live-at : (shows : Shows) (header : Header) (es : List Event) → IsHeader header → AreEventsOf header es
    → AreGenuine shows header nothing es
    → (g : List ℕ) → length (live g (past_at shows header nothing es).world) ≤ 4096
live-at shows header es i k g f =
    let p : Past = past_at shows header nothing es in
    let s = stands-at shows header nothing es i k g (start header) in
    few-live header.gateways p.world p.controller f s.lawful s.meet i.named (plain-at shows header es i k g)
