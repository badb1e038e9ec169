-- Each event of the controller can be carried out, and what is counted at a gateway fits its type at any event.
use Rattle.std.proofs.Common.{◌≡◌, ℕ, ◌*◌, ◌<◌, ◌≤◌, true, List, [], ◌∷◌, length, Option, Some, None, slice_get, refl, sym, ◌∙◌, ap, subst, zero, suc, get_or}
use Rattle.std.specs.Option.{MatchOption, option_map}
use Rattle.std.specs.Prelude.{All}
use Rattle.std.specs.Str.{bytes_eq}
use Rattle.std.proofs.lemmas.Bool.{or_left, or_right}
use Rattle.std.proofs.lemmas.List.Elements.{All-map}
use Rattle.std.proofs.lemmas.Option.{slice_get-map, slice_get_within}
use Rattle.ikeless_tree.specs.Typed.{AreTypedPolicies, AreTypedRows}
use Rattle.ikeless_tree.specs.declared.command.Command.{Command}
use Rattle.ikeless_tree.specs.declared.command.Peer.{Peer}
use Rattle.ikeless_tree.specs.declared.order.Answer.{Answer}
use Rattle.ikeless_tree.specs.declared.order.Lane.TheVariants as lanes
use Rattle.ikeless_tree.specs.declared.order.Notice.{Notice}
use Rattle.reply_table.specs.Order.{ask_of}
use Rattle.reply_table.specs.Reply.{reply}
use Rattle.rc_resource.specs.Lists.{IsTree}
use Rattle.rc_resource.specs.Replies.{reply_of}
use Rattle.hist_acts.specs.declared.act.Act.{Act}
use Rattle.hist_acts.specs.declared.event.Event.TheVariants as events
use Rattle.hist_acts.specs.declared.event.Header.{Header}
use Rattle.hist_acts.specs.Gateways.{is_named}
use Rattle.hist_acts.specs.Past.{after, events_taken}
use Rattle.hist_acts.specs.Sessions.{answered, next_answer, next_notice, openings, orders}
use Rattle.hist_gateway.specs.Handle.{requests}
use Rattle.hist_controller.specs.Acts as controller
use Rattle.hist_controller.specs.Acts.{ControllerAct}
use Rattle.hist_controller.specs.Law.{block, peer_number}
use Rattle.hist_controller.specs.Table.{AllFit}
use Rattle.hist_controller.specs.Told.{Named, all_told, order_told}
use Rattle.hist_safety.proofs.Basics.{eq-nat, name-true}
use Rattle.hist_world.specs.Block.{Past, answer_event, by_event, hears, past_after, took}
use Rattle.hist_world.specs.Headers.{IsHeader}
use Rattle.hist_wire.specs.Wire.{line_at, pipe_at, request_at, response_at, under_way}
use Rattle.session_pipe.specs.Sessions.{KeepsSessions}
use Rattle.session_pipe.specs.UnderWay.{next_message}
use Rattle.session_pipe.proofs.Moves.{answer_next}
use Rattle.acts_spell.specs.Spelled.{IsSpelledHeader, IsTold}
use Rattle.ctl_core.specs.declared.acts.CtlEvent.{CtlEvent}
use Rattle.ctl_core.specs.declared.acts.CtlEvent.TheVariants as told
use Rattle.ctl_law.specs.Told.{MayBeTold, event_of}
use Rattle.world_steps.specs.Nodes.{Node}
use Rattle.world_steps.specs.Worlds.{World, node_at, number_of}
use Rattle.world_steps.specs.Conditions.{Answers, AreNamed, Gives, IsCounted, IsNextAnswer, Notices, at}
use Rattle.world_law.specs.Stands.{StandsFor, node_of}
use Rattle.world_law.proofs.Peers.{names-apart, peer-named}
use Rattle.world_law.proofs.Rests.{node-is, number-is}
use Rattle.world_law.proofs.Led.{known}
use Rattle.world_law.proofs.Follows.{IsOf, gateway-of, known-of, rests-of}
use Rattle.world_law.proofs.Gives.{Texts, gives}
use Rattle.world_law.proofs.Notices as notices
use Rattle.world_law.proofs.Replies as replies
use Rattle.world_law.proofs.Suffix.{Known}
use Rattle.world_law.proofs.Typed.{AreSpelled, policies-typed, rows-typed, tree-stands}

-- ---- names

has-name : (ps : List Peer) (i : ℕ) (p : Peer) → slice_get ps i ≡ Some p → is_named ps p.name ≡ true
has-name [] i p e = absurd (none-is p e) where
  none-is : (a : Peer) → None ≡ Some a → ⊥
  none-is a e = cc
has-name (q ∷ ps) zero p e = or_left (bytes_eq q.name p.name) (is_named ps p.name)
    (name-true q.name p.name (ap (λ (z : Peer). z.name) (some-is q p e))) where
      some-is : (a b : Peer) → Some a ≡ Some b → a ≡ b
      some-is a b e = cc
has-name (q ∷ ps) (suc i) p e = or_right (bytes_eq q.name p.name) (is_named ps p.name) (has-name ps i p e)

-- a name tells the number
pub number-there : (ps : List Peer) (i : ℕ) (p : Peer) → Named ps → slice_get ps i ≡ Some p → peer_number p.name ps ≡ i
number-there ps i p names e =
    let q = peer-named ps p.name (has-name ps i p e) in
    let j : ℕ = peer_number p.name ps in
    let apart = names-apart ps i j p q.0 names (slice_get_within ps i p e) (slice_get_within ps j q.0 q.1.place) e q.1.place in
    sym (eq-nat i j (sym apart ∙ name-true (q.0).name p.name q.1.name))

record Mapped (f : Peer → Node) (o : Option Peer) (n : Node) : Type 0 where
  peer : Peer
  is : o ≡ Some peer
  node : f peer ≡ n

mapped : (f : Peer → Node) (o : Option Peer) (n : Node) → option_map f o ≡ Some n → Mapped f o n
mapped f None n e = absurd (none-is n e) where
  none-is : (a : Node) → None ≡ Some a → ⊥
  none-is a e = cc
mapped f (Some p) n e = record { peer = p; is = refl; node = some-is (f p) n e } where
  some-is : (a b : Node) → Some a ≡ Some b → a ≡ b
  some-is a b e = cc

pub are-named : (header : Header) (p : Past) (w : World) → IsHeader header → StandsFor header p w → AreNamed w
are-named header p w i s j n e =
    let ps : List Peer = header.gateways in
    let f : Peer → Node = node_of header p.world in
    let m = mapped f (slice_get ps j) n (sym (slice_get-map f ps j) ∙ ap (λ ns. slice_get ns j) (sym s.nodes) ∙ e) in
    ap (λ (z : Node). number_of z.name w) (sym m.node) ∙ number-is header p.world w (m.peer).name (rests-of header p w s)
    ∙ number-there ps j m.peer i.named m.is

-- ---- what is counted

counted-one : (header : Header) (p : Past) (w : World) → StandsFor header p w → (q : Peer) → IsCounted w.taken (node_of header p.world q)
counted-one header p w s q =
    let few = s.told.few q.name in
    let t : events_taken p.world ≡ w.taken = sym s.taken in
    record {
      openings = subst (λ n. openings q.name p.world ≤ n) t few.openings;
      handled = subst (λ n. requests q.name p.world ≤ n) t few.handled;
      answered = subst (λ n. answered q.name (openings q.name p.world) p.world ≤ n) t few.answered;
      orders = subst (λ n. orders q.name (openings q.name p.world) p.world ≤ 2051 * n) t few.orders;
    }

pub are-counted : (header : Header) (p : Past) (w : World) → StandsFor header p w → All (IsCounted w.taken) w.nodes
are-counted header p w s =
    subst (λ ns. All (IsCounted w.taken) ns) (sym s.nodes)
    (All-map (IsCounted w.taken) (node_of header p.world) header.gateways (λ k d l. counted-one header p w s (get_or header.gateways k d)))

-- ---- what comes to the controller

gives-at : Texts → (header : Header) (p : Past) (w : World) (e : CtlEvent) (k : List Act) → IsSpelledHeader header → StandsFor header p w
    → MayBeTold w.controller e
    → AllFit (length header.gateways) (after p.controller (block header.gateways p.controller (event_of e)))
    → AreSpelled header.gateways (after k (all_told header.gateways (block header.gateways p.controller (event_of e)))) → Gives e w
gives-at t header p w e k i s may fit spelled =
    gives t header p.world k p.controller w e i.addresses
    (rests-of header p w s) s.controller s.told.lawful.meet.past s.told.plain may fit spelled

number-at : (header : Header) (p : Past) (w : World) (g : List ℕ) → StandsFor header p w → number_of g w ≡ peer_number g header.gateways
number-at header p w g s = number-is header p.world w g (rests-of header p w s)

known-at : (header : Header) (p : Past) (w : World) (g : List ℕ) → IsHeader header → is_named header.gateways g ≡ true
    → StandsFor header p w → number_of g w < length w.controller.stations
known-at header p w g i e s =
    let q = gateway-of header g p.world w i e (rests-of header p w s) in
    subst (λ n. n < length w.controller.stations) (sym (number-at header p w g s))
    (known header.gateways p.controller w.controller (peer_number g header.gateways) s.controller q.1.at.low)

-- the law's event at the controller has this number
at-number : (header : Header) (p : Past) (w : World) (g : List ℕ) (f : ℕ → CtlEvent) (k : List Act) → StandsFor header p w
    → AreSpelled header.gateways (after k (all_told header.gateways
    (block header.gateways p.controller (event_of (f (peer_number g header.gateways))))))
    → AreSpelled header.gateways (after k (all_told header.gateways (block header.gateways p.controller (event_of (f (number_of g w))))))
at-number header p w g f k s a = subst (λ n. AreSpelled header.gateways
    (after k (all_told header.gateways (block header.gateways p.controller (event_of (f n)))))) (sym (number-at header p w g s)) a

fit-number : (header : Header) (p : Past) (w : World) (g : List ℕ) (f : ℕ → CtlEvent) → StandsFor header p w
    → AllFit (length header.gateways) (after p.controller (block header.gateways p.controller
    (event_of (f (peer_number g header.gateways)))))
    → AllFit (length header.gateways) (after p.controller (block header.gateways p.controller (event_of (f (number_of g w)))))
fit-number header p w g f s a = subst (λ n. AllFit (length header.gateways)
    (after p.controller (block header.gateways p.controller (event_of (f n))))) (sym (number-at header p w g s)) a

pub open-gives : Texts → (header : Header) (p : Past) (g : List ℕ) (w : World) → IsSpelledHeader header → is_named header.gateways g ≡ true
    → StandsFor header p w
    → IsTold header (past_after (under_way header) header p (events.Open g)) → Gives (told.Opened (number_of g w)) w
open-gives t header p g w i e s a =
    gives-at t header p w (told.Opened (number_of g w)) (took p.world) i s (known-at header p w g i.sound e s)
    (fit-number header p w g told.Opened s a.lawful.meet.fit)
    (at-number header p w g told.Opened (took p.world) s a.spelled)

pub cut-gives : Texts → (header : Header) (p : Past) (g : List ℕ) (w : World) → IsSpelledHeader header → is_named header.gateways g ≡ true
    → StandsFor header p w
    → IsTold header (past_after (under_way header) header p (events.Cut g)) → Gives (told.Cut (number_of g w)) w
cut-gives t header p g w i e s a =
    gives-at t header p w (told.Cut (number_of g w)) (took p.world) i s (known-at header p w g i.sound e s)
    (fit-number header p w g told.Cut s a.lawful.meet.fit)
    (at-number header p w g told.Cut (took p.world) s a.spelled)

pub command-gives : Texts → (header : Header) (p : Past) (x : Command) (w : World) → IsSpelledHeader header → StandsFor header p w
    → AllFit (length header.gateways) (after p.controller (block header.gateways p.controller (controller.Told x)))
    → AreSpelled header.gateways (after (took p.world) (all_told header.gateways (block header.gateways p.controller (controller.Told x))))
    → Gives (told.Command x) w
command-gives t header p x w i s fit spelled = gives-at t header p w (told.Command x) (took p.world) i s tt fit spelled

-- ---- the next answer

none-up : (q : Peer) (h : List Act) → KeepsSessions h → next_answer q.name h ≡ None
    → next_message lanes.Up (pipe_at q.name q.address h) ≡ None
none-up q h keep e =
    let m : Option (List ℕ) = next_message lanes.Up (pipe_at q.name q.address h) in
    subst (λ v. MatchOption v (m ≡ None) (λ a. (w : List Act) × (m ≡ Some (response_at q.name w a)))) e
    (answer_next (request_at q.address) (response_at q.name) line_at q.name h keep)

answers-at : Texts → (header : Header) (p : Past) (g : List ℕ) (w : World) (q : Peer) (a : Option Answer) → IsSpelledHeader header
    → IsOf header g p.world w q → StandsFor header p w
    → next_answer g p.world ≡ a → AllFit (length header.gateways)
    (after p.controller (by_event header.gateways p.controller (answer_event (peer_number g header.gateways) a)))
    → AreSpelled header.gateways (after (took p.world) (all_told header.gateways
    (by_event header.gateways p.controller (answer_event (peer_number g header.gateways) a))))
    → Answers (node_of header p.world q) w a
answers-at t header p g w q None i o s next fit spelled = none-up q p.world s.told.sessions
    (ap (λ z. next_answer z p.world) o.is.name ∙ next)
answers-at t header p g w q (Some a) i o s next fit spelled =
    let ps : List Peer = header.gateways in
    let n : ℕ = peer_number g ps in
    let number : number_of q.name w ≡ n = o.number in
    let there : next_answer q.name p.world ≡ Some a = ap (λ z. next_answer z p.world) o.is.name ∙ next in
    let is = replies.next-is ps q n p.world p.controller a i.sound.named o.at.low o.at.place
    (known-of header p s.told) s.told.lawful.meet s.told.sessions s.told.replied there in
    let k : Known ps is.older = is.there in
    let tree = subst IsTree (sym is.is) (tree-stands ps q.name is.older k.acts k.lawful k.meet i.sound.named k.plain k.spelled) in
    let rows = subst (λ z. AreTypedRows z.sad) (sym is.is) (rows-typed ps q.name is.older k.lawful k.spelled) in
    let policies = subst (λ z. AreTypedPolicies z.spd) (sym is.is) (policies-typed ps q.name is.older k.spelled) in
    let may = replies.next-may ps q n p.world p.controller a w.controller i.sound.named s.controller o.at.low is in
    let gives = gives-at t header p w (told.Answered n a) (took p.world) i s
    (known ps p.controller w.controller n s.controller o.at.low, may) fit spelled in
    subst (λ j. IsNextAnswer (node_of header p.world q) j w.controller a × Gives (told.Answered j a) w) (sym number) (
      record {
        reply = reply_of (reply is.tree (ask_of (order_told ps is.order)));
        next = is.message;
        writable = t.replies is.tree (order_told ps is.order) tree rows policies is.order_is is.typed;
        order = order_told ps is.order;
        expected = replies.next-expected ps q n p.world p.controller a w.controller s.controller o.at.low is;
        says = replies.next-reads ps q n p.world p.controller a i.sound.named is;
      },
      gives,
    )

pub up-answers : Texts → (header : Header) (p : Past) (g : List ℕ) (w : World) → IsSpelledHeader header → is_named header.gateways g ≡ true
    → StandsFor header p w
    → IsTold header (past_after (under_way header) header p (events.Up g)) → at (λ n. Answers n w (next_answer g p.world)) (node_at g w)
up-answers t header p g w i e s a =
    let q = gateway-of header g p.world w i.sound e (rests-of header p w s) in
    subst (λ z. at (λ n. Answers n w (next_answer g p.world)) z) (sym (node-is header p.world w g q.0 (rests-of header p w s) q.1.is))
    (answers-at t header p g w q.0 (next_answer g p.world) i q.1 s refl a.lawful.meet.fit a.spelled)

-- ---- the next notice

notices-at : Texts → (header : Header) (p : Past) (g : List ℕ) (w : World) (q : Peer) (a : Option Notice) → IsSpelledHeader header
    → IsOf header g p.world w q → StandsFor header p w
    → next_notice g p.world ≡ a → AllFit (length header.gateways)
    (after p.controller (by_event header.gateways p.controller (hears (peer_number g header.gateways) a)))
    → AreSpelled header.gateways (after (took p.world) (all_told header.gateways
    (by_event header.gateways p.controller (hears (peer_number g header.gateways) a))))
    → Notices (node_of header p.world q) w a
notices-at t header p g w q None i o s next fit spelled = notices.none-next q p.world s.told.sessions
    (ap (λ z. next_notice z p.world) o.is.name ∙ next)
notices-at t header p g w q (Some a) i o s next fit spelled =
    let ps : List Peer = header.gateways in
    let n : ℕ = peer_number g ps in
    let number : number_of q.name w ≡ n = o.number in
    let there : next_notice q.name p.world ≡ Some a = ap (λ z. next_notice z p.world) o.is.name ∙ next in
    let is = notices.next-is ps q p.world a s.told.spelled there in
    let gives = gives-at t header p w (told.Noticed n a) (took p.world) i s
    (known ps p.controller w.controller n s.controller o.at.low) fit spelled in (
      record { seconds = is.seconds; next = is.message; heard = t.heard a is.seconds (notices.notice-is a is.spelled) is.typed is.small },
      subst (λ j. Gives (told.Noticed j a) w) (sym number) gives,
    )

pub note-notices : Texts → (header : Header) (p : Past) (g : List ℕ) (w : World) → IsSpelledHeader header
    → is_named header.gateways g ≡ true → StandsFor header p w
    → IsTold header (past_after (under_way header) header p (events.Note g)) → at (λ n. Notices n w (next_notice g p.world)) (node_at g w)
note-notices t header p g w i e s a =
    let q = gateway-of header g p.world w i.sound e (rests-of header p w s) in
    subst (λ z. at (λ n. Notices n w (next_notice g p.world)) z) (sym (node-is header p.world w g q.0 (rests-of header p w s) q.1.is))
    (notices-at t header p g w q.0 (next_notice g p.world) i q.1 s refl a.lawful.meet.fit a.spelled)
