-- Every history keeps its sessions.
use Rattle.std.proofs.Common.{◌≡◌, ℕ, ◌+◌, Bool, true, false, nat_lt, max, List, [], ◌∷◌, ◌++◌, Option, Some, None, Ok, refl, sym, ◌∙◌, ap, subst, append-nil, if◌then◌else◌}
use Rattle.ip_packet.specs.Ttl.{with_ttl}
use Rattle.ikeless_tree.specs.declared.command.Command.{Command}
use Rattle.ikeless_tree.specs.declared.command.Command.TheVariants as commands
use Rattle.ikeless_tree.specs.declared.command.Peer.{Peer}
use Rattle.ikeless_tree.specs.declared.order.Answer.{Answer}
use Rattle.ikeless_tree.specs.declared.order.Notice.{Notice}
use Rattle.ikeless_tree.specs.declared.order.Order.{Order}
use Rattle.reply_table.specs.Order.{ask_of}
use Rattle.reply_table.specs.Reply.{reply}
use Rattle.hist_acts.specs.declared.act.Act.{Act}
use Rattle.hist_acts.specs.declared.act.Act.TheVariants as acts
use Rattle.hist_acts.specs.declared.event.Event.{Event}
use Rattle.hist_acts.specs.declared.event.Event.TheVariants as events
use Rattle.hist_acts.specs.declared.event.Header.{Header}
use Rattle.hist_acts.specs.Past.{after, clock}
use Rattle.hist_acts.specs.Sessions.{answer_at, answered, is_open, next_answer, next_notice, next_request, openings, session_taken}
use Rattle.hist_gateway.specs.Block as node
use Rattle.hist_gateway.specs.Handle.{answer_of, requests}
use Rattle.hist_gateway.specs.Rows.{tree_of}
use Rattle.hist_controller.specs.Acts as controller
use Rattle.hist_controller.specs.Law.{peer_number}
use Rattle.hist_controller.specs.Told.{all_told, peer_name}
use Rattle.hist_safety.specs.Law.{IsLawful, MayHappen}
use Rattle.hist_safety.proofs.Basics.{no}
use Rattle.hist_safety.proofs.Blocks.{lawful-before}
use Rattle.hist_world.specs.Arrivals.{flipped, is_forged, sent_at}
use Rattle.hist_world.specs.Block.{Past, Shows, answer_event, arrives_at, at_gateway, block, boots, by_event, clock_block, controller_acts, gateway_acts, gateway_at, handles_at, hears, history, is_forged_event, past_after, raised, took, unless_forged}
use Rattle.hist_world.specs.Events.{AreEventsOf, IsEventOf, IsKnown}
use Rattle.hist_world.specs.Headers.{IsHeader}
use Rattle.hist_world.specs.Stands.{Meet, Stands}
use Rattle.hist_world.proofs.Runs.{after-append, lawful-history, name-number, step}
use Rattle.hist_blocks.proofs.Histories.{history-one}
use Rattle.session_pipe.specs.Sessions.{KeepsSessions, MayStand}
use Rattle.hist_sessions.proofs.Hears.{AllBesides, Besides, block-besides}
use Rattle.hist_sessions.proofs.Tells.{AllTell, arrive-tells, handled-tells, let-tells, looks-tell}

-- ---- the acts of gateways

-- after a past with these sessions
tell-besides : (taken : List ℕ → ℕ) (h xs : List Act) → ((g : List ℕ) → session_taken g h ≡ taken g) → AllTell taken xs → AllBesides h xs
tell-besides taken h [] e t = tt
tell-besides taken h (acts.Notice f s n ∷ xs) e t = (t.0 ∙ sym (e f), tell-besides taken (acts.Notice f s n ∷ h) xs e t.1)
tell-besides taken h (acts.Opened f s ∷ xs) e t = absurd t
tell-besides taken h (acts.Boot f ∷ xs) e t = absurd t
tell-besides taken h (acts.Heard f s n ∷ xs) e t = absurd t
tell-besides taken h (a ∷ xs) e t = (tt, tell-besides taken (a ∷ h) xs e t)

abbrev Takes : List Act → List ℕ → ℕ
Takes h g = session_taken g h

gateway-besides : (h xs : List Act) → AllTell (Takes h) xs → AllBesides h xs
gateway-besides h xs t = tell-besides (Takes h) h xs (λ g. refl) t

let-acts : (h : List Act) (o : List ℕ) (c : Option node.Gateway) → AllTell (Takes h) (at_gateway h (node.Let o) c)
let-acts h o None = tt
let-acts h o (Some c) = let-tells (Takes h) c.seq_last c.name o (acts.Let c.name o ∷ h) refl

arrive-acts : (h : List Act) (o : List ℕ) (c : Option node.Gateway) → AllTell (Takes h) (arrives_at h o c)
arrive-acts h o None = tt
arrive-acts h o (Some c) = by-forgery (is_forged c.name c.address h o) where
  by-forgery : (b : Bool) → AllTell (Takes h) (if b then acts.Arrived c.name o ∷ [] else node.gw_block c h (node.Arrive o))
  by-forgery true = tt
  by-forgery false = arrive-tells (Takes h) c.name c.address (acts.Arrived c.name o ∷ h) o refl

request-acts : (h : List Act) (o : Order) (c : Option node.Gateway) → AllTell (Takes h) (at_gateway h (node.Handle (Ok (ask_of o))) c)
request-acts h o None = tt
request-acts h o (Some c) =
    let r = reply (tree_of c.name h) (ask_of o) in
    handled-tells (Takes h) c.name (session_taken c.name h) (requests c.name h + 1) r (answer_of r) r.change

down-acts : (h : List Act) (o : Option Order) (c : Option node.Gateway) → AllTell (Takes h) (handles_at h c o)
down-acts h None c = tt
down-acts h (Some o) c = request-acts h o c

raised-acts : (taken : List ℕ → ℕ) (header : Header) (h : List Act) (b : Bool) → ((g : List ℕ) → session_taken g h ≡ taken g)
    → AllTell taken (raised header h b)
raised-acts taken header h true e = looks-tell taken h header.gateways e
raised-acts taken header h false e = tt

boot-besides : (g : List ℕ) (h : List Act) (c : Option node.Gateway) → AllBesides h (boots g c)
boot-besides g h None = tt
boot-besides g h (Some c) = (tt, tt)

-- ---- each event

-- with no act of the controller
alone : (h : List Act) (xs : List Act) → AllBesides h xs → AllBesides h (xs ++ [])
alone h xs m = subst (AllBesides h) (sym (append-nil xs)) m

took-meet : (header : Header) (p : Past) → Stands header p → Meet header.gateways (took p.world) p.controller
took-meet header p s = record { part = s.meet.part; past = s.meet.past; fit = s.meet.fit }

hears-besides : (header : Header) (p : Past) (g : List ℕ) (t : Option Notice) → IsHeader header → IsKnown header g → Stands header p
    → next_notice g (took p.world) ≡ t
    → AllBesides (took p.world) (all_told header.gateways (by_event header.gateways p.controller (hears (peer_number g header.gateways) t)))
hears-besides header p g None i k s e = tt
hears-besides header p g (Some t) i k s e =
    let n : ℕ = peer_number g header.gateways in
    let next : next_notice (peer_name header.gateways n) (took p.world) ≡ Some t =
    ap (λ (z : List ℕ). next_notice z (took p.world)) (name-number g header.gateways k) ∙ e in
    block-besides header.gateways (took p.world) p.controller (controller.Notices n t) i.named (took-meet header p s) (k, next)

answers-besides : (header : Header) (p : Past) (n : ℕ) (a : Option Answer) → IsHeader header → Stands header p
    → AllBesides (took p.world) (all_told header.gateways (by_event header.gateways p.controller (answer_event n a)))
answers-besides header p n None i s = tt
answers-besides header p n (Some a) i s = block-besides header.gateways (took p.world) p.controller (controller.Answers n a) i.named
    (took-meet header p s) tt

commanded : (header : Header) (p : Past) (c : Command) → IsHeader header → Stands header p
    → AllBesides (took p.world) (all_told header.gateways (by_event header.gateways p.controller (Some (controller.Told c))))
commanded header p c i s = block-besides header.gateways (took p.world) p.controller (controller.Told c) i.named (took-meet header p s) tt

event-besides : (shows : Shows) (header : Header) (p : Past) (e : Event) → IsHeader header → IsEventOf header e → Stands header p
    → AllBesides (took p.world) (gateway_acts shows header (took p.world) e ++ all_told header.gateways (controller_acts header p e))
event-besides shows header p (events.Let g o) i k s =
    alone (took p.world) _ (gateway-besides (took p.world) _ (let-acts (took p.world) o (gateway_at header g)))
event-besides shows header p (events.Arrive g o) i k s =
    alone (took p.world) _ (gateway-besides (took p.world) _ (arrive-acts (took p.world) o (gateway_at header g)))
event-besides shows header p (events.ArriveSent g m) i k s =
    alone (took p.world) _ (gateway-besides (took p.world) _ (arrive-acts (took p.world) (sent_at m (took p.world)) (gateway_at header g)))
event-besides shows header p (events.ArriveFlip g m offset bit) i k s =
    alone (took p.world) _ (gateway-besides (took p.world) _ (arrive-acts (took p.world) (flipped offset bit (sent_at m (took p.world)))
    (gateway_at header g)))
event-besides shows header p (events.ArriveTtl g m ttl) i k s =
    alone (took p.world) _ (gateway-besides (took p.world) _ (arrive-acts (took p.world) (with_ttl ttl (sent_at m (took p.world)))
    (gateway_at header g)))
event-besides shows header p (events.Now t) i k s =
    let w : List Act = took p.world in
    let a : Act = acts.Now (max t (clock w)) in
    alone w (clock_block header w t) (gateway-besides w (clock_block header w t) (raised-acts (Takes w) header (a ∷ w) (nat_lt (clock w) t)
    (λ g. refl)))
event-besides shows header p (events.Boot g) i k s = alone (took p.world) _ (boot-besides g (took p.world) (gateway_at header g))
event-besides shows header p (events.Down g) i k s =
    alone (took p.world) _
    (gateway-besides (took p.world) _ (down-acts (took p.world) (next_request g (took p.world)) (gateway_at header g)))
event-besides shows header p (events.Wire g lane) i k s = (tt, tt)
event-besides shows header p (events.Open g) i k s = block-besides header.gateways (took p.world) p.controller
    (controller.Opens (peer_number g header.gateways)) i.named (took-meet header p s) k
event-besides shows header p (events.Cut g) i k s = block-besides header.gateways (took p.world) p.controller
    (controller.Cuts (peer_number g header.gateways)) i.named (took-meet header p s) tt
event-besides shows header p (events.Up g) i k s = answers-besides header p (peer_number g header.gateways) (next_answer g p.world) i s
event-besides shows header p (events.Note g) i k s = hears-besides header p g (next_notice g p.world) i k s refl
event-besides shows header p (events.Policy g list) i k s = commanded header p (commands.Policy g list) i s
event-besides shows header p (events.Tunnel spec) i k s = commanded header p (commands.Tunnel spec) i s
event-besides shows header p (events.End reqid) i k s = commanded header p (commands.End reqid) i s
event-besides shows header p (events.Rekey reqid) i k s = commanded header p (commands.Rekey reqid) i s
event-besides shows header p (events.Keys key) i k s = commanded header p (commands.Keys key) i s

-- ---- with the law of the whole

next-is : (g : List ℕ) (s k : ℕ) (a : Answer) (h : List Act) → is_open g h ≡ true → s ≡ openings g h → k ≡ answered g s h + 1
    → answer_at g s k h ≡ Some a → next_answer g h ≡ Some a
next-is g s k a h o is n at =
    let one : answer_at g s (answered g s h + 1) h ≡ Some a = ap (λ (z : ℕ). answer_at g s z h) (sym n) ∙ at in
    let own : answer_at g (openings g h) (answered g (openings g h) h + 1) h ≡ Some a =
    subst (λ (z : ℕ). answer_at g z (answered g z h + 1) h ≡ Some a) is one in
    where-open (is_open g h) o own where
      where-open : (b : Bool) → b ≡ true → answer_at g (openings g h) (answered g (openings g h) h + 1) h ≡ Some a
          → (if b then answer_at g (openings g h) (answered g (openings g h) h + 1) h else None) ≡ Some a
      where-open true e p = p
      where-open false e p = absurd (no e)

may-stand : (gs : List Peer) (a : Act) (h : List Act) → MayHappen gs a h → Besides a h → MayStand a h
may-stand gs (acts.Opened g s) h m b = (b, m.1)
may-stand gs (acts.Cut g s) h m b = (m.1, m.2)
may-stand gs (acts.Order g s k o) h m b = (m.1, m.2, m.3)
may-stand gs (acts.Handled g s k a) h m b = (m.0, m.1, (m.2.0, m.2.1))
may-stand gs (acts.Answered g s k a) h m b = (m.2, m.3, next-is g s k a h m.1 m.2 m.3 m.4)
may-stand gs (acts.Notice g s n) h m b = b
may-stand gs (acts.Heard g s n) h m b = b
may-stand gs a h m b = tt

keep-more : (gs : List Peer) (h xs : List Act) → IsLawful gs (after h xs) → AllBesides h xs → KeepsSessions h → KeepsSessions (after h xs)
keep-more gs h [] l b k = k
keep-more gs h (a ∷ xs) l b k = keep-more gs (a ∷ h) xs l b.1 (may-stand gs a h (lawful-before gs (a ∷ h) xs l).0 b.0, k)

pub keep-block : (shows : Shows) (header : Header) (p : Past) (e : Event) → IsHeader header → IsEventOf header e → Stands header p
    → KeepsSessions p.world
    → KeepsSessions (after p.world (block shows header p e))
keep-block shows header p e i k s keeps =
    let xs : List Act = block shows header p e in
    let one = history-one shows header p e in
    let l : IsLawful header.gateways (after p.world xs) = subst (λ (z : List Act). IsLawful header.gateways (after p.world z)) one
    (lawful-history shows header p (e ∷ []) i (k, tt) s) in
    keep-more header.gateways p.world xs l (tt, event-besides shows header p e i k s) keeps

pub keep-history : (shows : Shows) (header : Header) (p : Past) (es : List Event) → IsHeader header → AreEventsOf header es
    → Stands header p → KeepsSessions p.world
    → KeepsSessions (after p.world (history shows header p es))
keep-history shows header p [] i k s keeps = keeps
keep-history shows header p (e ∷ es) i k s keeps =
    by-forgery (is_forged_event header p e) refl (λ t. keep-history shows header (past_after shows header p e) es i k.1 t
    (keep-block shows header p e i k.0 s keeps)) where
      by-forgery : (b : Bool) → is_forged_event header p e ≡ b
          → (Stands header (past_after shows header p e)
          → KeepsSessions (after (past_after shows header p e).world (history shows header (past_after shows header p e) es)))
          → KeepsSessions (after p.world (block shows header p e
          ++ unless_forged b (history shows header (past_after shows header p e) es)))
      by-forgery true f ih =
          let xs : List Act = block shows header p e in
          subst (λ (z : List Act). KeepsSessions (after p.world z)) (sym (append-nil xs)) (keep-block shows header p e i k.0 s keeps)
      by-forgery false f ih =
          let q : Past = past_after shows header p e in
          let xs : List Act = block shows header p e in
          let more : List Act = history shows header q es in
          let t = step shows header p e i k.0 s f in
          subst KeepsSessions (sym (after-append p.world xs more)) (ih t.stands)
