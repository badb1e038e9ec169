-- Every history of the whole is lawful act by act, and so safe.
use Rattle.std.proofs.Common.{◌≡◌, ℕ, suc, ◌+◌, ◌-◌, ◌<◌, ◌^◌, Bool, true, false, ◌==◌, nat_lt, max, List, [], ◌∷◌, ◌++◌, length, Option, Some, None, Ok, refl, sym, ◌∙◌, ap, subst, append-nil, arith, if◌then◌else◌}
use Rattle.std.specs.Prelude.{find}
use Rattle.std.specs.Str.{bytes_eq}
use Rattle.ip_packet.specs.Ttl.{with_ttl}
use Rattle.ikeless_tree.specs.declared.command.Command.TheVariants as commands
use Rattle.ikeless_tree.specs.declared.command.Peer.{Peer}
use Rattle.ikeless_tree.specs.declared.order.Answer.{Answer}
use Rattle.ikeless_tree.specs.declared.order.Notice.{Notice}
use Rattle.ikeless_tree.specs.declared.order.Order.{Order}
use Rattle.reply_table.specs.Order.{ask_of}
use Rattle.reply_table.specs.Reply.{reply}
use Rattle.hist_acts.specs.declared.act.Act.{Act}
use Rattle.hist_acts.specs.declared.act.Act.TheVariants as acts
use Rattle.hist_acts.specs.declared.event.Event.{Event}
use Rattle.hist_acts.specs.declared.event.Event.TheVariants as events
use Rattle.hist_acts.specs.declared.event.Header.{Header}
use Rattle.hist_acts.specs.Past.{after, clock, events_taken}
use Rattle.hist_acts.specs.Sessions.{next_answer, next_notice, next_request, session_taken}
use Rattle.hist_gateway.specs.Block as node
use Rattle.hist_gateway.specs.Handle.{answer_of, requests}
use Rattle.hist_gateway.specs.Rows.{tree_of}
use Rattle.hist_gateway.proofs.MayAct.{may-arrive, may-let}
use Rattle.hist_controller.specs.Acts as controller
use Rattle.hist_controller.specs.Law.{peer_number}
use Rattle.hist_controller.specs.Told.{all_told, peer_name}
use Rattle.hist_controller.proofs.Turns.{idle-block}
use Rattle.hist_safety.specs.Carried.{address_in, address_of}
use Rattle.hist_safety.specs.Law.{IsLawful, AllMayHappen, is_ready}
use Rattle.hist_safety.proofs.Basics.{no, name-is, some-is}
use Rattle.hist_safety.proofs.Blocks.{lawful-after}
use Rattle.hist_world.specs.Arrivals.{flipped, is_forged, sent_at}
use Rattle.hist_world.specs.Block.{Past, Shows, arrival_of, arrives_at, at_gateway, block, boots, by_arrival, by_event, controller_acts, controller_event, is_forged_event_at, gateway_acts, gateway_at, handles_at, history, looks, nothing, past_after, raised, clock_block, took, unless_forged, with_peer, is_forgery, is_forged_event}
use Rattle.hist_world.specs.Events.{AreEventsOf, IsEventOf, IsKnown}
use Rattle.hist_world.specs.Headers.{IsHeader}
use Rattle.hist_world.specs.Parts.{controllers_part}
use Rattle.hist_world.proofs.Arrives.{arrive-may, genuine}
use Rattle.hist_world.specs.Stands.{AreGenuine, Meet, Stands, past_at}
use Rattle.hist_world.proofs.Controls.{Told_all, block-goes}
use Rattle.hist_world.proofs.Followers.{are_followers, follow, looks-follow}
use Rattle.hist_world.proofs.Handles.{handle-may}
use Rattle.hist_world.proofs.Lets.{let-may}
use Rattle.hist_world.proofs.Owns.{are_own, arrivals-own, changes-own, followers-own, lets-own, own-part}

-- ---- the gateway of a name

-- its address is that of the header, and so is its greatest number
record IsGateway (header : Header) (g : List ℕ) (c : node.Gateway) : Type 0 where
  pub name : c.name ≡ g
  pub address : address_of header.gateways g ≡ Some c.address
  pub numbers : c.seq_last ≡ header.seq_last

gateway-case : (header : Header) (g : List ℕ) (c : node.Gateway) (p : Option Peer) → with_peer header g p ≡ Some c → (c.name ≡ g)
    × (address_in p ≡ Some c.address) × (c.seq_last ≡ header.seq_last)
gateway-case header g c None e = cc
gateway-case header g c (Some p) e =
    let w : record { name = g; address = p.address; seq_last = header.seq_last } ≡ c = some-is _ c e in (
      sym (ap (λ (z : node.Gateway). z.name) w),
      ap Some (ap (λ (z : node.Gateway). z.address) w),
      sym
          (ap (λ (z : node.Gateway). z.seq_last) w),
    )

gateway-is : (header : Header) (g : List ℕ) (c : node.Gateway) → gateway_at header g ≡ Some c → IsGateway header g c
gateway-is header g c e = let q = gateway-case header g c (find (λ p. bytes_eq p.name g) header.gateways) e in
    record { name = q.0; address = q.1; numbers = q.2 }

-- ---- acts of gateways

-- they may happen, leave no question, and leave the controller's part
record Fits (gs : List Peer) (w xs : List Act) : Type 0 where
  pub may : AllMayHappen gs w xs
  pub ready : is_ready (after w xs) ≡ true
  pub own : are_own xs ≡ true

none-fits : (gs : List Peer) (w : List Act) → is_ready w ≡ true → Fits gs w []
none-fits gs w r = record { may = tt; ready = r; own = refl }

let-fits : (header : Header) (g o : List ℕ) (w : List Act) (c : Option node.Gateway) → gateway_at header g ≡ c → IsHeader header
    → IsLawful header.gateways w → is_ready w ≡ true
    → Fits header.gateways w (at_gateway w (node.Let o) c)
let-fits header g o w None e i l r = none-fits header.gateways w r
let-fits header g o w (Some c) e i l r =
    let is = gateway-is header g c e in
    let low : c.seq_last < 2 ^ 32 = subst (λ (z : ℕ). z < 2 ^ 32) (sym is.numbers) i.numbers in
    let m = let-may header.gateways c c.name o w l low (may-let c c.name o w) in
    record { may = (r, m.0); ready = m.1; own = lets-own c.name o c.seq_last (acts.Let c.name o ∷ w) }

arrive-case : (gs : List Peer) (c : node.Gateway) (o : List ℕ) (w : List Act) (b : Bool) → is_forged c.name c.address w o ≡ b → b ≡ false
    → address_of gs c.name ≡ Some c.address → is_ready w ≡ true
    → Fits gs w (if b then acts.Arrived c.name o ∷ [] else node.gw_block c w (node.Arrive o))
arrive-case gs c o w true e n at r = absurd (no (sym n))
arrive-case gs c o w false e n at r =
    let m = arrive-may gs c o w at (genuine gs c.name o c.address w at e) (may-arrive c c.name o w) in
    record { may = (r, m.0); ready = m.1; own = arrivals-own c.name c.address (acts.Arrived c.name o ∷ w) o }

arrive-fits : (header : Header) (g o : List ℕ) (w : List Act) (c : Option node.Gateway) → gateway_at header g ≡ c → is_forgery w o c ≡ false
    → is_ready w ≡ true
    → Fits header.gateways w (arrives_at w o c)
arrive-fits header g o w None e n r = none-fits header.gateways w r
arrive-fits header g o w (Some c) e n r =
    let is = gateway-is header g c e in
    arrive-case header.gateways c o w (is_forged c.name c.address w o) refl n (ap (address_of header.gateways) is.name ∙ is.address) r

request-fits : (header : Header) (g : List ℕ) (n : ℕ) (o : Order) (h : List Act) (c : Option node.Gateway) → gateway_at header g ≡ c
    → IsLawful header.gateways (acts.Took n ∷ h) → next_request g (acts.Took n ∷ h) ≡ Some o
    → Fits header.gateways (acts.Took n ∷ h) (at_gateway (acts.Took n ∷ h) (node.Handle (Ok (ask_of o))) c)
request-fits header g n o h None e l next = none-fits header.gateways (acts.Took n ∷ h) refl
request-fits header g n o h (Some c) e l next =
    let is = gateway-is header g c e in
    let w : List Act = acts.Took n ∷ h in
    let next2 : next_request c.name w ≡ Some o = ap (λ (z : List ℕ). next_request z w) is.name ∙ next in
    let m = handle-may header.gateways c.name n o h l next2 in
    let r = reply (tree_of c.name w) (ask_of o) in
    record { may = m.0; ready = m.1; own = changes-own c.name (session_taken c.name w) (requests c.name w + 1) r (answer_of r) r.change }

handle-fits : (header : Header) (g : List ℕ) (n : ℕ) (h : List Act) (o : Option Order) → IsLawful header.gateways (acts.Took n ∷ h)
    → next_request g (acts.Took n ∷ h) ≡ o
    → Fits header.gateways (acts.Took n ∷ h) (handles_at (acts.Took n ∷ h) (gateway_at header g) o)
handle-fits header g n h None l e = none-fits header.gateways (acts.Took n ∷ h) refl
handle-fits header g n h (Some o) l e = request-fits header g n o h (gateway_at header g) refl l e

raised-follow : (header : Header) (w : List Act) (b : Bool) → are_followers (raised header w b) ≡ true
raised-follow header w true = looks-follow w header.gateways
raised-follow header w false = refl

clock-fits : (header : Header) (t : ℕ) (w : List Act) → is_ready w ≡ true → Fits header.gateways w (clock_block header w t)
clock-fits header t w r =
    let a : Act = acts.Now (max t (clock w)) in
    let xs : List Act = raised header (a ∷ w) (nat_lt (clock w) t) in
    let p = raised-follow header (a ∷ w) (nat_lt (clock w) t) in
    let f = follow header.gateways (a ∷ w) xs refl p in
    record { may = (r, f.0); ready = f.1; own = followers-own xs p }

boot-fits : (header : Header) (g : List ℕ) (w : List Act) (c : Option node.Gateway) → is_ready w ≡ true → Fits header.gateways w (boots g c)
boot-fits header g w None r = none-fits header.gateways w r
boot-fits header g w (Some c) r = record { may = (r, tt); ready = refl; own = refl }

-- ---- what holds between events

-- a block that may happen, and after it what holds again
pub record Step (header : Header) (p : Past) (xs : List Act) (cs : List controller.ControllerAct) : Type 0 where
  pub may : AllMayHappen header.gateways p.world xs
  pub stands : Stands header (record { world = after p.world xs; controller = after p.controller cs })

took-meet : (header : Header) (p : Past) → Stands header p → Meet header.gateways (took p.world) p.controller
took-meet header p s = record { part = s.meet.part; past = s.meet.past; fit = s.meet.fit }

of-gateways : (header : Header) (p : Past) (xs : List Act) → Stands header p → Fits header.gateways (took p.world) xs
    → Step header p (acts.Took (events_taken p.world + 1) ∷ (xs ++ [])) []
of-gateways header p xs s f =
    let w : List Act = took p.world in
    let e = append-nil xs in
    let may : AllMayHappen header.gateways w (xs ++ []) = subst (AllMayHappen header.gateways w) (sym e) f.may in
    let part : controllers_part (after w (xs ++ [])) ≡ controllers_part w = ap (λ z. controllers_part (after w z)) e
    ∙ own-part w xs f.own in
    record {
      may = (s.ready, may);
      stands = record {
        lawful = lawful-after header.gateways w (xs ++ []) (s.ready, s.lawful) may;
        ready = ap (λ z. is_ready (after w z)) e ∙ f.ready;
        meet = record { part = part ∙ s.meet.part; past = s.meet.past; fit = s.meet.fit };
        not_idle = s.not_idle;
      };
    }

of-controller : (header : Header) (p : Past) (e : controller.ControllerEvent) → IsHeader header → Stands header p
    → Told_all header.gateways (took p.world) p.controller (by_event header.gateways p.controller (Some e))
    → Step header p (acts.Took (events_taken p.world + 1) ∷ all_told header.gateways (by_event header.gateways p.controller (Some e)))
    (by_event header.gateways p.controller (Some e))
of-controller header p e i s t = record {
  may = (s.ready, t.0);
  stands = record {
    lawful = lawful-after header.gateways (took p.world) (all_told header.gateways (by_event header.gateways p.controller (Some e)))
        (s.ready, s.lawful) t.0;
    ready = t.1;
    meet = t.2;
    not_idle = idle-block header.gateways p.controller e s.meet.past s.not_idle;
  };
}

nothing-done : (header : Header) (p : Past) → Stands header p → Step header p (acts.Took (events_taken p.world + 1) ∷ []) []
nothing-done header p s = of-gateways header p [] s (none-fits header.gateways (took p.world) refl)

-- ---- names and numbers of gateways

minus-one : (n : ℕ) → (n + 1 == 0) ≡ false
minus-one n = grind arith

pub name-number : (g : List ℕ) (ps : List Peer) → peer_number g ps < length ps → peer_name ps (peer_number g ps) ≡ g
name-number g [] i = absurd (omega (arith, i))
name-number g (p ∷ ps) i = name-case (bytes_eq p.name g) g p ps (name-is p.name g) (name-number g ps) i where
  name-case : (b : Bool) (g : List ℕ) (p : Peer) (ps : List Peer) → (b ≡ true → p.name ≡ g)
      → (peer_number g ps < length ps → peer_name ps (peer_number g ps) ≡ g)
      → (if b then 0 else peer_number g ps + 1) < suc (length ps) → peer_name (p ∷ ps) (if b then 0 else peer_number g ps + 1) ≡ g
  name-case true g p ps e ih i = e refl
  name-case false g p ps e ih i =
      let z = minus-one (peer_number g ps) in
      let j : peer_number g ps < length ps = omega (arith, i) in
      let m : peer_number g ps + 1 - 1 ≡ peer_number g ps = omega arith in
      rw z (ap (peer_name ps) m ∙ ih j)

-- ---- each event

answer-event : (header : Header) (p : Past) (g : List ℕ) (a : Option Answer) → IsHeader header → IsKnown header g → Stands header p
    → next_answer g p.world ≡ a
    → Step header p (acts.Took (events_taken p.world + 1)
    ∷ all_told header.gateways
    (by_event header.gateways p.controller (Rattle.hist_world.specs.Block.answer_event (peer_number g header.gateways) a)))
    (by_event header.gateways p.controller (Rattle.hist_world.specs.Block.answer_event (peer_number g header.gateways) a))
answer-event header p g None i k s e = nothing-done header p s
answer-event header p g (Some a) i k s e =
    let n : ℕ = peer_number g header.gateways in
    let next : next_answer (peer_name header.gateways n) (took p.world) ≡ Some a =
    ap (λ (z : List ℕ). next_answer z p.world) (name-number g header.gateways k) ∙ e in
    of-controller header p (controller.Answers n a) i s (block-goes header.gateways (took p.world) p.controller (controller.Answers n a)
    i.named i.family refl (took-meet header p s) k next)

notice-event : (header : Header) (p : Past) (g : List ℕ) (t : Option Notice) → IsHeader header → IsKnown header g → Stands header p
    → Step header p (acts.Took (events_taken p.world + 1)
    ∷ all_told header.gateways
    (by_event header.gateways p.controller (Rattle.hist_world.specs.Block.hears (peer_number g header.gateways) t)))
    (by_event header.gateways p.controller (Rattle.hist_world.specs.Block.hears (peer_number g header.gateways) t))
notice-event header p g None i k s = nothing-done header p s
notice-event header p g (Some t) i k s =
    let n : ℕ = peer_number g header.gateways in
    of-controller header p (controller.Notices n t) i s (block-goes header.gateways (took p.world) p.controller (controller.Notices n t)
    i.named i.family refl (took-meet header p s) k tt)

told-event : (header : Header) (p : Past) (c : _) → IsHeader header → Stands header p
    → Step header p (acts.Took (events_taken p.world + 1)
    ∷ all_told header.gateways (by_event header.gateways p.controller (Some (controller.Told c))))
    (by_event header.gateways p.controller (Some (controller.Told c)))
told-event header p c i s = of-controller header p (controller.Told c) i s (block-goes header.gateways (took p.world) p.controller
    (controller.Told c) i.named i.family refl (took-meet header p s) tt tt)

pub step : (shows : Shows) (header : Header) (p : Past) (e : Event) → IsHeader header → IsEventOf header e → Stands header p
    → is_forged_event header p e ≡ false
    → Step header p (block shows header p e) (controller_acts header p e)
step shows header p (events.Let g o) i k s n =
    of-gateways header p _ s (let-fits header g o (took p.world) (gateway_at header g) refl i (s.ready, s.lawful) refl)
step shows header p (events.Arrive g o) i k s n =
    of-gateways header p _ s (arrive-fits header g o (took p.world) (gateway_at header g) refl n refl)
step shows header p (events.ArriveSent g m) i k s n =
    of-gateways header p _ s (arrive-fits header g (sent_at m (took p.world)) (took p.world) (gateway_at header g) refl n refl)
step shows header p (events.ArriveFlip g m offset bit) i k s n =
    of-gateways header p _ s (arrive-fits header g (flipped offset bit (sent_at m (took p.world))) (took p.world) (gateway_at header g) refl
    n refl)
step shows header p (events.ArriveTtl g m ttl) i k s n =
    of-gateways header p _ s (arrive-fits header g (with_ttl ttl (sent_at m (took p.world))) (took p.world) (gateway_at header g) refl n
    refl)
step shows header p (events.Now t) i k s n = of-gateways header p _ s (clock-fits header t (took p.world) refl)
step shows header p (events.Boot g) i k s n = of-gateways header p _ s (boot-fits header g (took p.world) (gateway_at header g) refl)
step shows header p (events.Down g) i k s n =
    of-gateways header p _ s (handle-fits header g (events_taken p.world + 1) p.world (next_request g (took p.world)) (s.ready, s.lawful)
    refl)
step shows header p (events.Wire g lane) i k s n =
    let xs : List Act = acts.Wire g lane (shows g lane (took p.world)) ∷ [] in
    let may : AllMayHappen header.gateways (took p.world) xs = (refl, tt) in
    of-gateways header p xs s (record { may = may; ready = refl; own = refl })
step shows header p (events.Open g) i k s n =
    let m : ℕ = peer_number g header.gateways in
    of-controller header p (controller.Opens m) i s (block-goes header.gateways (took p.world) p.controller (controller.Opens m) i.named
    i.family refl (took-meet header p s) k tt)
step shows header p (events.Cut g) i k s n =
    let m : ℕ = peer_number g header.gateways in
    of-controller header p (controller.Cuts m) i s (block-goes header.gateways (took p.world) p.controller (controller.Cuts m) i.named
    i.family refl (took-meet header p s) k tt)
step shows header p (events.Up g) i k s n = answer-event header p g (next_answer g p.world) i k s refl
step shows header p (events.Note g) i k s n = notice-event header p g (next_notice g p.world) i k s
step shows header p (events.Policy g list) i k s n = told-event header p (commands.Policy g list) i s
step shows header p (events.Tunnel spec) i k s n = told-event header p (commands.Tunnel spec) i s
step shows header p (events.End reqid) i k s n = told-event header p (commands.End reqid) i s
step shows header p (events.Rekey reqid) i k s n = told-event header p (commands.Rekey reqid) i s
step shows header p (events.Keys key) i k s n = told-event header p (commands.Keys key) i s

-- ---- a forged arrival

forged-at : (gs : List Peer) (w : List Act) (o : List ℕ) (c : Option node.Gateway) → is_forgery w o c ≡ true → is_ready w ≡ true
    → AllMayHappen gs w (arrives_at w o c)
forged-at gs w o None e r = absurd (no e)
forged-at gs w o (Some c) e r = forged-case gs c w o (is_forged c.name c.address w o) e r where
  forged-case : (gs : List Peer) (c : node.Gateway) (w : List Act) (o : List ℕ) (b : Bool) → b ≡ true → is_ready w ≡ true
      → AllMayHappen gs w (if b then acts.Arrived c.name o ∷ [] else node.gw_block c w (node.Arrive o))
  forged-case gs c w o true e r = (r, tt)
  forged-case gs c w o false e r = absurd (no e)

forged-block : (header : Header) (p : Past) (xs : List Act) → Stands header p → AllMayHappen header.gateways (took p.world) xs
    → AllMayHappen header.gateways p.world (acts.Took (events_taken p.world + 1) ∷ (xs ++ []))
forged-block header p xs s m = (s.ready, subst (AllMayHappen header.gateways (took p.world)) (sym (append-nil xs)) m)

forged-step : (shows : Shows) (header : Header) (p : Past) (e : Event) → Stands header p → is_forged_event header p e ≡ true
    → AllMayHappen header.gateways p.world (block shows header p e)
forged-step shows header p (events.Arrive g o) s f =
    forged-block header p _ s (forged-at header.gateways (took p.world) o (gateway_at header g) f refl)
forged-step shows header p (events.ArriveSent g m) s f =
    forged-block header p _ s (forged-at header.gateways (took p.world) (sent_at m (took p.world)) (gateway_at header g) f refl)
forged-step shows header p (events.ArriveFlip g m offset bit) s f =
    forged-block header p _ s (forged-at header.gateways (took p.world) (flipped offset bit (sent_at m (took p.world)))
    (gateway_at header g) f refl)
forged-step shows header p (events.ArriveTtl g m ttl) s f =
    forged-block header p _ s (forged-at header.gateways (took p.world) (with_ttl ttl (sent_at m (took p.world))) (gateway_at header g) f
    refl)
forged-step shows header p e s f = absurd (no f)

-- ---- all events

pub after-append : (h xs ys : List Act) → after h (xs ++ ys) ≡ after (after h xs) ys
after-append h [] ys = refl
after-append h (x ∷ xs) ys = after-append (x ∷ h) xs ys

pub start : (header : Header) → Stands header nothing
start header = record { lawful = tt; ready = refl; meet = record { part = refl; past = tt; fit = tt }; not_idle = λ d i f. absurd i }

pub lawful-history : (shows : Shows) (header : Header) (p : Past) (es : List Event) → IsHeader header → AreEventsOf header es
    → Stands header p
    → IsLawful header.gateways (after p.world (history shows header p es))
lawful-history shows header p [] i k s = s.lawful
lawful-history shows header p (e ∷ es) i k s =
    lawful-case (is_forged_event header p e) refl (λ t. lawful-history shows header (past_after shows header p e) es i k.1 t) where
      lawful-case : (b : Bool) → is_forged_event header p e ≡ b
          → (Stands header (past_after shows header p e)
          → IsLawful header.gateways (after (past_after shows header p e).world (history shows header (past_after shows header p e) es)))
          → IsLawful header.gateways
          (after p.world (block shows header p e ++ unless_forged b (history shows header (past_after shows header p e) es)))
      lawful-case true f ih =
          let xs : List Act = block shows header p e in
          let l = lawful-after header.gateways p.world xs s.lawful (forged-step shows header p e s f) in
          subst (λ z. IsLawful header.gateways (after p.world z)) (sym (append-nil xs)) l
      lawful-case false f ih =
          let xs : List Act = block shows header p e in
          let t = step shows header p e i k.0 s f in
          subst (IsLawful header.gateways) (sym (after-append p.world xs (history shows header (past_after shows header p e) es))) (ih t.stands)

pub stands-at : (shows : Shows) (header : Header) (p : Past) (es : List Event) → IsHeader header → AreEventsOf header es
    → AreGenuine shows header p es → Stands header p
    → Stands header (past_at shows header p es)
stands-at shows header p [] i k g s = s
stands-at shows header p (e ∷ es) i k g s = stands-at shows header (past_after shows header p e) es i k.1 g.1
    (step shows header p e i k.0 s g.0).stands

pub history-at : (shows : Shows) (header : Header) (p : Past) (es : List Event) → AreGenuine shows header p es
    → after p.world (history shows header p es) ≡ (past_at shows header p es).world
history-at shows header p [] g = refl
history-at shows header p (e ∷ es) g =
    let xs : List Act = block shows header p e in
    let more : List Act = history shows header (past_after shows header p e) es in
    ap (λ b. after p.world (xs ++ unless_forged b more)) g.0 ∙ after-append p.world xs more
    ∙ history-at shows header (past_after shows header p e) es g.1
