-- The lists accepted for a gateway are those commanded for it, and those put in force there never go back.
use Rattle.std.proofs.Common.{◌≡◌, ℕ, suc, ◌+◌, ◌-◌, ◌<◌, Bool, true, false, ◌==◌, nat_lt, List, [], ◌∷◌, ◌++◌, length, Option, Some, None, refl, sym, ◌∙◌, ap, subst, append-nil, append_assoc, arith, if◌then◌else◌}
use Rattle.std.proofs.lemmas.Bool.{false_from_ne_true, ltb-true}
use Rattle.std.proofs.lemmas.Grind.{common_steps}
use Rattle.std.specs.Str.{bytes_eq}
use Rattle.ikeless_tree.specs.declared.command.Command.TheVariants as commands
use Rattle.ikeless_tree.specs.declared.command.Peer.{Peer}
use Rattle.ikeless_tree.specs.declared.command.Refusal.{Refusal}
use Rattle.ikeless_tree.specs.declared.command.Refusal.TheVariants as refusals
use Rattle.ikeless_tree.specs.declared.entry.SpdEntry.{SpdEntry}
use Rattle.ikeless_tree.specs.declared.order.Answer.{Answer}
use Rattle.ikeless_tree.specs.declared.order.Notice.{Notice}
use Rattle.ikeless_tree.specs.declared.order.Order.TheVariants as asks
use Rattle.hist_acts.specs.declared.act as happened
use Rattle.hist_acts.specs.declared.act.Act.TheVariants as acts
use Rattle.hist_acts.specs.declared.event.Event.{Event}
use Rattle.hist_acts.specs.declared.event.Event.TheVariants as events
use Rattle.hist_acts.specs.declared.event.Header.{Header}
use Rattle.hist_acts.specs.Past as world_past
use Rattle.hist_acts.specs.Sessions.{next_answer, next_notice, order_at}
use Rattle.hist_gateway.specs.Block as node
use Rattle.hist_controller.specs.Acts.{ControllerOrder, Policy, PlacedCommand, SetPolicy, End, Rekey, Keys, ControllerAct, Opened, Cut, Answered, Heard, Ordered, Accepted}
use Rattle.hist_controller.specs.Counts.{list_accepted, lists_accepted}
use Rattle.hist_controller.specs.Law.{asked, asked_then, by_answer, by_refusal, going, peer_number, placed_command, refusal}
use Rattle.hist_controller.specs.Numbers.{numbered}
use Rattle.hist_acts.specs.Past.{after}
use Rattle.hist_controller.specs.Past.{answered, is_open, queue, openings}
use Rattle.hist_controller.specs.Told.{Named, peer_name}
use Rattle.hist_controller.proofs.Policies.{lists-right}
use Rattle.hist_controller.proofs.Transcript.{order-told}
use Rattle.hist_safety.proofs.Basics.{no, name-is, name-true}
use Rattle.hist_world.specs.Block.{Past, Shows, arrives_at, block, controller_acts, gateway_at, history, past_after, unless_forged, is_forgery, is_forged_event}
use Rattle.hist_world.specs.Block as whole
use Rattle.hist_world.specs.Arrivals.{is_forged}
use Rattle.hist_world.specs.Events.{AreEventsOf}
use Rattle.hist_world.specs.Headers.{IsHeader}
use Rattle.hist_world.specs.Lists.{NeverBack, StandFrom, commanded, put_in_force}
use Rattle.hist_world.specs.Stands.{Meet, Stands, past_at}
use Rattle.hist_world.proofs.Controls.{are_orders, then-orders}
use Rattle.hist_world.proofs.InForce.{Placing, in-order}
use Rattle.hist_world.proofs.ListPlaces.{list_place, list-told, place-right, place-rises}
use Rattle.hist_world.proofs.MayOrders.{place-more}
use Rattle.hist_world.proofs.Parts.{order-at-part}
use Rattle.hist_world.proofs.Runs.{after-append, name-number, step}

-- ---- the lists put in force between events

policy-meet : (ps : List Peer) (w : List happened.Act.Act) (c : List ControllerAct) (g s k : ℕ) (l : List SpdEntry) → Named ps → Meet ps w c
    → g < length ps
    → order_at (peer_name ps g) s k w ≡ Some (asks.Policy l) → numbered g s k c ≡ Some (Policy l)
policy-meet ps w c g s k l names m i e =
    let name : List ℕ = peer_name ps g in
    list-told ps (numbered g s k c) l (sym (order-told ps c names m.fit g s k i) ∙ ap (order_at name s k) (sym m.part)
    ∙ sym (order-at-part name s k w) ∙ e)

placing : (ps : List Peer) (w : List happened.Act.Act) (c : List ControllerAct) (g : ℕ) → Named ps → Meet ps w c → g < length ps
    → Placing (peer_name ps g) (lists_accepted g c) (λ s k. list_place g s k c) w
placing ps w c g names m i = record {
  stands = λ s k l e. place-right g s k l c (lists-right (length ps) c m.past) (policy-meet ps w c g s k l names m i e);
  rises = λ s k t n l r e f late. place-rises (length ps) g s k t n (Policy l) (Policy r) c m.past (policy-meet ps w c g s k l names m i e)
      (policy-meet ps w c g t n r names m i f) late;
}

pub between : (header : Header) (p : Past) → IsHeader header → Stands header p → (g : ℕ) → g < length header.gateways
    → NeverBack (lists_accepted g p.controller) (put_in_force (peer_name header.gateways g) p.world)
between header p i s g k =
    in-order header.gateways (peer_name header.gateways g) (lists_accepted g p.controller) (λ s k. list_place g s k p.controller) p.world
    s.lawful
    (placing header.gateways p.world p.controller g i.named s.meet k)

-- ---- the lists accepted in a block

orders-lists : (g : ℕ) (c xs : List ControllerAct) → are_orders xs ≡ true → lists_accepted g (after c xs) ≡ lists_accepted g c
orders-lists g c [] e = refl
orders-lists g c (Ordered f s n o ∷ xs) e = orders-lists g (Ordered f s n o ∷ c) xs e
orders-lists g c (a ∷ xs) e = absurd (no e)

going-lists : (g : ℕ) (c : List ControllerAct) (a : ControllerAct) → lists_accepted g (after c (going c a)) ≡ lists_accepted g (a ∷ c)
going-lists g c a = orders-lists g (a ∷ c) (asked_then (a ∷ c) (asked (a ∷ c) a)) (then-orders c a)

if-lists : (g : ℕ) (c xs ys : List ControllerAct) (ls : List (List SpdEntry)) (b : Bool) → lists_accepted g (after c xs) ≡ ls
    → lists_accepted g (after c ys) ≡ ls → lists_accepted g (after c (if b then xs else ys)) ≡ ls
if-lists g c xs ys ls true e f = e
if-lists g c xs ys ls false e f = f

answer-lists : (g : ℕ) (c : List ControllerAct) (f : ℕ) (a : Answer) (os : List ControllerOrder)
    → lists_accepted g (after c (by_answer c f a os)) ≡ lists_accepted g c
answer-lists g c f a [] = refl
answer-lists g c f a (o ∷ os) = going-lists g c (Answered f (openings f c) (answered f c + 1) a)

command-lists : (g : ℕ) (c : List ControllerAct) (x : PlacedCommand) (r : Option Refusal) → list_accepted g x ≡ []
    → lists_accepted g (after c (by_refusal c x r)) ≡ lists_accepted g c
command-lists g c x None e = going-lists g c (Accepted x) ∙ ap (λ z. lists_accepted g c ++ z) e ∙ append-nil (lists_accepted g c)
command-lists g c x (Some w) e = refl

-- a name that a gateway has is that of one of them
name-known : (f : List ℕ) (ps : List Peer) (g : ℕ) → g < length ps → bytes_eq f (peer_name ps g) ≡ true → peer_number f ps < length ps
name-known f [] g i e = absurd (omega (arith, i))
name-known f (p ∷ ps) g i e = by (bytes_eq p.name f) refl (g == 0) refl i e (name-known f ps (g - 1)) where
  by : (b : Bool) → bytes_eq p.name f ≡ b → (z : Bool) → (g == 0) ≡ z → g < suc (length ps)
      → bytes_eq f (if z then p.name else peer_name ps (g - 1)) ≡ true
      → (g - 1 < length ps → bytes_eq f (peer_name ps (g - 1)) ≡ true → peer_number f ps < length ps)
      → (if b then 0 else peer_number f ps + 1) < suc (length ps)
  by true w z u i e ih = omega arith
  by false w true u i e ih = absurd (no (sym w ∙ name-true p.name f (sym (name-is f p.name e))))
  by false w false u i e ih = let k : peer_number f ps < length ps = ih (grind (arith, u, i)) e in omega (arith, k)

if-same : (b c : Bool) (l : List SpdEntry) → b ≡ c → (if b then l ∷ [] else []) ≡ (if c then l ∷ [] else [])
if-same b c l e = ap (λ (z : Bool). if z then l ∷ [] else []) e

not-less : (m n : ℕ) → nat_lt m n ≡ false → m < n → ⊥
not-less m n e i = grind (arith, common_steps, e, i)

policy-lists : (ps : List Peer) (c : List ControllerAct) (f : List ℕ) (l : List SpdEntry) (g : ℕ) → Named ps → g < length ps
    → lists_accepted g (after c (by_refusal c (placed_command ps (commands.Policy f l))
    (refusal (length ps) c (placed_command ps (commands.Policy f l))))) ≡ lists_accepted g c
    ++ commanded (peer_name ps g) (events.Policy f l ∷ [])
policy-lists ps c f l g names i = by (nat_lt (peer_number f ps) (length ps)) refl where
  by : (b : Bool) → nat_lt (peer_number f ps) (length ps) ≡ b
      → lists_accepted g (after c (by_refusal c (SetPolicy (peer_number f ps) l) (if b then None else Some refusals.UnknownGateway))) ≡
      lists_accepted g c ++ (if bytes_eq f (peer_name ps g) then l ∷ [] else [])
  by true e =
      let m : ℕ = peer_number f ps in
      let k : m < length ps = ltb-true m (length ps) e in
      let same : bytes_eq f (peer_name ps g) ≡ (g == m) = ap (λ (z : List ℕ). bytes_eq z (peer_name ps g)) (sym (name-number f ps k))
      ∙ names m g k i in
      going-lists g c (Accepted (SetPolicy m l))
      ∙ ap (λ z. lists_accepted g c ++ z) (if-same (g == m) (bytes_eq f (peer_name ps g)) l (sym same))
  by false e =
      let unknown : bytes_eq f (peer_name ps g) ≡ false =
      false_from_ne_true (bytes_eq f (peer_name ps g)) (λ q. not-less (peer_number f ps) (length ps) e (name-known f ps g i q)) in
      sym (append-nil (lists_accepted g c))
      ∙ ap (λ z. lists_accepted g c ++ z) (if-same false (bytes_eq f (peer_name ps g)) l (sym unknown))

-- at one event of a script those accepted are those commanded
none-new : {xs ys : List (List SpdEntry)} → xs ≡ ys → xs ≡ ys ++ []
none-new {ys = ys} e = e ∙ sym (append-nil ys)

answered-lists : (ps : List Peer) (g : ℕ) (c : List ControllerAct) (f : ℕ) (a : Option Answer)
    → lists_accepted g (after c (whole.by_event ps c (whole.answer_event f a))) ≡ lists_accepted g c
answered-lists ps g c f None = refl
answered-lists ps g c f (Some a) = answer-lists g c f a (queue f c)

heard-lists : (ps : List Peer) (g : ℕ) (c : List ControllerAct) (f : ℕ) (t : Option Notice)
    → lists_accepted g (after c (whole.by_event ps c (whole.hears f t))) ≡ lists_accepted g c
heard-lists ps g c f None = refl
heard-lists ps g c f (Some t) = if-lists g c (going c (Heard f (openings f c) t)) [] (lists_accepted g c) (is_open f c)
    (going-lists g c (Heard f (openings f c) t)) refl

event-lists : (header : Header) (p : Past) (e : Event) (g : ℕ) → IsHeader header → g < length header.gateways
    → lists_accepted g (after p.controller (controller_acts header p e)) ≡ lists_accepted g p.controller
    ++ commanded (peer_name header.gateways g) (e ∷ [])
event-lists header p (events.Policy f l) g i k = policy-lists header.gateways p.controller f l g i.named k
event-lists header p (events.Tunnel t) g i k =
    let x = placed_command header.gateways (commands.Tunnel t) in
    none-new (command-lists g p.controller x (refusal (length header.gateways) p.controller x) refl)
event-lists header p (events.End r) g i k =
    none-new (command-lists g p.controller (End r) (refusal (length header.gateways) p.controller (End r)) refl)
event-lists header p (events.Rekey r) g i k =
    none-new (command-lists g p.controller (Rekey r) (refusal (length header.gateways) p.controller (Rekey r)) refl)
event-lists header p (events.Keys q) g i k =
    none-new (command-lists g p.controller (Keys q) (refusal (length header.gateways) p.controller (Keys q)) refl)
event-lists header p (events.Open f) g i k =
    let c = p.controller in
    let n : ℕ = peer_number f header.gateways in
    none-new (if-lists g c [] (going c (Opened n (openings n c + 1))) (lists_accepted g c) (is_open n c) refl
    (going-lists g c (Opened n (openings n c + 1))))
event-lists header p (events.Cut f) g i k =
    let c = p.controller in
    let n : ℕ = peer_number f header.gateways in
    none-new (if-lists g c (going c (Cut n (openings n c))) [] (lists_accepted g c) (is_open n c) (going-lists g c (Cut n (openings n c)))
    refl)
event-lists header p (events.Up f) g i k =
    none-new (answered-lists header.gateways g p.controller (peer_number f header.gateways) (next_answer f p.world))
event-lists header p (events.Note f) g i k =
    none-new (heard-lists header.gateways g p.controller (peer_number f header.gateways) (next_notice f p.world))
event-lists header p e g i k = none-new refl

commanded-cons : (g : List ℕ) (e : Event) (es : List Event) → commanded g (e ∷ es) ≡ commanded g (e ∷ []) ++ commanded g es
commanded-cons g (events.Policy f l) es = by (bytes_eq f g) where
  by : (b : Bool) → (if b then l ∷ commanded g es else commanded g es) ≡ (if b then l ∷ [] else []) ++ commanded g es
  by true = refl
  by false = refl
commanded-cons g e es = refl

one-event : (shows : Shows) (header : Header) (p : Past) (e : Event) (es : List Event) (g : ℕ) → IsHeader header
    → g < length header.gateways
    → lists_accepted g (past_after shows header p e).controller ++ commanded (peer_name header.gateways g) es ≡ lists_accepted g
    p.controller ++ commanded (peer_name header.gateways g) (e ∷ es)
one-event shows header p e es g i k =
    let name : List ℕ = peer_name header.gateways g in
    ap (λ z. z ++ commanded name es) (event-lists header p e g i k)
    ∙ append_assoc (lists_accepted g p.controller) (commanded name (e ∷ [])) (commanded name es)
    ∙ ap (λ z. lists_accepted g p.controller ++ z) (sym (commanded-cons name e es))

accepted-from : (shows : Shows) (header : Header) (p : Past) (es : List Event) (g : ℕ) → IsHeader header → g < length header.gateways
    → lists_accepted g (past_at shows header p es).controller ≡ lists_accepted g p.controller ++ commanded (peer_name header.gateways g) es
accepted-from shows header p [] g i k = sym (append-nil (lists_accepted g p.controller))
accepted-from shows header p (e ∷ es) g i k = accepted-from shows header (past_after shows header p e) es g i k
    ∙ one-event shows header p e es g i k

-- the lists accepted are those commanded
pub accepted : (shows : Shows) (header : Header) (es : List Event) (g : ℕ) → IsHeader header → g < length header.gateways
    → lists_accepted g (past_at shows header whole.nothing es).controller ≡ commanded (peer_name header.gateways g) es
accepted shows header es g i k = accepted-from shows header whole.nothing es g i k

-- ---- histories

stand-more : (n : ℕ) (all more ls : List (List SpdEntry)) → StandFrom n all ls → StandFrom n (all ++ more) ls
stand-more n all more [] s = tt
stand-more n all more (l ∷ ls) s = (s.0, s.1, place-more s.0 all more l s.2, stand-more s.0 all more ls s.3)

forged-at : (g : List ℕ) (w : List happened.Act.Act) (o : List ℕ) (c : Option node.Gateway) → is_forgery w o c ≡ true
    → put_in_force g (world_past.after w (arrives_at w o c ++ [])) ≡ put_in_force g w
forged-at g w o None e = absurd (no e)
forged-at g w o (Some c) e = by (is_forged c.name c.address w o) e where
  by : (b : Bool) → b ≡ true
      → put_in_force g (world_past.after w ((if b then acts.Arrived c.name o ∷ [] else node.gw_block c w (node.Arrive o)) ++ [])) ≡
      put_in_force g w
  by true e = refl
  by false e = absurd (no e)

-- a forged arrival puts no list in force
forged-lists : (shows : Shows) (header : Header) (p : Past) (e : Event) (g : List ℕ) → is_forged_event header p e ≡ true
    → put_in_force g (world_past.after p.world (block shows header p e)) ≡ put_in_force g p.world
forged-lists shows header p (events.Arrive f o) g e = forged-at g (whole.took p.world) o (gateway_at header f) e
forged-lists shows header p (events.ArriveSent f k) g e = forged-at g (whole.took p.world) _ (gateway_at header f) e
forged-lists shows header p (events.ArriveFlip f k offset bit) g e = forged-at g (whole.took p.world) _ (gateway_at header f) e
forged-lists shows header p (events.ArriveTtl f k ttl) g e = forged-at g (whole.took p.world) _ (gateway_at header f) e
forged-lists shows header p a g e = absurd (no e)

history-from : (shows : Shows) (header : Header) (p : Past) (es : List Event) (g : ℕ) → IsHeader header → AreEventsOf header es
    → Stands header p → g < length header.gateways
    → NeverBack (lists_accepted g p.controller ++ commanded (peer_name header.gateways g) es)
    (put_in_force (peer_name header.gateways g) (world_past.after p.world (history shows header p es)))
history-from shows header p [] g i k s m = stand-more 0 (lists_accepted g p.controller) [] _ (between header p i s g m)
history-from shows header p (e ∷ es) g i k s m =
    by (is_forged_event header p e) refl (λ t. history-from shows header (past_after shows header p e) es g i k.1 t m) where
      name : List ℕ
      name = peer_name header.gateways g

      by : (b : Bool) → is_forged_event header p e ≡ b
          → (Stands header (past_after shows header p e) → NeverBack (lists_accepted g (past_after shows header p e).controller
          ++ commanded (peer_name header.gateways g) es)
          (put_in_force (peer_name header.gateways g) (world_past.after (past_after shows header p e).world
          (history shows header (past_after shows header p e) es))))
          → NeverBack (lists_accepted g p.controller ++ commanded (peer_name header.gateways g) (e ∷ es))
          (put_in_force (peer_name header.gateways g)
          (world_past.after p.world (block shows header p e ++ unless_forged b (history shows header (past_after shows header p e) es))))
      by true f ih =
          let xs : List happened.Act.Act = block shows header p e in
          let same = ap (λ z. put_in_force (peer_name header.gateways g) (world_past.after p.world z)) (append-nil xs)
          ∙ forged-lists shows header p e (peer_name header.gateways g) f in
          let all = lists_accepted g p.controller in
          let more = commanded (peer_name header.gateways g) (e ∷ es) in
          stand-more 0 all more _ (subst (λ z. StandFrom 0 all z) (sym same) (between header p i s g m))
      by false f ih =
          let xs : List happened.Act.Act = block shows header p e in
          let more : List happened.Act.Act = history shows header (past_after shows header p e) es in
          let same = ap (put_in_force (peer_name header.gateways g)) (after-append p.world xs more) in
          let t = step shows header p e i k.0 s f in
          let forced = put_in_force (peer_name header.gateways g) (world_past.after p.world (xs ++ more)) in
          subst (λ z. NeverBack z forced) (one-event shows header p e es g i m)
          (subst (λ z. NeverBack (lists_accepted g (past_after shows header p e).controller ++ commanded (peer_name header.gateways g) es) z)
          (sym same) (ih t.stands))

-- whatever comes, the lists put in force are lists commanded, in the order of the commands
pub never-back : (shows : Shows) (header : Header) (es : List Event) (g : List ℕ) → IsHeader header → AreEventsOf header es
    → Stands header whole.nothing → peer_number g header.gateways < length header.gateways
    → NeverBack (commanded g es) (put_in_force g (world_past.after [] (history shows header whole.nothing es)))
never-back shows header es g i k s m =
    let n : ℕ = peer_number g header.gateways in
    subst (λ (z : List ℕ). NeverBack (commanded z es) (put_in_force z (world_past.after [] (history shows header whole.nothing es))))
    (name-number g header.gateways m)
    (history-from shows header whole.nothing es n i k s m)
