-- What the controller orders and refuses goes down to the gateways as the law tells it.
use Rattle.std.proofs.Common.{◌≡◌, ℕ, ◌+◌, true, false, List, [], ◌∷◌, length, Some, slice_get, refl, sym, ◌∙◌, ap, subst}
use Rattle.std.specs.Option.{option_map}
use Rattle.std.proofs.lemmas.Option.{slice_get-map}
use Rattle.ikeless_tree.specs.declared.command.Peer.{Peer}
use Rattle.ikeless_tree.specs.declared.order.Order.{Order}
use Rattle.hist_acts.specs.declared.act.Act.{Act}
use Rattle.hist_acts.specs.declared.act.Act.TheVariants as acts
use Rattle.hist_acts.specs.declared.event.Header.{Header}
use Rattle.hist_acts.specs.Past.{after}
use Rattle.hist_acts.specs.Sessions.{openings, orders}
use Rattle.hist_controller.specs.Acts.{ControllerAct, Opened, Cut, Answered, Heard, Ordered, Accepted, Refused}
use Rattle.hist_controller.specs.Table.{AllFit, Fits}
use Rattle.hist_controller.specs.Told.{Named, all_told, order_told, peer_name}
use Rattle.hist_safety.proofs.Basics.{no}
use Rattle.hist_sessions.proofs.Pipes.{keeps-before}
use Rattle.hist_world.proofs.Controls.{are_orders}
use Rattle.session_pipe.specs.Sessions.{KeepsSessions}
use Rattle.ctl_law.specs.Told.{all_done}
use Rattle.world_steps.specs.Nodes.{ordered}
use Rattle.world_steps.specs.Worlds.{World, with_node}
use Rattle.world_steps.specs.Steps.{Done, behind, giving, order_at}
use Rattle.world_law.specs.Stands.{node_of}
use Rattle.world_law.proofs.Peers.{peer-at, place-name}
use Rattle.world_law.proofs.Rests.{Rests, rests-order, rests-refused}

-- ---- what a controller does by itself

-- these are orders, refusals and accepted commands
abbrev pub AreGiven : List ControllerAct → Type 0
AreGiven [] = Unit {0}
AreGiven (Opened g s ∷ xs) = ⊥
AreGiven (Cut g s ∷ xs) = ⊥
AreGiven (Answered g s n a ∷ xs) = ⊥
AreGiven (Heard g s t ∷ xs) = ⊥
AreGiven (Ordered g s n o ∷ xs) = AreGiven xs
AreGiven (Accepted c ∷ xs) = AreGiven xs
AreGiven (Refused w ∷ xs) = AreGiven xs

pub orders-given : (xs : List ControllerAct) → are_orders xs ≡ true → AreGiven xs
orders-given [] e = tt
orders-given (Opened g s ∷ xs) e = absurd (no e)
orders-given (Cut g s ∷ xs) e = absurd (no e)
orders-given (Answered g s n a ∷ xs) e = absurd (no e)
orders-given (Heard g s t ∷ xs) e = absurd (no e)
orders-given (Ordered g s n o ∷ xs) e = orders-given xs e
orders-given (Accepted c ∷ xs) e = absurd (no e)
orders-given (Refused w ∷ xs) e = absurd (no e)

-- each speaks of one of so many gateways
abbrev pub AreFit : ℕ → List ControllerAct → Type 0
AreFit n [] = Unit {0}
AreFit n (a ∷ xs) = Fits n a × AreFit n xs

pub fit-parts : (n : ℕ) (c xs : List ControllerAct) → AllFit n (after c xs) → AreFit n xs × AllFit n c
fit-parts n c [] f = (tt, f)
fit-parts n c (a ∷ xs) f = let r = fit-parts n (a ∷ c) xs f in ((r.1.0, r.0), r.1.1)

-- ---- the nodes

-- these acts are told, and leave a world of the past with them
pub record Gave (header : Header) (h : List Act) (xs : List Act) (w : World) (d : Done) : Type 0 where
  pub acts : d.acts ≡ xs
  pub genuine : d.is_forged ≡ false
  pub rests : Rests header (after h xs) d.world
  pub controller : d.world.controller ≡ w.controller

gave-more : (header : Header) (h : List Act) (a b : Act) (xs : List Act) (w v : World) (d : Done) → b ≡ a → v.controller ≡ w.controller
    → Gave header (a ∷ h) xs v d
    → Gave header h (a ∷ xs) w (behind (b ∷ []) d)
gave-more header h a b xs w v d e c g = record {
  acts = ap (λ z. z ∷ d.acts) e ∙ ap (λ z. a ∷ z) g.acts;
  genuine = g.genuine;
  rests = g.rests;
  controller = g.controller ∙ c;
}

-- the order of the law and that of the node have the same numbers
same-order : (f g : List ℕ) (s k : ℕ) (o : Order) (h : List Act) → g ≡ f → s ≡ openings f h → k ≡ orders f s h + 1
    → acts.Order g (openings g h) (orders g (openings g h) h + 1) o ≡ acts.Order f s k o
same-order f g s k o h e i j =
    ap (λ z. acts.Order z (openings z h) (orders z (openings z h) h + 1) o) e
    ∙ ap (λ z. acts.Order f z (orders f z h + 1) o) (sym i) ∙ ap (λ z. acts.Order f s z o) (sym j)

pub node-there : (header : Header) (h : List Act) (w : World) (i : ℕ) (p : Peer) → Rests header h w → slice_get header.gateways i ≡ Some p
    → slice_get w.nodes i ≡ Some (node_of header h p)
node-there header h w i p r e = ap (λ ns. slice_get ns i) r.nodes ∙ slice_get-map (node_of header h) header.gateways i ∙ ap
    (option_map (node_of header h)) e

pub giving-gives : (header : Header) (h : List Act) (xs : List ControllerAct) (w : World) → Named header.gateways → Rests header h w
    → AreGiven xs → AreFit (length header.gateways) xs
    → KeepsSessions (after h (all_told header.gateways xs))
    → Gave header h (all_told header.gateways xs) w (giving (all_done header.gateways xs) w)
giving-gives header h [] w names r a f keep = record { acts = refl; genuine = refl; rests = r; controller = refl }
giving-gives header h (Opened g s ∷ xs) w names r a f keep = absurd a
giving-gives header h (Cut g s ∷ xs) w names r a f keep = absurd a
giving-gives header h (Answered g s n b ∷ xs) w names r a f keep = absurd a
giving-gives header h (Heard g s t ∷ xs) w names r a f keep = absurd a
giving-gives header h (Accepted c ∷ xs) w names r a f keep = giving-gives header h xs w names r a f.1 keep
giving-gives header h (Refused why ∷ xs) w names r a f keep =
    let before = keeps-before (acts.Refused why ∷ h) (all_told header.gateways xs) keep in
    gave-more header h (acts.Refused why) (acts.Refused why) (all_told header.gateways xs) w w
    (giving (all_done header.gateways xs) w) refl refl
    (giving-gives header (acts.Refused why ∷ h) xs w names (rests-refused header why h w before.1 r) a f.1 keep)
giving-gives header h (Ordered g s n o ∷ xs) w names r a f keep =
    let ps : List Peer = header.gateways in
    let q = peer-at ps g f.0 in
    let p : Peer = q.0 in
    let order : Order = order_told ps o in
    let act : Act = acts.Order (peer_name ps g) s n order in
    let name : peer_name ps g ≡ p.name = place-name ps g p q.1 in
    let before = keeps-before (act ∷ h) (all_told ps xs) keep in
    let v : World = with_node (ordered order (node_of header h p)) w in
    let rest = rests-order header (peer_name ps g) s n order h w g p (record { names = names; low = f.0; place = q.1 }) name before r in
    let more = giving-gives header (act ∷ h) xs v names rest a f.1 keep in
    subst (λ z. Gave header h (act ∷ all_told ps xs) w (order_at order (all_done ps xs) w z (giving (all_done ps xs))))
    (sym (node-there header h w g p r q.1))
    (gave-more header h act (acts.Order p.name (openings p.name h) (orders p.name (openings p.name h) h + 1) order) (all_told ps xs) w v
    (giving (all_done ps xs) v)
    (same-order (peer_name ps g) p.name s n order h (sym name) before.0.1 before.0.2) refl more)
