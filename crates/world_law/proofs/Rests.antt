-- What of a world is what the acts say, but for its controller, and how it goes on with each act of the controller.
use Rattle.std.proofs.Common.{◌≡◌, ℕ, ◌+◌, ◌<◌, ◌==◌, true, false, List, ◌∷◌, map, length, Some, slice_get, refl, sym, ◌∙◌, ap}
use Rattle.std.proofs.lemmas.Option.{slice_get_within}
use Rattle.std.specs.Prelude.{find}
use Rattle.std.specs.Str.{bytes_eq}
use Rattle.ikeless_tree.specs.declared.command.Peer.{Peer}
use Rattle.ikeless_tree.specs.declared.command.Refusal.{Refusal}
use Rattle.ikeless_tree.specs.declared.order.Answer.{Answer}
use Rattle.ikeless_tree.specs.declared.order.Notice.{Notice}
use Rattle.ikeless_tree.specs.declared.order.Order.{Order}
use Rattle.hist_acts.specs.declared.act.Act.{Act}
use Rattle.hist_acts.specs.declared.act.Act.TheVariants as acts
use Rattle.hist_acts.specs.declared.event.Header.{Header}
use Rattle.hist_acts.specs.Past.{clock, events_taken}
use Rattle.hist_controller.specs.Law.{peer_number}
use Rattle.hist_controller.specs.Told.{Named}
use Rattle.hist_gateway.proofs.KeepsLemmas.{same-sym}
use Rattle.hist_safety.proofs.Basics.{name-true}
use Rattle.session_pipe.specs.Sessions.{KeepsSessions}
use Rattle.ctl_core.specs.Core.{Core}
use Rattle.world_steps.specs.Nodes.{Node, cut, heard_answer, heard_notice, opened, ordered}
use Rattle.world_steps.specs.Worlds.{World, node_at, number_of, with_node}
use Rattle.world_law.specs.Stands.{node_of, sent}
use Rattle.world_law.proofs.Peers.{IsPeer, map-there, names-apart, node-named, number-named, placed-there}
use Rattle.world_law.proofs.Moves.{answered-moves, answered-stays, cut-moves, cut-stays, heard-moves, heard-stays, opened-moves, opened-stays, order-moves, order-stays, refused-stays, took-stays}

pub record Rests (header : Header) (h : List Act) (w : World) : Type 0 where
  pub nodes : w.nodes ≡ map (node_of header h) header.gateways
  pub sent : w.sent ≡ sent h
  pub clock : w.clock ≡ clock h
  pub taken : w.taken ≡ events_taken h

-- ---- the node of a gateway

pub node-is : (header : Header) (h : List Act) (w : World) (g : List ℕ) (p : Peer) → Rests header h w → IsPeer header.gateways g p
    → node_at g w ≡ Some (node_of header h p)
node-is header h w g p r is = ap (find (λ n. bytes_eq n.name g)) r.nodes ∙ node-named (node_of header h) g header.gateways p (λ q. refl) is

pub number-is : (header : Header) (h : List Act) (w : World) (g : List ℕ) → Rests header h w → number_of g w ≡ peer_number g header.gateways
number-is header h w g r = ap (λ ns. number_of g (record w { nodes = ns })) r.nodes ∙ number-named (node_of header h) g header.gateways
    (λ q. refl)

-- ---- after an act at no gateway

pub rests-took : (header : Header) (h : List Act) (w : World) → KeepsSessions h → Rests header h w
    → Rests header (acts.Took (events_taken h + 1) ∷ h) (record w { taken = w.taken + 1 })
rests-took header h w keep r = record {
  nodes = r.nodes ∙ sym (map-there (node_of header (acts.Took (events_taken h + 1) ∷ h)) (node_of header h) header.gateways
      (λ j q e. took-stays header (events_taken h + 1) h q keep));
  sent = r.sent;
  clock = r.clock;
  taken = ap (λ n. n + 1) r.taken;
}

pub rests-refused : (header : Header) (why : Refusal) (h : List Act) (w : World) → KeepsSessions h → Rests header h w
    → Rests header (acts.Refused why ∷ h) w
rests-refused header why h w keep r = record {
  nodes = r.nodes ∙ sym (map-there (node_of header (acts.Refused why ∷ h)) (node_of header h) header.gateways
      (λ j q e. refused-stays header why h q keep));
  sent = r.sent;
  clock = r.clock;
  taken = r.taken;
}

-- another controller changes nothing of this
pub rests-controller : (header : Header) (h : List Act) (w : World) (c : Core) → Rests header h w
    → Rests header h (record w { controller = c })
rests-controller header h w c r = record { nodes = r.nodes; sent = r.sent; clock = r.clock; taken = r.taken }

-- ---- after an act at a gateway

-- a peer at its place
pub record IsAt (header : Header) (i : ℕ) (p : Peer) : Type 0 where
  pub names : Named header.gateways
  pub low : i < length header.gateways
  pub place : slice_get header.gateways i ≡ Some p

-- the node of the act's gateway becomes another, and no other node does
nodes-move : (header : Header) (a : Act) (h : List Act) (w : World) (i : ℕ) (p : Peer) (n : Node) → IsAt header i p
    → w.nodes ≡ map (node_of header h) header.gateways → n.name ≡ p.name
    → node_of header (a ∷ h) p ≡ n → ((q : Peer) → bytes_eq p.name q.name ≡ false → node_of header (a ∷ h) q ≡ node_of header h q)
    → (with_node n w).nodes ≡ map (node_of header (a ∷ h)) header.gateways
nodes-move header a h w i p n at nodes name own other =
    ap (λ ns. (with_node n (record w { nodes = ns })).nodes) nodes
    ∙ placed-there (node_of header h) (node_of header (a ∷ h)) p n header.gateways i at.place once (λ q. refl) name (sym own)
    (λ q e. sym (other q (same-sym p.name q.name ∙ e)))
  where
    once : (j : ℕ) (q : Peer) → slice_get header.gateways j ≡ Some q → bytes_eq q.name p.name ≡ (i == j)
    once j q e = names-apart header.gateways i j p q at.names at.low (slice_get_within header.gateways j q e) at.place e

same-name : (f : List ℕ) (p : Peer) → f ≡ p.name → bytes_eq f p.name ≡ true
same-name f p e = name-true f p.name e

other-name : (f : List ℕ) (p q : Peer) → f ≡ p.name → bytes_eq p.name q.name ≡ false → bytes_eq f q.name ≡ false
other-name f p q e d = ap (λ z. bytes_eq z q.name) e ∙ d

pub rests-opened : (header : Header) (f : List ℕ) (s : ℕ) (h : List Act) (w : World) (i : ℕ) (p : Peer) → IsAt header i p → f ≡ p.name
    → KeepsSessions (acts.Opened f s ∷ h) → Rests header h w
    → Rests header (acts.Opened f s ∷ h) (with_node (opened (node_of header h p)) w)
rests-opened header f s h w i p at e keep r = record {
  nodes = nodes-move header (acts.Opened f s) h w i p (opened (node_of header h p)) at r.nodes refl
      (opened-moves header f s h p keep (same-name f p e))
      (λ q d. opened-stays header f s h q keep (other-name f p q e d));
  sent = r.sent;
  clock = r.clock;
  taken = r.taken;
}

pub rests-cut : (header : Header) (f : List ℕ) (s : ℕ) (h : List Act) (w : World) (i : ℕ) (p : Peer) → IsAt header i p → f ≡ p.name
    → KeepsSessions (acts.Cut f s ∷ h) → Rests header h w
    → Rests header (acts.Cut f s ∷ h) (with_node (cut (node_of header h p)) w)
rests-cut header f s h w i p at e keep r = record {
  nodes = nodes-move header (acts.Cut f s) h w i p (cut (node_of header h p)) at r.nodes refl
      (cut-moves header f s h p keep (same-name f p e))
      (λ q d. cut-stays header f s h q keep (other-name f p q e d));
  sent = r.sent;
  clock = r.clock;
  taken = r.taken;
}

pub rests-order : (header : Header) (f : List ℕ) (s k : ℕ) (o : Order) (h : List Act) (w : World) (i : ℕ) (p : Peer) → IsAt header i p
    → f ≡ p.name → KeepsSessions (acts.Order f s k o ∷ h) → Rests header h w
    → Rests header (acts.Order f s k o ∷ h) (with_node (ordered o (node_of header h p)) w)
rests-order header f s k o h w i p at e keep r = record {
  nodes = nodes-move header (acts.Order f s k o) h w i p (ordered o (node_of header h p)) at r.nodes refl
      (order-moves header f s k o h p keep (same-name f p e))
      (λ q d. order-stays header f s k o h q keep (other-name f p q e d));
  sent = r.sent;
  clock = r.clock;
  taken = r.taken;
}

pub rests-answered : (header : Header) (f : List ℕ) (s k : ℕ) (a : Answer) (h : List Act) (w : World) (i : ℕ) (p : Peer) → IsAt header i p
    → f ≡ p.name → KeepsSessions (acts.Answered f s k a ∷ h)
    → Rests header h w → Rests header (acts.Answered f s k a ∷ h) (with_node (heard_answer (node_of header h p)) w)
rests-answered header f s k a h w i p at e keep r = record {
  nodes = nodes-move header (acts.Answered f s k a) h w i p (heard_answer (node_of header h p)) at r.nodes refl
      (answered-moves header f s k a h p keep (same-name f p e))
      (λ q d. answered-stays header f s k a h q keep (other-name f p q e d));
  sent = r.sent;
  clock = r.clock;
  taken = r.taken;
}

pub rests-heard : (header : Header) (f : List ℕ) (s : ℕ) (n : Notice) (h : List Act) (w : World) (i : ℕ) (p : Peer) → IsAt header i p
    → f ≡ p.name → KeepsSessions (acts.Heard f s n ∷ h) → Rests header h w
    → Rests header (acts.Heard f s n ∷ h) (with_node (heard_notice (node_of header h p)) w)
rests-heard header f s n h w i p at e keep r = record {
  nodes = nodes-move header (acts.Heard f s n) h w i p (heard_notice (node_of header h p)) at r.nodes refl
      (heard-moves header f s n h p keep (same-name f p e))
      (λ q d. heard-stays header f s n h q keep (other-name f p q e d));
  sent = r.sent;
  clock = r.clock;
  taken = r.taken;
}
