-- What the core sees of its gateways is what the law says of them.
use Rattle.std.proofs.Common.{◌≡◌, ℕ, zero, suc, ◌<◌, Bool, true, false, ◌==◌, not, ◌&&◌, List, [], ◌∷◌, ◌++◌, Some, inl, inr, length, map, slice_get, refl, ap, ◌∙◌, arith, if◌then◌else◌}
use Rattle.std.specs.List.{list_any}
use Rattle.std.specs.Option.{option_map}
use Rattle.ikeless_tree.specs.declared.command.Peer.{Peer}
use Rattle.hist_acts.specs.Past.{after}
use Rattle.hist_controller.specs.Acts.{Way, ControllerOrder, Read, Policy, PutIn, PutOut, RemoveIn, RemoveOut, ControllerAct}
use Rattle.hist_controller.specs.Past.{is_open, is_first_answered, is_read, queue, newest_list}
use Rattle.hist_controller.specs.Law.{is_reading}
use Rattle.hist_controller.specs.Clauses.{Has}
use Rattle.hist_controller.proofs.KeptState.{map-more}
use Rattle.ctl_tunnels.specs.declared.tunnel.Pair.{Pair}
use Rattle.ctl_tunnels.specs.declared.tunnel.Tunnel.{Tunnel}
use Rattle.ctl_core.specs.declared.peer.Station.{Station}
use Rattle.ctl_core.specs.Core as core
use Rattle.ctl_core.specs.Pass as passes
use Rattle.ctl_core.specs.Step.{readiness, set_ready}
use Rattle.ctl_law.specs.Stands.{waiting_of, session_of, station_of, numbered, progress_of, direction_of, TunnelsStand, no_more, left_out, stands}
use Rattle.ctl_law.proofs.Lines.{Orders, orders_for, same-after, queue-after}
use Rattle.ctl_law.proofs.Numbered.{numbered-map, numbered-get, numbered-length, set-get}
use Rattle.ctl_law.proofs.Pass.{Changed, none_changed, spent_too, changed}
use Rattle.ctl_law.proofs.Spends.{IsSpent, spent-parts}

-- ## one gateway

peer-at : (g : ℕ) (ps : List Peer) → g < length ps → (p : Peer) × (slice_get ps g ≡ Some p)
peer-at g [] l = absurd (omega arith)
peer-at zero (p ∷ ps) l = (p, refl)
peer-at (suc g) (p ∷ ps) l = peer-at g ps (omega arith)

station-at : (ps : List Peer) (h : List ControllerAct) (ss : List Station) (g : ℕ) → ss ≡ numbered (station_of ps h) 0 ps → g < length ps
    → (p : Peer) × (slice_get ss g ≡ Some (station_of ps h g p))
station-at ps h ss g e l =
    let q = peer-at g ps l in
    (q.0, ap (λ xs. slice_get xs g) e ∙ numbered-get (station_of ps h) g 0 g ps (omega arith) ∙ ap (option_map (station_of ps h g)) q.1)

open-of : (a b : Bool) → core.is_open (session_of a b) ≡ a
open-of false b = refl
open-of true false = refl
open-of true true = refl

ready-of : (a b : Bool) → core.is_ready (session_of a b) ≡ (a && b)
ready-of false b = refl
ready-of true false = refl
ready-of true true = refl

pub open-at : (ps : List Peer) (h : List ControllerAct) (ss : List Station) (g : ℕ) → ss ≡ numbered (station_of ps h) 0 ps → g < length ps
    → core.is_open_at ss g ≡ is_open g h
open-at ps h ss g e l = let q = station-at ps h ss g e l in ap core.open_or_not q.1 ∙ open-of (is_open g h) (is_first_answered g h)

pub closed-at : (ps : List Peer) (h : List ControllerAct) (ss : List Station) (g : ℕ) → ss ≡ numbered (station_of ps h) 0 ps → g < length ps
    → core.is_closed_at ss g ≡ not (is_open g h)
closed-at ps h ss g e l = let q = station-at ps h ss g e l in
    ap core.closed_or_not q.1 ∙ ap not (open-of (is_open g h) (is_first_answered g h))

pub list-at : (ps : List Peer) (h : List ControllerAct) (ss : List Station) (g : ℕ) → ss ≡ numbered (station_of ps h) 0 ps → g < length ps
    → core.list_at ss g ≡ newest_list g h
list-at ps h ss g e l = let q = station-at ps h ss g e l in ap core.list_or_none q.1

pub queue-at : (ps : List Peer) (h : List ControllerAct) (ss : List Station) (g : ℕ) → ss ≡ numbered (station_of ps h) 0 ps → g < length ps
    → core.queue_at ss g ≡ map (waiting_of ps) (queue g h)
queue-at ps h ss g e l = let q = station-at ps h ss g e l in ap core.queue_or_none q.1

pub oldest-at : (ps : List Peer) (h : List ControllerAct) (ss : List Station) (g : ℕ) → ss ≡ numbered (station_of ps h) 0 ps → g < length ps
    → core.oldest_or_none (slice_get ss g) ≡ core.order_or_none (core.front (map (waiting_of ps) (queue g h)))
oldest-at ps h ss g e l = let q = station-at ps h ss g e l in ap core.oldest_or_none q.1

reading-of : (ps : List Peer) (o : ControllerOrder) → core.is_reading (waiting_of ps o).order ≡ is_reading o
reading-of ps Read = refl
reading-of ps (Policy l) = refl
reading-of ps (PutIn x) = refl
reading-of ps (PutOut x) = refl
reading-of ps (RemoveIn n) = refl
reading-of ps (RemoveOut n) = refl

pub reading-waits : (ps : List Peer) (q : List ControllerOrder) → core.has_reading (map (waiting_of ps) q) ≡ list_any is_reading q
reading-waits ps [] = refl
reading-waits ps (o ∷ q) = rw (reading-of ps o, reading-waits ps q) refl

pub count-of : (ps : List Peer) (h : List ControllerAct) (ss : List Station) → ss ≡ numbered (station_of ps h) 0 ps → length ss ≡ length ps
count-of ps h ss e = ap length e ∙ numbered-length (station_of ps h) 0 ps

pub reads-at : (ps : List Peer) (h : List ControllerAct) (ss : List Station) (g : ℕ) → ss ≡ numbered (station_of ps h) 0 ps → g < length ps
    → passes.is_read (readiness ss) g ≡ is_read g h
reads-at ps h ss g e l =
    let q = peer-at g ps l in
    ap (λ xs. passes.is_read (readiness xs) g) e
    ∙ ap (λ xs. passes.is_read xs g) (numbered-map (λ s. core.is_ready s.session) (station_of ps h) 0 ps)
    ∙ ap passes.or_false (numbered-get (λ j p. core.is_ready (session_of (is_open j h) (is_first_answered j h))) g 0 g ps (omega arith)
    ∙ ap (option_map (λ p. core.is_ready (session_of (is_open g h) (is_first_answered g h)))) q.1)
    ∙ ready-of (is_open g h) (is_first_answered g h)

pub reads-set : (ps : List Peer) (h : List ControllerAct) (ss : List Station) (g j : ℕ) (b : Bool) → ss ≡ numbered (station_of ps h) 0 ps
    → g < length ps → j < length ps → passes.is_read (set_ready g b (readiness ss)) j ≡ (if j == g then b else is_read j h)
reads-set ps h ss g j b e l m =
    let c : length (readiness ss) ≡ length ps = ap (λ xs. length (readiness xs)) e
    ∙ ap length (numbered-map (λ s. core.is_ready s.session) (station_of ps h) 0 ps)
    ∙ numbered-length (λ j p. core.is_ready (session_of (is_open j h) (is_first_answered j h))) 0 ps in
    set-get g j b (readiness ss) (rw c l) ∙ ap (λ z. if j == g then b else z) (reads-at ps h ss j e m)

-- ## a gateway after more orders

pub station-after : (ps : List Peer) (k xs : List ControllerAct) (j : ℕ) (p : Peer) → Orders xs
    → station_of ps (after k xs) j p ≡ record {
      name = p.name;
      address = p.address;
      session =
          session_of (is_open j k) (is_first_answered j k);
      list = newest_list j k;
      queue = map (waiting_of ps) (queue j k)
          ++ map (waiting_of ps) (orders_for j xs);
    }
station-after ps k xs j p a =
    let s = same-after k xs j a in
    let u : is_open j (after k xs) ≡ is_open j k = s.up in
    let v : is_first_answered j (after k xs) ≡ is_first_answered j k = s.first in
    let w : newest_list j (after k xs) ≡ newest_list j k = s.list in
    let q : queue j (after k xs) ≡ queue j k ++ orders_for j xs = queue-after k xs j a in
    rw (u, v, w, q, map-more (waiting_of ps) (queue j k) (orders_for j xs)) refl

-- ## directions

pub changes : (ch : passes.Effect) (h k : List ControllerAct) (ds : List Way) (ts : List Tunnel) (qs : List Pair) → TunnelsStand h ds ts qs
    → ((d : Way) → Has d ds → ch (direction_of d) (progress_of h d) ≡ progress_of k d)
    → ((d : Way) → Has d ds → IsSpent h d → IsSpent k d)
    → Changed ch k ds ts qs
changes ch h k _ _ _ no_more f g = none_changed
changes ch h k _ _ _ (left_out d e ds ts qs a b r) f g = spent_too d e ds ts qs (g d (inl refl) (spent-parts h d a))
    (g e (inr (inl refl)) (spent-parts h e b)) (changes ch h k ds ts qs r (λ z i. f z (inr (inr i))) (λ z i. g z (inr (inr i))))
changes ch h k _ _ _ (stands d e ds t ts qs a r) f g = changed d e ds t ts _ qs a (f d (inl refl)) (f e (inr (inl refl)))
    (changes ch h k ds ts qs r (λ z i. f z (inr (inr i))) (λ z i. g z (inr (inr i))))
