-- An answer to the oldest waiting order.
use Rattle.std.proofs.Common.{◌≡◌, ℕ, ◌+◌, ◌<◌, Bool, true, false, ◌==◌, not, ◌&&◌, ◌||◌, nat_le, List, [], ◌∷◌, Some, ◌⊎◌, inl, inr, length, map, refl, sym, ap, ◌∙◌, arith, if◌then◌else◌}
use Rattle.std.specs.List.{filter}
use Rattle.ikeless_tree.specs.declared.command.Peer.{Peer}
use Rattle.ikeless_tree.specs.declared.order.Answer.{Answer}
use Rattle.hist_acts.specs.Past.{after}
use Rattle.std.proofs.Math.Bool.{or-true}
use Rattle.hist_controller.specs.Acts.{Way, ControllerOrder, Read, Policy, PutIn, PutOut, RemoveIn, RemoveOut, ControllerAct, Answered}
use Rattle.hist_controller.specs.Past.{is_open, is_first_answered, is_read, openings, answered, oldest, queue, directions, is_answer_to, RemovingIn}
use Rattle.hist_controller.specs.Law.{going, by_answer}
use Rattle.hist_controller.specs.Clauses.{Has, IsControllerPast}
use Rattle.hist_controller.specs.Halves.{is_plain, PlainAnswers}
use Rattle.hist_controller.specs.Told.{order_told}
use Rattle.hist_controller.proofs.Accepts.{placings}
use Rattle.hist_controller.proofs.KeysInTurn.{first-reading}
use Rattle.hist_controller.proofs.KeptState.{eq-own}
use Rattle.hist_controller.proofs.Waits.{shut-queue}
use Rattle.ctl_core.specs.declared.peer.Session.TheVariants as sessions
use Rattle.ctl_core.specs.Core as core
use Rattle.ctl_core.specs.Core.{Core, at}
use Rattle.ctl_core.specs.Step as step
use Rattle.ctl_law.specs.Stands.{waiting_of, station_of, StandsFor}
use Rattle.ctl_law.specs.Told.{is_status_of, may_answer}
use Rattle.ctl_law.proofs.Follows.{Follows, follows-still, follows-at}
use Rattle.ctl_law.proofs.Goes.{Ran, runs, longer, all_orders}
use Rattle.ctl_law.proofs.Looks.{queue-at, oldest-at, reads-set, station-after, changes}
use Rattle.ctl_law.proofs.Numbered.{numbered-at}
use Rattle.ctl_law.proofs.OwnReplies.{progress-answered}
use Rattle.ctl_law.proofs.Spends.{IsSpent}

-- a status of a put is 201, or refuses it
put-status : (n : ℕ) → ((n == 201) || (n == 409)) ≡ true → ((n == 201) || nat_le 400 n) ≡ true
put-status n e = case (n == 201) (n == 409) refl refl e
  where
    case : (a b : Bool) → (n == 201) ≡ a → (n == 409) ≡ b → (a || b) ≡ true → (a || nat_le 400 n) ≡ true
    case true b t u v = refl
    case false true t u v = grind arith
    case false false t u v = cc

pub plain-status : (ps : List Peer) (o : ControllerOrder) (n : ℕ) → is_status_of (order_told ps o) n ≡ true → is_plain (Some o) n ≡ true
plain-status ps Read n e = refl
plain-status ps (Policy l) n e = refl
plain-status ps (PutIn x) n e = put-status n e
plain-status ps (PutOut x) n e = put-status n e
plain-status ps (RemoveIn m) n e = refl
plain-status ps (RemoveOut m) n e = refl

open-by : (p : ℕ) (h : List ControllerAct) (g : ℕ) (o : ControllerOrder) (os : List ControllerOrder) → IsControllerPast p h → queue g h ≡ o
    ∷ os → (b : Bool) → is_open g h ≡ b → b ≡ true
open-by p h g o os l e true t = refl
open-by p h g o os l e false t = absurd (let w : o ∷ os ≡ [] = sym e ∙ shut-queue p h g l t in cc)

read-then : (n : ℕ) (f : Bool) → (f ≡ true) ⊎ (n ≡ 0) → ((n + 1 == 1) || f) ≡ true
read-then n f (inl e) = rw e (or-true (n + 1 == 1))
read-then n f (inr e) = rw e refl

spent-answered : (h : List ControllerAct) (g s n : ℕ) (a : Answer) (d : Way) → IsSpent h d → IsSpent (Answered g s n a ∷ h) d
spent-answered h g s n a d u = record {
  over = u.over;
  left = ap (filter (λ x. not (is_answer_to RemovingIn x.serial (oldest (queue g h)))))
      u.left;
}

answering : (ps : List Peer) (h : List ControllerAct) (c : Core) (g s n : ℕ) (a : Answer) (o : ControllerOrder) (os : List ControllerOrder)
    → IsControllerPast (length ps) h → PlainAnswers h → StandsFor ps h c → g < length ps
    → queue g h ≡ o ∷ os → is_status_of (order_told ps o) a.status ≡ true → s ≡ openings g h → n ≡ answered g h + 1
    → Follows ps h (going h (Answered g s n a)) (step.answering c g (step.front_effect g a (Some (waiting_of ps o))))
answering ps h c g s n a o os l y f i q t u v =
    follows-at ps h [] (Answered g s n a) c (step.front_effect g a (Some (waiting_of ps o)))
    (step.set_ready g true (step.readiness c.stations)) (step.no_draft c) g
    (λ t. record t { session = sessions.Read; queue = core.without_front t.queue }) refl run
    (numbered-at (λ t. record t { session = sessions.Read; queue = core.without_front t.queue })
    (longer ps h (all_orders (Answered g s n a ∷ h) []))
    (station_of ps (after (Answered g s n a ∷ h) (all_orders (Answered g s n a ∷ h) []))) g 0 g ps (omega arith) here there)
  where
    up : is_open g h ≡ true
    up = open-by (length ps) h g o os l q (is_open g h) refl

    first : ((n == 1) || is_first_answered g h) ≡ true
    first = ap (λ z. (z == 1) || is_first_answered g h) v ∙ read-then (answered g h) (is_first_answered g h)
        (first-reading (length ps) h l g)

    reads : (j : ℕ) (b : Bool) → (j == g) ≡ b → (if b then true else is_read j h) ≡ (is_open j h
        && ((b && (n == 1)) || is_first_answered j h))
    reads j true w =
        let e : j ≡ g = grind arith in
        let z : is_open j h ≡ true = rw e up in
        let x : ((n == 1) || is_first_answered j h) ≡ true = rw e first in
        rw (z, x) refl
    reads j false w = refl

    apart : (d : Way) → Has d (directions h) → (d.sender == d.receiver) ≡ false
    apart d j = (placings (length ps) h l d j).apart

    run : Ran ps h (Answered g s n a ∷ h) [] c (step.front_effect g a (Some (waiting_of ps o)))
        (step.set_ready g true (step.readiness c.stations)) (step.no_draft c)
    run = runs ps h (Answered g s n a ∷ h) [] c _ _ _ (record {
      stations = f.gateways;
      keys = f.keys;
      serials = f.serials;
      changed = changes (step.front_effect g a (Some (waiting_of ps o))) h (Answered g s n a ∷ h) (directions h) c.tunnels c.pairs f.tunnels
          (λ d j. sym (progress-answered (length ps) h g s n a o os ps d l y j (apart d j) q)) (λ d j w. spent-answered h g s n a d w);
      reads = λ j m. reads-set ps h c.stations g j true f.gateways i m ∙ reads j (j == g) refl;
      lawful = ((o, ap oldest q, u, v), l);
      plain = (ap (λ z. is_plain (oldest z) a.status) q ∙ plain-status ps o a.status t, y);
      may = tt;
      asked = tt;
      draft = refl;
    })

    here : (p : Peer) → record (longer ps h (all_orders (Answered g s n a ∷ h) []) g p) {
      session = sessions.Read;
      queue =
          core.without_front (longer ps h (all_orders (Answered g s n a ∷ h) []) g p).queue;
    } ≡ station_of ps
        (after (Answered g s n a ∷ h) (all_orders (Answered g s n a ∷ h) [])) g p
    here p =
        let e : (g == g) ≡ true = eq-own g in
        rw (station-after ps (Answered g s n a ∷ h) (all_orders (Answered g s n a ∷ h) []) g p run.orders) (rw (e, q, up, first) refl)

    there : (j : ℕ) (p : Peer) → (j == g) ≡ false → longer ps h (all_orders (Answered g s n a ∷ h) []) j p ≡ station_of ps
        (after (Answered g s n a ∷ h) (all_orders (Answered g s n a ∷ h) [])) j p
    there j p w = rw (station-after ps (Answered g s n a ∷ h) (all_orders (Answered g s n a ∷ h) []) j p run.orders) (rw w refl)

pub answered-follows : (ps : List Peer) (h : List ControllerAct) (c : Core) (g : ℕ) (a : Answer) → IsControllerPast (length ps) h
    → PlainAnswers h → StandsFor ps h c → g < length ps → may_answer (core.expected c g) a.status ≡ true
    → Follows ps h (by_answer h g a (queue g h)) (step.answered c g a)
answered-follows ps h c g a l y s i t = case (queue g h) refl (queue-at ps h c.stations g s.gateways i)
    (ap (λ z. may_answer z a.status) (sym (oldest-at ps h c.stations g s.gateways i)) ∙ t)
  where
    case : (os : List ControllerOrder) → queue g h ≡ os → core.queue_at c.stations g ≡ map (waiting_of ps) (queue g h)
        → may_answer (core.order_or_none (core.front (map (waiting_of ps) (queue g h)))) a.status ≡ true
        → Follows ps h (by_answer h g a os) (step.answered c g a)
    case [] q e u = rw (e, q) (follows-still ps h c s)
    case (o ∷ os) q e u =
        rw (e, q) (answering ps h c g (openings g h) (answered g h + 1) a o os l y s i q
        (ap (λ z. may_answer (core.order_or_none (core.front (map (waiting_of ps) z))) a.status) (sym q) ∙ u) refl refl)
