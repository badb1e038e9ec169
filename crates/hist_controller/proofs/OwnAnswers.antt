-- What an answer makes of the orders that wait.
use Rattle.std.proofs.Common.{◌≡◌, ℕ, ◌≤◌, Bool, true, false, ◌==◌, not, ◌&&◌, ◌||◌, List, ◌∷◌, Option, Some, None, refl, sym, subst, ◌∙◌, ap, arith, if◌then◌else◌}
use Rattle.std.specs.List.{filter}
use Rattle.ikeless_tree.specs.declared.order.Answer.{Answer}
use Rattle.hist_controller.specs.Acts.{Way, Association, ControllerOrder, Read, Policy, PutIn, PutOut, RemoveIn, RemoveOut, ControllerAct, Answered}
use Rattle.hist_controller.specs.Past.{oldest, rest, queue, directions, Kind, PuttingIn, PuttingOut, RemovingIn, RemovingOut, is_kind, is_answer_to, is_out_ordered, has_answer, is_spoiled, is_ended, left, is_own}
use Rattle.hist_controller.specs.State.{KeptAssociation, association_of}
use Rattle.hist_controller.specs.Clauses.{Has, IsControllerPast}
use Rattle.hist_controller.specs.Own.{is_half_order, place_of, is_awaited, OwnWaits, Owner, is_in_order}
use Rattle.hist_controller.proofs.Bools.{second-of-4}
use Rattle.hist_controller.proofs.Serials.{has-filter, of-way, one, one-way}
use Rattle.hist_controller.proofs.Turns.{any-has}
use Rattle.hist_controller.proofs.Befores.{has-rest, is-not}
use Rattle.hist_controller.proofs.Everything.{filter-in}
use Rattle.hist_controller.proofs.Accepts.{placings}
use Rattle.hist_controller.proofs.Waits.{oldest-has}
use Rattle.hist_controller.proofs.CountOrders.{rest-less, front-and}
use Rattle.hist_controller.proofs.Owners.{kept, found, own-of, at-one, own-count, Orderly, move, kind-half, kind-serial, same-id, later-state, later-order}

pub record Front (h : List ControllerAct) (g : ℕ) (x : Association) (k : Kind) : Type 0 where
  pub order : ControllerOrder
  pub oldest : oldest (queue g h) ≡ Some order
  pub kind : is_kind k x.serial order ≡ true
  pub way : Way
  pub of : Has way (directions h)
  pub waits : OwnWaits way h g order
  pub same : waits.association ≡ x

-- the order at the front, where it is one of an association left
pub front : (p : ℕ) (h : List ControllerAct) → IsControllerPast p h → Orderly h → (g : ℕ) (d : Way) (x : Association) → Has x (left d h)
    → (k : Kind) → is_answer_to k x.serial (oldest (queue g h)) ≡ true → Front h g x k
front p h l c g d x i k t = at (oldest (queue g h)) refl t
  where
    at : (q : Option ControllerOrder) → oldest (queue g h) ≡ q → is_answer_to k x.serial q ≡ true → Front h g x k
    at None e t = cc
    at (Some z) e t =
        let w = c.each g z (oldest-has (queue g h) z e) (kind-half k x.serial z t) in
        let s = kind-serial k x.serial z w.waits.association t w.waits.of in
        record {
          order = z;
          oldest = e;
          kind = t;
          way = w.way;
          of = w.of;
          waits = w.waits;
          same =
              one p h l w.way d w.waits.association x w.waits.left i (sym s);
        }

-- it is no order of the association for which another one waits
apart : (p : ℕ) (h : List ControllerAct) → IsControllerPast p h → Orderly h → (g f : ℕ) (d : Way) (o : ControllerOrder)
    → Has d (directions h) → (w : OwnWaits d h f o) → Has o (if f == g then rest (queue f h) else queue f h) → (k : Kind)
    → is_answer_to k w.association.serial (oldest (queue g h)) ≡ false
apart p h l c g f d o i w j k = is-not (is_answer_to k w.association.serial (oldest (queue g h))) (λ t.
    let z = front p h l c g d w.association w.left k t in
    let a = of-way h z.way z.waits.association z.waits.left in
    let a' : (z.way.id == w.association.way.id) ≡ true = ap (λ (y : Association). z.way.id == y.way.id) (sym z.same) ∙ a in
    let b = of-way h d w.association w.left in
    let e : z.way ≡ d = one-way h z.way d z.of i (same-id z.way.id d.id w.association.way.id a' b) in
    let at : g ≡ place_of d z.order = z.waits.at ∙ ap (λ y. place_of y z.order) e in
    let own : is_own d (left d h) z.order ≡ true = subst (λ y. is_own y (left y h) z.order ≡ true) e (own-of h z.way g z.order z.waits) in
    let m = front-and (is_own d (left d h)) h d.sender d.receiver g f z.order o (placings p h l d i).apart (at-one d z.order g at)
    (at-one d o f w.at) z.oldest own (own-of h d f o w) (f == g) refl j in
    let n = c.few d i in
    absurd (omega arith))

answered-state : (o : ControllerOrder) (x : Association) (i s d r e a pi po ro : Bool) → pi ≡ false → po ≡ false → ro ≡ false
    → is_awaited o (kept x i s d r e) ≡ true → is_awaited o (kept x (pi || i) s (po || d) (ro || r) (a || e)) ≡ true
answered-state o x i s d r e a true po ro u v w t = cc
answered-state o x i s d r e a false true ro u v w t = cc
answered-state o x i s d r e a false false true u v w t = cc
answered-state o x i s d r e a false false false u v w t = later-state o x i s d r e a t

answered-order : (x : Association) (i s d r e a pi po ro : Bool) → (po ≡ true → s ≡ true) → (ro ≡ true → (e ≡ true) × (s ≡ true))
    → is_in_order (kept x i s d r e) ≡ true → is_in_order (kept x (pi || i) s (po || d) (ro || r) (a || e)) ≡ true
answered-order x i s d r e a pi po ro f g t = later-order x (pi || i) s (po || d) (ro || r) e a (first pi po ro f g)
  where
    gone : (b : Bool) → (b ≡ true → (e ≡ true) × (s ≡ true)) → is_in_order (kept x i s d (b || r) e) ≡ true
    gone true g =
        let u = g refl in
        let u0 : e ≡ true = u.0 in
        let u1 : s ≡ true = u.1 in
        grind arith
    gone false g = t

    done : (b c : Bool) → (b ≡ true → s ≡ true) → (c ≡ true → (e ≡ true) × (s ≡ true)) → is_in_order (kept x i s (b || d) (c || r) e) ≡ true
    done true c f g =
        let u : s ≡ true = f refl in
        let w = gone c g in
        grind arith
    done false c f g = gone c g

    first : (a b c : Bool) → (b ≡ true → s ≡ true) → (c ≡ true → (e ≡ true) × (s ≡ true))
        → is_in_order (kept x (a || i) s (b || d) (c || r) e) ≡ true
    first true b c f g = let w = done b c f g in grind arith
    first false b c f g = done b c f g

out-was-sent : (n : ℕ) (o : ControllerOrder) (k : KeptAssociation) → is_kind PuttingOut n o ≡ true → is_awaited o k ≡ true
    → k.out_sent ≡ true
out-was-sent n Read k e t = cc
out-was-sent n (Policy l) k e t = cc
out-was-sent n (PutIn x) k e t = cc
out-was-sent n (PutOut x) k e t = second-of-4 k.in_done k.out_sent (not k.out_done) (not k.out_gone) t
out-was-sent n (RemoveIn m) k e t = cc
out-was-sent n (RemoveOut m) k e t = cc

out-was-removed : (n : ℕ) (o : ControllerOrder) (k : KeptAssociation) → is_kind RemovingOut n o ≡ true → is_awaited o k ≡ true
    → (k.ended ≡ true) × (k.out_sent ≡ true)
out-was-removed n Read k e t = cc
out-was-removed n (Policy l) k e t = cc
out-was-removed n (PutIn x) k e t = cc
out-was-removed n (PutOut x) k e t = cc
out-was-removed n (RemoveIn m) k e t = cc
out-was-removed n (RemoveOut m) k e t = both k.ended k.out_sent (not k.out_gone) t
  where
    both : (a b c : Bool) → (a && b && c) ≡ true → (a ≡ true) × (b ≡ true)
    both true true c e = (refl, refl)
    both true false c e = cc
    both false b c e = cc

own-filter : (d : Way) (q : Association → Bool) (xs : List Association) (o : ControllerOrder) → is_own d (filter q xs) o ≡ true
    → is_own d xs o ≡ true
own-filter d q xs Read e = e
own-filter d q xs (Policy l) e = e
own-filter d q xs (PutIn x) e = e
own-filter d q xs (PutOut x) e = e
own-filter d q xs (RemoveIn n) e = let f = found (λ (y : Association). y.serial == n) (filter q xs) e in
    any-has (λ (y : Association). y.serial == n) f.0 xs (has-filter q f.0 xs f.1) f.2
own-filter d q xs (RemoveOut n) e = let f = found (λ (y : Association). y.serial == n) (filter q xs) e in
    any-has (λ (y : Association). y.serial == n) f.0 xs (has-filter q f.0 xs f.1) f.2

answered-each : (p : ℕ) (h : List ControllerAct) (g s n : ℕ) (a : Answer) → IsControllerPast p h → Orderly h → (f : ℕ) (o : ControllerOrder)
    → Has o (if f == g then rest (queue f h) else queue f h) → is_half_order o ≡ true → Owner (Answered g s n a ∷ h) f o
answered-each p h g s n a l c f o i t =
    let k = c.each f o (has-rest (f == g) (queue f h) o i) t in
    let x : Association = k.waits.association in
    let e = apart p h l c g f k.way o k.of k.waits i in
    record {
      way = k.way;
      of = k.of;
      waits = move h (Answered g s n a ∷ h) k.way f o k.waits
          (filter-in (λ y. not (is_answer_to RemovingIn y.serial (oldest (queue g h)))) x (left k.way h) k.waits.left
          (rw (e RemovingIn) refl))
          (answered-state o x (has_answer PuttingIn x.serial h) (is_out_ordered x.serial h) (has_answer PuttingOut x.serial h)
          (has_answer RemovingOut x.serial h) (is_ended x h) (is_spoiled x g (oldest (queue g h)) a (has_answer PuttingIn x.serial h)
          (is_out_ordered x.serial h)) (is_answer_to PuttingIn x.serial (oldest (queue g h)))
          (is_answer_to PuttingOut x.serial (oldest (queue g h))) (is_answer_to RemovingOut x.serial (oldest (queue g h))) (e PuttingIn)
          (e PuttingOut) (e RemovingOut) k.waits.state)
          refl;
    }

answered-sound : (p : ℕ) (h : List ControllerAct) (g s n : ℕ) (a : Answer) → IsControllerPast p h → Orderly h → (d : Way) (x : Association)
    → Has x (left d h) → is_in_order (association_of (Answered g s n a ∷ h) x) ≡ true
answered-sound p h g s n a l c d x i =
    answered-order x (has_answer PuttingIn x.serial h) (is_out_ordered x.serial h) (has_answer PuttingOut x.serial h)
    (has_answer RemovingOut x.serial h) (is_ended x h) (is_spoiled x g (oldest (queue g h)) a (has_answer PuttingIn x.serial h)
    (is_out_ordered x.serial h)) (is_answer_to PuttingIn x.serial (oldest (queue g h)))
    (is_answer_to PuttingOut x.serial (oldest (queue g h))) (is_answer_to RemovingOut x.serial (oldest (queue g h)))
    (λ t. let z = front p h l c g d x i PuttingOut t in
    out-was-sent x.serial z.order (association_of h x) z.kind (state z.order z.waits.association z.same z.waits.state))
    (λ t. let z = front p h l c g d x i RemovingOut t in
    out-was-removed x.serial z.order (association_of h x) z.kind (state z.order z.waits.association z.same z.waits.state))
    (c.sound d x i)
  where
    state : (o : ControllerOrder) (y : Association) → y ≡ x → is_awaited o (association_of h y) ≡ true
        → is_awaited o (association_of h x) ≡ true
    state o y e t = subst (λ z. is_awaited o (association_of h z) ≡ true) e t

answered-few : (h : List ControllerAct) (g s n : ℕ) (a : Answer) (d : Way) → own-count d h ≤ 1 → own-count d (Answered g s n a ∷ h) ≤ 1
answered-few h g s n a d e =
    let q : Association → Bool = λ x. not (is_answer_to RemovingIn x.serial (oldest (queue g h))) in
    let b = rest-less (is_own d (left d (Answered g s n a ∷ h))) (is_own d (left d h))
    (own-filter d (λ x. not (is_answer_to RemovingIn x.serial (oldest (queue g h)))) (left d h)) (d.sender == g) (queue d.sender h) in
    let c = rest-less (is_own d (left d (Answered g s n a ∷ h))) (is_own d (left d h))
    (own-filter d (λ x. not (is_answer_to RemovingIn x.serial (oldest (queue g h)))) (left d h)) (d.receiver == g) (queue d.receiver h)
    in
    omega arith

pub orderly-answered : (p : ℕ) (h : List ControllerAct) (g s n : ℕ) (a : Answer) → IsControllerPast p h → Orderly h
    → Orderly (Answered g s n a ∷ h)
orderly-answered p h g s n a l c =
    record {
      each = λ f o i t. answered-each p h g s n a l c f o i t;
      few = λ d i. answered-few h g s n a d (c.few d i);
      sound = λ d x i. answered-sound p h g s n a l c d x (has-filter (λ y. not (is_answer_to RemovingIn y.serial (oldest (queue g h)))) x
          (left d h) i);
    }
