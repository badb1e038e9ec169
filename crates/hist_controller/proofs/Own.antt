-- At most one put or removal of a direction's own waits, and it is of an association left, at its gateway.
use Rattle.std.proofs.Common.{◌≡◌, ℕ, ◌+◌, ◌≤◌, Bool, true, false, ◌==◌, ◌||◌, List, [], ◌∷◌, ◌++◌, ◌⊎◌, inl, inr, length, refl, sym, subst, ◌∙◌, ap, arith, if◌then◌else◌, append-nil}
use Rattle.std.specs.List.{filter, list_any}
use Rattle.std.specs.Option.{is_some}
use Rattle.ikeless_tree.specs.declared.order.Notice.{Notice}
use Rattle.ikeless_tree.specs.declared.command.Refusal.{Refusal}
use Rattle.hist_controller.specs.Acts.{Way, Association, ControllerOrder, Read, Policy, PutIn, PutOut, RemoveIn, RemoveOut, PlacedCommand, SetPolicy, Tunnel, End, Rekey, Keys, ControllerAct, Opened, Cut, Answered, Heard, Ordered, Accepted, Refused}
use Rattle.hist_controller.specs.Past.{oldest, queue, directions, new_ways, is_made_by, is_end_of, PuttingIn, PuttingOut, RemovingOut, is_out_ordered, has_answer, is_ended, left, is_own, is_busy}
use Rattle.hist_controller.specs.State.{association_of}
use Rattle.hist_controller.specs.Clauses.{Has, IsControllerPast}
use Rattle.hist_controller.specs.Own.{own_orders, waiting_order, is_half_order, place_of, IsOf, OwnWaits, Owner, is_in_order, IsOfLeft}
use Rattle.hist_controller.proofs.Lists.{has-left, length-both}
use Rattle.hist_controller.proofs.KeptState.{rising, made-no}
use Rattle.hist_controller.proofs.Serials.{has-more, has-if, of-way, upto}
use Rattle.hist_controller.proofs.Befores.{has-none, is-not}
use Rattle.hist_controller.proofs.Homes.{own-way}
use Rattle.hist_controller.proofs.CountOrders.{count, length-count, count-none, none-less}
use Rattle.hist_controller.proofs.Owners.{own-half, same-owner, own-count, Orderly, move, later-state, later-order}
use Rattle.hist_controller.proofs.OwnAnswers.{orderly-answered}
use Rattle.hist_controller.proofs.OwnOrders.{orderly-ordered}

-- ## sessions and commands

orderly-opened : (h : List ControllerAct) (g s : ℕ) → Orderly h → Orderly (Opened g s ∷ h)
orderly-opened h g s c =
    record {
      each = λ f o i t.
          let k = c.each f o (has-none (f == g) (queue f h) o i) t in
          record { way = k.way; of = k.of; waits = move h (Opened g s ∷ h) k.way f o k.waits k.waits.left k.waits.state refl };
      few = λ d i.
          let e = c.few d i in
          let a = none-less (is_own d (left d h)) (d.sender == g) (queue d.sender h) in
          let b = none-less (is_own d (left d h)) (d.receiver == g) (queue d.receiver h) in
          omega arith;
      sound = c.sound;
    }

orderly-cut : (h : List ControllerAct) (g s : ℕ) → Orderly h → Orderly (Cut g s ∷ h)
orderly-cut h g s c =
    record {
      each = λ f o i t.
          let k = c.each f o (has-none (f == g) (queue f h) o i) t in
          let x : Association = k.waits.association in
          record {
            way = k.way;
            of = k.of;
            waits = move h (Cut g s ∷ h) k.way f o k.waits k.waits.left
                (later-state o x (has_answer PuttingIn x.serial h) (is_out_ordered x.serial h) (has_answer PuttingOut x.serial h)
                (has_answer RemovingOut x.serial h) (is_ended x h) _ k.waits.state) refl;
          };
      few = λ d i.
          let e = c.few d i in
          let a = none-less (is_own d (left d h)) (d.sender == g) (queue d.sender h) in
          let b = none-less (is_own d (left d h)) (d.receiver == g) (queue d.receiver h) in
          omega arith;
      sound = λ d x i. later-order x (has_answer PuttingIn x.serial h) (is_out_ordered x.serial h) (has_answer PuttingOut x.serial h)
          (has_answer RemovingOut x.serial h) (is_ended x h) _ (c.sound d x i);
    }

orderly-heard : (h : List ControllerAct) (g s : ℕ) (t : Notice) → Orderly h → Orderly (Heard g s t ∷ h)
orderly-heard h g s t c =
    record {
      each = λ f o i u. let k = c.each f o i u in
          record { way = k.way; of = k.of; waits = move h (Heard g s t ∷ h) k.way f o k.waits k.waits.left k.waits.state refl };
      few = c.few;
      sound = c.sound;
    }

orderly-refused : (h : List ControllerAct) (w : Refusal) → Orderly h → Orderly (Refused w ∷ h)
orderly-refused h w c =
    record {
      each = λ f o i u. let k = c.each f o i u in
          record { way = k.way; of = k.of; waits = move h (Refused w ∷ h) k.way f o k.waits k.waits.left k.waits.state refl };
      few = c.few;
      sound = c.sound;
    }

pub old-made : (h : List ControllerAct) (c : PlacedCommand) (d : Way) → Has d (directions h)
    → is_made_by c (length (directions h)) d ≡ false
old-made h c d i = let u = upto 0 (directions h) d (rising h) i in made-no c (length (directions h)) d (omega arith)

pub new-made : (c : PlacedCommand) (n : ℕ) (d : Way) → Has d (new_ways n c) → (is_made_by c n d ≡ true) × (n ≤ d.id)
new-made (SetPolicy g l) n d i = absurd i
new-made (Tunnel t) n d (inl e) = let w : d.id ≡ n = ap (λ (z : Way). z.id) e in (grind arith, omega arith)
new-made (Tunnel t) n d (inr (inl e)) = let w : d.id ≡ n + 1 = ap (λ (z : Way). z.id) e in (grind arith, omega arith)
new-made (Tunnel t) n d (inr (inr i)) = absurd i
new-made (End r) n d i = absurd i
new-made (Rekey r) n d i = absurd i
new-made (Keys k) n d i = absurd i

-- no order of a direction waits before its command
no-put-yet : (h : List ControllerAct) → Orderly h → (d : Way) → length (directions h) ≤ d.id
    → (f : ℕ) (o : ControllerOrder) (x : Association) → Has o (queue f h) → is_half_order o ≡ true → ((w : Association) → IsOf w o → x ≡ w)
    → (d.id == x.way.id) ≡ false
no-put-yet h c d u f o x i t q = is-not (d.id == x.way.id) (λ v.
    let k = c.each f o i t in
    let e = q k.waits.association k.waits.of in
    let a = of-way h k.way k.waits.association k.waits.left in
    let a' : (k.way.id == x.way.id) ≡ true = ap (λ (z : Association). k.way.id == z.way.id) e ∙ a in
    let b = upto 0 (directions h) k.way (rising h) k.of in
    let w : d.id ≡ k.way.id = grind arith in
    absurd (omega arith))

none-yet : (h : List ControllerAct) → Orderly h → (d : Way) → length (directions h) ≤ d.id → (f : ℕ) (o : ControllerOrder)
    → Has o (queue f h) → is_own d [] o ≡ false
none-yet h c d u f Read i = refl
none-yet h c d u f (Policy l) i = refl
none-yet h c d u f (PutIn x) i = no-put-yet h c d u f (PutIn x) x i refl (λ w e. e)
none-yet h c d u f (PutOut x) i = no-put-yet h c d u f (PutOut x) x i refl (λ w e. e)
none-yet h c d u f (RemoveIn n) i = refl
none-yet h c d u f (RemoveOut n) i = refl

told-few : (h : List ControllerAct) (c : PlacedCommand) → Orderly h → (d : Way) → Has d (directions h)
    ⊎ Has d (new_ways (length (directions h)) c) → own-count d (Accepted c ∷ h) ≤ 1
told-few h c k d (inl i) =
    subst (λ b. count (is_own d (if b then [] else left d h)) (queue d.sender h) + count (is_own d (if b then [] else left d h))
    (queue d.receiver h) ≤ 1) (sym (old-made h c d i)) (k.few d i)
told-few h c k d (inr i) =
    let n = new-made c (length (directions h)) d i in
    let a = count-none (is_own d []) (queue d.sender h) (λ o j. none-yet h k d n.1 d.sender o j) in
    let b = count-none (is_own d []) (queue d.receiver h) (λ o j. none-yet h k d n.1 d.receiver o j) in
    let e : count (is_own d []) (queue d.sender h) + count (is_own d []) (queue d.receiver h) ≤ 1 = omega arith in
    subst (λ b. count (is_own d (if b then [] else left d h)) (queue d.sender h) + count (is_own d (if b then [] else left d h))
    (queue d.receiver h) ≤ 1) (sym n.0) e

orderly-told : (h : List ControllerAct) (c : PlacedCommand) → Orderly h → Orderly (Accepted c ∷ h)
orderly-told h c k =
    record {
      each = λ f o i t.
          let w = k.each f o i t in
          let x : Association = w.waits.association in
          let e = old-made h c w.way w.of in
          record {
            way = w.way;
            of = has-left w.way (directions h) _ w.of;
            waits = move h (Accepted c ∷ h) w.way f o w.waits (rw e w.waits.left) (later-state o x (has_answer PuttingIn x.serial h)
                (is_out_ordered x.serial h) (has_answer PuttingOut x.serial h) (has_answer RemovingOut x.serial h) (is_ended x h)
                (is_end_of x.way.tunnel.reqid c) w.waits.state) (rw e refl);
          };
      few = λ d i. told-few h c k d (has-more d (directions h) (new_ways (length (directions h)) c) i);
      sound = λ d x i. later-order x (has_answer PuttingIn x.serial h) (is_out_ordered x.serial h) (has_answer PuttingOut x.serial h)
          (has_answer RemovingOut x.serial h) (is_ended x h) (is_end_of x.way.tunnel.reqid c) (k.sound d x (has-if x _ (left d h) i).1);
    }

-- ## the whole

pub orderly : (p : ℕ) (h : List ControllerAct) → IsControllerPast p h → Orderly h
orderly p [] l = record { each = λ g o i t. absurd i; few = λ d i. absurd i; sound = λ d x i. absurd i }
orderly p (Opened g s ∷ h) l = orderly-opened h g s (orderly p h l.1)
orderly p (Cut g s ∷ h) l = orderly-cut h g s (orderly p h l.1)
orderly p (Answered g s n a ∷ h) l = orderly-answered p h g s n a l.1 (orderly p h l.1)
orderly p (Heard g s t ∷ h) l = orderly-heard h g s t (orderly p h l.1)
orderly p (Ordered g s n o ∷ h) l = orderly-ordered p h g s n o l (orderly p h l.1)
orderly p (Accepted c ∷ h) l = orderly-told h c (orderly p h l.1)
orderly p (Refused w ∷ h) l = orderly-refused h w (orderly p h l.1)

pub one-own : (p : ℕ) (h : List ControllerAct) → IsControllerPast p h → (d : Way) → Has d (directions h) → length (own_orders d h) ≤ 1
one-own p h l d i =
    let c = (orderly p h l).few d i in
    let a = length-both (filter (is_own d (left d h)) (queue d.sender h)) (filter (is_own d (left d h)) (queue d.receiver h)) in
    let s = length-count (is_own d (left d h)) (queue d.sender h) in
    let r = length-count (is_own d (left d h)) (queue d.receiver h) in
    omega arith

pub each-owned : (p : ℕ) (h : List ControllerAct) → IsControllerPast p h → (g : ℕ) (o : ControllerOrder) → Has o (queue g h)
    → is_half_order o ≡ true → Owner h g o
each-owned p h l g o i t = (orderly p h l).each g o i t

pub own-waits : (p : ℕ) (h : List ControllerAct) → IsControllerPast p h → (d : Way) → Has d (directions h) → (g : ℕ) (o : ControllerOrder)
    → Has o (queue g h) → is_own d (left d h) o ≡ true → OwnWaits d h g o
own-waits p h l d i g o j t =
    let k = (orderly p h l).each g o j (own-half d (left d h) o t) in
    let e : d ≡ k.way = same-owner p h l d k.way g o i k.of t k.waits in
    subst (λ y. OwnWaits y h g o) (sym e) k.waits

pub in-order : (p : ℕ) (h : List ControllerAct) → IsControllerPast p h → (d : Way) (x : Association) → Has x (left d h)
    → is_in_order (association_of h x) ≡ true
in-order p h l d x i = (orderly p h l).sound d x i

record AtHome (h : List ControllerAct) (g : ℕ) (o : ControllerOrder) : Type 0 where
  pub association : Association
  pub of : IsOf association o
  pub known : Has association.way (directions h)
  pub left : Has association (left association.way h)
  pub at : g ≡ place_of association.way o

at-home : (p : ℕ) (h : List ControllerAct) → IsControllerPast p h → (g : ℕ) (o : ControllerOrder) → Has o (queue g h)
    → is_half_order o ≡ true → AtHome h g o
at-home p h l g o i t =
    let k = each-owned p h l g o i t in
    let x : Association = k.waits.association in
    let e : k.way ≡ x.way = own-way p h l k.way x k.of k.waits.left in
    record {
      association = x;
      of = k.waits.of;
      known = subst (λ y. Has y (directions h)) e k.of;
      left = subst (λ y. Has x (left y h)) e k.waits.left;
      at = k.waits.at ∙ ap (λ y. place_of y o) e;
    }

put-at-home : (h : List ControllerAct) (g : ℕ) (x : Association) (o : ControllerOrder) (k : AtHome h g o) → x ≡ k.association
    → Has x.way (directions h) × Has x (left x.way h) × (g ≡ place_of x.way o)
put-at-home h g x o k e = subst (λ y. Has y.way (directions h) × Has y (left y.way h) × (g ≡ place_of y.way o)) (sym e)
    (k.known, k.left, k.at)

pub waiting-left : (p : ℕ) (h : List ControllerAct) → IsControllerPast p h → (g : ℕ) (o : ControllerOrder) → Has o (queue g h)
    → IsOfLeft h g o
waiting-left p h l g Read i = tt
waiting-left p h l g (Policy q) i = tt
waiting-left p h l g (PutIn x) i = let k = at-home p h l g (PutIn x) i refl in put-at-home h g x (PutIn x) k k.of
waiting-left p h l g (PutOut x) i = let k = at-home p h l g (PutOut x) i refl in put-at-home h g x (PutOut x) k k.of
waiting-left p h l g (RemoveIn n) i = let k = at-home p h l g (RemoveIn n) i refl in (k.association, k.of, k.known, k.left, k.at)
waiting-left p h l g (RemoveOut n) i = let k = at-home p h l g (RemoveOut n) i refl in (k.association, k.of, k.known, k.left, k.at)

-- ## busy

some-filter : (p : ControllerOrder → Bool) (xs ys : List ControllerOrder) → is_some (oldest (filter p xs ++ ys)) ≡ (list_any p xs
    || is_some (oldest ys))
some-filter p [] ys = refl
some-filter p (x ∷ xs) ys = at (p x) (some-filter p xs ys)
  where
    at : (b : Bool) → is_some (oldest (filter p xs ++ ys)) ≡ (list_any p xs || is_some (oldest ys))
        → is_some (oldest ((if b then x ∷ filter p xs else filter p xs) ++ ys)) ≡ ((b || list_any p xs) || is_some (oldest ys))
    at true e = refl
    at false e = e

pub busy-waiting : (d : Way) (h : List ControllerAct) → is_busy d h ≡ is_some (waiting_order d h)
busy-waiting d h =
    let own : ControllerOrder → Bool = is_own d (left d h) in
    let a = some-filter (is_own d (left d h)) (queue d.receiver h) [] in
    let b = some-filter (is_own d (left d h)) (queue d.sender h) (filter (is_own d (left d h)) (queue d.receiver h)) in
    sym (b ∙ ap (λ t. list_any (is_own d (left d h)) (queue d.sender h) || t)
    (ap (λ t. is_some (oldest t)) (sym (append-nil (filter (is_own d (left d h)) (queue d.receiver h))))
    ∙ (a ∙ or-none (list_any (is_own d (left d h)) (queue d.receiver h)))))
  where
    or-none : (b : Bool) → (b || false) ≡ b
    or-none true = refl
    or-none false = refl
