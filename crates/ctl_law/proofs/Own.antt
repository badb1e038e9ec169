-- The orders of a direction's own that wait.
use Rattle.std.proofs.Common.{◌≡◌, ℕ, ◌≤◌, Bool, true, false, ◌==◌, ◌||◌, List, [], ◌∷◌, ◌++◌, Option, Some, inl, inr, length, refl, sym, subst, ap, ◌∙◌, arith, if◌then◌else◌}
use Rattle.std.proofs.lemmas.Grind.{common_steps}
use Rattle.std.specs.List.{filter, list_any}
use Rattle.hist_controller.specs.Acts.{Way, Association, ControllerOrder, Read, Policy, PutIn, PutOut, RemoveIn, RemoveOut, ControllerAct}
use Rattle.hist_controller.specs.Past.{queue, directions, left, is_own}
use Rattle.hist_controller.specs.Clauses.{Has, IsControllerPast}
use Rattle.hist_controller.proofs.Turns.{any-has}
use Rattle.hist_controller.proofs.Serials.{one, one-way}
use Rattle.hist_controller.proofs.Homes.{own-way}
use Rattle.ctl_tunnels.specs.declared.life.HalfOrder.{HalfOrder}
use Rattle.ctl_tunnels.specs.declared.life.Task.{Task}
use Rattle.ctl_tunnels.specs.declared.life.Task.TheVariants as tasks
use Rattle.ctl_tunnels.specs.Lives as lives
use Rattle.ctl_law.specs.Stands.{half_of}
use Rattle.hist_controller.proofs.Own.{waiting-left, one-own}
use Rattle.ctl_law.proofs.Lists.{not-true, filter-passes}

-- the order is of this serial
abbrev pub has_serial : ℕ → ControllerOrder → Bool
has_serial n Read = false
has_serial n (Policy l) = false
has_serial n (PutIn y) = n == y.serial
has_serial n (PutOut y) = n == y.serial
has_serial n (RemoveIn m) = n == m
has_serial n (RemoveOut m) = n == m

abbrev pub half : Task → ℕ → Option HalfOrder
half t n = Some (record { task = t; serial = n })

abbrev pub home : Way → Task → ℕ
home d t = if lives.is_inbound t then d.receiver else d.sender

-- an order of its own, of an association left
pub record OwnOrder (h : List ControllerAct) (d : Way) (g : ℕ) (o : ControllerOrder) : Type 0 where
  pub task : Task
  pub association : Association
  pub is : half_of o ≡ half task association.serial
  pub left : Has association (left d h)
  pub at : g ≡ home d task

any-one : (n : ℕ) (xs : List Association) → list_any (λ x. x.serial == n) xs ≡ true → (x : Association) × Has x xs × (x.serial ≡ n)
any-one n [] e = cc
any-one n (x ∷ xs) e = case (x.serial == n) refl (any-one n xs) e
  where
    case : (b : Bool) → (x.serial == n) ≡ b → (list_any (λ z. z.serial == n) xs ≡ true → (z : Association) × Has z xs × (z.serial ≡ n))
        → (b || list_any (λ z. z.serial == n) xs) ≡ true → (z : Association) × Has z (x ∷ xs) × (z.serial ≡ n)
    case true t f u = (x, inl refl, grind arith)
    case false t f u = let q = f u in (q.0, inr q.1, q.2)

same-id : (d e : Way) → (d.id == e.id) ≡ true → d.id ≡ e.id
same-id d e t = grind arith

pub own-order : (p : ℕ) (h : List ControllerAct) → IsControllerPast p h → (d : Way) → Has d (directions h) → (g : ℕ) (o : ControllerOrder)
    → Has o (queue g h) → is_own d (left d h) o ≡ true → OwnOrder h d g o
own-order p h l d i g Read j t = cc
own-order p h l d i g (Policy r) j t = cc
own-order p h l d i g (PutIn y) j t =
    let w = waiting-left p h l g (PutIn y) j in
    let e : d ≡ y.way = one-way h d y.way i w.0 (same-id d y.way t) in
    record {
      task = tasks.PutIn;
      association = y;
      is = refl;
      left = subst (λ z. Has y (left z h)) (sym e) w.1;
      at = w.2
          ∙ ap (λ (z : Way). z.receiver) (sym e);
    }
own-order p h l d i g (PutOut y) j t =
    let w = waiting-left p h l g (PutOut y) j in
    let e : d ≡ y.way = one-way h d y.way i w.0 (same-id d y.way t) in
    record {
      task = tasks.PutOut;
      association = y;
      is = refl;
      left = subst (λ z. Has y (left z h)) (sym e) w.1;
      at = w.2
          ∙ ap (λ (z : Way). z.sender) (sym e);
    }
own-order p h l d i g (RemoveIn n) j t =
    let w = waiting-left p h l g (RemoveIn n) j in
    let q = any-one n (left d h) t in
    let s : q.0 ≡ w.0 = one p h l d w.0.way q.0 w.0 q.1 w.3 (q.2 ∙ w.1) in
    let e : d ≡ q.0.way = own-way p h l d q.0 i q.1 in
    record {
      task = tasks.RemoveIn;
      association = q.0;
      is = ap (half tasks.RemoveIn) (sym q.2);
      left = q.1;
      at = w.4
          ∙ ap (λ (z : Association). z.way.receiver) (sym s) ∙ ap (λ (z : Way). z.receiver) (sym e);
    }
own-order p h l d i g (RemoveOut n) j t =
    let w = waiting-left p h l g (RemoveOut n) j in
    let q = any-one n (left d h) t in
    let s : q.0 ≡ w.0 = one p h l d w.0.way q.0 w.0 q.1 w.3 (q.2 ∙ w.1) in
    let e : d ≡ q.0.way = own-way p h l d q.0 i q.1 in
    record {
      task = tasks.RemoveOut;
      association = q.0;
      is = ap (half tasks.RemoveOut) (sym q.2);
      left = q.1;
      at = w.4
          ∙ ap (λ (z : Association). z.way.sender) (sym s) ∙ ap (λ (z : Way). z.sender) (sym e);
    }

-- An order of another direction is of no association left in this one.
pub foreign : (p : ℕ) (h : List ControllerAct) → IsControllerPast p h → (d : Way) → Has d (directions h) → (g : ℕ) (o : ControllerOrder)
    → Has o (queue g h) → is_own d (left d h) o ≡ false → (x : Association) → Has x (left d h) → has_serial x.serial o ≡ false
foreign p h l d i g Read j t x k = refl
foreign p h l d i g (Policy r) j t x k = refl
foreign p h l d i g (PutIn y) j t x k = not-true (x.serial == y.serial) (λ u.
    let w = waiting-left p h l g (PutIn y) j in
    let s : x ≡ y = one p h l d y.way x y k w.1 (grind arith) in
    let e : d ≡ x.way = own-way p h l d x i k in
    let f : (d.id == y.way.id) ≡ true = (let q : d.id ≡ y.way.id = ap (λ (z : Way). z.id) e ∙ ap (λ (z : Association). z.way.id) s in
    grind arith) in
    let v : true ≡ false = sym f ∙ t in cc)
foreign p h l d i g (PutOut y) j t x k = not-true (x.serial == y.serial) (λ u.
    let w = waiting-left p h l g (PutOut y) j in
    let s : x ≡ y = one p h l d y.way x y k w.1 (grind arith) in
    let e : d ≡ x.way = own-way p h l d x i k in
    let f : (d.id == y.way.id) ≡ true = (let q : d.id ≡ y.way.id = ap (λ (z : Way). z.id) e ∙ ap (λ (z : Association). z.way.id) s in
    grind arith) in
    let v : true ≡ false = sym f ∙ t in cc)
foreign p h l d i g (RemoveIn n) j t x k = not-true (x.serial == n) (λ u. let v : true ≡ false =
    sym (any-has (λ (z : Association). z.serial == n) x (left d h) k u) ∙ t in cc)
foreign p h l d i g (RemoveOut n) j t x k = not-true (x.serial == n) (λ u. let v : true ≡ false =
    sym (any-has (λ (z : Association). z.serial == n) x (left d h) k u) ∙ t in cc)

-- ## which one waits, and where

abbrev pub own_at : Way → List ControllerAct → ℕ → List ControllerOrder
own_at d h g = filter (is_own d (left d h)) (queue g h)

pub data Awaits (h : List ControllerAct) (d : Way) : Type 0 where
  nothing : own_at d h d.sender ≡ [] → own_at d h d.receiver ≡ [] → Awaits h d
  at_sender : (o : ControllerOrder) (t : Task) (x : Association) → own_at d h d.sender ≡ o ∷ [] → own_at d h d.receiver ≡ []
      → half_of o ≡ half t x.serial → lives.is_inbound t ≡ false → Has x (left d h) → Has o (queue d.sender h)
      → is_own d (left d h) o ≡ true → Awaits h d
  at_receiver : (o : ControllerOrder) (t : Task) (x : Association) → own_at d h d.sender ≡ [] → own_at d h d.receiver ≡ o ∷ []
      → half_of o ≡ half t x.serial → lives.is_inbound t ≡ true → Has x (left d h) → Has o (queue d.receiver h)
      → is_own d (left d h) o ≡ true → Awaits h d

home-not : (d : Way) (t : Task) → (d.sender == d.receiver) ≡ false → (b : Bool) → lives.is_inbound t ≡ b
    → d.sender ≡ (if b then d.receiver else d.sender) → b ≡ false
home-not d t e true u f = absurd (grind arith)
home-not d t e false u f = refl

home-yes : (d : Way) (t : Task) → (d.sender == d.receiver) ≡ false → (b : Bool) → lives.is_inbound t ≡ b
    → d.receiver ≡ (if b then d.receiver else d.sender) → b ≡ true
home-yes d t e true u f = refl
home-yes d t e false u f = absurd (grind arith)

pub awaits : (p : ℕ) (h : List ControllerAct) → IsControllerPast p h → (d : Way) → Has d (directions h) → (d.sender == d.receiver) ≡ false
    → Awaits h d
awaits p h l d i n = case (own_at d h d.sender) (own_at d h d.receiver) refl refl (one-own p h l d i)
  where
    at-sender : (o : ControllerOrder) → own_at d h d.sender ≡ o ∷ [] → own_at d h d.receiver ≡ [] → Awaits h d
    at-sender o e f =
        let q = filter-passes (is_own d (left d h)) (queue d.sender h) o (subst (Has o) (sym e) (inl refl)) in
        let k = own-order p h l d i d.sender o q.0 q.1 in
        at_sender o k.task k.association e f k.is (home-not d k.task n (lives.is_inbound k.task) refl k.at) k.left q.0 q.1

    at-receiver : (o : ControllerOrder) → own_at d h d.sender ≡ [] → own_at d h d.receiver ≡ o ∷ [] → Awaits h d
    at-receiver o e f =
        let q = filter-passes (is_own d (left d h)) (queue d.receiver h) o (subst (Has o) (sym f) (inl refl)) in
        let k = own-order p h l d i d.receiver o q.0 q.1 in
        at_receiver o k.task k.association e f k.is (home-yes d k.task n (lives.is_inbound k.task) refl k.at) k.left q.0 q.1

    case : (xs ys : List ControllerOrder) → own_at d h d.sender ≡ xs → own_at d h d.receiver ≡ ys → length (xs ++ ys) ≤ 1 → Awaits h d
    case [] [] e f m = nothing e f
    case [] (o ∷ []) e f m = at-receiver o e f
    case [] (o ∷ r ∷ ys) e f m = absurd (omega arith)
    case (o ∷ []) [] e f m = at-sender o e f
    case (o ∷ []) (r ∷ ys) e f m = absurd (omega arith)
    case (o ∷ r ∷ xs) ys e f m = absurd (grind (arith, common_steps))
