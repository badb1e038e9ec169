-- At which place among the lists accepted for its gateway each list was ordered. A later order has no earlier place.
use Rattle.std.proofs.Common.{◌≡◌, ℕ, ◌+◌, ◌-◌, ◌<◌, ◌≤◌, Bool, true, false, ◌==◌, ◌&&◌, List, [], ◌∷◌, length, Option, Some, None, ◌⊎◌, inl, inr, refl, sym, ◌∙◌, ap, subst, arith, if◌then◌else◌}
use Rattle.std.specs.Option.{option_map}
use Rattle.ikeless_tree.specs.declared.command.Peer.{Peer}
use Rattle.ikeless_tree.specs.declared.entry.SpdEntry.{SpdEntry}
use Rattle.ikeless_tree.specs.declared.order.Order.TheVariants as asks
use Rattle.hist_controller.specs.Acts.{ControllerOrder, Read, Policy, PutIn, PutOut, RemoveIn, RemoveOut, ControllerAct, Opened, Cut, Answered, Heard, Ordered, Accepted, Refused}
use Rattle.hist_controller.specs.Past.{orders, openings}
use Rattle.hist_controller.specs.Clauses.{IsControllerPast}
use Rattle.hist_controller.specs.Counts.{ListRight, ListsRight, list_accepted, lists_accepted}
use Rattle.hist_controller.specs.Machine.{place}
use Rattle.hist_controller.specs.Numbers.{numbered}
use Rattle.hist_controller.specs.Told.{order_told}
use Rattle.hist_controller.proofs.Lists.{length-both}
use Rattle.hist_safety.proofs.Basics.{no, eq-nat, both-left, both-right, some-is}
use Rattle.hist_world.proofs.MayOrders.{place-more}

-- the test by which an order is found
abbrev is_spot : ℕ → ℕ → ℕ → ℕ → ℕ → ℕ → Bool
is_spot g s n f t k = (g == f) && (s == t) && (n == k)

-- the place of the newest list accepted when the order was given
abbrev pub list_place : ℕ → ℕ → ℕ → List ControllerAct → ℕ
list_place g s n [] = 0
list_place g s n (Ordered f t k o ∷ h) = if is_spot g s n f t k then length (lists_accepted g h) - 1 else list_place g s n h
list_place g s n (_ ∷ h) = list_place g s n h

-- a later session, or a later order of the same one
abbrev pub IsLater : ℕ → ℕ → ℕ → ℕ → Type 0
IsLater s n t m = (s < t) ⊎ ((s ≡ t) × (n < m))

spot-is : (g s n f t k : ℕ) → is_spot g s n f t k ≡ true → (g ≡ f) × (s ≡ t) × (n ≡ k)
spot-is g s n f t k e =
    let two = both-left ((g == f) && (s == t)) (n == k) e in (
      eq-nat g f (both-left (g == f) (s == t) two),
      eq-nat s t (both-right (g == f) (s == t) two),
      eq-nat n k
          (both-right ((g == f) && (s == t)) (n == k) e),
    )

-- ---- places

place-if : (b : Bool) (m n k : ℕ) → m ≤ k → n ≤ k → (if b then m else n) ≤ k
place-if true m n k p q = p
place-if false m n k p q = q

place-low : (g s n : ℕ) (h : List ControllerAct) → list_place g s n h ≤ length (lists_accepted g h) - 1
place-low g s n [] = omega arith
place-low g s n (Ordered f t k o ∷ h) = place-if (is_spot g s n f t k) (length (lists_accepted g h) - 1) (list_place g s n h)
    (length (lists_accepted g h) - 1) (omega arith) (place-low g s n h)
place-low g s n (Accepted c ∷ h) =
    let p = place-low g s n h in
    let e = length-both (lists_accepted g h) (list_accepted g c) in
    omega (arith, p, e)
place-low g s n (Opened f t ∷ h) = place-low g s n h
place-low g s n (Cut f t ∷ h) = place-low g s n h
place-low g s n (Answered f t k a ∷ h) = place-low g s n h
place-low g s n (Heard f t x ∷ h) = place-low g s n h
place-low g s n (Refused w ∷ h) = place-low g s n h

-- a list that is ordered stands at the place
place-case : (g : ℕ) (b : Bool) (o : ControllerOrder) (p : ℕ) (q : Option ControllerOrder) (l : List SpdEntry) (h : List ControllerAct)
    → (b ≡ true → ListRight g h o) → (q ≡ Some (Policy l) → place p (lists_accepted g h) ≡ Some l)
    → (if b then Some o else q) ≡ Some (Policy l) → place (if b then length (lists_accepted g h) - 1 else p) (lists_accepted g h) ≡ Some l
place-case g true o p q l h r ih e = let w : o ≡ Policy l = some-is o (Policy l) e in
    (subst (λ (z : ControllerOrder). ListRight g h z) w (r refl)).1
place-case g false o p q l h r ih e = ih e

pub place-right : (g s n : ℕ) (l : List SpdEntry) (h : List ControllerAct) → ListsRight h → numbered g s n h ≡ Some (Policy l)
    → place (list_place g s n h) (lists_accepted g h) ≡ Some l
place-right g s n l [] r e = cc
place-right g s n l (Ordered f t k o ∷ h) r e =
    place-case g (is_spot g s n f t k) o (list_place g s n h) (numbered g s n h) l h
    (λ w. let q = (spot-is g s n f t k w).0 in subst (λ (z : ℕ). ListRight z h o) (sym q) r.0) (place-right g s n l h r.1) e
place-right g s n l (Accepted c ∷ h) r e = place-more (list_place g s n h) (lists_accepted g h) (list_accepted g c) l
    (place-right g s n l h r e)
place-right g s n l (Opened f t ∷ h) r e = place-right g s n l h r e
place-right g s n l (Cut f t ∷ h) r e = place-right g s n l h r e
place-right g s n l (Answered f t k a ∷ h) r e = place-right g s n l h r e
place-right g s n l (Heard f t x ∷ h) r e = place-right g s n l h r e
place-right g s n l (Refused w ∷ h) r e = place-right g s n l h r e

-- ---- numbers

-- an order is of a session that was opened, and has a number that was given
pub record Old (g s n : ℕ) (h : List ControllerAct) : Type 0 where
  pub opened : s ≤ openings g h
  pub given : s ≡ openings g h → n ≤ orders g h

old-opened : (b : Bool) (s n m k : ℕ) → s ≤ m → (s ≡ m → n ≤ k) → (s ≤ (if b then m + 1 else m))
    × (s ≡ (if b then m + 1 else m) → n ≤ (if b then 0 else k))
old-opened true s n m k p q = (omega arith, λ e. absurd (omega (arith, p, e)))
old-opened false s n m k p q = (p, q)

old-ordered : (c b : Bool) (s n m k : ℕ) (o : ControllerOrder) (q : Option ControllerOrder) (r : ControllerOrder)
    → (c ≡ true → (b ≡ true) × (s ≡ m) × (n ≡ k + 1)) → (q ≡ Some r → (s ≤ m) × (s ≡ m → n ≤ k))
    → (if c then Some o else q) ≡ Some r → (s ≤ m) × (s ≡ m → n ≤ (if b then k + 1 else k))
old-ordered true true s n m k o q r f ih e = let w = f refl in let u = w.1 in let v = w.2 in (omega (arith, u), λ z. omega (arith, v))
old-ordered true false s n m k o q r f ih e = let w = f refl in absurd (no w.0)
old-ordered false true s n m k o q r f ih e = let w = ih e in (w.0, λ z. let i = w.1 z in omega (arith, i))
old-ordered false false s n m k o q r f ih e = ih e

pub old : (p g s n : ℕ) (o : ControllerOrder) (h : List ControllerAct) → IsControllerPast p h → numbered g s n h ≡ Some o → Old g s n h
old p g s n o [] l e = cc
old p g s n o (Opened f t ∷ h) l e =
    let q = old p g s n o h l.1 e in
    let w = old-opened (g == f) s n (openings g h) (orders g h) q.opened q.given in
    record { opened = w.0; given = w.1 }
old p g s n o (Ordered f t k r ∷ h) l e =
    let new : is_spot g s n f t k ≡ true → ((g == f) ≡ true) × (s ≡ openings g h) × (n ≡ orders g h + 1) = λ z.
    let q = spot-is g s n f t k z in (
      both-left (g == f) (s == t) (both-left ((g == f) && (s == t)) (n == k) z),
      q.1 ∙ l.0.0 ∙ ap (λ (x : ℕ). openings x h) (sym q.0),
      q.2
          ∙ l.0.1 ∙ ap (λ (x : ℕ). orders x h + 1) (sym q.0),
    ) in
    let w = old-ordered (is_spot g s n f t k) (g == f) s n (openings g h) (orders g h) r (numbered g s n h) o new
    (λ z. let q = old p g s n o h l.1 z in (q.opened, q.given)) e in
    record { opened = w.0; given = w.1 }
old p g s n o (Accepted c ∷ h) l e = let q = old p g s n o h l.1 e in record { opened = q.opened; given = q.given }
old p g s n o (Cut f t ∷ h) l e = let q = old p g s n o h l.1 e in record { opened = q.opened; given = q.given }
old p g s n o (Answered f t k a ∷ h) l e = let q = old p g s n o h l.1 e in record { opened = q.opened; given = q.given }
old p g s n o (Heard f t x ∷ h) l e = let q = old p g s n o h l.1 e in record { opened = q.opened; given = q.given }
old p g s n o (Refused w ∷ h) l e = let q = old p g s n o h l.1 e in record { opened = q.opened; given = q.given }

-- ---- a later order has no earlier place

not-later : (g s n t m f u k : ℕ) (h : List ControllerAct) → IsLater s n t m → (g ≡ f) × (s ≡ u) × (n ≡ k) → u ≡ openings f h
    → k ≡ orders f h + 1 → Old g t m h → ⊥
not-later g s n t m f u k h (inl i) e p q o =
    let w : openings f h ≡ openings g h = ap (λ (x : ℕ). openings x h) (sym e.0) in
    let a = o.opened in let b = e.1 in omega (arith, i, a, b, p, w)
not-later g s n t m f u k h (inr i) e p q o =
    let w : openings f h ≡ openings g h = ap (λ (x : ℕ). openings x h) (sym e.0) in
    let v : orders f h ≡ orders g h = ap (λ (x : ℕ). orders x h) (sym e.0) in
    let a = o.given (sym i.0 ∙ e.1 ∙ p ∙ w) in let b = e.2 in let c = i.1 in omega (arith, c, a, b, q, v)

rise-case : (b c : Bool) (n x y : ℕ) (o r : ControllerOrder) (q : Option ControllerOrder) (A : Option ControllerOrder) (v : ControllerOrder)
    (z : ControllerOrder) → x ≤ n → (b ≡ true → A ≡ Some z → ⊥) → (q ≡ Some v → A ≡ Some z → x ≤ y)
    → (if b then Some o else q) ≡ Some v → (if c then Some r else A) ≡ Some z → (if b then n else x) ≤ (if c then n else y)
rise-case true true n x y o r q A v z low late ih e f = omega arith
rise-case true false n x y o r q A v z low late ih e f = absurd (late refl f)
rise-case false true n x y o r q A v z low late ih e f = low
rise-case false false n x y o r q A v z low late ih e f = ih e f

pub place-rises : (p g s n t m : ℕ) (o r : ControllerOrder) (h : List ControllerAct) → IsControllerPast p h → numbered g s n h ≡ Some o
    → numbered g t m h ≡ Some r → IsLater s n t m → list_place g s n h ≤ list_place g t m h
place-rises p g s n t m o r [] l e f i = cc
place-rises p g s n t m o r (Ordered x u k q ∷ h) l e f i =
    rise-case (is_spot g s n x u k) (is_spot g t m x u k) (length (lists_accepted g h) - 1) (list_place g s n h) (list_place g t m h) q q
    (numbered g s n h) (numbered g t m h) o r
    (place-low g s n h)
    (λ b z. not-later g s n t m x u k h i (spot-is g s n x u k b) l.0.0 l.0.1 (old p g t m r h l.1 z))
    (λ a z. place-rises p g s n t m o r h l.1 a z i) e f
place-rises p g s n t m o r (Accepted c ∷ h) l e f i = place-rises p g s n t m o r h l.1 e f i
place-rises p g s n t m o r (Opened x u ∷ h) l e f i = place-rises p g s n t m o r h l.1 e f i
place-rises p g s n t m o r (Cut x u ∷ h) l e f i = place-rises p g s n t m o r h l.1 e f i
place-rises p g s n t m o r (Answered x u k a ∷ h) l e f i = place-rises p g s n t m o r h l.1 e f i
place-rises p g s n t m o r (Heard x u a ∷ h) l e f i = place-rises p g s n t m o r h l.1 e f i
place-rises p g s n t m o r (Refused w ∷ h) l e f i = place-rises p g s n t m o r h l.1 e f i

-- ---- an order of a list, as the gateway gets it

pub list-told : (ps : List Peer) (o : Option ControllerOrder) (l : List SpdEntry) → option_map (order_told ps) o ≡ Some (asks.Policy l)
    → o ≡ Some (Policy l)
list-told ps None l e = cc
list-told ps (Some Read) l e = cc
list-told ps (Some (Policy r)) l e =
    let w : asks.Policy r ≡ asks.Policy l = some-is (asks.Policy r) (asks.Policy l) e in
    let q : r ≡ l = cc in
    ap (λ (z : List SpdEntry). Some (Policy z)) q
list-told ps (Some (PutIn x)) l e = cc
list-told ps (Some (PutOut x)) l e = cc
list-told ps (Some (RemoveIn n)) l e = cc
list-told ps (Some (RemoveOut n)) l e = cc
