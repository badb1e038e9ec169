-- The associations left have serials of their own.
use Rattle.std.proofs.Common.{◌≡◌, ℕ, ◌+◌, ◌<◌, ◌≤◌, Bool, true, false, ◌==◌, not, List, length, [], ◌∷◌, ◌++◌, ◌⊎◌, inl, inr, refl, sym, subst, ◌∙◌, ap, arith, if◌then◌else◌}
use Rattle.std.specs.List.{filter}
use Rattle.hist_controller.specs.Acts.{Way, Association, ControllerOrder, Read, Policy, PutIn, PutOut, RemoveIn, RemoveOut, ControllerAct, Opened, Cut, Answered, Heard, Ordered, Accepted, Refused}
use Rattle.hist_controller.specs.Past.{oldest, queue, serials, is_inbound_put, directions, RemovingIn, is_answer_to, inbound_put, left}
use Rattle.hist_controller.specs.Clauses.{Has, MayOrder, IsControllerPast, MayOrderInPut}
use Rattle.hist_controller.proofs.KeptState.{Rising, rising}

pub has-more : {A : Type 0} (x : A) (xs ys : List A) → Has x (xs ++ ys) → Has x xs ⊎ Has x ys
has-more x [] ys i = inr i
has-more x (z ∷ xs) ys (inl e) = inl (inl e)
has-more x (z ∷ xs) ys (inr i) = elim (has-more x xs ys i) as (λ q. Has x (z ∷ xs) ⊎ Has x ys) [ inl j ↦ inl (inr j) | inr j ↦ inr j ]

has-keep : {A : Type 0} (x z : A) (b : Bool) (xs ys : List A) → (Has x xs → Has x ys) → Has x (if b then z ∷ xs else xs) → Has x (z ∷ ys)
has-keep x z true xs ys f (inl e) = inl e
has-keep x z true xs ys f (inr i) = inr (f i)
has-keep x z false xs ys f i = inr (f i)

pub has-filter : {A : Type 0} (p : A → Bool) (x : A) (xs : List A) → Has x (filter p xs) → Has x xs
has-filter p x [] i = i
has-filter p x (z ∷ xs) i = has-keep x z (p z) (filter p xs) xs (has-filter p x xs) i

pub has-if : {A : Type 0} (x : A) (b : Bool) (xs : List A) → Has x (if b then [] else xs) → (b ≡ false) × Has x xs
has-if x true xs i = absurd i
has-if x false xs i = (refl, i)

one-if : (x z : Association) (b : Bool) → Has x (if b then z ∷ [] else []) → (x ≡ z) × (b ≡ true)
one-if x z true (inl e) = (e, refl)
one-if x z true (inr i) = absurd i
one-if x z false i = absurd i

-- what is put by this order in the direction
pub put-one : (d : Way) (x : Association) (o : ControllerOrder) → Has x (inbound_put d o) → (o ≡ PutIn x) × ((d.id == x.way.id) ≡ true)
put-one d x Read i = absurd i
put-one d x (Policy l) i = absurd i
put-one d x (PutIn z) i = let q = one-if x z (d.id == z.way.id) i in (ap PutIn (sym q.0), ap (λ y. d.id == y.way.id) q.0 ∙ q.1)
put-one d x (PutOut z) i = absurd i
put-one d x (RemoveIn n) i = absurd i
put-one d x (RemoveOut n) i = absurd i

-- an association left in a direction was put there
pub of-way : (h : List ControllerAct) (d : Way) (x : Association) → Has x (left d h) → (d.id == x.way.id) ≡ true
of-way [] d x i = absurd i
of-way (Opened g s ∷ h) d x i = of-way h d x i
of-way (Cut g s ∷ h) d x i = of-way h d x i
of-way (Answered g s n a ∷ h) d x i =
    of-way h d x (has-filter (λ y. not (is_answer_to RemovingIn y.serial (oldest (queue g h)))) x (left d h) i)
of-way (Heard g s t ∷ h) d x i = of-way h d x i
of-way (Ordered g s n o ∷ h) d x i = elim (has-more x (left d h) (inbound_put d o) i) as (λ q. (d.id == x.way.id) ≡ true)
    [ inl j ↦ of-way h d x j | inr j ↦ (put-one d x o j).1 ]
of-way (Accepted c ∷ h) d x i = of-way h d x (has-if x _ (left d h) i).1
of-way (Refused w ∷ h) d x i = of-way h d x i

pub put-serial : (h : List ControllerAct) (g : ℕ) (o : ControllerOrder) (x : Association) → MayOrder h g o → o ≡ PutIn x
    → x.serial ≡ serials h + 1
put-serial h g o x m e = let m' : MayOrderInPut h g x = subst (MayOrder h g) e m in m'.serial

pub more-if : (b : Bool) (n m : ℕ) → n ≤ m → n ≤ (if b then m + 1 else m)
more-if true n m e = omega arith
more-if false n m e = e

-- its serial was given out
pub low : (p : ℕ) (h : List ControllerAct) → IsControllerPast p h → (d : Way) (x : Association) → Has x (left d h) → x.serial ≤ serials h
low p [] l d x i = absurd i
low p (Opened g s ∷ h) l d x i = low p h l.1 d x i
low p (Cut g s ∷ h) l d x i = low p h l.1 d x i
low p (Answered g s n a ∷ h) l d x i =
    low p h l.1 d x (has-filter (λ y. not (is_answer_to RemovingIn y.serial (oldest (queue g h)))) x (left d h) i)
low p (Heard g s t ∷ h) l d x i = low p h l.1 d x i
low p (Ordered g s n o ∷ h) l d x i = elim (has-more x (left d h) (inbound_put d o) i) as (λ q. x.serial ≤ serials (Ordered g s n o ∷ h)) [
  | inl j ↦ more-if (is_inbound_put o) x.serial (serials h) (low p h l.1 d x j)
  | inr j ↦
      let e = (put-one d x o j).0 in
      let q = put-serial h g o x l.0.3 e in
      rw e (omega arith)
]
low p (Accepted c ∷ h) l d x i = low p h l.1 d x (has-if x _ (left d h) i).1
low p (Refused w ∷ h) l d x i = low p h l.1 d x i

-- one association has a serial
pub one : (p : ℕ) (h : List ControllerAct) → IsControllerPast p h → (d e : Way) (x y : Association) → Has x (left d h) → Has y (left e h)
    → x.serial ≡ y.serial → x ≡ y
one p [] l d e x y i j q = absurd i
one p (Opened g s ∷ h) l d e x y i j q = one p h l.1 d e x y i j q
one p (Cut g s ∷ h) l d e x y i j q = one p h l.1 d e x y i j q
one p (Answered g s n a ∷ h) l d e x y i j q =
    one p h l.1 d e x y (has-filter (λ z. not (is_answer_to RemovingIn z.serial (oldest (queue g h)))) x (left d h) i)
    (has-filter (λ z. not (is_answer_to RemovingIn z.serial (oldest (queue g h)))) y (left e h) j) q
one p (Heard g s t ∷ h) l d e x y i j q = one p h l.1 d e x y i j q
one p (Ordered g s n o ∷ h) l d e x y i j q = elim (has-more x (left d h) (inbound_put d o) i) as (λ z. x ≡ y) [
  | inl i' ↦ elim (has-more y (left e h) (inbound_put e o) j) as (λ z. x ≡ y) [
    | inl j' ↦ one p h l.1 d e x y i' j' q
    | inr j' ↦
        let a = low p h l.1 d x i' in
        let b = put-serial h g o y l.0.3 (put-one e y o j').0 in
        absurd (omega arith)
  ]
  | inr i' ↦ elim (has-more y (left e h) (inbound_put e o) j) as (λ z. x ≡ y) [
    | inl j' ↦
        let a = low p h l.1 e y j' in
        let b = put-serial h g o x l.0.3 (put-one d x o i').0 in
        absurd (omega arith)
    | inr j' ↦
        let a = (put-one d x o i').0 in
        let b = (put-one e y o j').0 in
        cc
  ]
]
one p (Accepted c ∷ h) l d e x y i j q = one p h l.1 d e x y (has-if x _ (left d h) i).1 (has-if y _ (left e h) j).1 q
one p (Refused w ∷ h) l d e x y i j q = one p h l.1 d e x y i j q

-- directions with one id are one
pub from : (m : ℕ) (xs : List Way) (d : Way) → Rising m xs → Has d xs → m ≤ d.id
from m [] d r i = absurd i
from m (x ∷ xs) d r (inl e) = let q : x.id ≡ m = r.0 in let w = ap (λ (z : Way). z.id) e in omega arith
from m (x ∷ xs) d r (inr i) = let ih = from (m + 1) xs d r.1 i in omega arith

one-of-ways : (m : ℕ) (xs : List Way) (d e : Way) → Rising m xs → Has d xs → Has e xs → d.id ≡ e.id → d ≡ e
one-of-ways m [] d e r i j q = absurd i
one-of-ways m (x ∷ xs) d e r (inl i) (inl j) q = i ∙ sym j
one-of-ways m (x ∷ xs) d e r (inl i) (inr j) q = let a = from (m + 1) xs e r.1 j in let b : x.id ≡ m = r.0 in
    let w = ap (λ (z : Way). z.id) i in absurd (omega arith)
one-of-ways m (x ∷ xs) d e r (inr i) (inl j) q = let a = from (m + 1) xs d r.1 i in let b : x.id ≡ m = r.0 in
    let w = ap (λ (z : Way). z.id) j in absurd (omega arith)
one-of-ways m (x ∷ xs) d e r (inr i) (inr j) q = one-of-ways (m + 1) xs d e r.1 i j q

pub one-way : (h : List ControllerAct) (d e : Way) → Has d (directions h) → Has e (directions h) → d.id ≡ e.id → d ≡ e
one-way h d e i j q = one-of-ways 0 (directions h) d e (rising h) i j q

-- and are below their number
pub upto : (m : ℕ) (xs : List Way) (d : Way) → Rising m xs → Has d xs → d.id < m + length xs
upto m [] d r i = absurd i
upto m (x ∷ xs) d r (inl e) = let q : x.id ≡ m = r.0 in let w = ap (λ (z : Way). z.id) e in grind arith
upto m (x ∷ xs) d r (inr i) = let ih = upto (m + 1) xs d r.1 i in grind arith
