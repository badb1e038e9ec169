-- Whose put or removal an order is, and what the orders that wait say of their associations.
use Rattle.std.proofs.Common.{◌≡◌, ℕ, ◌+◌, ◌≤◌, Bool, true, false, ◌==◌, not, ◌&&◌, ◌||◌, List, [], ◌∷◌, ◌⊎◌, inl, inr, refl, sym, ◌∙◌, ap, arith}
use Rattle.std.specs.List.{list_any}
use Rattle.hist_controller.specs.Acts.{Way, Association, ControllerOrder, Read, Policy, PutIn, PutOut, RemoveIn, RemoveOut, ControllerAct}
use Rattle.hist_controller.specs.Past.{queue, directions, Kind, PuttingIn, PuttingOut, RemovingIn, RemovingOut, is_kind, left, newest_serial, is_own}
use Rattle.hist_controller.specs.State.{KeptAssociation, association_of}
use Rattle.hist_controller.specs.Clauses.{Has, IsControllerPast}
use Rattle.hist_controller.specs.Own.{is_half_order, place_of, IsOf, is_awaited, OwnWaits, Owner, is_in_order}
use Rattle.hist_controller.proofs.Serials.{of-way, one, one-way}
use Rattle.hist_controller.proofs.Turns.{any-has}
use Rattle.hist_controller.proofs.CountOrders.{count}

abbrev pub kept : Association → Bool → Bool → Bool → Bool → Bool → KeptAssociation
kept x i s d r e = record { association = x; in_done = i; out_sent = s; out_done = d; out_gone = r; ended = e }

-- ## whose order it is

pub found : {A : Type 0} (p : A → Bool) (xs : List A) → list_any p xs ≡ true → (x : A) × Has x xs × (p x ≡ true)
found p [] e = cc
found {A = A} p (y ∷ ys) e = at (p y) refl e (found p ys)
  where
    at : (b : Bool) → p y ≡ b → (b || list_any p ys) ≡ true → (list_any p ys ≡ true → (x : A) × Has x ys × (p x ≡ true)) → (x : A)
        × Has x (y ∷ ys) × (p x ≡ true)
    at true t e f = (y, inl refl, t)
    at false t e f = let r = f e in (r.0, inr r.1, r.2)

pub own-of-removal : (h : List ControllerAct) (d : Way) (n : ℕ) (x : Association) → Has x (left d h) → n ≡ x.serial
    → list_any (λ (y : Association). y.serial == n) (left d h) ≡ true
own-of-removal h d n x i e = any-has (λ (y : Association). y.serial == n) x (left d h) i (grind arith)

pub own-of : (h : List ControllerAct) (d : Way) (g : ℕ) (o : ControllerOrder) → OwnWaits d h g o → is_own d (left d h) o ≡ true
own-of h d g Read w = absurd w.of
own-of h d g (Policy l) w = absurd w.of
own-of h d g (PutIn y) w = ap (λ (z : Association). d.id == z.way.id) w.of ∙ of-way h d w.association w.left
own-of h d g (PutOut y) w = ap (λ (z : Association). d.id == z.way.id) w.of ∙ of-way h d w.association w.left
own-of h d g (RemoveIn n) w = own-of-removal h d n w.association w.left w.of
own-of h d g (RemoveOut n) w = own-of-removal h d n w.association w.left w.of

pub own-half : (d : Way) (xs : List Association) (o : ControllerOrder) → is_own d xs o ≡ true → is_half_order o ≡ true
own-half d xs Read e = cc
own-half d xs (Policy l) e = cc
own-half d xs (PutIn x) e = refl
own-half d xs (PutOut x) e = refl
own-half d xs (RemoveIn n) e = refl
own-half d xs (RemoveOut n) e = refl

pub same-put-way : (h : List ControllerAct) (d e : Way) (x y : Association) → Has d (directions h) → Has e (directions h)
    → (d.id == y.way.id) ≡ true → y ≡ x → Has x (left e h) → d ≡ e
same-put-way h d e x y i j t q k =
    let t' : (d.id == x.way.id) ≡ true = ap (λ (z : Association). d.id == z.way.id) (sym q) ∙ t in
    let u = of-way h e x k in
    one-way h d e i j (grind arith)

same-removal-way : (p : ℕ) (h : List ControllerAct) → IsControllerPast p h → (d e : Way) (n : ℕ) (x : Association) → Has d (directions h)
    → Has e (directions h) → list_any (λ (y : Association). y.serial == n) (left d h) ≡ true → n ≡ x.serial → Has x (left e h) → d ≡ e
same-removal-way p h l d e n x i j t q k =
    let f = found (λ (y : Association). y.serial == n) (left d h) t in
    let y : Association = f.0 in
    let iy : Has y (left d h) = f.1 in
    let ey : (y.serial == n) ≡ true = f.2 in
    let s : y.serial ≡ x.serial = grind arith in
    let w = one p h l d e y x iy k s in
    let a = of-way h d y iy in
    let a' : (d.id == x.way.id) ≡ true = ap (λ (z : Association). d.id == z.way.id) (sym w) ∙ a in
    let b = of-way h e x k in
    one-way h d e i j (grind arith)

pub same-owner : (p : ℕ) (h : List ControllerAct) → IsControllerPast p h → (d e : Way) (g : ℕ) (o : ControllerOrder) → Has d (directions h)
    → Has e (directions h) → is_own d (left d h) o ≡ true → OwnWaits e h g o → d ≡ e
same-owner p h l d e g Read i j t w = absurd w.of
same-owner p h l d e g (Policy q) i j t w = absurd w.of
same-owner p h l d e g (PutIn y) i j t w = same-put-way h d e w.association y i j t w.of w.left
same-owner p h l d e g (PutOut y) i j t w = same-put-way h d e w.association y i j t w.of w.left
same-owner p h l d e g (RemoveIn n) i j t w = same-removal-way p h l d e n w.association i j t w.of w.left
same-owner p h l d e g (RemoveOut n) i j t w = same-removal-way p h l d e n w.association i j t w.of w.left

pub at-one : (d : Way) (o : ControllerOrder) (g : ℕ) → g ≡ place_of d o → (g ≡ d.sender) ⊎ (g ≡ d.receiver)
at-one d Read g e = inr e
at-one d (Policy l) g e = inr e
at-one d (PutIn x) g e = inr e
at-one d (PutOut x) g e = inl e
at-one d (RemoveIn n) g e = inr e
at-one d (RemoveOut n) g e = inl e

abbrev pub own-count : Way → List ControllerAct → ℕ
own-count d h = count (is_own d (left d h)) (queue d.sender h) + count (is_own d (left d h)) (queue d.receiver h)

pub record Orderly (h : List ControllerAct) : Type 0 where
  pub each : (g : ℕ) (o : ControllerOrder) → Has o (queue g h) → is_half_order o ≡ true → Owner h g o
  pub few : (d : Way) → Has d (directions h) → own-count d h ≤ 1
  pub sound : (d : Way) (x : Association) → Has x (left d h) → is_in_order (association_of h x) ≡ true

pub move : (h k : List ControllerAct) (d : Way) (g : ℕ) (o : ControllerOrder) (w : OwnWaits d h g o) → Has w.association (left d k)
    → is_awaited o (association_of k w.association) ≡ true → newest_serial d k ≡ newest_serial d h → OwnWaits d k g o
move h k d g o w i t e = record { association = w.association; left = i; of = w.of; at = w.at; state = t; newest = λ b. w.newest b ∙ sym e }

pub kind-half : (k : Kind) (n : ℕ) (o : ControllerOrder) → is_kind k n o ≡ true → is_half_order o ≡ true
kind-half PuttingIn n Read e = cc
kind-half PuttingOut n Read e = cc
kind-half RemovingIn n Read e = cc
kind-half RemovingOut n Read e = cc
kind-half PuttingIn n (Policy l) e = cc
kind-half PuttingOut n (Policy l) e = cc
kind-half RemovingIn n (Policy l) e = cc
kind-half RemovingOut n (Policy l) e = cc
kind-half k n (PutIn x) e = refl
kind-half k n (PutOut x) e = refl
kind-half k n (RemoveIn m) e = refl
kind-half k n (RemoveOut m) e = refl

pub kind-serial : (k : Kind) (n : ℕ) (o : ControllerOrder) (y : Association) → is_kind k n o ≡ true → IsOf y o → n ≡ y.serial
kind-serial k n Read y e w = absurd w
kind-serial k n (Policy l) y e w = absurd w
kind-serial PuttingIn n (PutIn x) y e w = let q = ap (λ (z : Association). z.serial) w in grind arith
kind-serial PuttingOut n (PutIn x) y e w = cc
kind-serial RemovingIn n (PutIn x) y e w = cc
kind-serial RemovingOut n (PutIn x) y e w = cc
kind-serial PuttingIn n (PutOut x) y e w = cc
kind-serial PuttingOut n (PutOut x) y e w = let q = ap (λ (z : Association). z.serial) w in grind arith
kind-serial RemovingIn n (PutOut x) y e w = cc
kind-serial RemovingOut n (PutOut x) y e w = cc
kind-serial PuttingIn n (RemoveIn m) y e w = cc
kind-serial PuttingOut n (RemoveIn m) y e w = cc
kind-serial RemovingIn n (RemoveIn m) y e w = grind arith
kind-serial RemovingOut n (RemoveIn m) y e w = cc
kind-serial PuttingIn n (RemoveOut m) y e w = cc
kind-serial PuttingOut n (RemoveOut m) y e w = cc
kind-serial RemovingIn n (RemoveOut m) y e w = cc
kind-serial RemovingOut n (RemoveOut m) y e w = grind arith

pub same-id : (m n k : ℕ) → (m == k) ≡ true → (n == k) ≡ true → m ≡ n
same-id m n k e t = grind arith

pub equal : (m n : ℕ) → (m == n) ≡ true → m ≡ n
equal m n e = grind arith

-- ## ended at last

pub later-state : (o : ControllerOrder) (x : Association) (i s d r e a : Bool) → is_awaited o (kept x i s d r e) ≡ true
    → is_awaited o (kept x i s d r (a || e)) ≡ true
later-state Read x i s d r e a t = cc
later-state (Policy l) x i s d r e a t = cc
later-state (PutIn y) x i s d r e a t = t
later-state (PutOut y) x i s d r e a t = t
later-state (RemoveIn n) x i s d r e true t = no-longer e (not s || r) t
  where
    no-longer : (a b : Bool) → (a && b) ≡ true → b ≡ true
    no-longer true b e = e
    no-longer false b e = cc
later-state (RemoveIn n) x i s d r e false t = t
later-state (RemoveOut n) x i s d r e true t = no-longer e s (not r) t
  where
    no-longer : (a b c : Bool) → (a && b && c) ≡ true → (b && c) ≡ true
    no-longer true b c e = e
    no-longer false b c e = cc
later-state (RemoveOut n) x i s d r e false t = t

pub later-order : (x : Association) (i s d r e a : Bool) → is_in_order (kept x i s d r e) ≡ true
    → is_in_order (kept x i s d r (a || e)) ≡ true
later-order x i s d true e true t = ended-order (not s || i) (not d || s) e s t
  where
    ended-order : (p q e s : Bool) → (p && q && (e && s)) ≡ true → (p && q && (true && s)) ≡ true
    ended-order true true true s t = t
    ended-order true true false s t = cc
    ended-order true false e s t = cc
    ended-order false q e s t = cc
later-order x i s d false e true t = t
later-order x i s d r e false t = t
