-- At which gateway each order of a half was given, and of which association.
use Rattle.std.proofs.Common.{◌≡◌, ℕ, ◌≤◌, Bool, true, false, ◌==◌, not, ◌&&◌, ◌||◌, List, [], ◌∷◌, inl, inr, refl, sym, subst, ◌∙◌, ap, arith}
use Rattle.hist_controller.specs.Acts.{Way, Association, ControllerOrder, Read, Policy, PutIn, PutOut, RemoveIn, RemoveOut, ControllerAct, Opened, Cut, Answered, Heard, Ordered, Accepted, Refused}
use Rattle.hist_controller.specs.Past.{oldest, queue, directions, serials, is_inbound_put, RemovingIn, RemovingOut, PuttingIn, PuttingOut, is_kind, has_answer, is_ended, is_read, is_answer_to, is_out_ordered, inbound_put, left}
use Rattle.hist_controller.specs.Clauses.{Has, MayOrder, IsControllerPast, MayOrderInPut, MayOrderOutPut, MayOrderInRemove, MayOrderOutRemove}
use Rattle.hist_controller.specs.Orders.{WasOrdered, PutOf}
use Rattle.hist_controller.proofs.Lists.{has-left}
use Rattle.hist_controller.proofs.Bools.{second-of-4}
use Rattle.hist_controller.proofs.Serials.{has-more, has-filter, has-if, put-one, of-way, put-serial, more-if, one-way}

-- an association left was put at the receiver of its direction, which is one of the directions
pub record Left (h : List ControllerAct) (x : Association) : Type 0 where
  pub put : WasOrdered (PutIn x) x.way.receiver h
  pub known : Has x.way (directions h)

left-put : (h : List ControllerAct) (g s n : ℕ) (o : ControllerOrder) (x : Association) → MayOrder h g o → o ≡ PutIn x
    → Left (Ordered g s n o ∷ h) x
left-put h g s n o x m e =
    let m' : MayOrderInPut h g x = subst (MayOrder h g) e m in
    record { put = inl (sym e, sym m'.at); known = m'.of }

pub lefts : (p : ℕ) (h : List ControllerAct) → IsControllerPast p h → (d : Way) (x : Association) → Has x (left d h) → Left h x
lefts p [] l d x i = absurd i
lefts p (Opened g s ∷ h) l d x i = let k = lefts p h l.1 d x i in record { put = k.put; known = k.known }
lefts p (Cut g s ∷ h) l d x i = let k = lefts p h l.1 d x i in record { put = k.put; known = k.known }
lefts p (Answered g s n a ∷ h) l d x i = let k =
    lefts p h l.1 d x (has-filter (λ y. not (is_answer_to RemovingIn y.serial (oldest (queue g h)))) x (left d h) i) in
    record { put = k.put; known = k.known }
lefts p (Heard g s t ∷ h) l d x i = let k = lefts p h l.1 d x i in record { put = k.put; known = k.known }
lefts p (Ordered g s n o ∷ h) l d x i = elim (has-more x (left d h) (inbound_put d o) i) as (λ q. Left (Ordered g s n o ∷ h) x) [
  | inl j ↦ let k = lefts p h l.1 d x j in record { put = inr k.put; known = k.known }
  | inr j ↦ left-put h g s n o x l.0.3 (put-one d x o j).0
]
lefts p (Accepted c ∷ h) l d x i = let k = lefts p h l.1 d x (has-if x _ (left d h) i).1 in
    record { put = k.put; known = has-left x.way (directions h) _ k.known }
lefts p (Refused w ∷ h) l d x i = let k = lefts p h l.1 d x i in record { put = k.put; known = k.known }

-- the direction in which it is left is its own
pub own-way : (p : ℕ) (h : List ControllerAct) → IsControllerPast p h → (d : Way) (x : Association) → Has d (directions h)
    → Has x (left d h) → d ≡ x.way
own-way p h l d x i j = let k = lefts p h l d x j in let e = of-way h d x j in one-way h d x.way i k.known (grind arith)

pub record HomeIn (h : List ControllerAct) (g : ℕ) (x : Association) : Type 0 where
  pub at : g ≡ x.way.receiver
  pub known : Has x.way (directions h)
  pub low : x.serial ≤ serials h

pub in-home : (p : ℕ) (h : List ControllerAct) → IsControllerPast p h → (g : ℕ) (x : Association) → WasOrdered (PutIn x) g h → HomeIn h g x
in-home p [] l g x i = absurd i
in-home p (Opened f s ∷ h) l g x i = let k = in-home p h l.1 g x i in record { at = k.at; known = k.known; low = k.low }
in-home p (Cut f s ∷ h) l g x i = let k = in-home p h l.1 g x i in record { at = k.at; known = k.known; low = k.low }
in-home p (Answered f s n a ∷ h) l g x i = let k = in-home p h l.1 g x i in record { at = k.at; known = k.known; low = k.low }
in-home p (Heard f s t ∷ h) l g x i = let k = in-home p h l.1 g x i in record { at = k.at; known = k.known; low = k.low }
in-home p (Ordered f s n o ∷ h) l g x (inl e) =
    let m : MayOrderInPut h f x = subst (MayOrder h f) (sym e.0) l.0.3 in
    let q = m.serial in
    record { at = e.1 ∙ m.at; known = m.of; low = rw (sym e.0) (omega arith) }
in-home p (Ordered f s n o ∷ h) l g x (inr i) = let k = in-home p h l.1 g x i in
    record { at = k.at; known = k.known; low = more-if (is_inbound_put o) x.serial (serials h) k.low }
in-home p (Accepted c ∷ h) l g x i = let k = in-home p h l.1 g x i in
    record { at = k.at; known = has-left x.way (directions h) _ k.known; low = k.low }
in-home p (Refused w ∷ h) l g x i = let k = in-home p h l.1 g x i in record { at = k.at; known = k.known; low = k.low }

-- one serial is of one association
pub one-put : (p : ℕ) (h : List ControllerAct) → IsControllerPast p h → (f g : ℕ) (x y : Association) → WasOrdered (PutIn x) f h
    → WasOrdered (PutIn y) g h → x.serial ≡ y.serial → x ≡ y
one-put p [] l f g x y i j e = absurd i
one-put p (Opened k s ∷ h) l f g x y i j e = one-put p h l.1 f g x y i j e
one-put p (Cut k s ∷ h) l f g x y i j e = one-put p h l.1 f g x y i j e
one-put p (Answered k s n a ∷ h) l f g x y i j e = one-put p h l.1 f g x y i j e
one-put p (Heard k s t ∷ h) l f g x y i j e = one-put p h l.1 f g x y i j e
one-put p (Ordered k s n o ∷ h) l f g x y (inl a) (inl b) e = let q = a.0 in let r = b.0 in cc
one-put p (Ordered k s n o ∷ h) l f g x y (inl a) (inr j) e =
    let q = put-serial h k o x l.0.3 (sym a.0) in
    let r = (in-home p h l.1 g y j).low in
    absurd (omega arith)
one-put p (Ordered k s n o ∷ h) l f g x y (inr i) (inl b) e =
    let q = put-serial h k o y l.0.3 (sym b.0) in
    let r = (in-home p h l.1 f x i).low in
    absurd (omega arith)
one-put p (Ordered k s n o ∷ h) l f g x y (inr i) (inr j) e = one-put p h l.1 f g x y i j e
one-put p (Accepted c ∷ h) l f g x y i j e = one-put p h l.1 f g x y i j e
one-put p (Refused w ∷ h) l f g x y i j e = one-put p h l.1 f g x y i j e

-- an outbound half is put at the sender of its direction, after its inbound half at the receiver
pub out-home : (p : ℕ) (h : List ControllerAct) → IsControllerPast p h → (g : ℕ) (x : Association) → WasOrdered (PutOut x) g h
    → (g ≡ x.way.sender) × WasOrdered (PutIn x) x.way.receiver h
out-home p [] l g x i = absurd i
out-home p (Opened f s ∷ h) l g x i = out-home p h l.1 g x i
out-home p (Cut f s ∷ h) l g x i = out-home p h l.1 g x i
out-home p (Answered f s n a ∷ h) l g x i = out-home p h l.1 g x i
out-home p (Heard f s t ∷ h) l g x i = out-home p h l.1 g x i
out-home p (Ordered f s n o ∷ h) l g x (inl e) =
    let m : MayOrderOutPut h f x = subst (MayOrder h f) (sym e.0) l.0.3 in
    let w = own-way p h l.1 m.way x m.of m.left in
    (e.1 ∙ (m.at ∙ ap (λ (d : Way). d.sender) w), inr (lefts p h l.1 m.way x m.left).put)
out-home p (Ordered f s n o ∷ h) l g x (inr i) = let k = out-home p h l.1 g x i in (k.0, inr k.1)
out-home p (Accepted c ∷ h) l g x i = out-home p h l.1 g x i
out-home p (Refused w ∷ h) l g x i = out-home p h l.1 g x i

-- where the outbound put of a serial was ordered since the inbound one, some association was put so
older : (n : ℕ) (h : List ControllerAct) (f s i : ℕ) (o : ControllerOrder) → (g : ℕ) × PutOf PutOut n g h → (g : ℕ)
    × PutOf PutOut n g (Ordered f s i o ∷ h)
older n h f s i o k = (k.0, (k.1.0, k.1.1, inr k.1.2))

sent-now : (n : ℕ) (h : List ControllerAct) (f s i : ℕ) (y : Association) (b : Bool) → (n == y.serial) ≡ b
    → (is_out_ordered n h ≡ true → (g : ℕ) × PutOf PutOut n g h) → (b || is_out_ordered n h) ≡ true → (g : ℕ)
    × PutOf PutOut n g (Ordered f s i (PutOut y) ∷ h)
sent-now n h f s i y true t ih e = (f, (y, grind arith, inl (refl, refl)))
sent-now n h f s i y false t ih e = older n h f s i (PutOut y) (ih e)

sent-order : (n : ℕ) (h : List ControllerAct) (f s i : ℕ) (o : ControllerOrder) (b : Bool)
    → (is_out_ordered n h ≡ true → (g : ℕ) × PutOf PutOut n g h) → (not b && (is_kind PuttingOut n o || is_out_ordered n h)) ≡ true
    → (g : ℕ) × PutOf PutOut n g (Ordered f s i o ∷ h)
sent-order n h f s i o true ih e = cc
sent-order n h f s i (PutOut y) false ih e = sent-now n h f s i y (n == y.serial) refl ih e
sent-order n h f s i Read false ih e = older n h f s i Read (ih e)
sent-order n h f s i (Policy l) false ih e = older n h f s i (Policy l) (ih e)
sent-order n h f s i (PutIn y) false ih e = older n h f s i (PutIn y) (ih e)
sent-order n h f s i (RemoveIn m) false ih e = older n h f s i (RemoveIn m) (ih e)
sent-order n h f s i (RemoveOut m) false ih e = older n h f s i (RemoveOut m) (ih e)

sent-put : (n : ℕ) (h : List ControllerAct) → is_out_ordered n h ≡ true → (g : ℕ) × PutOf PutOut n g h
sent-put n [] e = cc
sent-put n (Opened f s ∷ h) e = sent-put n h e
sent-put n (Cut f s ∷ h) e = sent-put n h e
sent-put n (Answered f s i a ∷ h) e = sent-put n h e
sent-put n (Heard f s t ∷ h) e = sent-put n h e
sent-put n (Ordered f s i o ∷ h) e = sent-order n h f s i o (is_kind PuttingIn n o) (λ t. sent-put n h t) e
sent-put n (Accepted c ∷ h) e = sent-put n h e
sent-put n (Refused w ∷ h) e = sent-put n h e

-- ## removals

removed-in : (p : ℕ) (h : List ControllerAct) (g n : ℕ) → IsControllerPast p h → MayOrderInRemove h g n → PutOf PutIn n g h
removed-in p h g n l m =
    let x : Association = m.association in
    let w = own-way p h l m.way m.association m.of m.left in
    let e : g ≡ m.association.way.receiver = m.at ∙ ap (λ (d : Way). d.receiver) w in
    (m.association, m.name, subst (λ f. WasOrdered (PutIn m.association) f h) (sym e) (lefts p h l m.way m.association m.left).put)

removed-out : (p : ℕ) (h : List ControllerAct) (g n : ℕ) → IsControllerPast p h → MayOrderOutRemove h g n → PutOf PutOut n g h
removed-out p h g n l m =
    let s = second-of-4 (is_ended m.association h) (is_out_ordered m.association.serial h)
    (not (has_answer RemovingOut m.association.serial h)) (is_read m.way.sender h) m.may in
    let k = sent-put m.association.serial h s in
    let o = out-home p h l k.0 k.1.0 k.1.2 in
    let i = (lefts p h l m.way m.association m.left).put in
    let q = one-put p h l m.association.way.receiver k.1.0.way.receiver m.association k.1.0 i o.1 k.1.1 in
    let w = own-way p h l m.way m.association m.of m.left in
    let e : k.0 ≡ g = o.0 ∙ (ap (λ (x : Association). x.way.sender) (sym q) ∙ (ap (λ (d : Way). d.sender) (sym w) ∙ sym m.at)) in
    (k.1.0, m.name ∙ k.1.1, subst (λ f. WasOrdered (PutOut k.1.0) f h) e k.1.2)

later : (put : Association → ControllerOrder) (n g : ℕ) (h : List ControllerAct) (f s i : ℕ) (o : ControllerOrder) → PutOf put n g h
    → PutOf put n g (Ordered f s i o ∷ h)
later put n g h f s i o k = (k.0, k.1, inr k.2)

-- a removal of a half is ordered where it was put
pub in-removal : (p : ℕ) (h : List ControllerAct) → IsControllerPast p h → (g n : ℕ) → WasOrdered (RemoveIn n) g h → PutOf PutIn n g h
in-removal p [] l g n i = absurd i
in-removal p (Opened f s ∷ h) l g n i = in-removal p h l.1 g n i
in-removal p (Cut f s ∷ h) l g n i = in-removal p h l.1 g n i
in-removal p (Answered f s k a ∷ h) l g n i = in-removal p h l.1 g n i
in-removal p (Heard f s t ∷ h) l g n i = in-removal p h l.1 g n i
in-removal p (Ordered f s k o ∷ h) l g n (inl e) =
    let m : MayOrderInRemove h f n = subst (MayOrder h f) (sym e.0) l.0.3 in
    later PutIn n g h f s k o (subst (λ z. PutOf PutIn n z h) (sym e.1) (removed-in p h f n l.1 m))
in-removal p (Ordered f s k o ∷ h) l g n (inr i) = later PutIn n g h f s k o (in-removal p h l.1 g n i)
in-removal p (Accepted c ∷ h) l g n i = in-removal p h l.1 g n i
in-removal p (Refused w ∷ h) l g n i = in-removal p h l.1 g n i

pub out-removal : (p : ℕ) (h : List ControllerAct) → IsControllerPast p h → (g n : ℕ) → WasOrdered (RemoveOut n) g h → PutOf PutOut n g h
out-removal p [] l g n i = absurd i
out-removal p (Opened f s ∷ h) l g n i = out-removal p h l.1 g n i
out-removal p (Cut f s ∷ h) l g n i = out-removal p h l.1 g n i
out-removal p (Answered f s k a ∷ h) l g n i = out-removal p h l.1 g n i
out-removal p (Heard f s t ∷ h) l g n i = out-removal p h l.1 g n i
out-removal p (Ordered f s k o ∷ h) l g n (inl e) =
    let m : MayOrderOutRemove h f n = subst (MayOrder h f) (sym e.0) l.0.3 in
    later PutOut n g h f s k o (subst (λ z. PutOf PutOut n z h) (sym e.1) (removed-out p h f n l.1 m))
out-removal p (Ordered f s k o ∷ h) l g n (inr i) = later PutOut n g h f s k o (out-removal p h l.1 g n i)
out-removal p (Accepted c ∷ h) l g n i = out-removal p h l.1 g n i
out-removal p (Refused w ∷ h) l g n i = out-removal p h l.1 g n i
