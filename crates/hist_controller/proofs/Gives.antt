-- What a direction may be given.
use Rattle.std.proofs.Common.{◌≡◌, ℕ, ◌+◌, Bool, true, false, List, [], ◌∷◌, Option, Some, None, ◌⊎◌, inl, inr, refl, ◌∙◌, ap, if◌then◌else◌}
use Rattle.hist_controller.specs.Acts.{Way, Association, PutIn, PutOut, RemoveIn, RemoveOut, ControllerAct}
use Rattle.hist_acts.specs.Past.{after}
use Rattle.hist_controller.specs.Past.{serials, spare, directions, left, is_busy}
use Rattle.hist_controller.specs.Law.{order, may_out_remove, may_in_remove, may_out_put, may_in_put, first, key_put, out_put, in_remove, out_remove, give}
use Rattle.hist_controller.specs.Clauses.{Has, NonePasses, Quiet}

-- it waits, or nothing is allowed
abbrev pub Idle : List ControllerAct → Way → Type 0
Idle h d = (is_busy d h ≡ true) ⊎ Quiet h d

-- the order that stands for a direction, and what stood before it
pub data Given (h : List ControllerAct) (d : Way) : List ControllerAct → Type 0 where
  nothing : Idle h d → Given h d []
  out_removed : (x : Association) → is_busy d h ≡ false → Has x (left d h) → may_out_remove h d x ≡ true
      → first (may_out_remove h d) (left d h) ≡ Some x → Given h d (order h d.sender (RemoveOut x.serial) ∷ [])
  in_removed : (x : Association) → is_busy d h ≡ false → Has x (left d h) → may_in_remove h d x ≡ true
      → first (may_in_remove h d) (left d h) ≡ Some x → NonePasses (may_out_remove h d) (left d h)
      → Given h d (order h d.receiver (RemoveIn x.serial) ∷ [])
  out_was_put : (x : Association) → is_busy d h ≡ false → Has x (left d h) → may_out_put h d x ≡ true
      → first (may_out_put h d) (left d h) ≡ Some x → NonePasses (may_out_remove h d) (left d h) → NonePasses (may_in_remove h d) (left d h)
      → Given h d (order h d.sender (PutOut x) ∷ [])
  in_was_put : (k : List ℕ) (ks : List (List ℕ)) → is_busy d h ≡ false → spare h ≡ k ∷ ks → may_in_put h d ≡ true
      → NonePasses (may_out_remove h d) (left d h) → NonePasses (may_in_remove h d) (left d h) → NonePasses (may_out_put h d) (left d h)
      → Given h d (order h d.receiver (PutIn (record { serial = serials h + 1; key = k; way = d })) ∷ [])

first-if : (p : Association → Bool) (y : Association) (ys : List Association) (x : Association) (b : Bool) → p y ≡ b
    → (first p ys ≡ Some x → Has x ys × (p x ≡ true)) → (if b then Some y else first p ys) ≡ Some x → Has x (y ∷ ys) × (p x ≡ true)
first-if p y ys x true t ih e = let q : x ≡ y = cc in (inl q, ap p q ∙ t)
first-if p y ys x false t ih e = (inr (ih e).0, (ih e).1)

pub first-some : (p : Association → Bool) (xs : List Association) (x : Association) → first p xs ≡ Some x → Has x xs × (p x ≡ true)
first-some p [] x e = cc
first-some p (y ∷ ys) x e = first-if p y ys x (p y) refl (first-some p ys x) e

first-not : (p : Association → Bool) (y : Association) (o : Option Association) (b : Bool) → p y ≡ b → (if b then Some y else o) ≡ None
    → (p y ≡ false) × (o ≡ None)
first-not p y o true t e = cc
first-not p y o false t e = (t, e)

pub first-none : (p : Association → Bool) (xs : List Association) → first p xs ≡ None → (x : Association) → Has x xs → p x ≡ false
first-none p [] e x i = absurd i
first-none p (y ∷ ys) e x (inl i) = ap p i ∙ (first-not p y (first p ys) (p y) refl e).0
first-none p (y ∷ ys) e x (inr i) = first-none p ys (first-not p y (first p ys) (p y) refl e).1 x i

given-key-if : (h : List ControllerAct) (d : Way) (k : List ℕ) (ks : List (List ℕ)) (b : Bool) → may_in_put h d ≡ b → is_busy d h ≡ false
    → spare h ≡ k ∷ ks → NonePasses (may_out_remove h d) (left d h) → NonePasses (may_in_remove h d) (left d h)
    → NonePasses (may_out_put h d) (left d h)
    → Given h d (if b then order h d.receiver (PutIn (record { serial = serials h + 1; key = k; way = d })) ∷ [] else [])
given-key-if h d k ks true m f s a b c = in_was_put k ks f s m a b c
given-key-if h d k ks false m f s a b c = nothing (inr (record { no_out_remove = a; no_in_remove = b; no_out_put = c; no_in_put = inl m }))

given-key : (h : List ControllerAct) (d : Way) (ks : List (List ℕ)) → spare h ≡ ks → is_busy d h ≡ false
    → NonePasses (may_out_remove h d) (left d h) → NonePasses (may_in_remove h d) (left d h) → NonePasses (may_out_put h d) (left d h)
    → Given h d (key_put h d ks)
given-key h d [] s f a b c = nothing (inr (record { no_out_remove = a; no_in_remove = b; no_out_put = c; no_in_put = inr s }))
given-key h d (k ∷ ks) s f a b c = given-key-if h d k ks (may_in_put h d) refl f s a b c

given-out-put : (h : List ControllerAct) (d : Way) (o : Option Association) → first (may_out_put h d) (left d h) ≡ o → is_busy d h ≡ false
    → NonePasses (may_out_remove h d) (left d h) → NonePasses (may_in_remove h d) (left d h) → Given h d (out_put h d o)
given-out-put h d None e f a b = given-key h d (spare h) refl f a b (first-none (may_out_put h d) (left d h) e)
given-out-put h d (Some x) e f a b = let q = first-some (may_out_put h d) (left d h) x e in out_was_put x f q.0 q.1 e a b

given-in-remove : (h : List ControllerAct) (d : Way) (o : Option Association) → first (may_in_remove h d) (left d h) ≡ o
    → is_busy d h ≡ false → NonePasses (may_out_remove h d) (left d h) → Given h d (in_remove h d o)
given-in-remove h d None e f a = given-out-put h d (first (may_out_put h d) (left d h)) refl f a
    (first-none (may_in_remove h d) (left d h) e)
given-in-remove h d (Some x) e f a = let q = first-some (may_in_remove h d) (left d h) x e in in_removed x f q.0 q.1 e a

given-out-remove : (h : List ControllerAct) (d : Way) (o : Option Association) → first (may_out_remove h d) (left d h) ≡ o
    → is_busy d h ≡ false → Given h d (out_remove h d o)
given-out-remove h d None e f = given-in-remove h d (first (may_in_remove h d) (left d h)) refl f
    (first-none (may_out_remove h d) (left d h) e)
given-out-remove h d (Some x) e f = let q = first-some (may_out_remove h d) (left d h) x e in out_removed x f q.0 q.1 e

given-if : (h : List ControllerAct) (d : Way) (b : Bool) → is_busy d h ≡ b
    → Given h d (if b then [] else out_remove h d (first (may_out_remove h d) (left d h)))
given-if h d true e = nothing (inl e)
given-if h d false e = given-out-remove h d (first (may_out_remove h d) (left d h)) refl e

pub given : (h : List ControllerAct) (d : Way) → Given h d (give h d)
given h d = given-if h d (is_busy d h) refl

same-ways : (h : List ControllerAct) (d : Way) (os : List ControllerAct) → Given h d os → directions (after h os) ≡ directions h
same-ways h d _ (nothing i) = refl
same-ways h d _ (out_removed x f l m n1) = refl
same-ways h d _ (in_removed x f l m n1 n2) = refl
same-ways h d _ (out_was_put x f l m n1 n2 n3) = refl
same-ways h d _ (in_was_put k ks f s m n1 n2 n3) = refl

pub ways-give : (h : List ControllerAct) (d : Way) → directions (after h (give h d)) ≡ directions h
ways-give h d = same-ways h d (give h d) (given h d)
