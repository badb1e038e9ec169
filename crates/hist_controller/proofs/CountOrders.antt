-- How many elements of a list pass a test.
use Rattle.std.proofs.Common.{◌≡◌, ℕ, ◌+◌, ◌≤◌, Bool, true, false, ◌==◌, ◌&&◌, List, [], ◌∷◌, ◌++◌, Some, ◌⊎◌, inl, inr, length, refl, sym, subst, ◌∙◌, ap, arith, if◌then◌else◌}
use Rattle.std.specs.List.{filter, list_any}
use Rattle.hist_controller.specs.Acts.{ControllerOrder, ControllerAct}
use Rattle.hist_controller.specs.Past.{oldest, rest, queue}
use Rattle.hist_controller.specs.Clauses.{Has}
use Rattle.hist_controller.proofs.Removed.{neither}

abbrev pub count : {A : Type 0} → (A → Bool) → List A → ℕ
count p [] = 0
count p (x ∷ xs) = if p x then count p xs + 1 else count p xs

pub length-count : {A : Type 0} (p : A → Bool) (xs : List A) → length (filter p xs) ≡ count p xs
length-count p [] = refl
length-count p (x ∷ xs) = one (p x) (length-count p xs)
  where
    one : (b : Bool) → length (filter p xs) ≡ count p xs → length (if b then x ∷ filter p xs else filter p xs) ≡ (if b then count p xs + 1
        else count p xs)
    one true e = grind (arith, e)
    one false e = e

pub count-has : {A : Type 0} (p : A → Bool) (x : A) (xs : List A) → Has x xs → p x ≡ true → 1 ≤ count p xs
count-has p x [] i t = absurd i
count-has p x (y ∷ ys) (inl e) t = let w : p y ≡ true = ap p (sym e) ∙ t in rw w (omega arith)
count-has p x (y ∷ ys) (inr i) t = one (p y) (count-has p x ys i t)
  where
    one : (b : Bool) → 1 ≤ count p ys → 1 ≤ (if b then count p ys + 1 else count p ys)
    one true e = omega arith
    one false e = e

pub count-none : {A : Type 0} (p : A → Bool) (xs : List A) → ((x : A) → Has x xs → p x ≡ false) → count p xs ≡ 0
count-none p [] f = refl
count-none p (x ∷ xs) f = rw (f x (inl refl)) (count-none p xs (λ y i. f y (inr i)))

pub count-less : {A : Type 0} (p q : A → Bool) (xs : List A) → ((x : A) → p x ≡ true → q x ≡ true) → count p xs ≤ count q xs
count-less p q [] f = omega arith
count-less p q (x ∷ xs) f = one (p x) (q x) (f x) (count-less p q xs f)
  where
    one : (a b : Bool) → (a ≡ true → b ≡ true) → count p xs ≤ count q xs
        → (if a then count p xs + 1 else count p xs) ≤ (if b then count q xs + 1 else count q xs)
    one true b g e = rw (g refl) (omega arith)
    one false true g e = omega arith
    one false false g e = e

pub count-same : {A : Type 0} (p q : A → Bool) (xs : List A) → ((x : A) → Has x xs → p x ≡ q x) → count p xs ≡ count q xs
count-same p q [] f = refl
count-same p q (x ∷ xs) f = rw (f x (inl refl), count-same p q xs (λ y i. f y (inr i))) refl

pub count-last : {A : Type 0} (p : A → Bool) (xs : List A) (x : A) → count p (xs ++ x ∷ []) ≡ count p xs + (if p x then 1 else 0)
count-last p [] x = one (p x)
  where
    one : (b : Bool) → (if b then 0 + 1 else 0) ≡ 0 + (if b then 1 else 0)
    one true = refl
    one false = refl
count-last p (y ∷ ys) x = one (p y) (count-last p ys x)
  where
    one : (b : Bool) → count p (ys ++ x ∷ []) ≡ count p ys + (if p x then 1 else 0)
        → (if b then count p (ys ++ x ∷ []) + 1 else count p (ys ++ x ∷ [])) ≡ (if b then count p ys + 1 else count p ys) +
        (if p x then 1 else 0)
    one true e = omega arith
    one false e = e

pub none-count : {A : Type 0} (p : A → Bool) (xs : List A) → list_any p xs ≡ false → count p xs ≡ 0
none-count p [] e = refl
none-count p (x ∷ xs) e = let n = neither (p x) (list_any p xs) e in rw n.0 (none-count p xs n.1)

-- ## of queues

pub count-rest : (p : ControllerOrder → Bool) (q : List ControllerOrder) → count p (rest q) ≤ count p q
count-rest p [] = omega arith
count-rest p (o ∷ q) = one (p o)
  where
    one : (b : Bool) → count p q ≤ (if b then count p q + 1 else count p q)
    one true = omega arith
    one false = omega arith

pub rest-less : (p r : ControllerOrder → Bool) → ((o : ControllerOrder) → p o ≡ true → r o ≡ true) → (b : Bool) (q : List ControllerOrder)
    → count p (if b then rest q else q) ≤ count r q
rest-less p r f true q = let a = count-rest p q in let b = count-less p r q f in omega arith
rest-less p r f false q = count-less p r q f

pub none-less : (p : ControllerOrder → Bool) (b : Bool) (q : List ControllerOrder) → count p (if b then [] else q) ≤ count p q
none-less p true q = omega arith
none-less p false q = omega arith

pub grown-count : (p r : ControllerOrder → Bool) (q : List ControllerOrder) (z : ControllerOrder)
    → ((o : ControllerOrder) → Has o q → p o ≡ r o) → (b : Bool) → count p (if b then q ++ z ∷ [] else q) ≡ count r q + (if b
    && p z then 1 else 0)
grown-count p r q z f true = count-last p q z ∙ ap (λ n. n + (if p z then 1 else 0)) (count-same p r q f)
grown-count p r q z f false = let e = count-same p r q f in omega arith

front-two : (p : ControllerOrder → Bool) (q : List ControllerOrder) (z o : ControllerOrder) → oldest q ≡ Some z → Has o (rest q)
    → p z ≡ true → p o ≡ true → 2 ≤ count p q
front-two p [] z o e i t u = absurd i
front-two p (x ∷ q) z o e i t u =
    let w : x ≡ z = cc in
    let v : p x ≡ true = ap p w ∙ t in
    let c = count-has p o q i u in
    rw v (omega arith)

oldest-in : (q : List ControllerOrder) (z : ControllerOrder) → oldest q ≡ Some z → Has z q
oldest-in [] z e = cc
oldest-in (x ∷ q) z e = let w : z ≡ x = cc in inl w

abbrev AtOne : ℕ → ℕ → ℕ → Type 0
AtOne g s r = (g ≡ s) ⊎ (g ≡ r)

-- the front of a queue and an order behind it, or in the other queue
pub front-and : (p : ControllerOrder → Bool) (h : List ControllerAct) (s r g f : ℕ) (z o : ControllerOrder) → (s == r) ≡ false → AtOne g s r
    → AtOne f s r → oldest (queue g h) ≡ Some z → p z ≡ true → p o ≡ true → (b : Bool) → (f == g) ≡ b
    → Has o (if b then rest (queue f h) else queue f h) → 2 ≤ count p (queue s h) + count p (queue r h)
front-and p h s r g f z o n a c e t u true w i =
    let q : f ≡ g = grind arith in
    let e' : oldest (queue f h) ≡ Some z = ap (λ k. oldest (queue k h)) q ∙ e in
    let m = front-two p (queue f h) z o e' i t u in
    at c m
  where
    at : AtOne f s r → 2 ≤ count p (queue f h) → 2 ≤ count p (queue s h) + count p (queue r h)
    at (inl x) m = let m' : 2 ≤ count p (queue s h) = subst (λ k. 2 ≤ count p (queue k h)) x m in omega arith
    at (inr x) m = let m' : 2 ≤ count p (queue r h) = subst (λ k. 2 ≤ count p (queue k h)) x m in omega arith
front-and p h s r g f z o n a c e t u false w i =
    let m = count-has p z (queue g h) (oldest-in (queue g h) z e) t in
    let k = count-has p o (queue f h) i u in
    at a c m k
  where
    at : AtOne g s r → AtOne f s r → 1 ≤ count p (queue g h) → 1 ≤ count p (queue f h) → 2 ≤ count p (queue s h) + count p (queue r h)
    at (inl x) (inl y) m k = absurd (let v : f ≡ g = y ∙ sym x in let u : (f == g) ≡ true = grind arith in
        let y : true ≡ false = sym u ∙ w in cc)
    at (inl x) (inr y) m k =
        let m' : 1 ≤ count p (queue s h) = subst (λ n. 1 ≤ count p (queue n h)) x m in
        let k' : 1 ≤ count p (queue r h) = subst (λ n. 1 ≤ count p (queue n h)) y k in
        omega arith
    at (inr x) (inl y) m k =
        let m' : 1 ≤ count p (queue r h) = subst (λ n. 1 ≤ count p (queue n h)) x m in
        let k' : 1 ≤ count p (queue s h) = subst (λ n. 1 ≤ count p (queue n h)) y k in
        omega arith
    at (inr x) (inr y) m k = absurd (let v : f ≡ g = y ∙ sym x in let u : (f == g) ≡ true = grind arith in
        let y : true ≡ false = sym u ∙ w in cc)
