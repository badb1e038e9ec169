-- Facts on lists that several proofs cite.
use Rattle.std.proofs.Common.{◌≡◌, ◌≤◌, Bool, true, false, ◌&&◌, ◌||◌, List, [], ◌∷◌, ◌++◌, inl, inr, length, refl, sym, ap, ◌∙◌, arith, if◌then◌else◌}
use Rattle.std.specs.List.{filter, list_any}
use Rattle.hist_controller.specs.Acts.{Association}
use Rattle.hist_controller.specs.Law.{first}
use Rattle.hist_controller.specs.Clauses.{Has}

pub not-true : (b : Bool) → (b ≡ true → ⊥) → b ≡ false
not-true true f = absurd (f refl)
not-true false f = refl

pub filter-same : {A : Type 0} (p q : A → Bool) (xs : List A) → ((x : A) → Has x xs → p x ≡ q x) → filter p xs ≡ filter q xs
filter-same p q [] e = refl
filter-same p q (x ∷ xs) e =
    let ih : filter p xs ≡ filter q xs = filter-same p q xs (λ y i. e y (inr i)) in
    let f : p x ≡ q x = e x (inl refl) in
    rw (f, ih) refl

pub any-same : {A : Type 0} (p q : A → Bool) (xs : List A) → ((x : A) → Has x xs → p x ≡ q x) → list_any p xs ≡ list_any q xs
any-same p q [] e = refl
any-same p q (x ∷ xs) e =
    let ih : list_any p xs ≡ list_any q xs = any-same p q xs (λ y i. e y (inr i)) in
    let f : p x ≡ q x = e x (inl refl) in
    rw (f, ih) refl

pub first-same : (p q : Association → Bool) (xs : List Association) → ((x : Association) → Has x xs → p x ≡ q x) → first p xs ≡ first q xs
first-same p q [] e = refl
first-same p q (x ∷ xs) e =
    let ih : first p xs ≡ first q xs = first-same p q xs (λ y i. e y (inr i)) in
    let f : p x ≡ q x = e x (inl refl) in
    rw (f, ih) refl

pub filter-append : {A : Type 0} (p : A → Bool) (xs ys : List A) → filter p (xs ++ ys) ≡ filter p xs ++ filter p ys
filter-append p [] ys = refl
filter-append p (x ∷ xs) ys = let ih = filter-append p xs ys in grind (arith, ih)

pub filter-none : {A : Type 0} (p : A → Bool) (xs : List A) → ((x : A) → Has x xs → p x ≡ false) → filter p xs ≡ []
filter-none p [] e = refl
filter-none p (x ∷ xs) e =
    let ih : filter p xs ≡ [] = filter-none p xs (λ y i. e y (inr i)) in
    let f : p x ≡ false = e x (inl refl) in
    rw (f, ih) refl

pub filter-has : {A : Type 0} (p : A → Bool) (xs : List A) (x : A) → Has x xs → p x ≡ true → Has x (filter p xs)
filter-has p [] x i t = absurd i
filter-has p (y ∷ ys) x (inl e) t = let u : p y ≡ true = ap p (sym e) ∙ t in rw u (inl e)
filter-has p (y ∷ ys) x (inr i) t = case (p y) (filter-has p ys x i t)
  where
    case : (b : Bool) → Has x (filter p ys) → Has x (if b then y ∷ filter p ys else filter p ys)
    case true j = inr j
    case false j = j

pub filter-passes : {A : Type 0} (p : A → Bool) (xs : List A) (x : A) → Has x (filter p xs) → Has x xs × (p x ≡ true)
filter-passes p [] x i = absurd i
filter-passes p (y ∷ ys) x i = case (p y) refl (λ j. filter-passes p ys x j) i
  where
    case : (b : Bool) → p y ≡ b → (Has x (filter p ys) → Has x ys × (p x ≡ true)) → Has x (if b then y ∷ filter p ys else filter p ys)
        → Has x (y ∷ ys) × (p x ≡ true)
    case true t f (inl e) = (inl e, ap p e ∙ t)
    case true t f (inr j) = (inr (f j).0, (f j).1)
    case false t f j = (inr (f j).0, (f j).1)

-- where what passes the first test passes the second
pub any-filter : {A : Type 0} (p r : A → Bool) (xs : List A) → ((x : A) → Has x xs → p x ≡ true → r x ≡ true)
    → list_any p xs ≡ list_any p (filter r xs)
any-filter p r [] e = refl
any-filter p r (x ∷ xs) e = case (r x) refl (p x) refl (any-filter p r xs (λ y i. e y (inr i)))
  where
    case : (b : Bool) → r x ≡ b → (c : Bool) → p x ≡ c → list_any p xs ≡ list_any p (filter r xs)
        → (p x || list_any p xs) ≡ list_any p (if b then x ∷ filter r xs else filter r xs)
    case true t c u ih = rw ih refl
    case false t true u ih = absurd (let w : true ≡ false = sym (e x (inl refl) u) ∙ t in cc)
    case false t false u ih = rw u ih

pub one-is : {A : Type 0} (xs : List A) (x : A) → length xs ≤ 1 → Has x xs → xs ≡ x ∷ []
one-is [] x l i = absurd i
one-is (y ∷ []) x l (inl e) = ap (λ z. z ∷ []) (sym e)
one-is (y ∷ []) x l (inr i) = absurd i
one-is (y ∷ z ∷ zs) x l i = absurd (omega arith)

-- the first that passes both tests among those that pass one
pub first-filter : (p q : Association → Bool) (xs : List Association) → first p (filter q xs) ≡ first (λ x. q x && p x) xs
first-filter p q [] = refl
first-filter p q (x ∷ xs) = let ih = first-filter p q xs in grind (arith, ih)
