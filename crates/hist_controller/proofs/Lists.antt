-- Facts on lists that several proofs cite.
use Rattle.std.proofs.Common.{◌≡◌, ℕ, ◌+◌, ◌-◌, ◌<◌, Bool, true, false, ◌==◌, List, [], ◌∷◌, ◌++◌, Option, Some, None, ◌⊎◌, inl, inr, length, refl, arith, if◌then◌else◌}
use Rattle.std.specs.List.{list_any}
use Rattle.hist_controller.specs.Machine.{place}
use Rattle.hist_controller.specs.Clauses.{Has}

pub length-more : {A : Type 0} (xs : List A) (x : A) → length (xs ++ x ∷ []) ≡ length xs + 1
length-more [] x = refl
length-more (y ∷ xs) x = grind (arith, length-more xs x)

pub length-both : {A : Type 0} (xs ys : List A) → length (xs ++ ys) ≡ length xs + length ys
length-both [] ys = omega arith
length-both (x ∷ xs) ys = grind (arith, length-both xs ys)

pub has-left : {A : Type 0} (x : A) (xs ys : List A) → Has x xs → Has x (xs ++ ys)
has-left x [] ys i = absurd i
has-left x (z ∷ xs) ys (inl e) = inl e
has-left x (z ∷ xs) ys (inr i) = inr (has-left x xs ys i)

pub right-in : {A : Type 0} (x : A) (xs ys : List A) → Has x ys → Has x (xs ++ ys)
right-in x [] ys i = i
right-in x (z ∷ xs) ys i = inr (right-in x xs ys i)

pub any-front : {A : Type 0} (p : A → Bool) (xs : List A) (x : A) → list_any p xs ≡ true → list_any p (xs ++ x ∷ []) ≡ true
any-front p [] x e = cc
any-front p (y ∷ ys) x e = let ih = any-front p ys x in grind (arith, ih)

pub any-if : {A : Type 0} (p : A → Bool) (b : Bool) (xs : List A) (x : A) → list_any p xs ≡ true
    → list_any p (if b then xs ++ x ∷ [] else xs) ≡ true
any-if p true xs x e = any-front p xs x e
any-if p false xs x e = e

-- what stands in a list with one more at its end
pub place-old : {A : Type 0} (j : ℕ) (q : List A) (z o : A) → place j (q ++ z ∷ []) ≡ Some o → ((j < length q) × (place j q ≡ Some o))
    ⊎ ((j ≡ length q) × (z ≡ o))
place-old {A = A} j [] z o e = one (j == 0) refl e
  where
    one : (b : Bool) → (j == 0) ≡ b → (if b then Some z else None) ≡ Some o → ((j < 0) × (◌≡◌ {A = Option A} None (Some o)))
        ⊎ ((j ≡ 0) × (z ≡ o))
    one true t e = inr (grind arith, let w : z ≡ o = cc in w)
    one false t e = cc
place-old j (y ∷ q) z o e = step (j == 0) refl e (place-old (j - 1) q z o)
  where
    step : (b : Bool) → (j == 0) ≡ b → (if b then Some y else place (j - 1) (q ++ z ∷ [])) ≡ Some o
        → (place (j - 1) (q ++ z ∷ []) ≡ Some o → ((j - 1 < length q) × (place (j - 1) q ≡ Some o)) ⊎ ((j - 1 ≡ length q) × (z ≡ o)))
        → ((j < length (y ∷ q)) × ((if j == 0 then Some y else place (j - 1) q) ≡ Some o)) ⊎ ((j ≡ length (y ∷ q)) × (z ≡ o))
    step true t e f = inl ((grind arith), rw t e)
    step false t e f = elim (f e) as (λ w. ((j < length (y ∷ q)) × ((if j == 0 then Some y else place (j - 1) q) ≡ Some o))
        ⊎ ((j ≡ length (y ∷ q)) × (z ≡ o))) [
          | inl p ↦ inl (let a : j - 1 < length q = p.0 in (grind arith), rw t p.1)
          | inr p ↦ inr (let a : j - 1 ≡ length q = p.0 in (grind arith), p.1)
        ]
