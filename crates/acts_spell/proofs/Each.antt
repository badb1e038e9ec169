-- What holds of each element, over lists and pasts.
use Rattle.std.proofs.Common.{◌≡◌, Bool, true, false, List, [], ◌∷◌, ◌++◌, Some, if◌then◌else◌, arith}
use Rattle.std.specs.List.{AllByRecursion}
use Rattle.hist_acts.specs.Past.{after}

pub each-append : {X : Type 0} (P : X → Type 0) (xs ys : List X) → AllByRecursion P xs → AllByRecursion P ys → AllByRecursion P (xs ++ ys)
each-append P [] ys p q = q
each-append P (x ∷ xs) ys p q = (p.0, each-append P xs ys p.1 q)

pub each-after : {X : Type 0} (P : X → Type 0) (h xs : List X) → AllByRecursion P h → AllByRecursion P xs → AllByRecursion P (after h xs)
each-after P h [] p q = p
each-after P h (x ∷ xs) p q = each-after P (x ∷ h) xs (q.0, p) q.1

pub each-before : {X : Type 0} (P : X → Type 0) (h xs : List X) → AllByRecursion P (after h xs) → AllByRecursion P h
each-before P h [] p = p
each-before P h (x ∷ xs) p = (each-before P (x ∷ h) xs p).1

-- what was added to a past
pub each-added : {X : Type 0} (P : X → Type 0) (h xs : List X) → AllByRecursion P (after h xs) → AllByRecursion P xs
each-added P h [] p = tt
each-added P h (x ∷ xs) p = ((each-before P (x ∷ h) xs p).0, each-added P (x ∷ h) xs p)

pub each-if : {X : Type 0} (P : X → Type 0) (b : Bool) (xs ys : List X) → AllByRecursion P xs → AllByRecursion P ys
    → AllByRecursion P (if b then xs else ys)
each-if P true xs ys p q = p
each-if P false xs ys p q = q

-- a fact of one of two values
pub either-has : {X : Type 0} (P : X → Type 0) (b : Bool) (x y : X) → P x → P y → P (if b then x else y)
either-has P true x y p q = p
either-has P false x y p q = q

pub some-is : {X : Type 0} (x y : X) → Some x ≡ Some y → x ≡ y
some-is x y e = grind arith
