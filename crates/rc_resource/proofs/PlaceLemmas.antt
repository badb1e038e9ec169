-- Lists at the first element that passes a test.
use Rattle.std.proofs.Common.{◌≡◌, ℕ, ◌+◌, suc, not, List, [], ◌∷◌, Bool, true, false, length, map, Some, None, refl, ap, sym, ◌∙◌, arith, nat_lt, cond, ltb-true, slice_set}
use Rattle.std.specs.List.{list_any, filter, insert, remove, position_or_len, find}
use Rattle.std.proofs.Common.{slice_get}
use Rattle.std.proofs.lemmas.List.Folds.{find_at}
use Rattle.rc_resource.specs.Lists.{at_most_once, IsFirst}

pub insert_next : {X : Type 0} (x : X) (xs : List X) (k : ℕ) (e : X) → insert (x ∷ xs) (1 + k) e ≡ x ∷ insert xs k e
insert_next x xs k e = let next : 1 + k ≡ suc k = omega arith in rw next refl

pub remove_next : {X : Type 0} (x : X) (xs : List X) (k : ℕ) → remove (x ∷ xs) (1 + k) ≡ x ∷ remove xs k
remove_next x xs k = let next : 1 + k ≡ suc k = omega arith in rw next refl

pub set_next : {X : Type 0} (x : X) (xs : List X) (k : ℕ) (e : X) → slice_set (x ∷ xs) (1 + k) e ≡ x ∷ slice_set xs k e
set_next x xs k e = let next : 1 + k ≡ suc k = omega arith in rw next refl

pub any_at : {X : Type 0} (p : X → Bool) (xs : List X) → list_any p xs ≡ nat_lt (position_or_len p xs) (length xs)
any_at p [] = refl
any_at p (x ∷ xs) = let ih = any_at p xs in grind (arith, ih)

-- the clause of `position` as the definition of the first place
pub first_from_position : {X : Type 0} (p : X → Bool) (xs : List X)
    → IsFirst p xs (cond (nat_lt (position_or_len p xs) (length xs)) (Some (position_or_len p xs)) None)
first_from_position {X} p xs = by_test (nat_lt (position_or_len p xs) (length xs)) refl
  where
    by_test : (b : Bool) → nat_lt (position_or_len p xs) (length xs) ≡ b → IsFirst p xs (cond b (Some (position_or_len p xs)) None)
    by_test true e = (any_at p xs ∙ e, ltb-true _ _ e, refl)
    by_test false e = any_at p xs ∙ e

-- where none passes, no element is replaced, and none is left out
pub none_replaced : {X : Type 0} (p : X → Bool) (e : X) (xs : List X) → list_any p xs ≡ false → map (λ x. cond (p x) e x) xs ≡ xs
none_replaced p e [] h = refl
none_replaced p e (x ∷ xs) h = by_test (p x) refl h (none_replaced p e xs)
  where
    by_test : (b : Bool) → p x ≡ b → list_any p (x ∷ xs) ≡ false → (list_any p xs ≡ false → map (λ y. cond (p y) e y) xs ≡ xs)
        → map (λ y. cond (p y) e y) (x ∷ xs) ≡ x ∷ xs
    by_test true t h ih = let wrong : ⊥ = cc in absurd wrong
    by_test false t h ih = let rest : list_any p xs ≡ false = cc in rw t (ap (λ ys. x ∷ ys) (ih rest))

pub none_left_out : {X : Type 0} (p : X → Bool) (xs : List X) → list_any p xs ≡ false → filter (λ x. not (p x)) xs ≡ xs
none_left_out p [] h = refl
none_left_out p (x ∷ xs) h = by_test (p x) refl h (none_left_out p xs)
  where
    by_test : (b : Bool) → p x ≡ b → list_any p (x ∷ xs) ≡ false → (list_any p xs ≡ false → filter (λ y. not (p y)) xs ≡ xs)
        → filter (λ y. not (p y)) (x ∷ xs) ≡ x ∷ xs
    by_test true t h ih = let wrong : ⊥ = cc in absurd wrong
    by_test false t h ih = let rest : list_any p xs ≡ false = cc in rw t (ap (λ ys. x ∷ ys) (ih rest))

not_false : (b : Bool) → not b ≡ true → b ≡ false
not_false true h = cc
not_false false h = refl

-- where at most one passes, replacing each is setting the first
pub replaced_once : {X : Type 0} (p : X → Bool) (e : X) (xs : List X) → at_most_once p xs ≡ true
    → map (λ x. cond (p x) e x) xs ≡ slice_set xs (position_or_len p xs) e
replaced_once p e [] h = refl
replaced_once p e (x ∷ xs) h = by_test (p x) refl h (replaced_once p e xs)
  where
    by_test : (b : Bool) → p x ≡ b → at_most_once p (x ∷ xs) ≡ true
        → (at_most_once p xs ≡ true → map (λ y. cond (p y) e y) xs ≡ slice_set xs (position_or_len p xs) e)
        → map (λ y. cond (p y) e y) (x ∷ xs) ≡ slice_set (x ∷ xs) (position_or_len p (x ∷ xs)) e
    by_test true t h ih =
        let no_more : not (list_any p xs) ≡ true = cc in
        rw t (ap (λ ys. e ∷ ys) (none_replaced p e xs (not_false _ no_more)))
    by_test false t h ih =
        let rest : at_most_once p xs ≡ true = cc in
        rw t (ap (λ ys. x ∷ ys) (ih rest) ∙ sym (set_next x xs (position_or_len p xs) e))

pub left_out_once : {X : Type 0} (p : X → Bool) (xs : List X) → at_most_once p xs ≡ true
    → filter (λ x. not (p x)) xs ≡ remove xs (position_or_len p xs)
left_out_once p [] h = refl
left_out_once p (x ∷ xs) h = by_test (p x) refl h (left_out_once p xs)
  where
    by_test : (b : Bool) → p x ≡ b → at_most_once p (x ∷ xs) ≡ true
        → (at_most_once p xs ≡ true → filter (λ y. not (p y)) xs ≡ remove xs (position_or_len p xs))
        → filter (λ y. not (p y)) (x ∷ xs) ≡ remove (x ∷ xs) (position_or_len p (x ∷ xs))
    by_test true t h ih =
        let no_more : not (list_any p xs) ≡ true = cc in
        rw t (none_left_out p xs (not_false _ no_more))
    by_test false t h ih =
        let rest : at_most_once p xs ≡ true = cc in
        rw t (ap (λ ys. x ∷ ys) (ih rest) ∙ sym (remove_next x xs (position_or_len p xs)))

pub found_at : {X : Type 0} (p : X → Bool) (xs : List X) (i : ℕ) → IsFirst p xs (Some i) → slice_get xs i ≡ find p xs
found_at p xs i h = ap (slice_get xs) h.2 ∙ sym (find_at p xs)

pub found_none : {X : Type 0} (p : X → Bool) (xs : List X) → list_any p xs ≡ false → find p xs ≡ None
found_none p [] h = refl
found_none p (x ∷ xs) h = by_test (p x) refl h (found_none p xs)
  where
    by_test : (b : Bool) → p x ≡ b → list_any p (x ∷ xs) ≡ false → (list_any p xs ≡ false → find p xs ≡ None) → find p (x ∷ xs) ≡ None
    by_test true t h ih = let wrong : ⊥ = cc in absurd wrong
    by_test false t h ih = let rest : list_any p xs ≡ false = cc in rw t (ih rest)

pub replaced_at : {X : Type 0} (p : X → Bool) (e : X) (xs : List X) (i : ℕ) → at_most_once p xs ≡ true → IsFirst p xs (Some i)
    → slice_set xs i e ≡ map (λ x. cond (p x) e x) xs
replaced_at p e xs i once h = ap (λ k. slice_set xs k e) h.2 ∙ sym (replaced_once p e xs once)

pub removed_at : {X : Type 0} (p : X → Bool) (xs : List X) (i : ℕ) → at_most_once p xs ≡ true → IsFirst p xs (Some i)
    → remove xs i ≡ filter (λ x. not (p x)) xs
removed_at p xs i once h = ap (remove xs) h.2 ∙ sym (left_out_once p xs once)
