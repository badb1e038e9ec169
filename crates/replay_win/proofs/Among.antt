-- Which numbers stand in a list that is made of others.
use Rattle.std.proofs.Common.{◌≡◌, ℕ, zero, suc, ◌+◌, ◌&&◌, ◌||◌, nat_le, nat_lt, Bool, true, false, List, [], ◌∷◌, ◌++◌, filter, refl, arith}
use Rattle.std.specs.List.{range_with_len}
use Rattle.std.proofs.lemmas.Bool.Decides.{nat_tests}
use Rattle.replay_win.specs.Marks.{is_among}

pub is_among-append : (q : ℕ) (xs ys : List ℕ) → is_among q (xs ++ ys) ≡ (is_among q xs || is_among q ys)
is_among-append q [] ys = refl
is_among-append q (x ∷ xs) ys = let ih = is_among-append q xs ys in grind (arith, ih)

pub is_among-filter : (p : ℕ → Bool) (q : ℕ) (xs : List ℕ) → is_among q (filter p xs) ≡ (p q && is_among q xs)
is_among-filter p q [] = grind arith
is_among-filter p q (x ∷ xs) = let ih = is_among-filter p q xs in grind (arith, nat_tests, ih)

pub is_among-range : (q a n : ℕ) → is_among q (range_with_len a n) ≡ (nat_le a q && nat_lt q (a + n))
is_among-range q a zero = grind (arith, nat_tests)
is_among-range q a (suc n) = let ih = is_among-range q (a + 1) n in grind (arith, nat_tests, ih)

-- two tests that agree on a list keep the same of it
pub filter-same : (p r : ℕ → Bool) (xs : List ℕ) → ((k : ℕ) → is_among k xs ≡ true → p k ≡ r k) → filter p xs ≡ filter r xs
filter-same p r [] same = refl
filter-same p r (x ∷ xs) same =
    let here : p x ≡ r x = same x (grind (arith, nat_tests)) in
    let ih = filter-same p r xs (λ k h. same k (grind (arith, nat_tests))) in
    grind (arith, here, ih)

pub filter-none : (p : ℕ → Bool) (xs : List ℕ) → ((k : ℕ) → p k ≡ false) → filter p xs ≡ []
filter-none p [] none = refl
filter-none p (x ∷ xs) none = let here = none x in let ih = filter-none p xs none in grind (arith, here, ih)
