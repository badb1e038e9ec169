-- The places in a head, over a piece.
use Rattle.std.proofs.Common.{◌≡◌, ℕ, suc, ◌+◌, ◌<◌, ◌≤◌, List, [], ◌∷◌, ◌++◌, length, take, drop, get_or, subst, Option, Some, None, refl, sym, ap, ◌∙◌, arith, add-one, drop-cons, option_map}
use Rattle.std.proofs.lemmas.List.{drop_all}
use Rattle.rc_http.specs.declared.place.Place.{Place}
use Rattle.rc_http.specs.Places.{next_place, place_after, len_from}

pub shift_suc : (i : ℕ) (o : Option ℕ) → option_map (λ k. i + k) (option_map suc o) ≡ option_map (λ k. (i + 1) + k) o
shift_suc i None = refl
shift_suc i (Some k) = let e : i + suc k ≡ (i + 1) + k = omega arith in ap Some e

pub shift_none : (o : Option ℕ) → option_map (λ k. 0 + k) o ≡ o
shift_none None = refl
shift_none (Some k) = let e : 0 + k ≡ k = omega arith in ap Some e

-- the same of a length that is counted from one octet before
pub shift_more : (i : ℕ) (o : Option ℕ) → option_map suc (option_map (λ k. i + k) o) ≡ option_map (λ k. suc i + k) o
shift_more i None = refl
shift_more i (Some k) = let e : suc (i + k) ≡ suc i + k = omega arith in ap Some e

-- no length, shifted
pub shifted_none : (i : ℕ) (o : Option ℕ) → o ≡ None → option_map (λ k. i + k) o ≡ None
shifted_none i None e = refl
shifted_none i (Some k) e = cc

pub suc_some : (o : Option ℕ) (n : ℕ) → option_map suc o ≡ Some n → (m : ℕ) × (o ≡ Some m) × (n ≡ suc m)
suc_some None n e = cc
suc_some (Some m) n e = (m, refl, cc)

-- one octet more
pub place_step : (p : Place) (xs : List ℕ) (i : ℕ) → i < length xs
    → place_after (Some p) (drop i xs) ≡ place_after (next_place p (get_or xs i 0)) (drop (i + 1) xs)
unfolding place_after
place_step p xs i lt = rw (add-one, drop-cons xs i 0) refl

pub len_step : (p : Place) (xs : List ℕ) (i : ℕ) → i < length xs
    → len_from (Some p) (drop i xs) ≡ option_map suc (len_from (next_place p (get_or xs i 0)) (drop (i + 1) xs))
unfolding len_from
len_step p xs i lt = rw (add-one, drop-cons xs i 0) refl

-- where the octets end no head, what follows goes on at the place after them
pub len_later : (o : Option Place) (q : Place) (xs ys : List ℕ) → place_after o xs ≡ Some q
    → len_from o (xs ++ ys) ≡ option_map (λ k. length xs + k) (len_from (Some q) ys)
unfolding place_after len_from
len_later None q xs ys e = cc
len_later (Some p) q [] ys e = let same : p ≡ q = cc in rw same (sym (shift_none (len_from (Some q) ys)))
len_later (Some p) q (x ∷ xs) ys e =
    let ih = len_later (next_place p x) q xs ys e in
    let moved = shift_more (length xs) (len_from (Some q) ys) in
    rw ih moved

-- where a head ends, what follows changes nothing
pub len_kept : (o : Option Place) (n : ℕ) (xs ys : List ℕ) → len_from o xs ≡ Some n
    → (len_from o (xs ++ ys) ≡ Some n) × (n ≤ length xs)
unfolding len_from
len_kept None n xs ys e = let z : n ≡ 0 = cc in (e, omega arith)
len_kept (Some p) n [] ys e = cc
len_kept (Some p) n (x ∷ xs) ys e =
    let before = suc_some (len_from (next_place p x) xs) n e in
    let ih = len_kept (next_place p x) before.0 xs ys before.1 in
    (ap (option_map suc) ih.0 ∙ ap Some (sym before.2), omega (arith, before.2, ih.1))

-- the head's own octets alone end it
pub len_front : (o : Option Place) (n : ℕ) (xs : List ℕ) → len_from o xs ≡ Some n → len_from o (take n xs) ≡ Some n
unfolding len_from
len_front None n xs e = e
len_front (Some p) n [] e = cc
len_front (Some p) n (x ∷ xs) e =
    let before = suc_some (len_from (next_place p x) xs) n e in
    let ih = len_front (next_place p x) before.0 xs before.1 in
    let P : ℕ → Type 0 = λ k. len_from (Some p) (take k (x ∷ xs)) ≡ Some k in
    subst P (sym before.2) (ap (option_map suc) ih)

suc_none : (o : Option ℕ) → option_map suc o ≡ None → o ≡ None
suc_none None e = refl
suc_none (Some k) e = cc

len_some : (p : Place) (n : ℕ) (xs : List ℕ) → len_from (Some p) xs ≡ Some n → 0 < n
unfolding len_from
len_some p n [] e = cc
len_some p n (x ∷ xs) e = let before = suc_some (len_from (next_place p x) xs) n e in omega (arith, before.2)

-- a head that these octets don't end, ends later
pub len_late : (o : Option Place) (n : ℕ) (xs ys : List ℕ) → len_from o xs ≡ None → len_from o (xs ++ ys) ≡ Some n → length xs < n
unfolding len_from
len_late None n xs ys none some = cc
len_late (Some p) n [] ys none some = len_some p n ys some
len_late (Some p) n (x ∷ xs) ys none some =
    let before = suc_some (len_from (next_place p x) (xs ++ ys)) n some in
    let ih = len_late (next_place p x) before.0 xs ys (suc_none (len_from (next_place p x) xs) none) before.1 in
    omega (arith, before.2, ih)

-- the place after two pieces
pub place_append : (o : Option Place) (xs ys : List ℕ) → place_after o (xs ++ ys) ≡ place_after (place_after o xs) ys
unfolding place_after
place_append None xs ys = refl
place_append (Some p) [] ys = refl
place_append (Some p) (x ∷ xs) ys = place_append (next_place p x) xs ys

-- no head ends on the way to a place
pub len_open : (o : Option Place) (q : Place) (xs : List ℕ) → place_after o xs ≡ Some q → len_from o xs ≡ None
unfolding place_after len_from
len_open None q xs e = cc
len_open (Some p) q [] e = refl
len_open (Some p) q (x ∷ xs) e = ap (option_map suc) (len_open (next_place p x) q xs e)

-- the scan of a piece, octet by octet
pub scan_place : (p q r : Place) (xs : List ℕ) (i : ℕ) → i < length xs
    → place_after (Some p) xs ≡ place_after (Some q) (drop i xs) → next_place q (get_or xs i 0) ≡ Some r
    → place_after (Some p) xs ≡ place_after (Some r) (drop (i + 1) xs)
scan_place p q r xs i lt e n = e ∙ place_step q xs i lt ∙ ap (λ o. place_after o (drop (i + 1) xs)) n

pub scan_len : (p q r : Place) (xs : List ℕ) (i : ℕ) → i < length xs
    → len_from (Some p) xs ≡ option_map (λ k. i + k) (len_from (Some q) (drop i xs)) → next_place q (get_or xs i 0) ≡ Some r
    → len_from (Some p) xs ≡ option_map (λ k. (i + 1) + k) (len_from (Some r) (drop (i + 1) xs))
scan_len p q r xs i lt e n =
    e ∙ ap (option_map (λ k. i + k)) (len_step q xs i lt ∙ ap (λ o. option_map suc (len_from o (drop (i + 1) xs))) n)
    ∙ shift_suc i (len_from (Some r) (drop (i + 1) xs))

pub scan_end : (p q : Place) (xs : List ℕ) (i : ℕ) → i < length xs
    → len_from (Some p) xs ≡ option_map (λ k. i + k) (len_from (Some q) (drop i xs)) → next_place q (get_or xs i 0) ≡ None
    → len_from (Some p) xs ≡ Some (i + 1)
unfolding len_from
scan_end p q xs i lt e n =
    e ∙ ap (option_map (λ k. i + k)) (len_step q xs i lt ∙ ap (λ o. option_map suc (len_from o (drop (i + 1) xs))) n)

pub scan_through : (p q : Place) (xs : List ℕ) (i : ℕ) → length xs ≤ i
    → place_after (Some p) xs ≡ place_after (Some q) (drop i xs) → place_after (Some p) xs ≡ Some q
unfolding place_after
scan_through p q xs i le e = e ∙ ap (place_after (Some q)) (drop_all i xs le)

pub scan_start : (p : Place) (xs : List ℕ) → len_from (Some p) xs ≡ option_map (λ k. 0 + k) (len_from (Some p) xs)
scan_start p xs = sym (shift_none (len_from (Some p) xs))
