-- The last place of a key in a column, and its index.
use Rattle.std.proofs.Common.{◌≡◌, ℕ, zero, suc, ◌+◌, ◌<◌, nat_eq, nat_lt, not, ◌&&◌, ◌||◌, Bool, true, false, cond, List, [], ◌∷◌, ◌++◌, length, take, get_or, Option, Some, None, option_map, slice_get, is_some, position, refl, sym, ap, ◌∙◌, arith}
use Rattle.std.specs.List.{list_any, remove, position_or_len}
use Rattle.std.specs.Map.{lookup}
use Rattle.std.proofs.lemmas.Bool.Decides.{nat_tests}
use Rattle.indexmap.specs.IndexMap.{IndexMap, get, IsEmpty, Updates}
use Rattle.sad_store.specs.Columns.{are_keys_apart, is_among, is_key, IsIndexed, last_place, later}

-- ---- one key more

later-more : (k : ℕ) (y : Option ℕ) (b : Bool) (place : Option ℕ) (n : ℕ) → later k y (cond b (Some n) place) ≡ cond b (Some (n + 1))
    (later k y place)
later-more k y true place n = refl
later-more k y false place n = refl

pub last-end : (k : ℕ) (xs : List (Option ℕ)) (x : Option ℕ) → last_place k (xs ++ x ∷ []) ≡ cond (is_key k x) (Some (length xs))
    (last_place k xs)
last-end k [] x = refl
last-end k (y ∷ xs) x =
    ap (later k y) (last-end k xs x) ∙ (later-more k y (is_key k x) (last_place k xs) (length xs)
    ∙ ap (λ n. cond (is_key k x) (Some n) (later k y (last_place k xs))) (omega arith))

module _ {S : Type 0} where
  pub indexed-empty : (m : IndexMap ℕ ℕ S) → IsEmpty m → IsIndexed [] (Some m)
  indexed-empty m e = λ k. ap (lookup (nat_eq k)) e

  pub indexed-none : (m : IndexMap ℕ ℕ S) (xs : List (Option ℕ)) → IsIndexed xs (Some m) → IsIndexed (xs ++ None ∷ []) (Some m)
  indexed-none m xs is = λ k. is k ∙ sym (last-end k xs None)

  pub indexed-more : (m n : IndexMap ℕ ℕ S) (xs : List (Option ℕ)) (key : ℕ) → IsIndexed xs (Some m)
      → Updates nat_eq m n key (Some (length xs)) →
      IsIndexed (xs ++ Some key ∷ []) (Some n)
  indexed-more m n xs key is updates = λ k. updates.0 k ∙ (ap (cond (nat_eq key k) (Some (length xs))) (is k)
      ∙ sym (last-end k xs (Some key)))

-- ---- a walk from the end

pub take-more : (xs : List (Option ℕ)) (i : ℕ) (d : Option ℕ) → i < length xs → take i xs ++ get_or xs i d ∷ [] ≡ take (i + 1) xs
take-more [] i d e = absurd (omega arith)
take-more (x ∷ xs) zero d e = refl
take-more (x ∷ xs) (suc i) d e = let next : suc i + 1 ≡ suc (i + 1) = omega arith in
    rw next (ap (λ ys. x ∷ ys) (take-more xs i d (omega arith)))

length-take : (xs : List (Option ℕ)) (i : ℕ) → i < length xs → length (take i xs) ≡ i
length-take [] i e = absurd (omega arith)
length-take (x ∷ xs) zero e = refl
length-take (x ∷ xs) (suc i) e = let ih = length-take xs i (omega arith) in omega (arith, ih)

got-there : (k : ℕ) (xs : List (Option ℕ)) (j : ℕ) (d : Option ℕ) (b : Bool) → j < length xs
    → option_map (is_key k) (slice_get xs j) ≡ Some b → is_key k (get_or xs j d) ≡ b
got-there k [] j d b e is = absurd (omega arith)
got-there k (x ∷ xs) zero d b e is = cc
got-there k (x ∷ xs) (suc j) d b e is = got-there k xs j d b (omega arith) is

pub last-back : (k : ℕ) (xs : List (Option ℕ)) (i j : ℕ) (b : Bool) → j + 1 ≡ i → j < length xs → last_place k xs ≡ last_place k (take i xs)
    →
    option_map (is_key k) (slice_get xs j) ≡ Some b → last_place k xs ≡ cond b (Some j) (last_place k (take j xs))
last-back k xs i j b next e rest is =
    rest ∙ (ap (λ n. last_place k (take n xs)) (sym next)
    ∙ (ap (last_place k) (sym (take-more xs j None e))
    ∙ (last-end k (take j xs) (get_or xs j None)
    ∙ (ap (λ c. cond c (Some (length (take j xs))) (last_place k (take j xs))) (got-there k xs j None b e is)
    ∙ ap (λ n. cond b (Some n) (last_place k (take j xs))) (length-take xs j e)))))

-- ---- a key that stands once

some-or : (n : ℕ) (b : Bool) → is_some (cond b (Some n) None) ≡ (b || false)
some-or n true = refl
some-or n false = refl

true-or : (a b : Bool) → true ≡ b → true ≡ (a || b)
true-or true b e = refl
true-or false b e = e

any-later : (k : ℕ) (x : Option ℕ) (place : Option ℕ) (b : Bool) → is_some place ≡ b → is_some (later k x place) ≡ (is_key k x || b)
any-later k x None b e = some-or 0 (is_key k x) ∙ ap (λ c. is_key k x || c) e
any-later k x (Some i) b e = true-or (is_key k x) b e

pub last-any : (k : ℕ) (xs : List (Option ℕ)) → is_some (last_place k xs) ≡ list_any (is_key k) xs
last-any k [] = refl
last-any k (x ∷ xs) = any-later k x (last_place k xs) (list_any (is_key k) xs) (last-any k xs)

or-parts : (a b : Bool) → (a || b) ≡ false → (a ≡ false) × (b ≡ false)
or-parts true b e = cc
or-parts false b e = (refl, e)

and-parts : (a b : Bool) → (a && b) ≡ true → (a ≡ true) × (b ≡ true)
and-parts true b e = (refl, e)
and-parts false b e = cc

not-true : (b : Bool) → not b ≡ true → b ≡ false
not-true true e = cc
not-true false e = refl

any-end : (p : Option ℕ → Bool) (xs : List (Option ℕ)) (x : Option ℕ) → list_any p (xs ++ x ∷ []) ≡ (p x || list_any p xs)
any-end p [] x = refl
any-end p (y ∷ xs) x = let ih = any-end p xs x in grind (arith, ih)

any-remove : (p : Option ℕ → Bool) (xs : List (Option ℕ)) (i : ℕ) → list_any p xs ≡ false → list_any p (remove xs i) ≡ false
any-remove p [] zero e = refl
any-remove p [] (suc i) e = refl
any-remove p (x ∷ xs) zero e = (or-parts (p x) (list_any p xs) e).1
any-remove p (x ∷ xs) (suc i) e =
    let parts = or-parts (p x) (list_any p xs) e in
    let own = parts.0 in
    let ih = any-remove p xs i parts.1 in
    rw (own, ih) refl

key-turned : (a b : ℕ) → nat_eq a b ≡ nat_eq b a
key-turned a b = grind (arith, nat_tests)

-- a key that is there is another than one that isn't
among-turned : (x y : Option ℕ) (xs : List (Option ℕ)) → is_among x (y ∷ xs) ≡ false → is_among y (x ∷ []) ≡ false
among-turned None None xs e = refl
among-turned None (Some b) xs e = refl
among-turned (Some a) None xs e = refl
among-turned (Some a) (Some b) xs e = let own = (or-parts (nat_eq b a) (list_any (is_key a) xs) e).0 in let turned = key-turned a b ∙ own in
    rw turned refl

among-rest : (x y : Option ℕ) (xs : List (Option ℕ)) → is_among x (y ∷ xs) ≡ false → is_among x xs ≡ false
among-rest None y xs e = refl
among-rest (Some a) y xs e = (or-parts (is_key a y) (list_any (is_key a) xs) e).1

among-end : (x y : Option ℕ) (xs : List (Option ℕ)) → is_among y xs ≡ false → is_among y (x ∷ []) ≡ false
    → is_among y (xs ++ x ∷ []) ≡ false
among-end x None xs e own = refl
among-end x (Some b) xs e own = any-end (is_key b) xs x ∙ (let o = (or-parts (is_key b x) false own).0 in rw (o, e) refl)

among-remove : (y : Option ℕ) (xs : List (Option ℕ)) (i : ℕ) → is_among y xs ≡ false → is_among y (remove xs i) ≡ false
among-remove None xs i e = refl
among-remove (Some b) xs i e = any-remove (is_key b) xs i e

pub keys-apart-end : (x : Option ℕ) (xs : List (Option ℕ)) → is_among x xs ≡ false → are_keys_apart xs ≡ true
    → are_keys_apart (xs ++ x ∷ []) ≡ true
keys-apart-end None [] new e = refl
keys-apart-end (Some a) [] new e = refl
keys-apart-end x (y ∷ xs) new e =
    let parts = and-parts (not (is_among y xs)) (are_keys_apart xs) e in
    let gone = among-end x y xs (not-true (is_among y xs) parts.0) (among-turned x y xs new) in
    let ih = keys-apart-end x xs (among-rest x y xs new) parts.1 in
    rw (gone, ih) refl

pub keys-apart-remove : (xs : List (Option ℕ)) (i : ℕ) → are_keys_apart xs ≡ true → are_keys_apart (remove xs i) ≡ true
keys-apart-remove [] zero e = refl
keys-apart-remove [] (suc i) e = refl
keys-apart-remove (x ∷ xs) zero e = (and-parts (not (is_among x xs)) (are_keys_apart xs) e).1
keys-apart-remove (x ∷ xs) (suc i) e =
    let parts = and-parts (not (is_among x xs)) (are_keys_apart xs) e in
    let gone = among-remove x xs i (not-true (is_among x xs) parts.0) in
    let ih = keys-apart-remove xs i parts.1 in
    rw (gone, ih) refl

-- the last place of a key that stands once is its first
-- a place that is one later, and a place at the front
first-own : (k : ℕ) (x : Option ℕ) (n l : ℕ) → is_key k x ≡ true → nat_lt n l ≡ false →
    later k x (cond (nat_lt n l) (Some n) None) ≡ cond (nat_lt 0 (suc l)) (Some 0) None
first-own k x n l own none = let up : nat_lt 0 (suc l) ≡ true = grind (arith, nat_tests) in rw (none, own, up) refl

first-later : (k : ℕ) (x : Option ℕ) (n l : ℕ) (c : Bool) → is_key k x ≡ false → nat_lt n l ≡ c → nat_lt (1 + n) (suc l) ≡ c →
    later k x (cond (nat_lt n l) (Some n) None) ≡ cond (nat_lt (1 + n) (suc l)) (Some (1 + n)) None
first-later k x n l true own e up = rw (e, up) (ap Some (omega arith))
first-later k x n l false own e up = rw (e, up, own) refl

up-one : (n l : ℕ) → nat_lt (1 + n) (suc l) ≡ nat_lt n l
up-one n l = grind (arith, nat_tests)

first-by : (k : ℕ) (x : Option ℕ) (n l : ℕ) (b : Bool) → is_key k x ≡ b → (b ≡ true → nat_lt n l ≡ false) →
    later k x (cond (nat_lt n l) (Some n) None) ≡ cond (nat_lt (cond (not b) (1 + n) 0) (suc l)) (Some (cond (not b) (1 + n) 0)) None
first-by k x n l true own alone = first-own k x n l own (alone refl)
first-by k x n l false own alone = first-later k x n l (nat_lt n l) own refl (up-one n l)

any-within : (p : Option ℕ → Bool) (xs : List (Option ℕ)) → list_any p xs ≡ nat_lt (position_or_len p xs) (length xs)
any-within p [] = refl
any-within p (x ∷ xs) = let ih = any-within p xs in grind (arith, ih)

among-key : (k : ℕ) (x : Option ℕ) (xs : List (Option ℕ)) → is_key k x ≡ true → is_among x xs ≡ false → list_any (is_key k) xs ≡ false
among-key k None xs own e = cc
among-key k (Some a) xs own e = let same : a ≡ k = grind (arith, nat_tests, own) in ap (λ c. list_any (is_key c) xs) (sym same) ∙ e

pub last-first : (k : ℕ) (xs : List (Option ℕ)) → are_keys_apart xs ≡ true → last_place k xs ≡ position (is_key k) xs
last-first k [] e = refl
last-first k (x ∷ xs) e =
    let parts = and-parts (not (is_among x xs)) (are_keys_apart xs) e in
    ap (later k x) (last-first k xs parts.1)
    ∙ first-by k x (position_or_len (is_key k) xs) (length xs) (is_key k x) refl
    (λ own. sym (any-within (is_key k) xs) ∙ among-key k x xs own (not-true (is_among x xs) parts.0))
