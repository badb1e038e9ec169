-- Texts joined by a mark, cut at the mark, are those texts.
use Rattle.std.proofs.Common.{◌≡◌, ℕ, ◌+◌, ◌<◌, ◌==◌, Bool, true, false, List, [], ◌∷◌, length, map, Option, Some, refl, ap, ◌∙◌, arith, length-append}
use Rattle.std.specs.List.{All, AllByRecursion, list_all, slice_split, join_with_byte, flat_map}
use Rattle.std.proofs.lemmas.Bool.{and_from, ne_eqb}
use Rattle.std.proofs.lemmas.List.Folds.{list_all-append}
use Rattle.std.proofs.lemmas.List.Sums.{AllPass-from_list_all}
use Rattle.std.proofs.lemmas.List.Splits.{slice_split_none, slice_split_at}
use Rattle.yang_values.specs.Parts.{each}
use Rattle.yang_values.proofs.EachLemmas.{joined_is}

-- a test of each octet that no mark passes
pub lacks_mark : (q p : ℕ → Bool) → ((c : ℕ) → q c ≡ true → p c ≡ false) → (t : List ℕ) → list_all q t ≡ true → All (λ c. p c ≡ false) t
lacks_mark q p apart t all = λ k d lt. apart _ (AllPass-from_list_all q t all k d lt)

-- what holds of each element, and another fact with it
pub each_also : (P Q : ℕ → Type 0) → ((x : ℕ) → P x → Q x) → (xs : List ℕ) → AllByRecursion P xs → AllByRecursion Q xs
each_also P Q f [] all = tt
each_also P Q f (x ∷ xs) all = (f x all.0, each_also P Q f xs all.1)

each_text : (Q : List ℕ → Type 0) (text : ℕ → List ℕ) (xs : List ℕ) → AllByRecursion (λ x. Q (text x)) xs → AllByRecursion Q (map text xs)
each_text Q text [] all = tt
each_text Q text (x ∷ xs) all = (all.0, each_text Q text xs all.1)

split_joined : (p : ℕ → Bool) (mark : ℕ) → p mark ≡ true → (t : List ℕ) (ts : List (List ℕ))
    → AllByRecursion (λ t. All (λ c. p c ≡ false) t) (t ∷ ts) → slice_split p (join_with_byte mark (t ∷ ts)) ≡ t ∷ ts
split_joined p mark m t [] lack = slice_split_none p t lack.0
split_joined p mark m t (u ∷ us) lack =
    slice_split_at p t mark (join_with_byte mark (u ∷ us)) lack.0 m ∙ ap (λ parts. t ∷ parts) (split_joined p mark m u us lack.1)

-- the parts of texts that lack the mark
pub split_texts : (p : ℕ → Bool) (mark : ℕ) (text : ℕ → List ℕ) → p mark ≡ true → (x : ℕ) (xs : List ℕ)
    → AllByRecursion (λ x. All (λ c. p c ≡ false) (text x)) (x ∷ xs)
    → slice_split p (join_with_byte mark (map text (x ∷ xs))) ≡ map text (x ∷ xs)
split_texts p mark text m x xs lack =
    split_joined p mark m (text x) (map text xs) (each_text (λ t. All (λ c. p c ≡ false) t) text (x ∷ xs) lack)

-- the values of texts that are read
pub each_read : (value_of : List ℕ → Option ℕ) (text : ℕ → List ℕ) (xs : List ℕ)
    → AllByRecursion (λ x. value_of (text x) ≡ Some x) xs → each value_of (map text xs) ≡ Some xs
unfolding each
each_read value_of text [] read = refl
each_read value_of text (x ∷ xs) read = let ih = each_read value_of text xs read.1 in rw (read.0, ih) refl

-- joined texts aren't empty
pub some_joined : (mark : ℕ) (text : ℕ → List ℕ) (x : ℕ) (xs : List ℕ) → 0 < length (text x)
    → (length (join_with_byte mark (map text (x ∷ xs))) == 0) ≡ false
some_joined mark text x xs some =
    let size : length (join_with_byte mark (map text (x ∷ xs))) ≡ length (text x) + length (flat_map (λ y. mark ∷ text y) xs) =
    ap length (joined_is mark text x xs) ∙ length-append (text x) (flat_map (λ y. mark ∷ text y) xs) in
    ne_eqb _ _ (λ none. omega (arith, some, size, none))

-- what holds of each octet of the texts, and of the mark
pub all_joined : (q : ℕ → Bool) (mark : ℕ) (text : ℕ → List ℕ) → q mark ≡ true → (xs : List ℕ)
    → AllByRecursion (λ x. list_all q (text x) ≡ true) xs → list_all q (join_with_byte mark (map text xs)) ≡ true
all_joined q mark text m [] all = refl
all_joined q mark text m (x ∷ []) all = all.0
all_joined q mark text m (x ∷ y ∷ ys) all =
    let ih = all_joined q mark text m (y ∷ ys) all.1 in
    list_all-append q (text x) (mark ∷ join_with_byte mark (map text (y ∷ ys)))
    ∙ and_from _ _ all.0 (and_from _ _ m ih)
