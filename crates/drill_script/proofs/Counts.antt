-- Counts of the elements that pass a test.
use Rattle.std.proofs.Common.{◌≡◌, ℕ, ◌+◌, Bool, true, false, cond, List, [], ◌∷◌, ◌++◌, map, refl, sym, ap, ◌∙◌}
use Rattle.std.specs.Prelude.{nat_eq}
use Rattle.std.specs.List.{count_by, starts_with}
use Rattle.std.specs.Borrow.{Bor}
use Rattle.std.proofs.lemmas.List.Sums.{sum_by-cons}
use Rattle.line_words.specs.Parts.{texts}
use Rattle.drill_script.specs.Tallies.{begins, lines_with}

abbrev one : Bool → ℕ
one b = cond b 1 0

-- one more element
count-cons : {A : Type 0} (p : A → Bool) (x : A) (xs : List A) → count_by p (x ∷ xs) ≡ one (p x) + count_by p xs
count-cons p x xs = sum_by-cons (λ y. cond (p y) 1 0) x xs

pub count-mapped : {A B : Type 0} (p : B → Bool) (q : A → Bool) (f : A → B) → ((x : A) → p (f x) ≡ q x) → (xs : List A) (last : List B)
    → count_by p last ≡ 0 → count_by p (map f xs ++ last) ≡ count_by q xs
count-mapped p q f same [] last none = none
count-mapped p q f same (x ∷ xs) last none =
    count-cons p (f x) (map f xs ++ last)
    ∙ ap (λ (b : Bool). one b + count_by p (map f xs ++ last)) (same x)
    ∙ ap (λ (n : ℕ). one (q x) + n) (count-mapped p q f same xs last none)
    ∙ sym (count-cons q x xs)

mapped : {A B : Type 0} (p : B → Bool) (f : A → B) (xs : List A) → count_by (λ x. p (f x)) xs ≡ count_by p (map f xs)
mapped p f [] = refl
mapped p f (x ∷ xs) =
    count-cons (λ y. p (f y)) x xs
    ∙ ap (λ (n : ℕ). one (p (f x)) + n) (mapped p f xs)
    ∙ sym (count-cons p (f x) (map f xs))

-- what is counted of references is counted of what they point to
pub counted_behind : (front : List ℕ) (lines : List (Bor (List ℕ))) → count_by (λ (line : Bor (List ℕ)). starts_with nat_eq line.now front)
    lines ≡ lines_with front (texts lines)
counted_behind front lines = mapped (begins front) (λ (line : Bor (List ℕ)). line.now) lines
