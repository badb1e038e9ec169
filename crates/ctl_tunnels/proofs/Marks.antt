-- Names looked through one after another.
use Rattle.std.proofs.Common.{◌≡◌, ℕ, ◌+◌, ◌<◌, Bool, false, ◌||◌, List, [], ◌∷◌, ◌++◌, length, take, get_or, refl, sym, ap, ◌∙◌, add-one}
use Rattle.std.proofs.Math.Seq.{take-suc}
use Rattle.std.proofs.Math.Bool.{or-false}
use Rattle.std.proofs.lemmas.List.Folds.{list_any-append}
use Rattle.std.specs.List.{list_any}

pub one-name-more : (p : List ℕ → Bool) (names : List (List ℕ)) (i : ℕ) (x : List ℕ) (old new : Bool) → i < length names
    → x ≡ get_or names i x → old ≡ list_any p (take i names) → new ≡ (old || p x) → new ≡ list_any p (take (i + 1) names)
one-name-more p names i x old new l e o n =
    let t : take (i + 1) names ≡ take i names ++ x ∷ [] = rw add-one (take-suc names i x l ∙ ap (λ y. take i names ++ y ∷ []) (sym e)) in
    n ∙ ap (λ b. b || p x) o ∙ ap (λ b. list_any p (take i names) || b) (sym (or-false (p x)))
    ∙ sym (list_any-append p (take i names) (x ∷ [])) ∙ ap (list_any p) (sym t)
