-- Words of values: the value of a word, and the word of a value.
use Rattle.std.proofs.Common.{◌≡◌, ℕ, Bool, true, false, if◌then◌else◌, List, [], ◌∷◌, find, Some, refl, sym, ap, ◌∙◌}
use Rattle.std.specs.Str.{bytes_eq}
use Rattle.std.proofs.lemmas.Slice.Eq.{bytes_eq-Decides}
use Rattle.ikl_base.specs.declared.status.LineFault.{LineFault}
use Rattle.ikl_base.specs.declared.status.LineFault.TheVariants as faults
use Rattle.ikl_base.specs.Reasons.{all_reasons, reason_of, reason_text}

-- a value that is found by its word has that word
pub word_of-found : {A : Type 0} (text : A → List ℕ) (all : List A) (w : List ℕ) (x : A) → find (λ y. bytes_eq (text y) w) all ≡ Some x
    → w ≡ text x
word_of-found text [] w x e = absurd (let no : ⊥ = cc in no)
word_of-found {A} text (y ∷ ys) w x e = by_test (bytes_eq (text y) w) refl e (word_of-found text ys w x)
  where
    by_test : (b : Bool) → bytes_eq (text y) w ≡ b → (if b then Some y else find (λ z. bytes_eq (text z) w) ys) ≡ Some x
        → (find (λ z. bytes_eq (text z) w) ys ≡ Some x → w ≡ text x) → w ≡ text x
    by_test true t h ih = let is : y ≡ x = cc in sym ((bytes_eq-Decides (text y) w).0 t) ∙ ap text is
    by_test false t h ih = ih h

pub reason_again : (reason : LineFault) → reason_of (reason_text reason) ≡ Some reason
unfolding reason_of
reason_again faults.Long = refl
reason_again faults.End = refl
reason_again faults.Octet = refl
reason_again faults.Header = refl
reason_again faults.Word = refl
reason_again faults.Count = refl
reason_again faults.Gateway = refl
reason_again faults.Number = refl
reason_again faults.Hex = refl
reason_again faults.Prefix = refl
reason_again faults.Limits = refl
reason_again faults.Entry = refl
reason_again faults.Mode = refl

pub reason_is : (text : List ℕ) (reason : LineFault) → reason_of text ≡ Some reason → text ≡ reason_text reason
unfolding reason_of
reason_is text reason e = word_of-found reason_text all_reasons text reason e
