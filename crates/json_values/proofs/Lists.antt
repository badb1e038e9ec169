-- Lists of values that are built one by one.
use Rattle.std.proofs.Common.{◌≡◌, ◌<◌, ◌+◌, ℕ, zero, suc, Bool, true, List, [], ◌∷◌, ◌++◌, length, get_or, take, map, arith}
use Rattle.std.specs.List.{list_all}
use Rattle.std.proofs.lemmas.Bool.{and_parts}
use Rattle.std.proofs.lemmas.Grind.{common_steps}
use Rattle.serde_json.specs.Data.{Data}
use Rattle.serde_json.specs.View.{view}
use Rattle.serde_json.specs.declared.value.Value.{Value}

pub more : {A : Type 0} (f : A → Data) (xs : List A) (i : ℕ) (d : A) (vs : List Value) (v : Value) → i < length xs
    → map view vs ≡ map f (take i xs) → view v ≡ f (get_or xs i d) → map view (vs ++ v ∷ []) ≡ map f (take (i + 1) xs)
more f xs i d vs v inside before here = grind (arith, common_steps)

pub all_here : {A : Type 0} (p : A → Bool) (xs : List A) (i : ℕ) (d : A) → list_all p xs ≡ true → i < length xs → p (get_or xs i d) ≡ true
all_here p [] i d h inside = absurd (omega arith)
all_here p (x ∷ xs) zero d h inside = (and_parts (p x) (list_all p xs) h).0
all_here p (x ∷ xs) (suc i) d h inside = all_here p xs i d (and_parts (p x) (list_all p xs) h).1 (omega arith)
