-- Lists of values that are read one by one, and lists of one.
use Rattle.std.proofs.Common.{◌≡◌, ◌≤◌, ℕ, List, [], ◌∷◌, ◌++◌, length, Result, Ok, Err, refl, arith}
use Rattle.serde_json.specs.View.{items_view}
use Rattle.serde_json.specs.declared.value.Value.{Value}
use Rattle.rc_answer.specs.declared.answer.BadAnswer.{BadAnswer}
use Rattle.rc_answer.specs.Answers.{bad, one_in}

-- names that were read before, and those of the rest
abbrev pub onto : List (List ℕ) → Result (List (List ℕ)) BadAnswer → Result (List (List ℕ)) BadAnswer
onto front (Ok rest) = Ok (front ++ rest)
onto front (Err e) = Err e

-- a list of two items or more isn't a list of one
pub one-of_many : (vs : List Value) → 2 ≤ length vs → one_in (items_view vs) ≡ Err bad
one-of_many [] long = absurd (omega arith)
one-of_many (v ∷ []) long = absurd (omega arith)
one-of_many (v ∷ w ∷ vs) long = refl
