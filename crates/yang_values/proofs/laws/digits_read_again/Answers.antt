use Rattle.std.proofs.Common.{◌≡◌, ℕ, ◌<◌, List, ◌∷◌, length, Ok, inl, inr, arith, ap}
use Rattle.std.specs.List.{All}
use Rattle.std.proofs.lemmas.Bool.{cases_lt}
use Rattle.std.proofs.lemmas.List.{get_or_past}
use Rattle.hex.specs.Hex.{IsBytes, encode_with}
use Rattle.hex.proofs.HexLemmas.{decode_of-encode_lower}
use Rattle.yang_values.specs.HexText.{digits_of, digits_text, or_form}
use Rattle.yang_values.proofs.laws.digits_read_again.Goals as goal

bytes_of_all : (xs : List ℕ) → All (λ o. o < 256) xs → IsBytes xs
bytes_of_all xs all i = elim (cases_lt i (length xs)) [
  | inl within ↦ all i 0 within
  | inr past ↦ let e = get_or_past xs i 0 past in omega (arith, e)
]

again : (first : ℕ) (rest : List ℕ) → All (λ o. o < 256) (first ∷ rest) → digits_of (digits_text (first ∷ rest)) ≡ Ok (first ∷ rest)
unfolding encode_with
again first rest all = ap or_form (decode_of-encode_lower (first ∷ rest) (bytes_of_all (first ∷ rest) all))

pub returns : goal.returns
returns c = again
