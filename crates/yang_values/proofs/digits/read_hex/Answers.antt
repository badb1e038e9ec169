use Rattle.std.proofs.Common.{◌≡◌, List, ℕ, false, Option, Some, refl, ap, sym, ◌∙◌, length, ◌==◌, ◌++◌, ◌∷◌, []}
use Rattle.std.specs.Option.{option_copied}
use Rattle.std.specs.List.{slice_split}
use Rattle.yang_values.specs.Parts.{each}
use Rattle.yang_values.specs.HexText.{hex_of, pair_of, is_colon, some_or_form}
use Rattle.yang_values.proofs.EachLemmas.{next_value, next_none, none_left}
use Rattle.yang_values.proofs.digits.read_hex.Goals as goal

-- a text that isn't empty is read by its parts
hex_of_parts : (t : List ℕ) (read : Option (List ℕ)) → false ≡ (length t == 0) → each pair_of (slice_split is_colon t) ≡ read
    → hex_of t ≡ some_or_form read
unfolding hex_of
hex_of_parts t read some e = rw (← some) (ap some_or_form e)

pub returns-in_default-pair : goal.returns-in_default-pair
returns-in_default-pair c =
    hex_of_parts _ _ c.if-is_empty.ensures
    (next_none is_colon pair_of _ _ _ _ _ (option_copied c.first_part.result.1) c.loop-rest.invariant (ap option_copied c.in-Some.is)
    c.first_part.ensures.value (sym c.in_default-pair.ensures))

pub loop-rest-preserved : goal.loop-rest-preserved
loop-rest-preserved c =
    let pushed : c.push.new.self.items ≡ c.loop-rest.octets.items ++ c.in-Some-pair.octet ∷ [] =
    c.push.ensures.items ∙ rw c.if-is_err.ensures.negation refl in
    rw pushed
    (next_value is_colon pair_of _ _ _ _ _ (option_copied c.first_part.result.1) _ c.loop-rest.invariant (ap option_copied c.in-Some.is)
    c.first_part.ensures.value (sym c.in-Some-pair.ensures))

pub returns : goal.returns
returns c =
    hex_of_parts _ _ c.if-is_empty.ensures
    (none_left is_colon pair_of _ _ _ c.loop-rest.invariant (ap option_copied c.in_default.is) ∙ ap Some (sym c.from_items-2.ensures))
