use Rattle.std.proofs.Common.{◌≡◌, List, ℕ, false, arith, refl, ap, sym, ◌∙◌, length, ◌==◌}
use Rattle.std.specs.Option.{option_copied}
use Rattle.std.specs.List.{slice_split}
use Rattle.std.proofs.lemmas.List.{take_more_set, length-take-le, length-set}
use Rattle.yang_values.specs.Parts.{each}
use Rattle.yang_values.specs.HexText.{is_colon}
use Rattle.yang_values.specs.Addresses.{group_of, groups_in}
use Rattle.yang_values.proofs.EachLemmas.{next_value, next_none, none_left, more_left}
use Rattle.yang_values.proofs.groups.read_groups.Goals as goal

-- a text that isn't empty is read by its parts
groups_in_parts : (t : List ℕ) → false ≡ (length t == 0) → groups_in t ≡ each group_of (slice_split is_colon t)
groups_in_parts t some = rw (← some) refl

pub returns-in_default-read_hex_number : goal.returns-in_default-read_hex_number
returns-in_default-read_hex_number c =
    let none = groups_in_parts c.args.t.now c.if-is_empty.ensures
    ∙ next_none is_colon group_of _ _ _ _ _ (option_copied c.first_part.result.1) c.loop-rest.invariant.so_far
    (ap option_copied c.in-Some.is) c.first_part.ensures.value (sym c.in_default-read_hex_number.ensures) in
    rw none tt

pub returns-then-count-eq8 : goal.returns-then-count-eq8
returns-then-count-eq8 c =
    let size = length-take-le c.loop-rest.count c.loop-rest.items (omega arith) ∙ c.if-count-eq8.true in
    let more = more_left is_colon group_of _ _ _ _ _ (option_copied c.first_part.result.1) 8 size c.loop-rest.invariant.so_far
    (ap option_copied c.in-Some.is) c.first_part.ensures.value in
    rw (groups_in_parts c.args.t.now c.if-is_empty.ensures) more

pub loop-rest-preserved : goal.loop-rest-preserved
loop-rest-preserved c =
    let put = take_more_set c.loop-rest.items c.loop-rest.count c.in-Some-read_hex_number.group (omega arith) in
    record {
      so_far = rw put (next_value is_colon group_of _ _ _ _ _ (option_copied c.first_part.result.1) _ c.loop-rest.invariant.so_far
          (ap option_copied c.in-Some.is) c.first_part.ensures.value (sym c.in-Some-read_hex_number.ensures));
      room = omega arith;
      size = length-set c.loop-rest.items c.loop-rest.count c.in-Some-read_hex_number.group ∙ c.loop-rest.invariant.size;
    }

pub returns : goal.returns
returns c =
    groups_in_parts c.args.t.now c.if-is_empty.ensures
    ∙ none_left is_colon group_of _ _ _ c.loop-rest.invariant.so_far (ap option_copied c.in_default.is)
