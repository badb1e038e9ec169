use Rattle.std.proofs.Common.{◌≡◌, ◌+◌, length, unwrap_or}
use Rattle.std.specs.Option.{option_map, option_copied}
use Rattle.std.specs.List.{slice_split}
use Rattle.yang_values.specs.Parts.{each, parts_in}
use Rattle.yang_values.specs.HexText.{pair_of, is_colon}
use Rattle.yang_values.proofs.EachLemmas.{with_front}
use Rattle.yang_values.proofs.digits.read_hex.Given as goal

-- the octets so far and those of the parts left are those of all parts
abbrev pub invariant-loop-rest : goal.invariant-loop-rest
invariant-loop-rest l =
    with_front l.octets.items (each pair_of (parts_in is_colon (option_copied l.rest))) ≡ each pair_of (slice_split is_colon l.t)

abbrev pub decreases-loop-rest : goal.decreases-loop-rest
decreases-loop-rest l = unwrap_or (option_map (λ t. length t + 1) (option_copied l.rest)) 0
