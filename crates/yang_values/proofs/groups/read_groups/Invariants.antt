use Rattle.std.proofs.Common.{◌≡◌, ◌+◌, ◌≤◌, length, take, unwrap_or}
use Rattle.std.specs.Option.{option_map, option_copied}
use Rattle.std.specs.List.{slice_split}
use Rattle.yang_values.specs.Parts.{each, parts_in}
use Rattle.yang_values.specs.HexText.{is_colon}
use Rattle.yang_values.specs.Addresses.{group_of}
use Rattle.yang_values.proofs.EachLemmas.{with_front}
use Rattle.yang_values.proofs.groups.read_groups.Given as goal

-- the groups so far and those of the parts left are those of all parts
abbrev pub invariant-loop-rest : goal.invariant-loop-rest
invariant-loop-rest l = record {
  so_far : with_front (take l.count l.items) (each group_of (parts_in is_colon (option_copied l.rest))) ≡ each group_of
      (slice_split is_colon l.t);
  room : l.count ≤ 8;
  size : length l.items ≡ 8;
}

abbrev pub decreases-loop-rest : goal.decreases-loop-rest
decreases-loop-rest l = unwrap_or (option_map (λ t. length t + 1) (option_copied l.rest)) 0
