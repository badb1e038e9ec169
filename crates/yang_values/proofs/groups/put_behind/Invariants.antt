use Rattle.std.proofs.Common.{◌≡◌, ◌++◌, ◌∷◌, take}
use Rattle.std.specs.List.{flat_map}
use Rattle.yang_values.specs.Addresses.{group_text}
use Rattle.yang_values.proofs.groups.put_behind.Given as goal

abbrev pub invariant-loop-group : goal.invariant-loop-group
invariant-loop-group l = l.out.items ≡ l.fn.out.items ++ flat_map (λ group. 58 ∷ group_text group) (take l.group-index l.groups)
