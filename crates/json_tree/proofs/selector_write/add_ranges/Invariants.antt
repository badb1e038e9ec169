use Rattle.std.proofs.Common.{◌≡◌, ◌++◌, drop}
use Rattle.json_values.specs.Written.{range_items}
use Rattle.json_values.specs.Tokens.{tokens_of_items}
use Rattle.json_tree.proofs.selector_write.add_ranges.Given as goal

abbrev pub invariant-loop-item : goal.invariant-loop-item
invariant-loop-item l = l.out ++ tokens_of_items (range_items (drop l.item-index l.list)) ≡ l.initial.out ++ tokens_of_items
    (range_items l.list)
