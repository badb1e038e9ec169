use Rattle.std.proofs.Common.{◌≡◌, ◌++◌, drop}
use Rattle.json_values.specs.Written.{spd_entry_items}
use Rattle.json_values.specs.Tokens.{tokens_of_items}
use Rattle.json_tree.proofs.policy_write.add_entries.Given as goal

abbrev pub invariant-loop-item : goal.invariant-loop-item
invariant-loop-item l = l.out ++ tokens_of_items (spd_entry_items (drop l.item-index l.list)) ≡ l.initial.out ++ tokens_of_items
    (spd_entry_items l.list)
