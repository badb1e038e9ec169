use Rattle.std.proofs.Common.{◌≡◌, ◌++◌, drop}
use Rattle.json_values.specs.Tokens.{tokens_of_items}
use Rattle.json_tree.specs.SadEntryWritten.{row_items}
use Rattle.json_tree.proofs.sad_entry_write.add_rows.Given as goal

abbrev pub invariant-loop-item : goal.invariant-loop-item
invariant-loop-item l = l.out ++ tokens_of_items (row_items (drop l.item-index l.list)) ≡ l.initial.out ++ tokens_of_items
    (row_items l.list)
