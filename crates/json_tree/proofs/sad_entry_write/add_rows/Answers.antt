use Rattle.std.proofs.Common.{◌≡◌, sym, subst, true}
use Rattle.ikeless_tree.specs.declared.sad.SadRow.{SadRow}
use Rattle.json_values.proofs.Lists.{all_here}
use Rattle.json_values.proofs.TokenLemmas.{after_ok, one_more_item, all_items}
use Rattle.json_tree.specs.SadEntryWritten.{row_data, is_row_named}
use Rattle.json_tree.proofs.sad_entry_write.add_rows.Goals as goal

pub add_row-requires : goal.add_row-requires
add_row-requires c =
    let e = c.item-item.result in
    subst (λ (x : SadRow). is_row_named x ≡ true) (sym c.item-item.is)
    (all_here is_row_named c.args.list.now c.loop-item.item-index e c.requires c.loop-item-test.true)

pub loop-item-preserved : goal.loop-item-preserved
loop-item-preserved c =
    let e = c.item-item.result in
    one_more_item row_data c.args.list.now c.loop-item.item-index e e c.loop-item.out _ _ c.loop-item-test.true c.item-item.is
    c.loop-item.invariant c.in_ok-add_row.ensures

pub returns : goal.returns
returns c = after_ok c.end_array.result c.end_array.ensures (λ h. all_items row_data c.args.list.now c.loop-item.item-index c.loop-item.out
    _ _ c.loop-item-test.false c.loop-item.invariant h)
