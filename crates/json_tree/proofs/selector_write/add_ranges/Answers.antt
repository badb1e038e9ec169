use Rattle.std.proofs.Common.{refl}
use Rattle.json_values.specs.Written.{range_data}
use Rattle.json_values.proofs.TokenLemmas.{after_ok, one_more_item, all_items}
use Rattle.json_tree.proofs.selector_write.add_ranges.Goals as goal

pub loop-item-preserved : goal.loop-item-preserved
loop-item-preserved c = one_more_item range_data c.args.list.now c.loop-item.item-index _ _ c.loop-item.out _ _ c.loop-item-test.true refl
    c.loop-item.invariant c.in_ok-add_range.ensures

pub returns : goal.returns
returns c = after_ok c.end_array.result c.end_array.ensures (λ h. all_items range_data c.args.list.now c.loop-item.item-index
    c.loop-item.out _ _ c.loop-item-test.false c.loop-item.invariant h)
