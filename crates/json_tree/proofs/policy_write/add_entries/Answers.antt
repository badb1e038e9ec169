use Rattle.std.proofs.Common.{◌≡◌, sym, subst, true}
use Rattle.ikeless_tree.specs.declared.entry.SpdEntry.{SpdEntry}
use Rattle.json_values.specs.Written.{spd_entry_data, is_named_well}
use Rattle.json_values.proofs.Lists.{all_here}
use Rattle.json_values.proofs.TokenLemmas.{after_ok, one_more_item, all_items}
use Rattle.json_tree.proofs.policy_write.add_entries.Goals as goal

pub add_entry-requires : goal.add_entry-requires
add_entry-requires c =
    let e = c.item-item.result in
    subst (λ (x : SpdEntry). is_named_well x ≡ true) (sym c.item-item.is)
    (all_here is_named_well c.args.list.now c.loop-item.item-index e c.requires c.loop-item-test.true)

pub loop-item-preserved : goal.loop-item-preserved
loop-item-preserved c =
    let e = c.item-item.result in
    one_more_item spd_entry_data c.args.list.now c.loop-item.item-index e e c.loop-item.out _ _ c.loop-item-test.true c.item-item.is
    c.loop-item.invariant c.in_ok-add_entry.ensures

pub returns : goal.returns
returns c = after_ok c.end_array.result c.end_array.ensures (λ h. all_items spd_entry_data c.args.list.now c.loop-item.item-index
    c.loop-item.out _ _ c.loop-item-test.false c.loop-item.invariant h)
