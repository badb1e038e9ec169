use Rattle.std.proofs.Common.{◌∙◌, sym}
use Rattle.serde_json.specs.View.{view}
use Rattle.json_tree.specs.SelectorRead.{range_in}
use Rattle.json_values.proofs.ItemLemmas.{item-more, item-refuses, items-done}
use Rattle.json_tree.proofs.selector_read.ranges.Goals as goal

pub returns : goal.returns
returns c = sym c.loop-place.invariant ∙ items-done range_in c.loop-place.list c.args.items.now c.loop-place.place c.loop-place-test.false

pub returns-in-Err : goal.returns-in-Err
returns-in-Err c =
    item-refuses range_in c.loop-place.list c.args.items.now c.loop-place.place c.index-items-place.result c.in-Err.refused _
    c.loop-place-test.true c.index-items-place.is c.loop-place.invariant
    (c.in-Err.ensures (range_in (view c.index-items-place.result)) c.range.ensures)

pub loop-place-preserved : goal.loop-place-preserved
loop-place-preserved c =
    rw c.in_ok-push-in-Ok.ensures.ok
    (item-more range_in c.loop-place.list c.args.items.now c.loop-place.place c.index-items-place.result c.in-Ok.range _
    c.loop-place-test.true c.index-items-place.is c.loop-place.invariant
    (c.in-Ok.ensures (range_in (view c.index-items-place.result)) c.range.ensures))
