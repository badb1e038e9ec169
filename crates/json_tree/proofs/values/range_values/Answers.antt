use Rattle.json_values.specs.Written.{range_data}
use Rattle.json_values.proofs.Lists.{more}
use Rattle.json_tree.proofs.values.range_values.Goals as goal

pub loop-range-preserved : goal.loop-range-preserved
loop-range-preserved c =
    rw c.in_ok-push.ensures.items (more range_data c.args.ranges.now c.loop-range.range-index _ c.loop-range.values.items
    c.in_ok-range_value.field-0 c.loop-range-test.true c.loop-range.invariant c.in_ok-range_value.ensures)
