use Rattle.std.proofs.Common.{◌≡◌, drop}
use Rattle.serde_json.specs.View.{items_view}
use Rattle.json_values.specs.Shapes.{each_item}
use Rattle.json_tree.specs.PolicyRead.{spd_entry_in}
use Rattle.json_values.proofs.ItemLemmas.{onto}
use Rattle.json_tree.proofs.policy_read.entries.Given as goal

abbrev pub invariant-loop-place : goal.invariant-loop-place
invariant-loop-place l = onto l.list (each_item spd_entry_in l.place (items_view (drop l.place l.items))) ≡ each_item spd_entry_in 0
    (items_view l.items)
