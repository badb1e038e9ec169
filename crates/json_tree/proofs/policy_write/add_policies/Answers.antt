use Rattle.std.proofs.Common.{◌≡◌}
use Rattle.json_tree.proofs.Passed.{passed_names}
use Rattle.json_tree.proofs.policy_write.add_policies.Goals as goal

pub add_entries-requires : goal.add_entries-requires
add_entries-requires c =
    let e : c.as_slice.result.now ≡ c.args.list.now = c.as_slice.ensures in
    rw e (passed_names _ c.requires)
