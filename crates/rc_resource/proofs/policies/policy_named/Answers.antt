use Rattle.std.proofs.Common.{◌∙◌, sym}
use Rattle.ikeless_tree.specs.Check.{is_named}
use Rattle.rc_resource.proofs.PlaceLemmas.{found_at, found_none}
use Rattle.rc_resource.proofs.policies.policy_named.Goals as goal

pub returns-in-Some : goal.returns-in-Some
returns-in-Some c = c.get.ensures ∙ found_at (is_named c.args.name.now) c.args.list.now c.in-Some.at
    (rw c.as_slice.ensures at c.in-Some.ensures)

pub returns-in-None : goal.returns-in-None
returns-in-None c = sym (found_none (is_named c.args.name.now) c.args.list.now (rw c.as_slice.ensures at c.in-None.ensures))
