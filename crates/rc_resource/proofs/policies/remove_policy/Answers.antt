use Rattle.ikeless_tree.specs.Check.{is_named}
use Rattle.rc_resource.proofs.NameLemmas.{policy_once}
use Rattle.rc_resource.proofs.PlaceLemmas.{removed_at}
use Rattle.rc_resource.proofs.policies.remove_policy.Goals as goal

pub returns : goal.returns
returns c = rw (c.from_items.ensures, c.remove.ensures.items, c.into_items-items.ensures, c.replace.ensures.value)
    (removed_at (is_named c.args.name.now) c.args.list.now c.args.at (policy_once c.args.name.now c.args.list.now c.requires.sound)
    c.requires.first)
