use Rattle.std.proofs.Common.{◌∙◌, ap, slice_set}
use Rattle.ikeless_tree.specs.Check.{is_named}
use Rattle.rc_resource.proofs.NameLemmas.{policy_once}
use Rattle.rc_resource.proofs.PlaceLemmas.{replaced_at}
use Rattle.rc_resource.proofs.policies.replace_policy.Goals as goal

pub returns-clause-ok : goal.returns-clause-ok
returns-clause-ok c =
    c.set.ensures ∙ ap (slice_set c.args.list.now c.args.at) c.in_ok-copy.ensures
    ∙ replaced_at (is_named c.args.e.now.name) c.args.e.now c.args.list.now c.args.at
    (policy_once c.args.e.now.name c.args.list.now c.requires.sound) c.requires.first
