use Rattle.ikeless_tree.specs.Check.{is_named}
use Rattle.rc_resource.proofs.PlaceLemmas.{first_from_position}
use Rattle.rc_resource.proofs.policies.find_policy.Goals as goal

pub returns : goal.returns
returns c = rw (c.place_of.ensures, c.as_slice.ensures) (first_from_position (is_named c.args.name.now) c.args.list.now)
