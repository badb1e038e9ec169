use Rattle.std.proofs.Common.{◌∙◌, sym, ap}
use Rattle.std.specs.Option.{option_copied}
use Rattle.ikeless_tree.specs.Check.{is_named}
use Rattle.rc_resource.proofs.NameLemmas.{policy_found}
use Rattle.rc_resource.proofs.perform.get_spd_entry.Goals as goal

pub write_spd_entry-requires : goal.write_spd_entry-requires
write_spd_entry-requires c =
    policy_found (is_named c.args.name.now) c.args.tree.now.spd c.in-Some.e.now c.requires
    (sym c.policy_named.ensures ∙ ap option_copied c.in-Some.is)
