use Rattle.std.proofs.Common.{◌∙◌, sym, ap}
use Rattle.std.specs.Option.{option_copied}
use Rattle.reply_table.specs.Reply.{is_row}
use Rattle.rc_resource.proofs.NameLemmas.{half_found}
use Rattle.rc_resource.proofs.perform.get_sad_entry.Goals as goal

pub write_sad_row-requires : goal.write_sad_row-requires
write_sad_row-requires c =
    half_found (is_row c.args.name.now) c.args.tree.now.sad c.in-Some.row.now c.requires
    (sym c.half_named.ensures ∙ ap option_copied c.in-Some.is)
