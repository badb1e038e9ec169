use Rattle.reply_table.specs.Reply.{is_row}
use Rattle.rc_resource.proofs.NameLemmas.{half_once}
use Rattle.rc_resource.proofs.PlaceLemmas.{removed_at}
use Rattle.rc_resource.proofs.halves.remove_half.Goals as goal

pub returns : goal.returns
returns c = rw (c.from_items.ensures, c.remove.ensures.items, c.into_items-items.ensures, c.replace.ensures.value)
    (removed_at (is_row c.args.name.now) c.args.rows.now c.args.at (half_once c.args.name.now c.args.rows.now c.requires.distinct)
    c.requires.first)
