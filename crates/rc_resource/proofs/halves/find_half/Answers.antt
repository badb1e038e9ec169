use Rattle.reply_table.specs.Reply.{is_row}
use Rattle.rc_resource.proofs.PlaceLemmas.{first_from_position}
use Rattle.rc_resource.proofs.halves.find_half.Goals as goal

pub returns : goal.returns
returns c = rw (c.place_of.ensures, c.as_slice.ensures) (first_from_position (is_row c.args.name.now) c.args.rows.now)
