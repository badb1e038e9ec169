use Rattle.std.proofs.Common.{◌∙◌, sym}
use Rattle.reply_table.specs.Reply.{is_row}
use Rattle.rc_resource.proofs.PlaceLemmas.{found_at, found_none}
use Rattle.rc_resource.proofs.halves.half_named.Goals as goal

pub returns-in-Some : goal.returns-in-Some
returns-in-Some c = c.get.ensures ∙ found_at (is_row c.args.name.now) c.args.rows.now c.in-Some.at
    (rw c.as_slice.ensures at c.in-Some.ensures)

pub returns-in-None : goal.returns-in-None
returns-in-None c = sym (found_none (is_row c.args.name.now) c.args.rows.now (rw c.as_slice.ensures at c.in-None.ensures))
