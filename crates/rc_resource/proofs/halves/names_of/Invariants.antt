use Rattle.std.proofs.Common.{◌≡◌, take}
use Rattle.reply_table.specs.Reply.{row_names}
use Rattle.rc_resource.proofs.halves.names_of.Given as goal

abbrev pub invariant-loop-row : goal.invariant-loop-row
invariant-loop-row l = l.names.items ≡ row_names (take l.row-index l.rows)
