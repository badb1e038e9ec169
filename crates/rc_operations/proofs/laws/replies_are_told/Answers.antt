use Rattle.rc_operations.proofs.Telling.{reply_told}
use Rattle.rc_operations.proofs.laws.replies_are_told.Goals as goal

pub returns : goal.returns
returns c = reply_told c.errors_are_read.ensures
