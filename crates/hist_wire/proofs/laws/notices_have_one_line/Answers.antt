use Rattle.hist_wire.proofs.Dates.{line-is, stamp-is}
use Rattle.hist_wire.proofs.laws.notices_have_one_line.Goals as goal

pub returns : goal.returns
returns c = record { stamp = stamp-is; line = line-is }
