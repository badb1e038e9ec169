use Rattle.notice_lines.proofs.Stamps.{one_stamp}
use Rattle.notice_lines.proofs.laws.has_one_stamp.Goals as goal

pub returns : goal.returns
returns c = one_stamp
