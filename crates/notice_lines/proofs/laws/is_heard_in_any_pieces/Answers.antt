use Rattle.notice_lines.proofs.Cuts.{heard_whole}
use Rattle.notice_lines.proofs.laws.is_heard_in_any_pieces.Goals as goal

pub returns : goal.returns
returns c = heard_whole
