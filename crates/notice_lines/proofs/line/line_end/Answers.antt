use Rattle.std.proofs.Common.{◌∙◌}
use Rattle.notice_lines.proofs.Ends.{position_end}
use Rattle.notice_lines.proofs.line.line_end.Goals as goal

pub returns : goal.returns
returns c = c.first_lf.ensures ∙ position_end c.args.octets.now
