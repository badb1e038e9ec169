use Rattle.notice_lines.proofs.Cuts.{cuts, same_line, one_notice}
use Rattle.notice_lines.proofs.laws.cuts_do_not_matter.Goals as goal

pub returns : goal.returns
returns c = record { pieces = cuts; line = same_line; notice = one_notice }
