use Rattle.notice_lines.proofs.Written.{written_heard}
use Rattle.notice_lines.proofs.laws.written_is_heard.Goals as goal

pub returns : goal.returns
returns c = written_heard c.plain_texts.ensures.number
