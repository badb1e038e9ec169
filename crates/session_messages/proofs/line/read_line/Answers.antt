use Rattle.session_messages.proofs.OneLine.{heard_line}
use Rattle.session_messages.proofs.line.read_line.Goals as goal

pub returns-clause-heard : goal.returns-clause-heard
returns-clause-heard c = λ n h. heard_line c.cuts_do_not_matter.ensures.notice c.args.octets.now c.notice.result c.notice.ensures n h
