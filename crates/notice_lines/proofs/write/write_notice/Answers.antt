use Rattle.std.proofs.lemmas.Result.{IfOk-weaker}
use Rattle.notice_lines.proofs.write.write_notice.Goals as goal

pub returns-clause-heard : goal.returns-clause-heard
returns-clause-heard c =
    IfOk-weaker c.notice_line.result _ _ (λ line h. c.written_is_heard.ensures c.args.n.now c.args.now line c.requires c.numbers_fit.ensures
    h) c.notice_line.ensures
