use Rattle.std.proofs.Common.{◌≡◌, ◌∙◌, ap, Ok}
use Rattle.std.proofs.lemmas.Result.{IfOk-weaker}
use Rattle.reply_table.specs.Reply.{reply}
use Rattle.rc_answer.specs.Answers.{answer_of}
use Rattle.rc_resource.specs.Laws.{answer_by}
use Rattle.rc_resource.specs.Messages.{reply_message}
use Rattle.rc_resource.specs.Replies.{reply_of}
use Rattle.rc_resource.proofs.perform.apply.Goals as goal

pub returns-clause-answer : goal.returns-clause-answer
returns-clause-answer c = λ o same.
    let t = c.args.tree.now in
    let read : answer_of o (reply_message (reply_of (reply t c.args.ask.now))) ≡ Ok (answer_by (reply t c.args.ask.now)) =
    rw same (c.answers_are_read.ensures t o c.requires c.rows_fit.ensures) in
    IfOk-weaker c.carry_out.result _ _ (λ r is. ap (λ x. answer_of o (reply_message x)) is ∙ read) c.carry_out.ensures.reply
