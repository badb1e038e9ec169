use Rattle.std.proofs.lemmas.Result.{IfOk-weaker}
use Rattle.live_controller.proofs.Doing.{later-same}
use Rattle.live_controller.proofs.Replying.{command-does, command-reply, error-does, error-reply, on-ok}
use Rattle.live_controller.proofs.clients.reply_to.Goals as goal

pub returns-in_ok-refused-in-Ok-clause-reply : goal.returns-in_ok-refused-in-Ok-clause-reply
returns-in_ok-refused-in-Ok-clause-reply g c =
    IfOk-weaker c.write_command_reply.result _ _
    (λ text is. command-reply c.args.desk.now.controller _ c.in-Ok.command _ text c.in-Ok.ensures.command
    c.in_ok-refused-in-Ok.ensures.refused is) c.write_command_reply.ensures

pub returns-in_ok-refused-in-Ok-clause-does : goal.returns-in_ok-refused-in-Ok-clause-does
returns-in_ok-refused-in-Ok-clause-does g c =
    on-ok c.write_command_reply.result (λ calm agrees.
    command-does _ c.in-Ok.command _ _ _ _ c.in-Ok.ensures.command (c.in_ok-refused-in-Ok.ensures.tells calm agrees))

pub returns-in-Err-Refused-clause-later : goal.returns-in-Err-Refused-clause-later
returns-in-Err-Refused-clause-later g c = on-ok c.write_error.result (later-same _)

pub returns-in-Err-Refused-clause-reply : goal.returns-in-Err-Refused-clause-reply
returns-in-Err-Refused-clause-reply g c =
    IfOk-weaker c.write_error.result _ _ (λ text is. error-reply c.args.desk.now.controller _ c.in-Err-Refused.e text
    (rw c.in-Err-Refused.field-0-is at c.in-Err-Refused.ensures.command) is) c.write_error.ensures

pub returns-in-Err-Refused-clause-does : goal.returns-in-Err-Refused-clause-does
returns-in-Err-Refused-clause-does g c =
    on-ok c.write_error.result (λ calm agrees. error-does _ c.in-Err-Refused.e _ _
    (rw c.in-Err-Refused.field-0-is at c.in-Err-Refused.ensures.command))
