use Rattle.std.proofs.Common.{sym, subst}
use Rattle.rc_http.specs.Written.{IsWritableResponse}
use Rattle.rc_resource.specs.declared.reply.Reply.{Reply}
use Rattle.rc_resource.specs.Messages.{reply_message}
use Rattle.rc_operations.proofs.reply.write_command_reply.Goals as goal

pub write-requires : goal.write-requires
write-requires c =
    let P : Reply → Type 0 = λ r. IsWritableResponse (reply_message r) in
    subst P (sym c.in_ok-reply.ensures) (c.refusals_can_be_answered.ensures.commands c.args.refused)
