use Rattle.std.proofs.Common.{sym, subst}
use Rattle.rc_http.specs.Written.{IsWritableResponse}
use Rattle.rc_resource.specs.Messages.{reply_message}
use Rattle.rc_resource.specs.Replies.{refusal}
use Rattle.live_gateway.proofs.session.unread.Goals as goal

pub returns-clause-written : goal.returns-clause-written
returns-clause-written c =
    subst (λ e. IsWritableResponse (reply_message (refusal e))) (sym c.message_fault.ensures)
    (c.replies_can_be_written.ensures.faults c.args.fault)
