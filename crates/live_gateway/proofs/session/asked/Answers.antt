use Rattle.live_gateway.proofs.session.asked.Goals as goal

pub returns-in-Err-Refused-clause-refusal : goal.returns-in-Err-Refused-clause-refusal
returns-in-Err-Refused-clause-refusal c =
    c.replies_can_be_written.ensures.refusals c.args.message.now c.in-Err-Refused.refused
    (rw c.in-Err-Refused.field-0-is at c.in-Err-Refused.ensures.request)
