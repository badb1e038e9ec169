use Rattle.std.proofs.Common.{◌∙◌}
use Rattle.live_controller.proofs.Replying.{reply-as}
use Rattle.live_controller.proofs.clients.answer.Goals as goal

pub returns-clause-wrote : goal.returns-clause-wrote
returns-clause-wrote g c = λ calm. reply-as _ _ _ _ (c.as_slice.ensures ∙ c.in_ok-reply.ensures.reply) (c.write_reply.ensures.wrote calm)
