use Rattle.rc_http.specs.declared.message.Kind.TheVariants.{Response}
use Rattle.live_controller.proofs.Feeding.{fresh_waits}
use Rattle.live_controller.proofs.messages.Responses.begun.Goals as goal

pub invariant_of-result : goal.invariant_of-result
invariant_of-result c = fresh_waits Response c.responses.result c.responses.ensures
