use Rattle.rc_http.specs.declared.message.Kind.TheVariants.{Request}
use Rattle.live_controller.proofs.Feeding.{fresh_waits}
use Rattle.live_controller.proofs.messages.Requests.begun.Goals as goal

pub invariant_of-result : goal.invariant_of-result
invariant_of-result c = fresh_waits Request c.requests.result c.requests.ensures
