use Rattle.live_gateway.proofs.Telling.{ended_calm, tells_same}
use Rattle.live_gateway.proofs.serve.serve_gateway.Goals as goal

pub returns-in-Ok-clause-complete : goal.returns-in-Ok-clause-complete
returns-in-Ok-clause-complete g c = λ inside outside accepts.
    ended_calm c.serve.result (λ e. inside (c.serve.ensures.inside_tells.risen e)) (λ e. outside (c.serve.ensures.outside_tells.risen e))
    (λ e. accepts (c.serve.ensures.accept_tells.risen e))

pub returns-in-Err-clause-inside_tells : goal.returns-in-Err-clause-inside_tells
returns-in-Err-clause-inside_tells g c = tells_same _ _

pub returns-in-Err-clause-outside_tells : goal.returns-in-Err-clause-outside_tells
returns-in-Err-clause-outside_tells g c = tells_same _ _

pub returns-in-Err-clause-accept_tells : goal.returns-in-Err-clause-accept_tells
returns-in-Err-clause-accept_tells g c = tells_same _ _
