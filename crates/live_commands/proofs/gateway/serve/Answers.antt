use Rattle.std.proofs.Common.{sym, ◌∙◌}
use Rattle.live_commands.proofs.GatewayEnds.{either-of, ends-by, spent}
use Rattle.live_commands.proofs.gateway.serve.Goals as goal

pub returns-clause-tells : goal.returns-clause-tells
returns-clause-tells g c = rw c.status.ensures (ends-by _ c.serve_gateway.result
    (c.serve_gateway.ensures.inside_tells, c.serve_gateway.ensures.outside_tells, c.serve_gateway.ensures.accept_tells))

pub returns-clause-serves : goal.returns-clause-serves
returns-clause-serves g c = λ is. c.serve_gateway.ensures.serves (spent c.serve_gateway.result (sym c.status.ensures ∙ is))

pub returns-clause-complete : goal.returns-clause-complete
returns-clause-complete g c = λ inside outside accepts.
    rw c.status.ensures (either-of c.serve_gateway.result (c.serve_gateway.ensures.complete inside outside accepts))
