use Rattle.std.proofs.Common.{sym, ◌∙◌}
use Rattle.live_commands.proofs.ControllerEnds.{ends-by, spent}
use Rattle.live_commands.proofs.controller.serve.Goals as goal

pub returns-clause-tells : goal.returns-clause-tells
returns-clause-tells g c = rw c.status.ensures (ends-by _ c.serve_controller.result c.serve_controller.ensures.tells)

pub returns-clause-serves : goal.returns-clause-serves
returns-clause-serves g c = λ is. c.serve_controller.ensures.serves (spent c.serve_controller.result (sym c.status.ensures ∙ is))
