use Rattle.std.proofs.Common.{◌≡◌, ℕ, arith}
use Rattle.ctl_core.proofs.Places.{ready-set, ready-none}
use Rattle.ctl_core.proofs.events.set_ready.Goals as goal

pub returns-then-gateway-len : goal.returns-then-gateway-len
returns-then-gateway-len c = ready-set c.args.gateway c.args.is c.args.ready.now.items (omega arith)

pub returns-else-gateway-len : goal.returns-else-gateway-len
returns-else-gateway-len c = ready-none c.args.gateway c.args.is c.args.ready.now.items (omega arith)
