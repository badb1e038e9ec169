use Rattle.std.proofs.Common.{◌≡◌, ℕ, ◌++◌, ◌∷◌, [], ap, ◌∙◌, arith}
use Rattle.std.proofs.Math.ListN.{set}
use Rattle.ctl_core.proofs.Places.{queued-set, queued-none}
use Rattle.ctl_core.proofs.draft.queue_up.Goals as goal

pub returns-in_ok-push_back : goal.returns-in_ok-push_back
returns-in_ok-push_back c =
    ap (λ z. set c.args.queues.now.items c.args.gateway z) c.in_ok-push_back.ensures.items
    ∙ queued-set c.args.gateway c.args.waiting c.args.queues.now.items c.index_mut-queue.result.now (omega arith)
    c.index_mut-queue.ensures.value

pub returns-else-gateway-len : goal.returns-else-gateway-len
returns-else-gateway-len c = queued-none c.args.gateway c.args.waiting c.args.queues.now.items (omega arith)
