use Rattle.std.proofs.Common.{◌≡◌, ◌++◌, take}
use Rattle.world_steps.specs.Nodes.{all_sent}
use Rattle.world_nodes.proofs.tell.log_acts.Given as goal

abbrev pub invariant-loop-act : goal.invariant-loop-act
invariant-loop-act l = l.sent ≡ l.fn.sent ++ all_sent (take l.act-index l.act-items)
