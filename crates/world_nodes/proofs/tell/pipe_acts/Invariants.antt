use Rattle.std.proofs.Common.{◌≡◌, take}
use Rattle.world_steps.specs.Nodes.{all_piped}
use Rattle.world_nodes.proofs.tell.pipe_acts.Given as goal

abbrev pub invariant-loop-act : goal.invariant-loop-act
invariant-loop-act l = l.pipe ≡ all_piped l.now (take l.act-index l.act-items) l.fn.pipe
