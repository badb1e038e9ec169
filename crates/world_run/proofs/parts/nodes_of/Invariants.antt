use Rattle.std.proofs.Common.{◌≡◌, map, take}
use Rattle.world_steps.specs.Nodes.{begun}
use Rattle.world_run.proofs.parts.nodes_of.Given as goal

abbrev pub invariant-loop-peer : goal.invariant-loop-peer
invariant-loop-peer l = l.nodes.items ≡ map (begun l.seq_last) (take l.peer-index l.peer-items)
