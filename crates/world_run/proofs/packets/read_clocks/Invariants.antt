use Rattle.std.proofs.Common.{◌≡◌, ◌++◌, length, map, take, drop}
use Rattle.std.specs.List.{flat_map}
use Rattle.gw_core.specs.Machine.{Clock}
use Rattle.world_steps.specs.Nodes.{after_event, all_sent, outcome}
use Rattle.world_steps.specs.Steps.{clock_acts}
use Rattle.world_run.proofs.packets.read_clocks.Given as goal

abbrev pub invariant-loop-i : goal.invariant-loop-i
invariant-loop-i l = record {
  nodes : l.nodes.items ≡ map (after_event (Clock l.now)) (take l.i l.fn.nodes.items) ++ drop l.i l.fn.nodes.items;
  end : l.i-end ≡ length l.fn.nodes.items;
  sent : l.sent ≡ l.fn.sent ++ flat_map (λ n. all_sent (outcome n (Clock l.now)).acts) (take l.i l.fn.nodes.items);
  acts : l.acts ≡ l.fn.acts ++ clock_acts l.now (take l.i l.fn.nodes.items);
}
