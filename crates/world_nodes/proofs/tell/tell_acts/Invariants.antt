use Rattle.std.proofs.Common.{◌≡◌, ◌++◌, map}
use Rattle.gw_history.specs.Told as law
use Rattle.world_nodes.specs.Numbered.{naming_by}
use Rattle.world_nodes.proofs.tell.tell_acts.Given as goal

abbrev pub invariant-loop-act : goal.invariant-loop-act
invariant-loop-act l = l.acts ≡ l.fn.acts ++ map (law.told (naming_by l.name l.numbers)) l.yielded
