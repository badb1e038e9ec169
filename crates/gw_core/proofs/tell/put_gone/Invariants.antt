use Rattle.std.proofs.Common.{◌≡◌, ◌++◌, map}
use Rattle.gw_core.specs.Machine.{act_of_gone}
use Rattle.gw_core.proofs.tell.put_gone.Given as goal

abbrev pub invariant-loop-name : goal.invariant-loop-name
invariant-loop-name l = l.items.items ≡ l.fn.items.items ++ map act_of_gone l.yielded
