use Rattle.std.proofs.Common.{◌≡◌, ◌++◌, map}
use Rattle.gw_core.specs.Machine.{act_of_notice}
use Rattle.gw_core.proofs.tell.put_notices.Given as goal

abbrev pub invariant-loop-notice : goal.invariant-loop-notice
invariant-loop-notice l = l.items.items ≡ l.fn.items.items ++ map act_of_notice l.yielded
