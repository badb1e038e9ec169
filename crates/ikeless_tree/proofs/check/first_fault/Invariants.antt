use Rattle.std.proofs.Common.{◌≡◌, [], take, drop}
use Rattle.ikeless_tree.specs.Check.{entries_fault}
use Rattle.ikeless_tree.proofs.check.first_fault.Given as goal

abbrev pub invariant-loop-i : goal.invariant-loop-i
invariant-loop-i l = entries_fault (take l.i l.list) (drop l.i l.list) ≡ entries_fault [] l.list
