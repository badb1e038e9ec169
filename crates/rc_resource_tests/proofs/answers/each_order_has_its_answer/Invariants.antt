use Rattle.rc_resource.specs.Lists.{IsTree}
use Rattle.rc_resource_tests.proofs.answers.each_order_has_its_answer.Given as goal

abbrev pub invariant-loop-row : goal.invariant-loop-row
invariant-loop-row g l = IsTree l.tree
