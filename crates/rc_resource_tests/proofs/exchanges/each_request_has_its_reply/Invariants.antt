use Rattle.rc_resource.specs.Lists.{IsTree}
use Rattle.rc_resource_tests.proofs.exchanges.each_request_has_its_reply.Given as goal

abbrev pub invariant-loop-row : goal.invariant-loop-row
invariant-loop-row g l = IsTree l.tree
