use Rattle.rc_resource.proofs.RuleLemmas.{empty_keeps}
use Rattle.rc_resource_tests.proofs.answers.empty.Goals as goal

pub returns : goal.returns
returns c = empty_keeps _ c.new.ensures c.new-2.ensures
