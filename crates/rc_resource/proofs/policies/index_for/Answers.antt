use Rattle.rc_resource.proofs.IndexLemmas.{index_before, index_after}
use Rattle.rc_resource.proofs.policies.index_for.Goals as goal

pub returns-in-Before : goal.returns-in-Before
returns-in-Before c = rw c.in-Before.is (index_before c.in-Before.name c.args.list.now c.find_policy.result c.find_policy.ensures)

pub returns-in-Some : goal.returns-in-Some
returns-in-Some c = rw c.in-After.is (index_after c.in-After.name c.args.list.now c.in-Some.at c.in-Some.ensures)
