use Rattle.rc_request.specs.Queries.{policy_at}
use Rattle.rc_request.proofs.query.policy.Goals as goal

pub returns-in-Some : goal.returns-in-Some
unfolding policy_at
returns-in-Some c = rw (← c.behind.ensures, c.in-Some.is) c.policy_in.ensures
