use Rattle.rc_request.specs.Paths.{resource_of}
use Rattle.rc_request.proofs.resource.resource_at.Goals as goal

pub returns-in-Some : goal.returns-in-Some
unfolding resource_of
returns-in-Some c = rw (← c.behind.ensures, c.in-Some.is) c.inside.ensures
