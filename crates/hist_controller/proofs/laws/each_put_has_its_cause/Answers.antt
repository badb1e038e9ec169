use Rattle.hist_controller.proofs.OwnCauses.{between-puts, before-first-put}
use Rattle.hist_controller.proofs.laws.each_put_has_its_cause.Goals as goal

pub returns-clause-between : goal.returns-clause-between
returns-clause-between c = between-puts

pub returns-clause-first : goal.returns-clause-first
returns-clause-first c = before-first-put
