use Rattle.hist_controller.proofs.WaitsFor.{owed-waits, progress-waits, ended-waits}
use Rattle.hist_controller.proofs.laws.names_what_is_waited_for.Goals as goal

pub returns-clause-owed : goal.returns-clause-owed
returns-clause-owed c = owed-waits

pub returns-clause-progress : goal.returns-clause-progress
returns-clause-progress c = progress-waits

pub returns-clause-ended : goal.returns-clause-ended
returns-clause-ended c = ended-waits
