use Rattle.hist_controller.proofs.OwnCauses.{wanted-stands, stands-wanted, over-ended, ended-over}
use Rattle.hist_controller.proofs.Waits.{shut-queue}
use Rattle.hist_controller.proofs.WaitsFor.{queue-numbered, left-stood, stood-left}
use Rattle.hist_controller.proofs.Readings.{answers-number}
use Rattle.hist_controller.proofs.Everything.{progress-all, lacks-all}
use Rattle.hist_controller.proofs.Ends.{ended-by, by-ended, newest-put, put-newest, owed-stands, stands-owed}
use Rattle.hist_controller.proofs.laws.reads_plainly.Goals as goal

pub returns-clause-number : goal.returns-clause-number
returns-clause-number c = answers-number

pub returns-clause-progress : goal.returns-clause-progress
returns-clause-progress c = progress-all

pub returns-clause-reading : goal.returns-clause-reading
returns-clause-reading c = lacks-all

pub returns-clause-waiting : goal.returns-clause-waiting
returns-clause-waiting c = queue-numbered

pub returns-clause-shut : goal.returns-clause-shut
returns-clause-shut c = shut-queue

pub returns-clause-left : goal.returns-clause-left
returns-clause-left c = left-stood

pub returns-clause-stays_left : goal.returns-clause-stays_left
returns-clause-stays_left c = stood-left

pub returns-clause-wanted : goal.returns-clause-wanted
returns-clause-wanted c = wanted-stands

pub returns-clause-stands : goal.returns-clause-stands
returns-clause-stands c = stands-wanted

pub returns-clause-over : goal.returns-clause-over
returns-clause-over c = over-ended

pub returns-clause-ended : goal.returns-clause-ended
returns-clause-ended c = ended-over

pub returns-clause-owed : goal.returns-clause-owed
returns-clause-owed c = owed-stands

pub returns-clause-owes : goal.returns-clause-owes
returns-clause-owes c = stands-owed

pub returns-clause-ended_by : goal.returns-clause-ended_by
returns-clause-ended_by c = ended-by

pub returns-clause-ends : goal.returns-clause-ends
returns-clause-ends c = by-ended

pub returns-clause-newest : goal.returns-clause-newest
returns-clause-newest c = newest-put

pub returns-clause-last : goal.returns-clause-last
returns-clause-last c = put-newest
