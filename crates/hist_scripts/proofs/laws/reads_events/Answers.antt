use Rattle.hist_scripts.proofs.EventRead.{event-read, lines-read}
use Rattle.hist_scripts.proofs.laws.reads_events.Goals as goal

pub returns-clause-one : goal.returns-clause-one
returns-clause-one c = event-read

pub returns-clause-all : goal.returns-clause-all
returns-clause-all c = lines-read
