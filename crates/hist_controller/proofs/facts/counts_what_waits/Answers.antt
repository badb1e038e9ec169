use Rattle.hist_controller.proofs.KeysInTurn.{open-queue, first-reading}
use Rattle.hist_controller.proofs.facts.counts_what_waits.Goals as goal

pub returns-clause-waiting : goal.returns-clause-waiting
returns-clause-waiting c = open-queue

pub returns-clause-first : goal.returns-clause-first
returns-clause-first c = first-reading
