use Rattle.hist_controller.proofs.Blocks.{run-history}
use Rattle.hist_controller.proofs.Clauses.{after-append}
use Rattle.hist_controller.proofs.laws.runs.Goals as goal

pub returns-clause-history : goal.returns-clause-history
returns-clause-history c = run-history

pub returns-clause-past : goal.returns-clause-past
returns-clause-past c = after-append
