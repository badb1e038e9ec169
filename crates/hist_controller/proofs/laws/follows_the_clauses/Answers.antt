use Rattle.hist_controller.proofs.Clauses.{may-block, past-after, past-history}
use Rattle.hist_controller.proofs.laws.follows_the_clauses.Goals as goal

pub returns-clause-block : goal.returns-clause-block
returns-clause-block c = may-block

pub returns-clause-more : goal.returns-clause-more
returns-clause-more c = past-after

pub returns-clause-history : goal.returns-clause-history
returns-clause-history c = past-history
