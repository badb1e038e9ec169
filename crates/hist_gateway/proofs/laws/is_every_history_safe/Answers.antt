use Rattle.hist_gateway.proofs.Safety.{safe-history, safe-lawful}
use Rattle.hist_gateway.proofs.laws.is_every_history_safe.Goals as goal

pub returns-clause-history : goal.returns-clause-history
returns-clause-history c = safe-history c.changes_fit.ensures.before

pub returns-clause-lawful : goal.returns-clause-lawful
returns-clause-lawful c = safe-lawful
