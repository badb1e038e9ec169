use Rattle.hist_safety.proofs.Safe.{last-safe, safe}
use Rattle.hist_safety.proofs.laws.is_every_lawful_history_safe.Goals as goal

pub returns-clause-parts : goal.returns-clause-parts
returns-clause-parts c = safe

pub returns-clause-end : goal.returns-clause-end
returns-clause-end c = last-safe
