use Rattle.life_count.proofs.CallLemmas.{counts-back, event-back}
use Rattle.life_count.proofs.laws.looks_back.Goals as goal

pub returns-clause-counts : goal.returns-clause-counts
returns-clause-counts c = counts-back

pub returns-clause-event : goal.returns-clause-event
returns-clause-event c = event-back
