use Rattle.store_law.proofs.Apart.{names-apart}
use Rattle.store_law.proofs.Calls.{is-given}
use Rattle.store_law.proofs.laws.is_what_calls_give.Goals as goal

pub returns-clause-halves : goal.returns-clause-halves
returns-clause-halves c = is-given

pub returns-clause-names_apart : goal.returns-clause-names_apart
returns-clause-names_apart c = names-apart
