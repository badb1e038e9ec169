use Rattle.ctl_law.proofs.Refusals.{refused-still}
use Rattle.ctl_law.proofs.Steps.{refuses-first}
use Rattle.ctl_law.proofs.laws.refuses_first.Goals as goal

pub returns-clause-first : goal.returns-clause-first
returns-clause-first c = refuses-first

pub returns-clause-still : goal.returns-clause-still
returns-clause-still c = refused-still
