use Rattle.ctl_law.proofs.Spis.{spis-fit}
use Rattle.ctl_law.proofs.Steps.{serials-fit, unused}
use Rattle.ctl_law.proofs.laws.keeps_within_bounds.Goals as goal

pub returns-clause-serials : goal.returns-clause-serials
returns-clause-serials c = serials-fit

pub returns-clause-unused : goal.returns-clause-unused
returns-clause-unused c = unused

pub returns-clause-spis : goal.returns-clause-spis
returns-clause-spis c = spis-fit
