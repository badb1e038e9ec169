use Rattle.std.proofs.Common.{[]}
use Rattle.ctl_core.specs.Core.{told_nothing}
use Rattle.ctl_law.proofs.Steps.{begins, run-follows}
use Rattle.ctl_law.proofs.laws.runs_follow.Goals as goal

pub returns-clause-first : goal.returns-clause-first
returns-clause-first c = λ ps es m. (run-follows ps [] (told_nothing ps) es tt tt (begins ps) m).acts

pub returns-clause-acts : goal.returns-clause-acts
returns-clause-acts c = λ ps h core es l y s m. (run-follows ps h core es l y s m).acts

pub returns-clause-stands : goal.returns-clause-stands
returns-clause-stands c = λ ps h core es l y s m. (run-follows ps h core es l y s m).stands
