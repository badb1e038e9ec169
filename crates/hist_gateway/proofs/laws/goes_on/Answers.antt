use Rattle.std.proofs.Common.{refl}
use Rattle.hist_gateway.proofs.KeptSteps.{after-append, history-push}
use Rattle.hist_gateway.proofs.laws.goes_on.Goals as goal

pub returns-clause-block : goal.returns-clause-block
returns-clause-block c = history-push

pub returns-clause-past : goal.returns-clause-past
returns-clause-past c = after-append

pub returns-clause-begins : goal.returns-clause-begins
returns-clause-begins c = λ g. refl
