use Rattle.hist_controller.proofs.Turns.{idle-block, not-idle}
use Rattle.hist_controller.proofs.Everything.{all-not-idle}
use Rattle.hist_controller.proofs.laws.is_never_idle.Goals as goal

pub returns-clause-block : goal.returns-clause-block
returns-clause-block c = idle-block

pub returns-clause-history : goal.returns-clause-history
returns-clause-history c = not-idle

pub returns-clause-ever : goal.returns-clause-ever
returns-clause-ever c = all-not-idle
