use Rattle.hist_controller.proofs.Blocks.{acts_of-state_of, step-keeps}
use Rattle.hist_controller.proofs.laws.steps.Goals as goal

pub returns-clause-acts : goal.returns-clause-acts
returns-clause-acts c = acts_of-state_of

pub returns-clause-keeps : goal.returns-clause-keeps
returns-clause-keeps c = step-keeps
