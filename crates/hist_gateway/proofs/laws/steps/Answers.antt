use Rattle.hist_gateway.proofs.MachineBlocks.{acts-are}
use Rattle.hist_gateway.proofs.KeptSteps.{next-is, run-is}
use Rattle.hist_gateway.proofs.laws.steps.Goals as goal

pub returns-clause-acts : goal.returns-clause-acts
returns-clause-acts c = acts-are c.verdicts.ensures.in_order

pub returns-clause-keeps : goal.returns-clause-keeps
returns-clause-keeps c = next-is c.verdicts.ensures.in_order c.changes_fit.ensures.before

pub returns-clause-run : goal.returns-clause-run
returns-clause-run c = run-is c.verdicts.ensures.in_order c.changes_fit.ensures.before
