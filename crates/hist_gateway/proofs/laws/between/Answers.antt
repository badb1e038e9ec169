use Rattle.hist_gateway.proofs.Quiet.{acts-quiet, next-quiet}
use Rattle.hist_gateway.proofs.laws.between.Goals as goal

pub returns-clause-acts : goal.returns-clause-acts
returns-clause-acts c = acts-quiet

pub returns-clause-keeps : goal.returns-clause-keeps
returns-clause-keeps c = next-quiet
