use Rattle.hist_gateway.proofs.Statuses.{request-statuses}
use Rattle.hist_gateway.proofs.laws.answers_with_statuses.Goals as goal

pub returns : goal.returns
returns c = request-statuses
