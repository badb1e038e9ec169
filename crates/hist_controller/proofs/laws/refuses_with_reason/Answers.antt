use Rattle.hist_controller.proofs.Reasons.{refuses}
use Rattle.hist_controller.proofs.laws.refuses_with_reason.Goals as goal

pub returns : goal.returns
returns c = refuses
