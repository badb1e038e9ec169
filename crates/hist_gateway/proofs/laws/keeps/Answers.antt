use Rattle.hist_gateway.proofs.KeepsLemmas.{keeps}
use Rattle.hist_gateway.proofs.laws.keeps.Goals as goal

pub returns : goal.returns
returns c = keeps
