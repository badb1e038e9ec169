use Rattle.hist_safety.proofs.Numbers.{one-sent}
use Rattle.hist_safety.proofs.laws.number_is_sent_once.Goals as goal

pub returns : goal.returns
returns c = one-sent
