use Rattle.hist_controller.proofs.Accepts.{apart, long-keys, few-serials, few-keys}
use Rattle.hist_controller.proofs.laws.accepts_fresh_keys.Goals as goal

pub returns-clause-apart : goal.returns-clause-apart
returns-clause-apart c = apart

pub returns-clause-long : goal.returns-clause-long
returns-clause-long c = long-keys

pub returns-clause-few : goal.returns-clause-few
returns-clause-few c = λ p h l. (few-serials p h l, few-keys p h l)
