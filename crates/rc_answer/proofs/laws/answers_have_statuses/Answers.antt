use Rattle.rc_answer.proofs.StatusLemmas.{answer_has}
use Rattle.rc_answer.proofs.laws.answers_have_statuses.Goals as goal

pub returns : goal.returns
returns c = answer_has
