use Rattle.rc_answer.proofs.AnswerLemmas.{one-of_many}
use Rattle.rc_answer.proofs.answer.one.Goals as goal

pub returns-in-len2-up : goal.returns-in-len2-up
returns-in-len2-up c = rw c.bad-in-len2-up.ensures (one-of_many c.args.items.now c.in-len2-up.len_at_least)
