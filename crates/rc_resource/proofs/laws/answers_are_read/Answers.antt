use Rattle.rc_resource.proofs.AnswerLaws.{reply_again}
use Rattle.rc_resource.proofs.laws.answers_are_read.Goals as goal

pub returns : goal.returns
returns c = reply_again
