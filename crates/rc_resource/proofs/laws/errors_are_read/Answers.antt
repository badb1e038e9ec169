use Rattle.rc_resource.proofs.AnswerLaws.{error_again}
use Rattle.rc_resource.proofs.laws.errors_are_read.Goals as goal

pub returns : goal.returns
returns c = λ e utf8. error_again e.app e.path e.tag utf8
