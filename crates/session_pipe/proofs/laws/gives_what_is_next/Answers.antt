use Rattle.session_pipe.proofs.Moves.{request_next, answer_next, notice_next}
use Rattle.session_pipe.proofs.laws.gives_what_is_next.Goals as goal

pub returns : goal.returns
returns c = record { request = request_next; answer = answer_next; notice = notice_next }
