use Rattle.session_messages.proofs.Octets.{reply_whole}
use Rattle.session_messages.proofs.response.read_reply.Goals as goal

pub returns-clause-reply : goal.returns-clause-reply
returns-clause-reply c = λ r a is writable says.
    reply_whole c.responses_are_read.ensures.looks c.responses_are_read.ensures.same c.args.o.now c.args.octets.now c.answer.result
    c.answer.ensures r a is writable says
