use Rattle.session_messages.proofs.Octets.{order_whole}
use Rattle.session_messages.proofs.request.read_ask.Goals as goal

pub returns-clause-order : goal.returns-clause-order
returns-clause-order c = λ host o is sent asks.
    order_whole c.requests_are_read.ensures.looks c.requests_are_read.ensures.same c.args.octets.now c.ask.result c.ask.ensures.ask host
    o is sent asks
