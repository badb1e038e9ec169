use Rattle.rc_request.proofs.AskLemmas.{given_is_ask}
use Rattle.rc_request.proofs.request.read_request.Goals as goal

pub returns-in-Some-clause-rules : goal.returns-in-Some-clause-rules
returns-in-Some-clause-rules c = given_is_ask c.read_on.result c.in-Some.r c.args.m.now c.read_on.ensures
