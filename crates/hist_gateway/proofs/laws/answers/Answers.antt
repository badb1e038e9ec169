use Rattle.std.proofs.Common.{refl}
use Rattle.hist_gateway.proofs.OneAnswer.{one-let, one-arrive, none-clock, none-handle}
use Rattle.hist_gateway.proofs.laws.answers.Goals as goal

pub returns-clause-packet : goal.returns-clause-packet
returns-clause-packet c = one-let

pub returns-clause-datagram : goal.returns-clause-datagram
returns-clause-datagram c = one-arrive

pub returns-clause-clock : goal.returns-clause-clock
returns-clause-clock c = none-clock

pub returns-clause-request : goal.returns-clause-request
returns-clause-request c = none-handle

pub returns-clause-session : goal.returns-clause-session
returns-clause-session c = λ g h. refl
