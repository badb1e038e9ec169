use Rattle.live_gateway.proofs.Making.{sends-makes}
use Rattle.live_gateway.proofs.Telling.{tells_failed, tells_passed}
use Rattle.live_gateway.proofs.write.send.Goals as goal

pub returns-in-Ok-clause-sent : goal.returns-in-Ok-clause-sent
returns-in-Ok-clause-sent g c = sends-makes (g.W.Wire.held c.args.wire.now) (g.W.Wire.held c.send.new.self) c.args.octets.now
    c.in-Ok.ensures.takes

pub returns-in-Ok-clause-tells : goal.returns-in-Ok-clause-tells
returns-in-Ok-clause-tells g c = tells_passed _ _ _ _ _ c.in-Ok.ensures.cause c.in-Ok.ensures.outcome

pub returns-in-Err-clause-tells : goal.returns-in-Err-clause-tells
returns-in-Err-clause-tells g c = tells_failed _ _ _ _ _ c.in-Err.ensures.cause c.in-Err.ensures.outcome
