use Rattle.std.proofs.Common.{refl}
use Rattle.live_devices.proofs.Reading.{replies-makes}
use Rattle.live_gateway.proofs.Telling.{stays_same}
use Rattle.live_gateway.proofs.write.put_reply.Goals as goal

pub returns-in-Ok-clause-wrote : goal.returns-in-Ok-clause-wrote
returns-in-Ok-clause-wrote g c = λ calm. replies-makes (g.D.Dock.held c.args.dock.now) (g.D.Dock.held c.write.new.self) c.args.octets.now
    c.in-Ok.ensures.takes

pub returns-in-Ok-clause-session : goal.returns-in-Ok-clause-session
returns-in-Ok-clause-session g c = stays_same c.args.session.now

pub returns-in-Err-clause-kept : goal.returns-in-Err-clause-kept
returns-in-Err-clause-kept g c = λ calm. absurd (calm (c.in-Err.ensures.cause.failed refl))

pub returns-in-Err-clause-wrote : goal.returns-in-Err-clause-wrote
returns-in-Err-clause-wrote g c = λ calm. absurd (calm (c.in-Err.ensures.cause.failed refl))
