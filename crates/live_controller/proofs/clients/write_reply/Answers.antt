use Rattle.std.proofs.Common.{refl}
use Rattle.live_devices.proofs.Reading.{replies-makes}
use Rattle.live_controller.proofs.clients.write_reply.Goals as goal

pub returns-in-Ok-clause-wrote : goal.returns-in-Ok-clause-wrote
returns-in-Ok-clause-wrote g c = λ calm. replies-makes _ _ _ c.in-Ok.ensures.takes

pub returns-in-Err-clause-kept : goal.returns-in-Err-clause-kept
returns-in-Err-clause-kept g c = λ calm. absurd (calm (c.in-Err.ensures.cause.failed refl))

pub returns-in-Err-clause-wrote : goal.returns-in-Err-clause-wrote
returns-in-Err-clause-wrote g c = λ calm. absurd (calm (c.in-Err.ensures.cause.failed refl))
