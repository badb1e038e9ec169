use Rattle.std.proofs.Common.{subst, ap}
use Rattle.std.proofs.lemmas.Result.{on_ok_weaker}
use Rattle.gw_core.specs.Machine.{Handle}
use Rattle.live_gateway.specs.Found.{IsTunnelled}
use Rattle.live_gateway.proofs.Making.{does-as}
use Rattle.live_gateway.proofs.Telling.{on_ok, stays_same, tells_same}
use Rattle.live_gateway.proofs.session.handle.Goals as goal

pub returns-in-Ok-clause-does : goal.returns-in-Ok-clause-does
returns-in-Ok-clause-does g c = on_ok_weaker c.happen.result (λ does. does-as _ _ _ _ _ _ _ _ (ap Handle c.in-Ok.ensures.ask) does)
    c.happen.ensures.does

pub returns-in-Ok-clause-tunnel : goal.returns-in-Ok-clause-tunnel
returns-in-Ok-clause-tunnel g c = on_ok c.happen.result (subst IsTunnelled c.in-Ok.ensures.ask c.in-Ok.ensures.tunnel)

pub returns-in-Err-clause-session : goal.returns-in-Err-clause-session
returns-in-Err-clause-session g c = stays_same _

pub returns-in-Err-clause-inside_tells : goal.returns-in-Err-clause-inside_tells
returns-in-Err-clause-inside_tells g c = tells_same _ _

pub returns-in-Err-clause-outside_tells : goal.returns-in-Err-clause-outside_tells
returns-in-Err-clause-outside_tells g c = tells_same _ _

pub returns-in-Err-clause-accept_tells : goal.returns-in-Err-clause-accept_tells
returns-in-Err-clause-accept_tells g c = tells_same _ _
