use Rattle.std.proofs.Common.{ap, Err}
use Rattle.std.proofs.lemmas.Result.{on_ok_weaker}
use Rattle.gw_core.specs.Machine.{Handle}
use Rattle.live_gateway.proofs.Making.{does-as}
use Rattle.live_gateway.proofs.session.refuse.Goals as goal

pub returns-clause-does : goal.returns-clause-does
returns-clause-does g c =
    on_ok_weaker c.happen.result (λ does. does-as _ _ _ _ _ _ _ _ (ap (λ e. Handle (Err e)) c.unread-refused.ensures.refusal) does)
    c.happen.ensures.does
