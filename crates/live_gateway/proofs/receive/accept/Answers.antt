use Rattle.std.proofs.Common.{ap, sym, subst, true, Some}
use Rattle.std.proofs.lemmas.Result.{on_ok_weaker}
use Rattle.live_devices.proofs.Reading.{accepts-found, accepts-makes}
use Rattle.live_gateway.proofs.Sessions.{accept-goes}
use Rattle.live_gateway.proofs.Standing.{fresh-read}
use Rattle.live_messages.specs.Holds.{IsReading}
use Rattle.live_gateway.proofs.Telling.{read_stays, tells_failed, tells_same}
use Rattle.live_gateway.proofs.receive.accept.Goals as goal

pub returns-in-Err-clause-inside_tells : goal.returns-in-Err-clause-inside_tells
returns-in-Err-clause-inside_tells g c = tells_same _ _

pub returns-in-Err-clause-outside_tells : goal.returns-in-Err-clause-outside_tells
returns-in-Err-clause-outside_tells g c = tells_same _ _

pub returns-in-Err-clause-accept_tells : goal.returns-in-Err-clause-accept_tells
returns-in-Err-clause-accept_tells g c = tells_failed _ _ _ _ _ c.in-Err.ensures.cause c.in-Err.ensures.outcome

pub returns-in-Ok-true-clause-goes : goal.returns-in-Ok-true-clause-goes
returns-in-Ok-true-clause-goes g c =
    let gives = rw c.in-Ok-true.field-0-test at c.in-Ok-true.ensures.gives in
    on_ok_weaker c.happen.result (λ does cfg start past st. (
      true,
      accept-goes cfg start _ _ (g.D.Dock.held c.accept.new.self) (g.D.Dock.faults c.accept.new.self) past _ _ _ (Some c.requests.result) _
          c.in-Ok-true.ensures.kept.0 (ap Some c.requests.ensures) st (accepts-makes _ _ true gives) (accepts-found _ _ true gives) does,
    )) c.happen.ensures.does

pub returns-in-Ok-true-clause-read : goal.returns-in-Ok-true-clause-read
returns-in-Ok-true-clause-read g c = read_stays _ _ c.happen.ensures.session (subst IsReading (sym c.requests.ensures) fresh-read)
