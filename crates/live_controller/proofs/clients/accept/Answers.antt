use Rattle.std.proofs.Common.{true, false}
use Rattle.live_devices.proofs.Reading.{accepts-found, accepts-makes}
use Rattle.live_controller.proofs.Replying.{tells-failed, tells-passed}
use Rattle.live_controller.proofs.Requesting.{accepted-found, client-accepted, client-alone}
use Rattle.live_controller.proofs.clients.accept.Goals as goal

pub returns-in-Err-clause-tells : goal.returns-in-Err-clause-tells
returns-in-Err-clause-tells g c = tells-failed _ _ _ _ _ c.in-Err.ensures.cause c.in-Err.ensures.outcome

pub returns-in-Ok-true-clause-tells : goal.returns-in-Ok-true-clause-tells
returns-in-Ok-true-clause-tells g c = tells-passed _ _ _ _ _ c.in-Ok-true.ensures.cause c.in-Ok-true.ensures.outcome

pub returns-in-Ok-true-clause-goes : goal.returns-in-Ok-true-clause-goes
returns-in-Ok-true-clause-goes g c = λ ps start past st.
    let gives = rw c.in-Ok-true.field-0-test at c.in-Ok-true.ensures.gives in (
      true,
      accepted-found ps start past _ true c.args.session.now (accepts-found _ _ true gives) st,
      client-accepted ps start past _ _ c.args.session.now c.begun.result c.begun.ensures.there c.begun.ensures.none
          (accepts-makes _ _ true gives) st,
    )

pub returns-in-Ok-false-clause-tells : goal.returns-in-Ok-false-clause-tells
returns-in-Ok-false-clause-tells g c = tells-passed _ _ _ _ _ c.in-Ok-false.ensures.cause c.in-Ok-false.ensures.outcome

pub returns-in-Ok-false-clause-goes : goal.returns-in-Ok-false-clause-goes
returns-in-Ok-false-clause-goes g c = λ ps start past st.
    let gives = rw c.in-Ok-false.field-0-test at c.in-Ok-false.ensures.gives in (
      false,
      accepted-found ps start past _ false c.args.session.now (accepts-found _ _ false gives) st,
      client-alone ps start past _ _ c.args.session.now (accepts-makes _ _ false gives) st,
    )
