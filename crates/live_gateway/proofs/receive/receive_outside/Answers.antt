use Rattle.std.proofs.Common.{◌≡◌, List, ℕ, Some, None, take, ap, ◌∙◌, arith, length}
use Rattle.std.proofs.lemmas.Result.{on_ok_weaker}
use Rattle.live_gateway.proofs.Receipts.{receives-found, receives-makes}
use Rattle.live_gateway.proofs.Sessions.{outside-goes, outside-waits}
use Rattle.live_gateway.proofs.Telling.{read_stays, tells_failed, tells_on, tells_passed, tells_same}
use Rattle.live_gateway.proofs.receive.receive_outside.Goals as goal

pub returns-in-Err-clause-outside_tells : goal.returns-in-Err-clause-outside_tells
returns-in-Err-clause-outside_tells g c = tells_failed _ _ _ _ _ c.in-Err.ensures.cause c.in-Err.ensures.outcome

pub returns-in-Err-clause-inside_tells : goal.returns-in-Err-clause-inside_tells
returns-in-Err-clause-inside_tells g c = tells_same _ _

pub returns-in-Err-clause-accept_tells : goal.returns-in-Err-clause-accept_tells
returns-in-Err-clause-accept_tells g c = tells_same _ _

pub returns-in-Ok-None-clause-goes : goal.returns-in-Ok-None-clause-goes
returns-in-Ok-None-clause-goes g c = λ cfg start past st.
    let room : length c.recv.new.into ≡ 65575 = omega (arith, c.recv.auto.into, c.requires.room) in
    let gives = rw c.in-Ok-None.field-0-is at c.in-Ok-None.ensures.gives in (
      None,
      outside-waits cfg start _ (g.B.Wire.held c.recv.new.self) past _ _ st (receives-makes _ _ _ c.recv.new.into gives.1)
          (receives-found _ _ _ c.recv.new.into room gives.1),
    )

pub returns-in-Ok-None-clause-outside_tells : goal.returns-in-Ok-None-clause-outside_tells
returns-in-Ok-None-clause-outside_tells g c = tells_passed _ _ _ _ _ c.in-Ok-None.ensures.cause c.in-Ok-None.ensures.outcome

pub returns-in-Ok-None-clause-inside_tells : goal.returns-in-Ok-None-clause-inside_tells
returns-in-Ok-None-clause-inside_tells g c = tells_same _ _

pub returns-in-Ok-None-clause-accept_tells : goal.returns-in-Ok-None-clause-accept_tells
returns-in-Ok-None-clause-accept_tells g c = tells_same _ _

pub returns-in-Ok-Some-clause-goes : goal.returns-in-Ok-Some-clause-goes
returns-in-Ok-Some-clause-goes g c =
    let room : length c.recv.new.into ≡ 65575 = omega (arith, c.recv.auto.into, c.requires.room) in
    let gives = rw c.in-Ok-Some.field-0-is at c.in-Ok-Some.ensures.gives in
    let piece : List ℕ = c.split_at.result.0.now in
    let cut : piece ≡ take c.in-Ok-Some.n c.recv.new.into = cc in
    on_ok_weaker c.happen.result (λ does cfg start past st. (
      Some piece,
      outside-goes cfg start _ _ (g.B.Wire.held c.recv.new.self) past piece _ _ _ _ st (receives-makes _ _ _ c.recv.new.into gives.1)
          (λ w e. ap Some cut ∙ receives-found _ _ _ c.recv.new.into room gives.1 w e) does,
    )) c.happen.ensures.does

pub returns-in-Ok-Some-clause-read : goal.returns-in-Ok-Some-clause-read
returns-in-Ok-Some-clause-read g c = read_stays _ _ c.happen.ensures.session c.requires.read

pub returns-in-Ok-Some-clause-later : goal.returns-in-Ok-Some-clause-later
returns-in-Ok-Some-clause-later g c = on_ok_weaker c.happen.result (λ does. does.carries.wrote.later) c.happen.ensures.does

pub returns-in-Ok-Some-clause-outside_tells : goal.returns-in-Ok-Some-clause-outside_tells
returns-in-Ok-Some-clause-outside_tells g c =
    tells_on _ _ _ _ _ _ _ (tells_passed _ _ _ _ _ c.in-Ok-Some.ensures.cause c.in-Ok-Some.ensures.outcome) c.happen.ensures.outside_tells
