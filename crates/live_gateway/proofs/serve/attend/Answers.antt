use Rattle.std.proofs.lemmas.Result.{on_ok_weaker}
use Rattle.live_gateway.proofs.Making.{later-on}
use Rattle.live_gateway.proofs.Telling.{tells_on}
use Rattle.live_gateway.proofs.serve.attend.Goals as goal

pub returns-in-Ok-clause-goes : goal.returns-in-Ok-clause-goes
returns-in-Ok-clause-goes g c =
    on_ok_weaker c.read_session.result (λ goes cfg start past st.
    let first = c.in-Ok.ensures.goes cfg start past st in
    let second = goes cfg start _ first.1 in (first.0, second.0, second.1, second.2, second.3)) c.read_session.ensures.goes

pub returns-in-Ok-clause-later : goal.returns-in-Ok-clause-later
returns-in-Ok-clause-later g c = on_ok_weaker c.read_session.result (λ later. later-on _ _ _ c.in-Ok.ensures.later later)
    c.read_session.ensures.later

pub returns-in-Ok-clause-inside_tells : goal.returns-in-Ok-clause-inside_tells
returns-in-Ok-clause-inside_tells g c = tells_on _ _ _ _ _ _ _ c.in-Ok.ensures.inside_tells c.read_session.ensures.inside_tells

pub returns-in-Ok-clause-outside_tells : goal.returns-in-Ok-clause-outside_tells
returns-in-Ok-clause-outside_tells g c = tells_on _ _ _ _ _ _ _ c.in-Ok.ensures.outside_tells c.read_session.ensures.outside_tells

pub returns-in-Ok-clause-accept_tells : goal.returns-in-Ok-clause-accept_tells
returns-in-Ok-clause-accept_tells g c = tells_on _ _ _ _ _ _ _ c.in-Ok.ensures.accept_tells c.read_session.ensures.accept_tells
