use Rattle.std.proofs.lemmas.Result.{on_ok_weaker}
use Rattle.live_controller.proofs.Doing.{calm-back, calm-front, later-on}
use Rattle.live_controller.proofs.Replying.{both-ok}
use Rattle.live_controller.proofs.Turning.{rests-on}
use Rattle.live_controller.proofs.serve.take_turn.Goals as goal

pub returns-clause-later : goal.returns-clause-later
returns-clause-later g c =
    on_ok_weaker c.read_open.result (λ later. later-on _ _ _ (later-on _ _ _ c.in_ok-read_session.ensures.later
    c.in_ok-dial_closed.ensures.later) later)
    c.read_open.ensures.later

pub returns-clause-goes : goal.returns-clause-goes
returns-clause-goes g c =
    let first = c.in_ok-read_session.ensures in
    let second = c.in_ok-dial_closed.ensures in
    let mid = later-on _ _ _ first.later second.later in
    on_ok_weaker c.read_open.result (λ both calm quiet ps start past st.
    let early = calm-front _ _ _ both.0 calm in
    rests-on ps start past _ _ _ _ _ _ _ _ (first.goes (calm-front _ _ _ second.later early) quiet ps start past st)
    (second.goes (calm-back _ _ _ first.later early) ps start) (both.1 (calm-back _ _ _ mid calm) ps start))
    (both-ok _ _ c.read_open.result c.read_open.ensures.later c.read_open.ensures.goes)
