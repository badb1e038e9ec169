use Rattle.std.proofs.Common.{refl}
use Rattle.live_controller.proofs.Replying.{at-most-as, quiet-back, tells-on, tells-still}
use Rattle.live_controller.proofs.Turning.{turn-on}
use Rattle.live_controller.proofs.serve.turn.Goals as goal

pub returns-in-Ok-take_turn-clause-goes : goal.returns-in-Ok-take_turn-clause-goes
returns-in-Ok-take_turn-clause-goes g c = λ calm quiet ps start past st.
    let first = c.in-Ok.ensures in
    let rest = c.in-Ok-take_turn.ensures in
    turn-on ps start past _ _ _ _ _ _ _ st.peers (first.goes ps start past st.client)
    (rest.goes calm (quiet-back _ _ _ (at-most-as _ _ first.faults) quiet) ps start)

pub returns-in-Ok-take_turn-clause-tells : goal.returns-in-Ok-take_turn-clause-tells
returns-in-Ok-take_turn-clause-tells g c =
    tells-on _ _ _ _ _ _ _ c.in-Ok.ensures.tells (tells-still _ _ _ _ _ refl c.in-Ok-take_turn.ensures.accepts.0
    c.in-Ok-take_turn.ensures.accepts.1)
