use Rattle.std.proofs.lemmas.Result.{on_ok_weaker}
use Rattle.live_gateway.proofs.serve.turn.Goals as goal

pub returns-in-Ok-receive-clause-goes : goal.returns-in-Ok-receive-clause-goes
returns-in-Ok-receive-clause-goes g c =
    on_ok_weaker c.attend.result (λ goes cfg start past st.
    let first = c.in-Ok.ensures.goes cfg start past st in
    let second = c.in-Ok-receive.ensures.goes cfg start _ first in
    let third = goes cfg start _ second.2 in (
      record { now = c.now-now.result; inside = second.0; outside = second.1; is_taken = third.0; came = third.1 },
      third.2,
      third.3,
      third.4,
      c.now-now.ensures.tells,
    )) c.attend.ensures.goes
