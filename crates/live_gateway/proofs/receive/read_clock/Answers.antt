use Rattle.std.proofs.lemmas.Result.{on_ok_weaker}
use Rattle.live_gateway.proofs.Sessions.{seconds-goes}
use Rattle.live_gateway.proofs.Telling.{read_stays}
use Rattle.live_gateway.proofs.receive.read_clock.Goals as goal

pub returns-clause-goes : goal.returns-clause-goes
returns-clause-goes g c = on_ok_weaker c.happen.result (λ does cfg start past st. seconds-goes _ _ _ _ _ _ _ _ _ _ st does)
    c.happen.ensures.does

pub returns-clause-read : goal.returns-clause-read
returns-clause-read g c = read_stays _ _ c.happen.ensures.session c.requires.read

pub returns-clause-later : goal.returns-clause-later
returns-clause-later g c = on_ok_weaker c.happen.result (λ does. does.carries.wrote.later) c.happen.ensures.does
