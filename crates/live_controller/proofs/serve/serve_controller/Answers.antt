use Rattle.std.proofs.Common.{refl}
use Rattle.live_controller.proofs.Replying.{tells-none}
use Rattle.live_controller.proofs.Turning.{ended_calm, served-as, serves-first}
use Rattle.live_controller.proofs.serve.serve_controller.Goals as goal

pub serve_turns-requires-clause-serves : goal.serve_turns-requires-clause-serves
serve_turns-requires-clause-serves g c =
    serves-first c.in-Ok.desk c.args.peers _ _ c.in-Ok.ensures.desk c.in-Ok.ensures.peers c.requires.known c.requires.down
    c.in-Ok.ensures.down

pub returns-in-Ok-clause-serves : goal.returns-in-Ok-clause-serves
returns-in-Ok-clause-serves g c = λ spent calm quiet. served-as _ _ _ _ _ c.in-Ok.ensures.peers
    (c.serve_turns.ensures.serves spent calm quiet)

pub returns-in-Ok-clause-complete : goal.returns-in-Ok-clause-complete
returns-in-Ok-clause-complete g c = λ calm. ended_calm c.serve_turns.result (λ e. calm (c.serve_turns.ensures.tells.risen e))

pub returns-in-Err-clause-tells : goal.returns-in-Err-clause-tells
returns-in-Err-clause-tells g c = tells-none _ _ _ _ refl refl
