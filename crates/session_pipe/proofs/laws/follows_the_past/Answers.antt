use Rattle.session_pipe.proofs.Moves.{moves}
use Rattle.session_pipe.proofs.laws.follows_the_past.Goals as goal

pub returns-clause-moves : goal.returns-clause-moves
returns-clause-moves c = moves
