use Rattle.live_controller.proofs.Doing.{later-same}
use Rattle.live_controller.proofs.Requesting.{unread-on}
use Rattle.live_controller.proofs.clients.read_session.Goals as goal

pub returns-then-not-session-clause-later : goal.returns-then-not-session-clause-later
returns-then-not-session-clause-later g c = later-same _

pub returns-then-not-session-clause-goes : goal.returns-then-not-session-clause-goes
returns-then-not-session-clause-goes g c = λ calm quiet ps start past st. unread-on ps start past _ _ _ c.if-not-session.true st
