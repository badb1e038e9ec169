use Rattle.std.proofs.Common.{[]}
use Rattle.live_devices.specs.Reads.{Unread}
use Rattle.live_gateway.proofs.Making.{later-same}
use Rattle.live_gateway.proofs.Sessions.{unread-goes}
use Rattle.live_gateway.proofs.Telling.{tells_same}
use Rattle.live_gateway.proofs.session.read_session.Goals as goal

pub returns-in-None-clause-goes : goal.returns-in-None-clause-goes
returns-in-None-clause-goes g c = λ cfg start past st. (Unread, [], tt, unread-goes cfg start _ past _ _ c.in-None.is st)

pub returns-in-None-clause-later : goal.returns-in-None-clause-later
returns-in-None-clause-later g c = later-same _

pub returns-in-None-clause-inside_tells : goal.returns-in-None-clause-inside_tells
returns-in-None-clause-inside_tells g c = tells_same _ _

pub returns-in-None-clause-outside_tells : goal.returns-in-None-clause-outside_tells
returns-in-None-clause-outside_tells g c = tells_same _ _

pub returns-in-None-clause-accept_tells : goal.returns-in-None-clause-accept_tells
returns-in-None-clause-accept_tells g c = tells_same _ _
