use Rattle.std.proofs.Common.{refl}
use Rattle.live_devices.specs.Dialers.{dialled}
use Rattle.live_controller.proofs.Dialling.{Opened, agrees-opened, dialled-goes, does-opened}
use Rattle.live_controller.proofs.Doing.{becomes-makes, calm-back, later-by, later-on}
use Rattle.live_controller.proofs.desk.Desk.dial.Goals as goal

pub returns-in_ok-tell-in-Ok-clause-goes : goal.returns-in_ok-tell-in-Ok-clause-goes
returns-in_ok-tell-in-Ok-clause-goes g c = λ calm ps start past st.
    let call = c.in-Ok.ensures in
    let up = c.«open».ensures in
    let opened : Opened c.args.g c.args.self.now c.«open».new.self =
    record { peers = up.peers; core = up.core; up = up.up; none = up.none; others = up.others } in
    let first = later-by _ _ c.args.g _ call.cause call.counts.0 in
    let told = c.in_ok-tell-in-Ok.ensures.tells (calm-back _ _ _ first calm) (agrees-opened c.args.g _ _ opened st.agrees) in
    dialled-goes ps start past c.args.g _ _ _ c.args.self.now c.«open».new.self c.tell.new.self c.requires.known c.requires.down opened
    (becomes-makes dialled _ _ call.gives) call.others.0 (does-opened c.args.g _ _ _ _ up.up told) st

pub returns-in_ok-tell-in-Ok-clause-later : goal.returns-in_ok-tell-in-Ok-clause-later
returns-in_ok-tell-in-Ok-clause-later g c =
    later-on _ _ _ (later-by _ _ c.args.g _ c.in-Ok.ensures.cause c.in-Ok.ensures.counts.0) c.in_ok-tell-in-Ok.ensures.later

pub returns-in-Err-clause-later : goal.returns-in-Err-clause-later
returns-in-Err-clause-later g c = later-by _ _ c.args.g _ c.in-Err.ensures.cause c.in-Err.ensures.counts.0

pub returns-in-Err-clause-goes : goal.returns-in-Err-clause-goes
returns-in-Err-clause-goes g c = λ calm ps start past st. absurd (calm c.args.g (c.in-Err.ensures.cause.failed refl))
