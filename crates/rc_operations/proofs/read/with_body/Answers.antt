use Rattle.rc_operations.proofs.Sound.{body_sound}
use Rattle.rc_operations.proofs.read.with_body.Goals as goal

pub returns-in-Ok-clause-sound : goal.returns-in-Ok-clause-sound
returns-in-Ok-clause-sound c =
    body_sound c.commands_are_accepted.ensures.sound c.args.name.now c.args.body.now c.in-Ok.command c.requires c.in-Ok.ensures
