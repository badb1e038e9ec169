use Rattle.world_run.proofs.Events.{down-asks, note-notices, up-answers}
use Rattle.world_run.proofs.parts.Parts.take_event.Goals as goal

pub on_down-requires-clause-asks : goal.on_down-requires-clause-asks
on_down-requires-clause-asks c = down-asks c.args.e c.in-Down.g c.args.self.now c.in-Down.is c.requires.can

pub on_up-requires-clause-answers : goal.on_up-requires-clause-answers
on_up-requires-clause-answers c = up-answers c.args.e c.in-Up.g c.args.self.now c.in-Up.is c.requires.can

pub on_note-requires-clause-notices : goal.on_note-requires-clause-notices
on_note-requires-clause-notices c = note-notices c.args.e c.in-Note.g c.args.self.now c.in-Note.is c.requires.can
