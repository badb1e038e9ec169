use Rattle.acts_spell.proofs.HeaderReads.{event-spelled, header-typed}
use Rattle.acts_spell.proofs.laws.reads_what_is_spelled.Goals as goal

pub returns-clause-header : goal.returns-clause-header
returns-clause-header c = header-typed

pub returns-clause-event : goal.returns-clause-event
returns-clause-event c = event-spelled
