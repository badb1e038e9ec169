use Rattle.event_lines.proofs.SpelledEvent.{event_under}
use Rattle.event_lines.proofs.laws.read_events_are_spelled.Goals as goal

pub returns : goal.returns
returns c = event_under
