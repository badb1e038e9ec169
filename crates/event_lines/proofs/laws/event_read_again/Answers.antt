use Rattle.event_lines.proofs.EventText.{event_again}
use Rattle.event_lines.proofs.laws.event_read_again.Goals as goal

pub returns : goal.returns
returns c = event_again c.digits_read_again.ensures
