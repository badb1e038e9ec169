use Rattle.event_lines.proofs.SpelledEvent.{header_spelled}
use Rattle.event_lines.proofs.laws.headers_name_gateways.Goals as goal

pub returns : goal.returns
returns c = header_spelled
