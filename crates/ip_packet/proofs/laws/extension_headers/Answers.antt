use Rattle.ip_packet.proofs.Headers.{upper_of-step}
use Rattle.ip_packet.proofs.laws.extension_headers.Goals as goal

pub returns : goal.returns
returns c = λ next o. upper_of-step next o
