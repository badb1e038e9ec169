use Rattle.ip_packet.proofs.Views.{view_of-with_ttl}
use Rattle.ip_packet.proofs.laws.ttl_keeps_view.Goals as goal

pub returns : goal.returns
returns c = λ ttl o. view_of-with_ttl ttl o
