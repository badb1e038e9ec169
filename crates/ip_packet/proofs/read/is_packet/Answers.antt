use Rattle.std.proofs.Common.{is_ok, ap}
use Rattle.ip_packet.proofs.Views.{view_of-whole}
use Rattle.ip_packet.proofs.read.is_packet.Goals as goal

pub returns-in-Ok-clause-whole : goal.returns-in-Ok-clause-whole
returns-in-Ok-clause-whole c = λ _. view_of-whole c.args.octets.now (ap is_ok c.in-Ok.ensures.said)
