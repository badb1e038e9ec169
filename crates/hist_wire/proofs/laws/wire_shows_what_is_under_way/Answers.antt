use Rattle.hist_wire.proofs.Shows.{few-octets, shows-pipe, shows-requests}
use Rattle.hist_wire.proofs.laws.wire_shows_what_is_under_way.Goals as goal

pub returns : goal.returns
returns c = record { pipe = shows-pipe; requests = shows-requests; few = few-octets }
