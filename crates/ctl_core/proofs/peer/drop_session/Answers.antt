use Rattle.std.proofs.Common.{◌≡◌, ℕ, List, [], Some, arith}
use Rattle.ctl_core.specs.declared.peer.Station.{Station}
use Rattle.ctl_core.specs.declared.peer.Session.TheVariants as sessions
use Rattle.ctl_core.proofs.Places.{at-set, at-none}
use Rattle.ctl_core.proofs.peer.drop_session.Goals as goal

pub returns-then-gateway-len : goal.returns-then-gateway-len
returns-then-gateway-len c = let f : Station → Station = λ s. record s { session = sessions.Closed; queue = [] } in
    rw c.clear.ensures (at-set f c.args.gateway c.args.stations.now.items c.index_mut-station.result.now (omega arith)
    c.index_mut-station.ensures.value)

pub returns-else-gateway-len : goal.returns-else-gateway-len
returns-else-gateway-len c = let f : Station → Station = λ s. record s { session = sessions.Closed; queue = [] } in
    at-none f c.args.gateway c.args.stations.now.items (omega arith)
