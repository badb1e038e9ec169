use Rattle.ip_packet.specs.Outer.{outer_header}
use Rattle.ip_packet.proofs.OuterViews.{sealed, sealed-size, sealed-id}
use Rattle.ip_packet.proofs.laws.sealed_view.Goals as goal

pub returns-clause-view : goal.returns-clause-view
unfolding outer_header
returns-clause-view c = λ o payload are told. sealed o o.src o.dst payload are told

pub returns-clause-size : goal.returns-clause-size
unfolding outer_header
returns-clause-size c = λ o are. sealed-size o o.src o.dst are

pub returns-clause-id : goal.returns-clause-id
unfolding outer_header
returns-clause-id c = λ o src dst payload es ed. sealed-id o src dst payload es ed
