use Rattle.std.proofs.Common.{drop, ap, ◌∙◌}
use Rattle.ip_packet.specs.Field.{number_at}
use Rattle.ip_packet.specs.Outer.{header_size, outer_header}
use Rattle.ip_packet.proofs.OuterViews.{sealed, sealed-id}
use Rattle.ip_packet.proofs.outer.write_outer.Goals as goal

pub returns-clause-view : goal.returns-clause-view
unfolding outer_header
returns-clause-view c = λ payload told.
    let o = c.args.o.now in
    sealed o o.src o.dst payload c.write_header.ensures.sizes told

pub returns-clause-id : goal.returns-clause-id
unfolding outer_header
returns-clause-id c = λ src dst es ed.
    let o = c.args.o.now in
    ap (λ l. number_at l 4) c.write_header.ensures.octets ∙ sealed-id o src dst (drop (header_size o.src) c.args.out.now) es ed
