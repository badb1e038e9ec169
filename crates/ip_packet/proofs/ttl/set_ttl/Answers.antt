use Rattle.std.proofs.Common.{◌≡◌, ◌==◌, eq-eqb, true, false, is_ok, ◌∙◌, ap, arith}
use Rattle.std.proofs.lemmas.Bool.Decides.{nat_tests}
use Rattle.ip_packet.specs.Field.{version}
use Rattle.ip_packet.specs.View.{view_of}
use Rattle.ip_packet.proofs.Views.{view_of-whole, view_of-packet_4, view_of-version, view_of-with_ttl_4, view_of-with_ttl_6}
use Rattle.ip_packet.proofs.ttl.set_ttl.Goals as goal

pub set_ttl_4-requires-clause-header : goal.set_ttl_4-requires-clause-header
set_ttl_4-requires-clause-header c =
    let o = c.args.octets.now in
    let h : is_ok (view_of o) ≡ true = cc in
    (view_of-packet_4 o h (eq-eqb (version o) 4 c.if-octets-eq4.true)).most

pub returns-then-octets-eq4-clause-view : goal.returns-then-octets-eq4-clause-view
returns-then-octets-eq4-clause-view c =
    let o = c.args.octets.now in
    let h : is_ok (view_of o) ≡ true = cc in
    let four : (version o == 4) ≡ true = eq-eqb (version o) 4 c.if-octets-eq4.true in
    ap view_of c.set_ttl_4.ensures ∙ view_of-with_ttl_4 c.args.ttl o (view_of-whole o h) (view_of-packet_4 o h four) four

pub returns-else-octets-eq4-clause-view : goal.returns-else-octets-eq4-clause-view
returns-else-octets-eq4-clause-view c =
    let o = c.args.octets.now in
    let h : is_ok (view_of o) ≡ true = cc in
    let other : (version o == 4) ≡ false = grind (arith, nat_tests) in
    view_of-with_ttl_6 c.args.ttl o (view_of-whole o h) (view_of-version o h other)
