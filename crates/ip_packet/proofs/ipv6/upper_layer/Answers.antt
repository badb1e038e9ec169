use Rattle.std.proofs.Common.{◌≡◌, ℕ, length-drop, true, false, ◌∙◌, sym, arith}
use Rattle.ip_packet.specs.Ipv6.{is_extension}
use Rattle.ip_packet.proofs.Headers.{upper_of-more, upper_of-short, upper_of-long, upper_of-fragment, upper_of-end}
use Rattle.ip_packet.proofs.ipv6.upper_layer.Goals as goal

pub returns-then-rest-lt8-clause-upper : goal.returns-then-rest-lt8-clause-upper
returns-then-rest-lt8-clause-upper c =
    let is : is_extension c.loop-rest.next ≡ true = cc in
    sym c.loop-rest.invariant.upper ∙ upper_of-short c.loop-rest.next c.loop-rest.rest.now is c.if-rest-lt8.true

pub returns-then-rest-length-clause-upper : goal.returns-then-rest-length-clause-upper
returns-then-rest-length-clause-upper c =
    let is : is_extension c.loop-rest.next ≡ true = cc in
    sym c.loop-rest.invariant.upper ∙ upper_of-long c.loop-rest.next c.loop-rest.rest.now is (omega arith)

pub loop-rest-preserved : goal.loop-rest-preserved
loop-rest-preserved c =
    let is : is_extension c.loop-rest.next ≡ true = cc in
    let more = upper_of-more c.loop-rest.next c.loop-rest.rest.now is c.if-rest-lt8.false (omega arith) in
    record {
      upper = rw (c.split_at.ensures.back, c.from.ensures) (sym more ∙ c.loop-rest.invariant.upper);
      shorter = rw c.split_at.ensures.back (omega (arith, c.loop-rest.invariant.shorter, length-drop {A = ℕ}));
    }

pub returns-then-next-eq44-clause-upper : goal.returns-then-next-eq44-clause-upper
returns-then-next-eq44-clause-upper c = sym c.loop-rest.invariant.upper ∙ upper_of-fragment c.loop-rest.next c.loop-rest.rest.now
    c.if-next-eq44.true

pub returns-clause-upper : goal.returns-clause-upper
returns-clause-upper c =
    let is : is_extension c.loop-rest.next ≡ false = cc in
    sym c.loop-rest.invariant.upper ∙ upper_of-end c.loop-rest.next c.loop-rest.rest.now is c.if-next-eq44.false
