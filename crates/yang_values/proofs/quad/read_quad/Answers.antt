use Rattle.std.proofs.Common.{sym}
use Rattle.std.proofs.lemmas.Bool.{and_parts}
use Rattle.yang_values.proofs.QuadLemmas.{bad_quad}
use Rattle.yang_values.proofs.quad.read_quad.Goals as goal

pub returns-then-not-are_decimal-2 : goal.returns-then-not-are_decimal-2
returns-then-not-are_decimal-2 c = bad_quad _ _ _ _ _ c.in-Some.ensures (sym c.if-not-are_decimal.ensures)
    (sym c.if-not-are_decimal-2.ensures)

pub octet-requires-2 : goal.octet-requires-2
octet-requires-2 c = (and_parts _ _ (sym c.if-not-are_decimal.ensures)).1
