use Rattle.std.proofs.Common.{arith, sym}
use Rattle.yang_values.proofs.RunLemmas.{double_colon-found, double_colon-none}
use Rattle.yang_values.proofs.groups.find_double.Goals as goal

pub returns-then-is_double-clause-value : goal.returns-then-is_double-clause-value
returns-then-is_double-clause-value c =
    double_colon-found c.args.t.now c.loop-i.i (omega arith) c.loop-i.invariant (sym c.if-is_double.ensures)

pub returns-clause-value : goal.returns-clause-value
returns-clause-value c = double_colon-none c.args.t.now c.loop-i.i (omega arith) c.loop-i.invariant
