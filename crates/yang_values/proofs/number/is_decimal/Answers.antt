use Rattle.std.proofs.Common.{arith}
use Rattle.yang_values.proofs.number.is_decimal.Goals as goal
use Rattle.yang_values.proofs.number.is_decimal.Goals.{then-not-is_empty+then-t-ne48, then-not-is_empty+else-t-ne48, else-not-is_empty}

pub returns-then-t-eq1 : goal.returns-then-t-eq1
returns-then-t-eq1 c = elim c.if-not-is_empty.branch [
  | then-not-is_empty+then-t-ne48 w ↦ grind arith
  | then-not-is_empty+else-t-ne48 w ↦ grind arith
  | else-not-is_empty w ↦ grind arith
]
