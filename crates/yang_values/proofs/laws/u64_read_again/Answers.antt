use Rattle.std.proofs.Common.{arith}
use Rattle.yang_values.proofs.ValueText.{number_of-decimal}
use Rattle.yang_values.proofs.laws.u64_read_again.Goals as goal

pub returns : goal.returns
returns c n small = number_of-decimal n _ small (omega arith)
