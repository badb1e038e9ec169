use Rattle.std.proofs.Common.{arith, sym}
use Rattle.yang_values.proofs.HexNumberLemmas.{pair_small}
use Rattle.yang_values.proofs.digits.pair.Goals as goal

pub overflow_cast-result : goal.overflow_cast-result
overflow_cast-result c = let small = pair_small c.args.t.now c.in-Some.n (sym c.in-Some.ensures) in omega arith
