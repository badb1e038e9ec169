use Rattle.std.proofs.Common.{arith}
use Rattle.std.proofs.lemmas.Int.Digits.{digits_value_more}
use Rattle.yang_values.proofs.HexNumberLemmas.{shift_small}
use Rattle.yang_values.proofs.digits.value.Goals as goal

pub overflow_mul-n : goal.overflow_mul-n
overflow_mul-n c =
    let small = shift_small c.loop-c.c-index c.loop-c.n 0 (omega arith) c.loop-c.invariant.small (omega arith) in
    omega (arith, small)

pub overflow_add-n : goal.overflow_add-n
overflow_add-n c =
    let small = shift_small c.loop-c.c-index c.loop-c.n c.from.result (omega arith) c.loop-c.invariant.small
    (omega (arith, c.from.ensures, c.digit.ensures.small)) in
    omega (arith, small)

pub loop-c-preserved : goal.loop-c-preserved
loop-c-preserved c =
    let more = digits_value_more 16 c.args.t.now c.loop-c.c-index c.loop-c-test.true in
    let small = shift_small c.loop-c.c-index c.loop-c.n c.from.result (omega arith) c.loop-c.invariant.small
    (omega (arith, c.from.ensures, c.digit.ensures.small)) in
    record {
      value = omega (arith, more, c.from.ensures, c.digit.ensures.value);
      small = small.1;
    }
