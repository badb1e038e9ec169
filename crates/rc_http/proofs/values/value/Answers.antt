use Rattle.std.proofs.Common.{arith, ◌+◌}
use Rattle.rc_http.proofs.ValueLemmas.{front_more, front_small, digit_in}
use Rattle.rc_http.proofs.values.value.Goals as goal

pub overflow_sub-c : goal.overflow_sub-c
overflow_sub-c c =
    let one = digit_in c.args.digits.now c.loop-c.c-index c.requires.digits c.loop-c-test.true in omega (arith, one)

pub overflow_mul-n : goal.overflow_mul-n
overflow_mul-n c =
    let below = front_small c.args.digits.now c.loop-c.c-index c.requires.digits c.requires.few in
    omega (arith, below, c.loop-c.invariant)

pub overflow_add-n : goal.overflow_add-n
overflow_add-n c =
    let one = front_more c.args.digits.now c.loop-c.c-index c.requires.digits c.loop-c-test.true in
    let below = front_small c.args.digits.now (c.loop-c.c-index + 1) c.requires.digits c.requires.few in
    omega (arith, one, below, c.loop-c.invariant, c.from.ensures)

pub loop-c-preserved : goal.loop-c-preserved
loop-c-preserved c =
    let one = front_more c.args.digits.now c.loop-c.c-index c.requires.digits c.loop-c-test.true in
    omega (arith, one, c.loop-c.invariant, c.from.ensures)
