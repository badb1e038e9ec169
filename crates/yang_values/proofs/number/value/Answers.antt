use Rattle.std.proofs.Common.{arith, ap, ◌∙◌, ◌≤◌, length, ◌+◌}
use Rattle.std.specs.Str.Parse.{digits_value}
use Rattle.std.proofs.lemmas.List.{take_all}
use Rattle.yang_values.proofs.NumberLemmas.{front_more, front_small}
use Rattle.yang_values.proofs.number.value.Goals as goal

pub returns-in_err-checked_mul : goal.returns-in_err-checked_mul
returns-in_err-checked_mul c =
    let one = front_more c.args.t.now c.loop-c.c-index c.requires c.loop-c-test.true in
    let below = front_small c.args.t.now (c.loop-c.c-index + 1) in
    rw c.from_residual.ensures (λ h. c.in_err-checked_mul.ensures (omega arith))

pub returns-in_err-n : goal.returns-in_err-n
returns-in_err-n c =
    let one = front_more c.args.t.now c.loop-c.c-index c.requires c.loop-c-test.true in
    let below = front_small c.args.t.now (c.loop-c.c-index + 1) in
    rw c.from_residual-in_err-n.ensures (λ h. c.in_err-n.ensures (omega arith))

pub loop-c-preserved : goal.loop-c-preserved
loop-c-preserved c =
    let one = front_more c.args.t.now c.loop-c.c-index c.requires c.loop-c-test.true in
    record {
      value = omega (arith, c.in_ok-n.ensures, c.in_ok-checked_mul.ensures);
      fits = omega (arith, c.in_ok-n.ensures);
    }

pub returns : goal.returns
returns c =
    let end : length c.args.t.now ≤ c.loop-c.c-index = omega arith in
    let all = c.loop-c.invariant.value ∙ ap (digits_value 10) (take_all c.loop-c.c-index c.args.t.now end) in
    (omega (arith, all, c.loop-c.invariant.fits), all)
