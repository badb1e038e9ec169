use Rattle.std.proofs.Common.{arith, ap, ◌∙◌}
use Rattle.yang_values.specs.Numbers.{number_of}
use Rattle.yang_values.proofs.PrefixLemmas.{with_length-ok, with_length-err}
use Rattle.yang_values.proofs.prefix.prefix_with.Goals as goal

pub of-requires : goal.of-requires
of-requires c = omega (arith, c.bits.ensures, c.in-Ok-read_number.ensures.bound)

pub returns-in-Ok-read_number : goal.returns-in-Ok-read_number
returns-in-Ok-read_number c =
    rw c.in-Ok.is
    (with_length-ok c.in-Ok.a c.args.t.now c.in-Ok-read_number.n c.of.result
    (c.in-Ok-read_number.ensures.value ∙ ap (λ most. number_of most c.args.t.now) c.bits.ensures)
    (omega (arith, c.bits.ensures, c.in-Ok-read_number.ensures.bound)) c.of.ensures.length c.of.ensures.address)

pub returns-in-Err-read_number : goal.returns-in-Err-read_number
returns-in-Err-read_number c =
    rw c.in-Ok.is
    (with_length-err c.in-Ok.a c.args.t.now c.in-Err-read_number.e
    (c.in-Err-read_number.ensures.value ∙ ap (λ most. number_of most c.args.t.now) c.bits.ensures))
