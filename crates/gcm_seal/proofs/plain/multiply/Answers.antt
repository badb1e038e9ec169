use Rattle.std.proofs.Common.{◌≡◌, ◌∙◌, ap, sym, refl, arith, bit_xor}
use Rattle.gf_poly.specs.Poly.{times_x}
use Rattle.gf_poly.proofs.Field.{iterate, iterate-suc, lin, lin-skip, lin-take, multiply_comm, multiply_is}
use Rattle.gcm_seal.proofs.Elements.{low_fits}
use Rattle.gcm_seal.proofs.plain.multiply.Goals as goal
use Rattle.gcm_seal.proofs.plain.multiply.Goals.{then-y-i-eq1, else-y-i-eq1}

pub coefficients-init : goal.coefficients-init
unfolding iterate lin
coefficients-init c = record { multiple = refl; sum = refl }

pub coefficients-preserved : goal.coefficients-preserved
coefficients-preserved c =
    let i = c.coefficients.i in
    let h = c.args.h in
    let y = c.args.y in
    record {
      multiple = c.times_x-multiple.ensures ∙ ap (times_x 128 0x87) c.coefficients.invariant.multiple
          ∙ sym (iterate-suc 128 0x87 low_fits i h);
      sum = elim c.if-y-i-eq1.branch [
        | then-y-i-eq1 w ↦ w.sum-is ∙ (λ j. bit_xor (c.coefficients.invariant.sum j) (c.coefficients.invariant.multiple j))
            ∙ sym (lin-take 128 0x87 low_fits i h y w.if-y-i-eq1.true)
        | else-y-i-eq1 w ↦ w.sum-is ∙ c.coefficients.invariant.sum
            ∙ sym (lin-skip 128 0x87 low_fits i h y (omega (arith, w.if-y-i-eq1.false)))
      ];
    }

pub returns : goal.returns
returns c =
    let done : c.coefficients.i ≡ 128 = omega (arith, c.coefficients.auto.i-end) in
    let whole = rw done at c.coefficients.invariant.sum in
    whole ∙ sym (multiply_is 128 0x87 low_fits c.args.h c.args.y (omega arith)) ∙ multiply_comm 128 0x87 low_fits c.args.h c.args.y
    (omega arith) (omega arith)
