use Rattle.std.proofs.Common.{◌∷◌, [], get_or, ◌∙◌, arith}
use Rattle.yang_values.specs.Addresses.{dotted}
use Rattle.ikl_base.proofs.FrontLemmas.{front-first, front-whole, adds-refused, adds-marked}
use Rattle.yang_values.proofs.QuadText.{two_halves}
use Rattle.yang_values.proofs.quad.put_quad.Goals as goal

pub returns-in_err-put_half : goal.returns-in_err-put_half
returns-in_err-put_half c =
    let o = c.args.octets.now in
    adds-refused _ _ _ _ c.from_residual.ensures.0 (front-first _ _ _ (dotted (get_or o 0 0 ∷ get_or o 1 0 ∷ [])) _
    (two_halves o (omega arith)) c.in_err-put_half.ensures)

pub returns-in_err-push : goal.returns-in_err-push
returns-in_err-push c =
    let o = c.args.octets.now in
    adds-refused _ _ _ _ c.from_residual-in_err-push.ensures.0
    (front-whole _ _ _ (dotted (get_or o 0 0 ∷ get_or o 1 0 ∷ [])) _ (two_halves o (omega arith)) (c.in_err-push.ensures.items
    ∙ c.in_ok-put_half.ensures))

pub returns : goal.returns
returns c =
    let o = c.args.octets.now in
    adds-marked _ _ _ _ _ _ (dotted (get_or o 0 0 ∷ get_or o 1 0 ∷ [])) (dotted (get_or o 2 0 ∷ get_or o 3 0 ∷ [])) 46
    (two_halves o (omega arith))
    c.in_ok-put_half.ensures c.in_ok-push.ensures.items c.put_half-2.ensures
