use Rattle.std.proofs.Common.{◌∷◌, ◌++◌, sym, ap, ◌∙◌}
use Rattle.std.specs.Fmt.{decimal}
use Rattle.ikl_base.proofs.FrontLemmas.{front-first, adds-refused, adds-marked}
use Rattle.yang_values.proofs.quad.put_half.Goals as goal

pub returns-in_err-put_number : goal.returns-in_err-put_number
returns-in_err-put_number c =
    adds-refused _ _ _ _ c.from_residual.ensures.0
    (front-first _ _ _ (decimal c.from.result) (46 ∷ decimal c.args.b) (ap (λ n. decimal n ++ 46 ∷ decimal c.args.b) (sym c.from.ensures))
    c.in_err-put_number.ensures)

pub returns : goal.returns
returns c =
    adds-marked _ _ _ _ _ _ (decimal c.from.result) (decimal c.from-2.result) 46
    (ap (λ n. decimal n ++ 46 ∷ decimal c.args.b) (sym c.from.ensures) ∙ ap (λ n. decimal c.from.result ++ 46 ∷ decimal n)
    (sym c.from-2.ensures))
    c.in_ok-put_number.ensures c.in_ok-push.ensures.items c.put_number-2.ensures
