use Rattle.std.proofs.Common.{◌/◌, arith, ap, ◌∙◌, ◌++◌, ◌∷◌, [], ◌+◌, ◌%◌}
use Rattle.std.specs.Fmt.{decimal}
use Rattle.std.proofs.lemmas.Fmt.{decimal_step}
use Rattle.ikl_base.proofs.FrontLemmas.{front-none, front-first, front-whole, adds-refused}
use Rattle.yang_values.proofs.NumberLemmas.{put_more, put_one}
use Rattle.yang_values.proofs.number.+put_number.Goals as goal
use Rattle.yang_values.proofs.number.+put_number.Goals.{then-n-ge10+in_ok-put_number, else-n-ge10}

pub returns : goal.returns
returns t c = elim c.if-n-ge10.branch [
  | then-n-ge10+in_ok-put_number w ↦
      put_more _ _ _ _ (omega arith) w.if-n-ge10.true (ap (λ v. v.items) w.out-is ∙ w.in_ok-put_number.ensures) c.in_ok-push.ensures.items
  | else-n-ge10 w ↦
      put_one _ _ _ w.if-n-ge10.false (c.in_ok-push.ensures.items ∙ ap (λ v. v.items ++ (48 + c.args.n % 10) ∷ []) w.out-is)
]

pub returns-in_err-put_number : goal.returns-in_err-put_number
returns-in_err-put_number t c =
    adds-refused _ _ _ _ c.from_residual.ensures.0
    (front-first _ _ _ (decimal (c.args.n / 10)) ((48 + c.args.n % 10) ∷ []) (decimal_step c.args.n c.if-n-ge10.true (omega arith))
    c.in_err-put_number.ensures)

pub returns-in_err-push : goal.returns-in_err-push
returns-in_err-push t c = adds-refused _ _ _ _ c.from_residual-in_err-push.ensures.0 (elim c.if-n-ge10.branch [
  | then-n-ge10+in_ok-put_number w ↦
      front-whole _ _ _ (decimal (c.args.n / 10)) ((48 + c.args.n % 10) ∷ []) (decimal_step c.args.n w.if-n-ge10.true (omega arith))
      (c.in_err-push.ensures.items ∙ ap (λ v. v.items) w.out-is ∙ w.in_ok-put_number.ensures)
  | else-n-ge10 w ↦ front-none _ _ _ (c.in_err-push.ensures.items ∙ ap (λ v. v.items) w.out-is)
])
