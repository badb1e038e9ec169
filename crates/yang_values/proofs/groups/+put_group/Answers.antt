use Rattle.std.proofs.Common.{◌/◌, arith, false, ap, ◌∙◌, ◌++◌, ◌∷◌, [], ◌%◌, ◌≡◌}
use Rattle.std.specs.Fmt.{digits, digit_glyph}
use Rattle.ikl_base.proofs.FrontLemmas.{front-none, front-first, front-whole, adds-refused}
use Rattle.yang_values.proofs.HexNumberLemmas.{hex_step, put_more, put_one}
use Rattle.yang_values.proofs.groups.+put_group.Goals as goal
use Rattle.yang_values.proofs.groups.+put_group.Goals.{then-group-ge16+in_ok-put_group, else-group-ge16}

pub returns : goal.returns
returns t c =
    let pushed : c.push.new.self.items ≡ c.if-group-ge16.out.items ++ digit_glyph false (c.args.group % 16) ∷ [] =
    c.in_ok-push.ensures.items ∙ ap (λ d. c.if-group-ge16.out.items ++ d ∷ []) c.glyph.ensures in
    elim c.if-group-ge16.branch [
      | then-group-ge16+in_ok-put_group w ↦
          put_more _ _ _ _ (omega arith) w.if-group-ge16.true (ap (λ v. v.items) w.out-is ∙ w.in_ok-put_group.ensures) pushed
      | else-group-ge16 w ↦
          put_one _ _ _ w.if-group-ge16.false (pushed ∙ ap (λ v. v.items ++ digit_glyph false (c.args.group % 16) ∷ []) w.out-is)
    ]

pub returns-in_err-put_group : goal.returns-in_err-put_group
returns-in_err-put_group t c =
    adds-refused _ _ _ _ c.from_residual.ensures.0
    (front-first _ _ _ (digits 16 false (c.args.group / 16)) (digit_glyph false (c.args.group % 16) ∷ [])
    (hex_step c.args.group c.if-group-ge16.true (omega arith)) c.in_err-put_group.ensures)

pub returns-in_err-push : goal.returns-in_err-push
returns-in_err-push t c = adds-refused _ _ _ _ c.from_residual-in_err-push.ensures.0 (elim c.if-group-ge16.branch [
  | then-group-ge16+in_ok-put_group w ↦
      front-whole _ _ _ (digits 16 false (c.args.group / 16)) (digit_glyph false (c.args.group % 16) ∷ [])
      (hex_step c.args.group w.if-group-ge16.true (omega arith))
      (c.in_err-push.ensures.items ∙ ap (λ v. v.items) w.out-is ∙ w.in_ok-put_group.ensures)
  | else-group-ge16 w ↦ front-none _ _ _ (c.in_err-push.ensures.items ∙ ap (λ v. v.items) w.out-is)
])
