use Rattle.std.proofs.Common.{◌≡◌, ◌<◌, inl, inr, refl, sym, ◌∙◌, ap, length, arith}
use Rattle.std.proofs.lemmas.Grind.{common_steps}
use Rattle.ikeless_cli.specs.Reader.{State, header_kept}
use Rattle.std.proofs.lemmas.List.{nil_from_length}
use Rattle.ikeless_cli.proofs.Ends.{ends-cut_off, ends-done, isnt-empty}
use Rattle.ikeless_cli.proofs.reader.Reader.at_end.Goals as goal

pub returns-in-None-clause-ran : goal.returns-in-None-clause-ran
returns-in-None-clause-ran c = λ i t left r end. rw c.cut_off.ensures (ends-cut_off left i t _ _ r end refl
    (inr (ap (λ (x : State). header_kept x.running) (sym c.self.view_is) ∙ ap header_kept c.in-None.is)))

pub returns-then-is_empty-clause-ran : goal.returns-then-is_empty-clause-ran
returns-then-is_empty-clause-ran c = λ i t left r end.
    let none : length c.args.self.now.line ≡ 0 = grind (arith, common_steps) in
    ends-done left i t _ r end (nil_from_length c.args.self.now.line none) (rw (← c.self.view_is, c.in-Some.is) refl)

pub returns-else-is_empty-clause-ran : goal.returns-else-is_empty-clause-ran
returns-else-is_empty-clause-ran c = λ i t left r end.
    let some : 0 < length c.args.self.now.line = grind (arith, common_steps) in
    rw c.cut_off-else-is_empty.ensures (ends-cut_off left i t _ _ r end refl (inl (isnt-empty c.args.self.now.line some)))
