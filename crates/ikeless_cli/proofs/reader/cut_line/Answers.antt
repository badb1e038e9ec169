use Rattle.std.proofs.Common.{◌≡◌, ◌+◌, ◌++◌, ◌∷◌, ℕ, List, take, drop, sym, subst, ap, ◌∙◌, arith}
use Rattle.std.proofs.lemmas.Grind.{common_steps}
use Rattle.ikeless_cli.specs.Script.{HasNoLf}
use Rattle.ikeless_cli.proofs.Lines.{cut-lf, inside-before, inside-from}
use Rattle.ikeless_cli.proofs.reader.cut_line.Goals as goal

pub returns-in_err-n : goal.returns-in_err-n
returns-in_err-n c = rw c.from_residual.ensures (inside-from c.args.octets.now
    (λ k inside is. c.in_err-n.ensures k (omega arith) inside is))

pub returns : goal.returns
returns c =
    let xs : List ℕ = c.args.octets.now in
    let n : ℕ = c.in_ok-n.n in
    let found = c.in_ok-n.ensures in
    let inside = found.0.high in
    let before : take n xs ≡ c.split_at.result.0.now = sym c.split_at.ensures.front in
    let after : drop (n + 1) xs ≡ c.split_at-2.result.1.now = grind (arith, common_steps) in
    let P : List ℕ → Type 0 = λ x. HasNoLf x in (
      subst P before (inside-before xs n (omega (arith, inside)) (λ k earlier is. found.0.before k (omega arith) earlier is)),
      cut-lf xs n inside found.1 ∙ (ap (λ x. x ++ 10 ∷ drop (n + 1) xs) before ∙ ap (λ x. c.split_at.result.0.now ++ 10 ∷ x) after),
    )
