use Rattle.std.proofs.Common.{◌≡◌, ℕ, List, ◌++◌, take, drop, refl, ◌∙◌, ap, append_assoc, arith}
use Rattle.std.proofs.lemmas.List.{take-append-drop}
use Rattle.std.proofs.lemmas.Grind.{common_steps}
use Rattle.ikl_base.proofs.Gaining.{gains_more}
use Rattle.ikl_base.proofs.writing.write_all.Goals as goal

front_and_rest : (front rest : List ℕ) (n : ℕ) (tail piece : List ℕ) → tail ≡ drop n rest → front ++ rest ≡ piece → (front ++ take n rest)
    ++ tail ≡ piece
front_and_rest front rest n tail piece t e = grind (arith, common_steps)

front_and_more : (front rest : List ℕ) (n : ℕ) (piece : List ℕ) → front ++ rest ≡ piece → (front ++ take n rest) ++ drop n rest ≡ piece
front_and_more front rest n piece e = append_assoc front (take n rest) (drop n rest) ∙ (ap (λ x. front ++ x) (take-append-drop n rest) ∙ e)

pub loop-rest-preserved : goal.loop-rest-preserved
loop-rest-preserved g c =
    let old = c.loop-rest.invariant.so_far in
    let cut : c.split_at.result.1.now ≡ drop c.in-Ok.n c.loop-rest.rest.now = cc in
    record {
      so_far = (
        old.0 ++ take c.in-Ok.n c.loop-rest.rest.now,
        front_and_rest old.0 c.loop-rest.rest.now c.in-Ok.n c.split_at.result.1.now
            c.args.piece.now cut old.1,
        gains_more _ _ _ _ _ old.2 c.in-Ok.ensures.takes.octets,
      );
      kept = c.in-Ok.ensures.cause.kept refl ∙ c.loop-rest.invariant.kept;
      calm = λ before. c.in-Ok.ensures.outcome;
    }

pub returns-in-Err-clause-err : goal.returns-in-Err-clause-err
returns-in-Err-clause-err g c =
    let old = c.loop-rest.invariant.so_far in
    let last = c.in-Err.ensures.takes in (
      old.0 ++ take last.0 c.loop-rest.rest.now,
      drop last.0 c.loop-rest.rest.now,
      front_and_more old.0 c.loop-rest.rest.now last.0 c.args.piece.now old.1,
      gains_more _ _ _ _ _ old.2 last.2,
    )
