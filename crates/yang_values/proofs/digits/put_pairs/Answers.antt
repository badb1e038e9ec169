use Rattle.std.proofs.Common.{ℕ, ◌∷◌, ◌++◌, [], get_or, take, drop, suc, refl, ap, ◌∙◌, append_assoc}
use Rattle.std.specs.List.{flat_map}
use Rattle.yang_values.specs.HexText.{pair_text}
use Rattle.ikl_base.proofs.FrontLemmas.{front-first, front-then, front-whole, adds-refused}
use Rattle.yang_values.proofs.EachLemmas.{each_before, each_behind}
use Rattle.yang_values.proofs.digits.put_pairs.Goals as goal

pub returns-in_err-push : goal.returns-in_err-push
returns-in_err-push c =
    let f = λ (y : ℕ). 58 ∷ pair_text y in
    let xs = c.args.octets.now in
    adds-refused _ _ _ _ c.from_residual.ensures.0
    (front-whole _ _ _ (flat_map f (take c.loop-octet.octet-index xs)) _ (each_before f xs c.loop-octet.octet-index)
    (c.in_err-push.ensures.items ∙ c.loop-octet.invariant))

pub returns-in_err-put_digits : goal.returns-in_err-put_digits
returns-in_err-put_digits c =
    let f = λ (y : ℕ). 58 ∷ pair_text y in
    let xs = c.args.octets.now in
    let i = c.loop-octet.octet-index in
    let front = flat_map f (take i xs) in
    let tail = flat_map f (drop (suc i) xs) in
    adds-refused _ _ _ _ c.from_residual-in_err-put_digits.ensures.0
    (front-then _ _ _ c.push.new.self.items (front ++ 58 ∷ []) (pair_text (get_or xs i 0) ++ tail)
    (each_behind 58 pair_text xs i c.loop-octet-test.true)
    (c.in_ok-push.ensures.items ∙ ap (λ y. y ++ 58 ∷ []) c.loop-octet.invariant ∙ append_assoc c.args.out.now.items front (58 ∷ []))
    (front-first _ _ _ (pair_text (get_or xs i 0)) tail refl c.in_err-put_digits.ensures))
