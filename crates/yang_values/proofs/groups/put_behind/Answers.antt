use Rattle.std.proofs.Common.{ℕ, ◌∷◌, ◌++◌, [], get_or, take, drop, suc, refl, ap, ◌∙◌, append_assoc}
use Rattle.std.specs.List.{flat_map}
use Rattle.yang_values.specs.Addresses.{group_text}
use Rattle.ikl_base.proofs.FrontLemmas.{front-first, front-then, front-whole, adds-refused}
use Rattle.yang_values.proofs.EachLemmas.{each_before, each_behind}
use Rattle.yang_values.proofs.groups.put_behind.Goals as goal

pub returns-in_err-push : goal.returns-in_err-push
returns-in_err-push c =
    let f = λ (y : ℕ). 58 ∷ group_text y in
    let xs = c.args.groups.now in
    adds-refused _ _ _ _ c.from_residual.ensures.0
    (front-whole _ _ _ (flat_map f (take c.loop-group.group-index xs)) _ (each_before f xs c.loop-group.group-index)
    (c.in_err-push.ensures.items ∙ c.loop-group.invariant))

pub returns-in_err-put_group : goal.returns-in_err-put_group
returns-in_err-put_group c =
    let f = λ (y : ℕ). 58 ∷ group_text y in
    let xs = c.args.groups.now in
    let i = c.loop-group.group-index in
    let front = flat_map f (take i xs) in
    let tail = flat_map f (drop (suc i) xs) in
    adds-refused _ _ _ _ c.from_residual-in_err-put_group.ensures.0
    (front-then _ _ _ c.push.new.self.items (front ++ 58 ∷ []) (group_text (get_or xs i 0) ++ tail)
    (each_behind 58 group_text xs i c.loop-group-test.true)
    (c.in_ok-push.ensures.items ∙ ap (λ y. y ++ 58 ∷ []) c.loop-group.invariant ∙ append_assoc c.args.out.now.items front (58 ∷ []))
    (front-first _ _ _ (group_text (get_or xs i 0)) tail refl c.in_err-put_group.ensures))
