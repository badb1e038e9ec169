use Rattle.std.proofs.Common.{ℕ, List, ◌∷◌, get_or, drop, subst}
use Rattle.std.specs.List.{flat_map}
use Rattle.std.proofs.lemmas.List.{take_rest}
use Rattle.ikl_base.specs.Answers.{HoldsFront}
use Rattle.ikl_base.proofs.FrontLemmas.{front-then, adds-refused}
use Rattle.yang_values.specs.Addresses.{group_text}
use Rattle.yang_values.proofs.EachLemmas.{joined_end, joined_first}
use Rattle.yang_values.proofs.groups.put_joined.Goals as goal

pub returns : goal.returns
returns c =
    joined_end 58 group_text c.args.groups.now _ _ _ _ c.in-len1-up.len_at_least (take_rest c.args.groups.now 1)
    c.in_ok-put_group.ensures c.in_ok-put_behind.ensures

pub returns-in_err-put_behind : goal.returns-in_err-put_behind
returns-in_err-put_behind c =
    let f : ℕ → List ℕ = λ y. 58 ∷ group_text y in
    let P : List ℕ → Type 0 = λ rest. HoldsFront c.put_group.new.out.items (flat_map f rest) c.put_behind.new.out.items in
    adds-refused _ _ _ _ c.from_residual-in_err-put_behind.ensures.0
    (front-then _ _ _ c.put_group.new.out.items (group_text (get_or c.args.groups.now 0 0)) (flat_map f (drop 1 c.args.groups.now))
    (joined_first 58 group_text c.args.groups.now c.in-len1-up.len_at_least) c.in_ok-put_group.ensures
    (subst P (take_rest c.args.groups.now 1) c.in_err-put_behind.ensures))
