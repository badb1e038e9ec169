-- The text of groups of which a run is left out, part by part.
use Rattle.std.proofs.Common.{◌≡◌, ℕ, ◌+◌, ◌-◌, ◌≤◌, false, nat_lt, if◌then◌else◌, List, [], ◌∷◌, ◌++◌, length, take, drop, sym, ap, ◌∙◌, append_assoc, length-drop, arith}
use Rattle.std.proofs.lemmas.List.{take_all}
use Rattle.std.proofs.lemmas.Bool.Decides.{nat_tests}
use Rattle.yang_values.specs.Addresses.{first_run, groups_text, joined, longest_run, shortened}

pub shortened_text : (groups : List ℕ) (place n : ℕ) → length groups ≡ 8 → place ≡ first_run (longest_run groups) groups
    → n ≡ longest_run groups → 2 ≤ n
    → groups_text groups ≡ (joined (take place groups) ++ 58 ∷ 58 ∷ []) ++ joined (take (8 - (place + n)) (drop (place + n) groups))
unfolding groups_text
shortened_text groups place n eight p l two =
    let run : nat_lt (longest_run groups) 2 ≡ false = grind (arith, nat_tests, l, two) in
    let short : length (drop (place + n) groups) ≤ 8 - (place + n) = omega (arith, length-drop (place + n) groups) in
    let cut : take (8 - (place + n)) (drop (place + n) groups) ≡ drop (place + n) groups = take_all _ _ short in
    ap (λ b. if b then joined groups else shortened (first_run (longest_run groups) groups) (longest_run groups) groups) run
    ∙ ap (λ k. shortened k (longest_run groups) groups) (sym p)
    ∙ ap (λ m. shortened place m groups) (sym l)
    ∙ sym (append_assoc (joined (take place groups)) (58 ∷ 58 ∷ []) (joined (drop (place + n) groups)))
    ∙ ap (λ t. (joined (take place groups) ++ 58 ∷ 58 ∷ []) ++ joined t) (sym cut)
