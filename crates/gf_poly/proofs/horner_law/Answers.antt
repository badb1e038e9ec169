use Rattle.std.proofs.Common.{ℕ, ◌^◌, ◌<◌, List, [], ◌∷◌, All, arith}
use lib.Lanes.{Each1}
use Rattle.std.proofs.lemmas.List.Elements.{All-tail}
use Rattle.gf_poly.proofs.Field.{power_sum-append}
use Rattle.gf_poly.proofs.horner_law.Goals as goal

each : (n : ℕ) (xs : List ℕ) → All (λ y. y < n) xs → Each1 (λ y. y < n) xs
each n [] all = tt
each n (x ∷ xs) all = (all 0 0 (omega arith), each n xs (All-tail (λ y. y < n) x xs all))

pub returns : goal.returns
returns c = λ d low h x xs small some fits lt all. power_sum-append d low small some h xs x fits (each (2 ^ d) xs all) lt
