-- The first octets of a list.
use Rattle.std.proofs.Common.{◌≡◌, ℕ, zero, suc, List, [], ◌∷◌, ◌++◌, take, refl, ap, ◌∙◌, append_assoc}

pub take_front : (k : ℕ) (xs ys : List ℕ) → take k (take k xs ++ ys) ≡ take k (xs ++ ys)
take_front zero xs ys = refl
take_front (suc k) [] ys = refl
take_front (suc k) (x ∷ xs) ys = ap (λ l. x ∷ l) (take_front k xs ys)

-- one more message
pub take_more_octets : (k : ℕ) (new old message rest all : List ℕ) → take k (old ++ (message ++ rest)) ≡ all → new ≡ take k (old ++ message)
    → take k (new ++ rest) ≡ all
take_more_octets k new old message rest all is e =
    ap (λ l. take k (l ++ rest)) e ∙ take_front k (old ++ message) rest ∙ ap (take k) (append_assoc old message rest) ∙ is
