-- The sum that completes an IPv4 header, and the ones' complement sum.
use Rattle.std.proofs.Common.{◌≡◌, ◌<◌, ◌≤◌, ◌↔◌, All, ℕ, [], ◌+◌, ◌-◌, ◌*◌, ◌/◌, ◌%◌, List, ◌∷◌, refl, arith}
use Rattle.std.proofs.lemmas.List.Elements.{All-head, All-tail}
use Rattle.ip_packet.specs.Ipv4.{add_back, ones_sum, words_sum, sum_for}

-- a number and its complement make a multiple
complement : (w : ℕ) → (w + (65535 - w % 65535) % 65535) % 65535 ≡ 0
complement w = omega arith

-- a header whose sixth word is the sum for the others
pub words_sum-complete : (a b c d e f g h i j : ℕ) (rest : List ℕ) → let sum = sum_for (a ∷ b ∷ c ∷ d ∷ e ∷ f ∷ g ∷ h ∷ i ∷ j ∷ 0 ∷ 0
    ∷ rest) in words_sum (a ∷ b ∷ c ∷ d ∷ e ∷ f ∷ g ∷ h ∷ i ∷ j ∷ (sum / 256) ∷ (sum % 256) ∷ rest) % 65535 ≡ 0
words_sum-complete a b c d e f g h i j rest =
    let empty : ℕ = words_sum (a ∷ b ∷ c ∷ d ∷ e ∷ f ∷ g ∷ h ∷ i ∷ j ∷ 0 ∷ 0 ∷ rest) in
    let sum : ℕ = sum_for (a ∷ b ∷ c ∷ d ∷ e ∷ f ∷ g ∷ h ∷ i ∷ j ∷ 0 ∷ 0 ∷ rest) in
    let split : words_sum (a ∷ b ∷ c ∷ d ∷ e ∷ f ∷ g ∷ h ∷ i ∷ j ∷ (sum / 256) ∷ (sum % 256) ∷ rest) ≡ empty + sum = omega arith in
    rw split (complement empty)

-- a sum with carries added back, of what sums to w
record Folds (w s : ℕ) : Type 0 where
  bound : s ≤ 65535
  same : s % 65535 ≡ w % 65535
  some : 0 < w → 0 < s

folds-more : (word w s : ℕ) → word < 65536 → Folds w s → Folds (word + w) (add_back word s)
folds-more word w s fits f = record { bound = omega arith; same = omega arith; some = grind arith }

folds : (o : List ℕ) → All (λ x. x < 256) o → Folds (words_sum o) (ones_sum o)
folds [] octets = record { bound = omega arith; same = refl; some = λ h. h }
folds (a ∷ []) octets =
    let high : a < 256 = All-head (λ x. x < 256) a [] octets in
    record { bound = omega arith; same = omega arith; some = λ h. omega arith }
folds (a ∷ b ∷ o) octets =
    let second = All-tail (λ x. x < 256) a (b ∷ o) octets in
    let high : a < 256 = All-head (λ x. x < 256) a (b ∷ o) octets in
    let low : b < 256 = All-head (λ x. x < 256) b o second in
    folds-more (256 * a + b) (words_sum o) (ones_sum o) (omega arith) (folds o (All-tail (λ x. x < 256) b o second))

pub ones_sum-ones : (o : List ℕ) → All (λ x. x < 256) o → 0 < words_sum o → (ones_sum o ≡ 65535) ↔ (words_sum o % 65535 ≡ 0)
ones_sum-ones o octets some = let f = folds o octets in let here = f.some some in (λ e. omega arith, λ e. omega arith)

pub sum_for-ones : (o : List ℕ) → All (λ x. x < 256) o → 0 < words_sum o → sum_for o ≡ 65535 - ones_sum o
sum_for-ones o octets some = let f = folds o octets in let here = f.some some in omega arith
