-- Counter blocks, and what those share that differ in the last octet alone.
use Rattle.std.proofs.Common.{◌≡◌, ℕ, ◌+◌, ◌/◌, ◌%◌, ◌<◌, List, [], ◌∷◌, ◌++◌, length, map, get_or, arith, ap, sym, ◌∙◌}
use Rattle.std.specs.Int.{w32, to_be_bytes}
use Rattle.aes_block.specs.Aes.{after_rounds}
use Rattle.aes_block.specs.Shared.{Shares, SharesWords, with_last}
use Rattle.aes_block.specs.declared.schedule.KeySchedule.{KeySchedule}
use Rattle.aes_block.specs.declared.shared.SharedRounds.{SharedRounds}
use Rattle.gcm_seal.specs.Gcm.{counter}
use Rattle.gcm_seal.proofs.Elements.{exploded}

-- twelve octets and four
abbrev joined : List ℕ → ℕ → ℕ → ℕ → ℕ → List ℕ
joined n a b c d = get_or n 0 0 ∷ get_or n 1 0 ∷ get_or n 2 0 ∷ get_or n 3 0 ∷ get_or n 4 0 ∷ get_or n 5 0 ∷ get_or n 6 0 ∷ get_or n 7 0
    ∷ get_or n 8 0 ∷ get_or n 9 0 ∷ get_or n 10 0 ∷ get_or n 11 0 ∷ a ∷ b ∷ c ∷ d ∷ []

counter_is : (nonce : List ℕ) (i : ℕ) → length nonce ≡ 12
    → counter nonce i ≡ joined nonce ((1 + i) / 16777216 % 256) ((1 + i) / 65536 % 256) ((1 + i) / 256 % 256) ((1 + i) % 256)
unfolding counter
counter_is nonce i long = ap (λ (n : List ℕ). n ++ to_be_bytes w32 (1 + i)) (exploded nonce 12 long)

with_last_is : (nonce : List ℕ) (i o : ℕ) → length nonce ≡ 12
    → with_last (counter nonce i) o ≡ joined nonce ((1 + i) / 16777216 % 256) ((1 + i) / 65536 % 256) ((1 + i) / 256 % 256) o
with_last_is nonce i o long = ap (λ (b : List ℕ). with_last b o) (counter_is nonce i long)

pub with_own_last : (nonce : List ℕ) (i o : ℕ) → length nonce ≡ 12 → o ≡ (1 + i) % 256 → with_last (counter nonce i) o ≡ counter nonce i
with_own_last nonce i o long e =
    with_last_is nonce i o long ∙ ap (joined nonce ((1 + i) / 16777216 % 256) ((1 + i) / 65536 % 256) ((1 + i) / 256 % 256)) e ∙ sym
    (counter_is nonce i long)

same_but_last : (nonce : List ℕ) (i o : ℕ) → length nonce ≡ 12 → 0 < (i + 2) % 256 → with_last (counter nonce i) o ≡ with_last
    (counter nonce (i + 1)) o
same_but_last nonce i o long some =
    let e0 : (1 + i) / 16777216 ≡ (1 + (i + 1)) / 16777216 = omega arith in
    let e1 : (1 + i) / 65536 ≡ (1 + (i + 1)) / 65536 = omega arith in
    let e2 : (1 + i) / 256 ≡ (1 + (i + 1)) / 256 = omega arith in
    with_last_is nonce i o long ∙ (λ j. joined nonce (e0 j % 256) (e1 j % 256) (e2 j % 256) o) ∙ sym (with_last_is nonce (i + 1) o long)

pub shares_next : (s : SharedRounds) (k : KeySchedule) (nonce : List ℕ) (i : ℕ) → length nonce ≡ 12 → 0 < (i + 2) % 256
    → Shares s k (counter nonce i) → Shares s k (counter nonce (i + 1))
unfolding SharesWords
shares_next s k nonce i long some held = λ o lt.
    held o lt ∙ ap (λ (b : List ℕ). after_rounds (map (to_be_bytes w32) k.words) b 2) (same_but_last nonce i o long some)
