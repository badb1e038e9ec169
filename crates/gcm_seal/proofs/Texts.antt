-- Texts.
use Rattle.std.proofs.Common.{◌≡◌, ℕ, ◌+◌, ◌-◌, ◌*◌, ◌/◌, ◌%◌, ◌<◌, ◌≤◌, List, length, map, get_or, bit_xor, arith, ap, sym, ◌∙◌}
use Rattle.std.specs.List.{range_with_len}
use Rattle.std.specs.Prelude.{slice_index}
use Rattle.std.proofs.lemmas.Grind.{same_number_lists}
use Rattle.std.proofs.lemmas.List.FromFn.{get_or-map-range_with_len, length-map-range_with_len}
use lib.Bits.{xor_assoc, xor_self, xor_zero_r}
use Rattle.gcm_seal.specs.Gcm.{counter, sealed, stream}

pub sealed_is : (e : List ℕ → List ℕ) (nonce old new : List ℕ) → length new ≡ length old
    → ((k : ℕ) → k < length old → get_or new k 0 ≡ bit_xor (get_or old k 0) (stream e nonce k)) → new ≡ sealed e nonce old
unfolding sealed
sealed_is e nonce old new same held =
    let f : ℕ → ℕ = λ k. bit_xor (slice_index old k) (stream e nonce k) in
    let n : ℕ = length old in
    same_number_lists new (map f (range_with_len 0 n)) (same ∙ sym (length-map-range_with_len f 0 n))
    (λ k h. held k (omega arith) ∙ sym (get_or-map-range_with_len f 0 n k k 0 (omega arith) (omega arith)))

pub sealed_twice : (e : List ℕ → List ℕ) (nonce p : List ℕ) → p ≡ sealed e nonce (sealed e nonce p)
unfolding sealed
sealed_twice e nonce p =
    let f : ℕ → ℕ = λ k. bit_xor (slice_index p k) (stream e nonce k) in
    let n : ℕ = length p in
    let once : List ℕ = map f (range_with_len 0 n) in
    let long : length once ≡ n = length-map-range_with_len f 0 n in
    let at : (k : ℕ) → k < n → get_or once k 0 ≡ f k = λ k h. get_or-map-range_with_len f 0 n k k 0 (omega arith) (omega arith) in
    sealed_is e nonce once p (sym long) (λ k h.
    let s : ℕ = stream e nonce k in
    let x : ℕ = slice_index p k in
    sym (ap (λ (y : ℕ). bit_xor y s) (at k (omega arith)) ∙ xor_assoc x s s ∙ ap (bit_xor x) (xor_self s) ∙ xor_zero_r x))

-- the stream of the block after n whole ones
pub rest_stream : (e : List ℕ → List ℕ) (nonce block j : List ℕ) (n k : ℕ) → block ≡ e j → j ≡ counter nonce (n + 1) → 16 * n ≤ k
    → k < 16 * n + 16
    → get_or block (k - 16 * n) 0 ≡ stream e nonce k
rest_stream e nonce block j n k hb hj le lt =
    let hi : n ≡ k / 16 = omega arith in
    let lo : k - 16 * n ≡ k % 16 = omega arith in
    (λ i. get_or (hb i) (lo i) 0) ∙ ap (λ (l : List ℕ). get_or (e l) (k % 16) 0) (hj ∙ ap (λ (m : ℕ). counter nonce (m + 1)) hi)
