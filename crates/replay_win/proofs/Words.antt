-- Bits of words that are written.
use Rattle.std.proofs.Common.{◌≡◌, ℕ, zero, suc, ◌+◌, ◌-◌, ◌*◌, ◌/◌, ◌%◌, ◌^◌, ◌<◌, ◌≤◌, ◌==◌, ◌&&◌, ◌||◌, nat_le, Bool, true, false, not, List, length, replicate, refl, sym, ap, ◌∙◌, if◌then◌else◌, slice_index, slice_set, bit_or, w64, arith}
use Rattle.std.specs.Int.{bit_at}
use Rattle.std.proofs.lemmas.List.{length-set, get_or-set_same, get_or-set_other}
use Rattle.std.proofs.lemmas.Nat.{one_shl}
use Rattle.std.proofs.lemmas.Nat.Bits.{bit_at_set_same, bit_at_set_other, bit_at-pow_same, bit_at-pow_other, bit_at-zero}
use Rattle.std.proofs.lemmas.Bool.Decides.{nat_tests}
use Rattle.replay_win.specs.Bitmap.{is_bit_set, is_one_word, is_one_bit, is_block_word, is_held}

same-number : (a b : ℕ) → (a == b) ≡ true → a ≡ b
same-number a b e = grind (arith, nat_tests)

other-number : (a b : ℕ) → (a == b) ≡ false → b ≡ a → ⊥
other-number a b e f = grind (arith, nat_tests)

own-number : (a : ℕ) → (a == a) ≡ true
own-number a = grind (arith, nat_tests)

-- a word with one more bit
with-bit-by : (w a b : ℕ) (same : Bool) → a < 64 → b < 64 → (a == b) ≡ same → (bit_at (bit_or w (1 * 2 ^ a % 18446744073709551616)) b == 1)
    ≡ (same || (bit_at w b == 1))
with-bit-by w a b true low high e =
    let is = same-number a b e in
    let here = bit_at_set_same w64 w a low in
    ap (λ c. bit_at (bit_or w (1 * 2 ^ a % 18446744073709551616)) c == 1) (sym is) ∙ ap (λ n. n == 1) here
with-bit-by w a b false low high e = ap (λ n. n == 1) (bit_at_set_other w64 w a low b (other-number a b e))

-- a word with this bit alone
one-bit-by : (a b : ℕ) (same : Bool) → a < 64 → (a == b) ≡ same → (bit_at (1 * 2 ^ a % 18446744073709551616) b == 1) ≡ same
one-bit-by a b true low e =
    let is = same-number a b e in
    ap (λ n. bit_at n b == 1) (one_shl a 64 low) ∙ (ap (λ c. bit_at (2 ^ a) c == 1) (sym is) ∙ ap (λ n. n == 1) (bit_at-pow_same a))
one-bit-by a b false low e = ap (λ n. bit_at n b == 1) (one_shl a 64 low) ∙ ap (λ n. n == 1) (bit_at-pow_other a b (other-number a b e))

-- the words after one of them was written
written-by : (ws : List ℕ) (i j v : ℕ) (same : Bool) → i < length ws → (i == j) ≡ same
    → slice_index (slice_set ws i v) j ≡ (if same then v else slice_index ws j)
written-by ws i j v true low e = ap (slice_index (slice_set ws i v)) (sym (same-number i j e)) ∙ get_or-set_same ws i v 0 low
written-by ws i j v false low e = get_or-set_other ws i j v 0 (other-number i j e)

-- the bit of a number among the words after one of them was written
bit-written-by : (ws : List ℕ) (i v k : ℕ) (same : Bool) → i < length ws → (i == k / 64 % length ws) ≡ same →
    is_bit_set (slice_set ws i v) k ≡ (if same then bit_at v (k % 64) == 1 else is_bit_set ws k)
bit-written-by ws i v k true low e =
    ap (λ n. bit_at (slice_index (slice_set ws i v) (k / 64 % n)) (k % 64) == 1) (length-set ws i v)
    ∙ ap (λ w. bit_at w (k % 64) == 1) (written-by ws i (k / 64 % length ws) v true low e)
bit-written-by ws i v k false low e =
    ap (λ n. bit_at (slice_index (slice_set ws i v) (k / 64 % n)) (k % 64) == 1) (length-set ws i v)
    ∙ ap (λ w. bit_at w (k % 64) == 1) (written-by ws i (k / 64 % length ws) v false low e)

low-bits : (k : ℕ) → k % 64 < 64
low-bits k = omega arith

-- one more bit
bit-set-by : (ws : List ℕ) (i s k : ℕ) (same one : Bool) → i < length ws → (i == k / 64 % length ws) ≡ same → (s % 64 == k % 64) ≡ one →
    is_bit_set (slice_set ws i (bit_or (slice_index ws i) (1 * 2 ^ (s % 64) % 18446744073709551616))) k ≡ ((same && one) || is_bit_set ws k)
bit-set-by ws i s k true one low e f =
    bit-written-by ws i (bit_or (slice_index ws i) (1 * 2 ^ (s % 64) % 18446744073709551616)) k true low e
    ∙ (with-bit-by (slice_index ws i) (s % 64) (k % 64) one (low-bits s) (low-bits k) f
    ∙ ap (λ j. one || (bit_at (slice_index ws j) (k % 64) == 1)) (same-number i (k / 64 % length ws) e))
bit-set-by ws i s k false one low e f = bit-written-by ws i (bit_or (slice_index ws i) (1 * 2 ^ (s % 64) % 18446744073709551616)) k false
    low e

pub bit-set : (ws : List ℕ) (i s k : ℕ) → i < length ws → i ≡ s / 64 % length ws →
    is_bit_set (slice_set ws i (bit_or (slice_index ws i) (1 * 2 ^ (s % 64) % 18446744073709551616))) k ≡ (is_one_bit (length ws) s k
    || is_bit_set ws k)
bit-set ws i s k low is =
    bit-set-by ws i s k (i == k / 64 % length ws) (s % 64 == k % 64) low refl refl
    ∙ ap (λ j. ((j == k / 64 % length ws) && (s % 64 == k % 64)) || is_bit_set ws k) is

-- a word that has one bit alone
pub bit-begun : (ws : List ℕ) (i s k : ℕ) → i < length ws → i ≡ s / 64 % length ws →
    is_bit_set (slice_set ws i (1 * 2 ^ (s % 64) % 18446744073709551616)) k ≡ (if is_one_word (length ws) s k then s % 64 == k % 64
    else is_bit_set ws k)
bit-begun ws i s k low is =
    bit-written-by ws i (1 * 2 ^ (s % 64) % 18446744073709551616) k (i == k / 64 % length ws) low refl
    ∙ (ap (λ b. if i == k / 64 % length ws then b else is_bit_set ws k) (one-bit-by (s % 64) (k % 64) (s % 64 == k % 64) (low-bits s) refl)
    ∙ ap (λ j. if j == k / 64 % length ws then s % 64 == k % 64 else is_bit_set ws k) is)

-- a word without a bit
bit-cleared-by : (ws : List ℕ) (i k : ℕ) (same : Bool) → i < length ws → (i == k / 64 % length ws) ≡ same
    → is_bit_set (slice_set ws i 0) k ≡ (not same && is_bit_set ws k)
bit-cleared-by ws i k true low e = bit-written-by ws i 0 k true low e ∙ ap (λ n. n == 1) (bit_at-zero (k % 64))
bit-cleared-by ws i k false low e = bit-written-by ws i 0 k false low e

pub bit-cleared : (ws : List ℕ) (i k : ℕ) → i < length ws → is_bit_set (slice_set ws i 0) k ≡ (not (i == k / 64 % length ws)
    && is_bit_set ws k)
bit-cleared ws i k low = bit-cleared-by ws i k (i == k / 64 % length ws) low refl

-- one block more
pub block-more : (n first block i : ℕ) → first ≤ block
    → is_block_word n first (block + 1 - first) i ≡ (is_block_word n first (block - first) i || (i == block % n))
block-more n first block i le =
    let next : block + 1 - first ≡ suc (block - first) = omega arith in
    let here : first + (block - first) ≡ block = omega arith in
    ap (λ c. is_block_word n first c i) next ∙ ap (λ b. is_block_word n first (block - first) i || (i == b % n)) here

-- ---- words of zeros

zero-word : (n i : ℕ) → slice_index (replicate n 0) i ≡ 0
zero-word zero i = refl
zero-word (suc n) zero = refl
zero-word (suc n) (suc i) = zero-word n i

none-set : (n k : ℕ) → is_bit_set (replicate n 0) k ≡ false
none-set n k = ap (λ w. bit_at w (k % 64) == 1) (zero-word n (k / 64 % length (replicate n 0))) ∙ ap (λ b. b == 1) (bit_at-zero (k % 64))

and-none : (a b : Bool) → b ≡ false → (a && b) ≡ false
and-none true b e = e
and-none false b e = refl

pub none-held : (n : ℕ) (words : List ℕ) (top k : ℕ) → words ≡ replicate n 0 → is_held words top k ≡ false
none-held n words top k e = and-none (nat_le k top) (is_bit_set words k) (ap (λ ws. is_bit_set ws k) e ∙ none-set n k)
