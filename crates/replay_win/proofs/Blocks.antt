-- Which numbers have one word or one bit.
use Rattle.std.proofs.Common.{◌≡◌, ◌⊎◌, inl, inr, ℕ, zero, suc, ◌+◌, ◌*◌, ◌/◌, ◌%◌, ◌<◌, ◌≤◌, ◌==◌, ◌&&◌, nat_le, nat_lt, Bool, true, false, refl, sym, ap, ◌∙◌, arith}
use Rattle.std.proofs.Math.Nat.{mul-add, mul-le-mul_left, div-add-mod}
use Rattle.std.proofs.lemmas.Bool.{cases_lt}
use Rattle.std.proofs.lemmas.Bool.Decides.{nat_tests}
use Rattle.replay_win.specs.Bitmap.{is_one_bit, is_block_word}

more : (n q r : ℕ) → q < r → n * q + n * 1 ≤ n * r
more n q r lt = let m = mul-le-mul_left {m = q + 1} {n = r} n (omega arith) in let d = mul-add n q 1 in omega (arith, m, d)

times-one : (n : ℕ) → n * 1 ≡ n
times-one n = omega arith

quotients : (n q r m a b : ℕ) → n * q + m ≡ a → n * r + m ≡ b → a ≤ b → b < a + n → (q < r) ⊎ (r ≤ q) → (r < q) ⊎ (q ≤ r) → q ≡ r
quotients n q r m a b ea eb le lt (inl p) o = absurd (let s = more n q r p in let t = times-one n in omega (arith, s, t, ea, eb))
quotients n q r m a b ea eb le lt (inr p) (inl o) = absurd (let s = more n r q o in let t = times-one n in omega (arith, s, t, ea, eb))
quotients n q r m a b ea eb le lt (inr p) (inr o) = omega arith

-- numbers that are less than n apart have one rest only where they are the same
pub rests-apart : (n a b : ℕ) → a ≤ b → b < a + n → a % n ≡ b % n → a ≡ b
rests-apart n a b le lt same =
    let ea = div-add-mod a n in
    let eb : n * (b / n) + a % n ≡ b = ap (λ m. n * (b / n) + m) same ∙ div-add-mod b n in
    let q = quotients n (a / n) (b / n) (a % n) a b ea eb le lt (cases_lt (a / n) (b / n)) (cases_lt (b / n) (a / n)) in
    sym ea ∙ (ap (λ x. n * x + a % n) q ∙ eb)

same-number : (a b : ℕ) → (a == b) ≡ true → a ≡ b
same-number a b e = grind (arith, nat_tests)

own-number : (a b : ℕ) → a ≡ b → (a == b) ≡ true
own-number a b e = grind (arith, nat_tests)

either-apart : (n a b : ℕ) → a < b + n → b < a + n → a % n ≡ b % n → (b < a) ⊎ (a ≤ b) → a ≡ b
either-apart n a b below above same (inl lt) = sym (rests-apart n b a (omega arith) below (sym same))
either-apart n a b below above same (inr le) = rests-apart n a b le above same

word-by : (n a b : ℕ) (s t : Bool) → a < b + n → b < a + n → (a % n == b % n) ≡ s → (a == b) ≡ t → s ≡ t
word-by n a b true t below above e f = sym (own-number a b (either-apart n a b below above (same-number (a % n) (b % n) e) (cases_lt b a)))
    ∙ f
word-by n a b false true below above e f = sym e ∙ own-number (a % n) (b % n) (ap (λ m. m % n) (same-number a b f))
word-by n a b false false below above e f = refl

-- the word of a block that is less than n away
pub word-apart : (n a b : ℕ) → a < b + n → b < a + n → (a % n == b % n) ≡ (a == b)
word-apart n a b below above = word-by n a b (a % n == b % n) (a == b) below above refl refl

parts : (a b : ℕ) → ((a / 64 == b / 64) && (a % 64 == b % 64)) ≡ (a == b)
parts a b = grind (arith, nat_tests)

-- the bit of a number whose block is less than n away
pub bit-apart : (n a b : ℕ) → a / 64 < b / 64 + n → b / 64 < a / 64 + n → is_one_bit n a b ≡ (a == b)
bit-apart n a b below above = ap (λ w. w && (a % 64 == b % 64)) (word-apart n (a / 64) (b / 64) below above) ∙ parts a b

-- the word of one of so many blocks from the first on, where none of them is n away
pub blocks-apart : (n first count block : ℕ) → first + count ≤ block + n → block < first + n →
    is_block_word n first count (block % n) ≡ (nat_le first block && nat_lt block (first + count))
blocks-apart n first zero block low high = grind (arith, nat_tests)
blocks-apart n first (suc count) block low high =
    let ih = blocks-apart n first count block (omega arith) high in
    let w = word-apart n block (first + count) (omega arith) (omega arith) in
    grind (arith, nat_tests, ih, w)
