-- What is held after a number was marked.
use Rattle.std.proofs.Common.{◌≡◌, ◌⊎◌, inl, inr, ℕ, ◌+◌, ◌-◌, ◌*◌, ◌/◌, ◌%◌, ◌<◌, ◌≤◌, ◌==◌, ◌&&◌, ◌||◌, nat_le, nat_lt, max, Bool, true, false, not, List, length, ap, ◌∙◌, if◌then◌else◌, arith}
use Rattle.std.proofs.lemmas.Bool.{cases_lt}
use Rattle.std.proofs.lemmas.Bool.Decides.{nat_tests}
use Rattle.replay_win.specs.Bitmap.{is_bit_set, is_held, is_one_bit, is_one_word, is_block_word, IsClearAhead}
use Rattle.replay_win.proofs.Blocks.{word-apart, bit-apart, blocks-apart}

-- ---- a number in the block of the greatest one, or below it

set-by : (top s k : ℕ) (one old : Bool) → (k ≤ max top s → one ≡ (s == k)) → (top < k → k / 64 ≡ top / 64 → old ≡ false) → s / 64 ≤ top / 64
    →
    (max top s < k) ⊎ (k ≤ max top s) → (top < k) ⊎ (k ≤ top) → (nat_le k (max top s) && (one || old)) ≡ ((s == k) || (nat_le k top && old))
set-by top s k one old is ahead low (inl far) t = grind (arith, nat_tests)
set-by top s k one old is ahead low (inr near) (inl above) = let e = is near in let o = ahead above (omega arith) in
    grind (arith, nat_tests, e, o)
set-by top s k one old is ahead low (inr near) (inr below) = let e = is near in grind (arith, nat_tests, e)

pub set-held : (old new : List ℕ) (n top s : ℕ) → n ≡ length old → 0 < n → top < s + 64 * (n - 1) → s / 64 ≤ top / 64 → IsClearAhead old top
    →
    ((k : ℕ) → is_bit_set new k ≡ (is_one_bit n s k || is_bit_set old k)) →
    (k : ℕ) → max top s < k + 64 * (n - 1) → is_held new (max top s) k ≡ ((s == k) || is_held old top k)
set-held old new n top s en some near low ahead bits k within =
    ap (λ b. nat_le k (max top s) && b) (bits k)
    ∙ set-by top s k (is_one_bit n s k) (is_bit_set old k) (λ low. bit-apart n s k (omega arith) (omega arith)) (ahead k) low
    (cases_lt (max top s) k) (cases_lt top k)

pub set-ahead : (old new : List ℕ) (n top s : ℕ) → 0 < n → top < s + 64 * (n - 1) → s / 64 ≤ top / 64 → IsClearAhead old top →
    ((k : ℕ) → is_bit_set new k ≡ (is_one_bit n s k || is_bit_set old k)) → IsClearAhead new (max top s)
set-ahead old new n top s some near low ahead bits k above same =
    let one = bit-apart n s k (omega arith) (omega arith) in
    let o = ahead k (omega arith) (omega arith) in
    let b = bits k in
    grind (arith, nat_tests, one, o, b)

-- ---- a number in a later block

own : (n : ℕ) → (n == n) ≡ true
own n = grind (arith, nat_tests)

begin-same : (top s k : ℕ) (word passed old : Bool) → top / 64 < s / 64 → word ≡ (s / 64 == k / 64) → s / 64 ≡ k / 64 → k ≤ s →
    (nat_le k s && (if word then s % 64 == k % 64 else (not passed && old))) ≡ ((s == k) || (nat_le k top && old))
begin-same top s k word passed old higher is same reach =
    let w : word ≡ true = grind (arith, nat_tests) in
    let above : top < k = omega arith in
    let bits : (s % 64 == k % 64) ≡ (s == k) = grind (arith, nat_tests) in
    rw w (grind (arith, nat_tests, bits))

begin-passed : (top s k first : ℕ) (word passed old : Bool) → top / 64 + 1 ≤ first → word ≡ (s / 64 == k / 64)
    → passed ≡ (nat_le first (k / 64) && nat_lt (k / 64) (s / 64)) →
    k / 64 < s / 64 → first ≤ k / 64 → (nat_le k s && (if word then s % 64 == k % 64 else (not passed && old))) ≡ ((s == k)
    || (nat_le k top && old))
begin-passed top s k first word passed old least is pass lower in_blocks =
    let w : word ≡ false = grind (arith, nat_tests) in
    let p : passed ≡ true = grind (arith, nat_tests) in
    let above : top < k = omega arith in
    rw (w, p) (grind (arith, nat_tests))

begin-kept : (top s k first : ℕ) (word passed old : Bool) → word ≡ (s / 64 == k / 64)
    → passed ≡ (nat_le first (k / 64) && nat_lt (k / 64) (s / 64)) →
    k / 64 < s / 64 → k / 64 < first → k / 64 ≤ top / 64 → (top < k → k / 64 ≡ top / 64 → old ≡ false) → (top < k) ⊎ (k ≤ top) →
    (nat_le k s && (if word then s % 64 == k % 64 else (not passed && old))) ≡ ((s == k) || (nat_le k top && old))
begin-kept top s k first word passed old is pass lower before near ahead (inl above) =
    let w : word ≡ false = grind (arith, nat_tests) in
    let o = ahead above (omega arith) in
    rw (w, o) (grind (arith, nat_tests))
begin-kept top s k first word passed old is pass lower before near ahead (inr below) =
    let w : word ≡ false = grind (arith, nat_tests) in
    let p : passed ≡ false = grind (arith, nat_tests) in
    rw (w, p) (grind (arith, nat_tests))

begin-by : (top s k first : ℕ) (word passed old : Bool) → top / 64 < s / 64 → top / 64 + 1 ≤ first →
    (k ≤ s → word ≡ (s / 64 == k / 64)) → (k ≤ s → passed ≡ (nat_le first (k / 64) && nat_lt (k / 64) (s / 64)))
    → (k ≤ s → k / 64 < first → k / 64 ≤ top / 64) →
    (top < k → k / 64 ≡ top / 64 → old ≡ false) → (s < k) ⊎ (k ≤ s) → (top < k) ⊎ (k ≤ top) → (k / 64 < s / 64) ⊎ (s / 64 ≤ k / 64)
    → (k / 64 < first) ⊎ (first ≤ k / 64) →
    (nat_le k s && (if word then s % 64 == k % 64 else (not passed && old))) ≡ ((s == k) || (nat_le k top && old))
begin-by top s k first word passed old higher least is pass near ahead (inl far) t u v =
    let none : nat_le k s ≡ false = grind (arith, nat_tests) in rw none (grind (arith, nat_tests))
begin-by top s k first word passed old higher least is pass near ahead (inr reach) t (inr same) v =
    begin-same top s k word passed old higher (is reach) (omega arith) reach
begin-by top s k first word passed old higher least is pass near ahead (inr reach) t (inl lower) (inr later) =
    begin-passed top s k first word passed old least (is reach) (pass reach) lower later
begin-by top s k first word passed old higher least is pass near ahead (inr reach) t (inl lower) (inl before) =
    begin-kept top s k first word passed old (is reach) (pass reach) lower before (near reach before) ahead t

-- the blocks between that of the greatest number and that of the new one, as far as they have a word
abbrev pub first-passed : ℕ → ℕ → ℕ → ℕ
first-passed n top s = max (top / 64 + 1) (s / 64 - (n - 1))

pub begin-held : (old new : List ℕ) (n top s first : ℕ) → first ≡ first-passed n top s → 0 < n → top / 64 < s / 64 → IsClearAhead old top →
    ((k : ℕ) → is_bit_set new k ≡ (if is_one_word n s k then s % 64 == k % 64
    else (not (is_block_word n first (s / 64 - first) (k / 64 % n)) && is_bit_set old k))) →
    (k : ℕ) → s < k + 64 * (n - 1) → is_held new s k ≡ ((s == k) || is_held old top k)
begin-held old new n top s first fe some higher ahead bits k within =
    ap (λ b. nat_le k s && b) (bits k)
    ∙ begin-by top s k first (is_one_word n s k) (is_block_word n first (s / 64 - first) (k / 64 % n)) (is_bit_set old k) higher
    (omega arith)
    (λ low. word-apart n (s / 64) (k / 64) (omega arith) (omega arith))
    (λ low.
    let b = blocks-apart n first (s / 64 - first) (k / 64) (omega arith) (omega arith) in
    let end : first + (s / 64 - first) ≡ s / 64 = omega arith in
    b ∙ ap (λ e. nat_le first (k / 64) && nat_lt (k / 64) e) end)
    (λ low before. omega arith) (ahead k) (cases_lt s k) (cases_lt top k) (cases_lt (k / 64) (s / 64)) (cases_lt (k / 64) first)

pub begin-ahead : (old new : List ℕ) (n s : ℕ) (rest : ℕ → Bool) →
    ((k : ℕ) → is_bit_set new k ≡ (if is_one_word n s k then s % 64 == k % 64 else rest k)) → IsClearAhead new s
begin-ahead old new n s rest bits k above same =
    let word : is_one_word n s k ≡ true = ap (λ b. s / 64 % n == b % n) same ∙ own (s / 64 % n) in
    let bit : (s % 64 == k % 64) ≡ false = grind (arith, nat_tests) in
    bits k ∙ (ap (λ w. if w then s % 64 == k % 64 else rest k) word ∙ bit)
