-- Reversed octets, elements and blocks.
use Rattle.std.proofs.Common.{◌≡◌, ℕ, zero, suc, ◌+◌, ◌-◌, ◌*◌, ◌/◌, ◌%◌, ◌^◌, ◌<◌, ◌≤◌, List, [], ◌∷◌, ◌++◌, length, refl, bit_xor, arith, lit<, map, get_or, pow_pos, pow-add, ap, sym, ◌∙◌, add-one, add-zero, zero-add, append_assoc, append-nil}
use Rattle.std.specs.Prelude.{slice_index}
use Rattle.std.proofs.lemmas.Nat.{shr-shr}
use Rattle.std.proofs.Math.Nat.{mod-eq_of_lt, pow-le-pow_right, pow-suc}
use Rattle.std.proofs.lemmas.Grind.{same_number_lists}
use Rattle.std.proofs.lemmas.List.FromFn.{get_or-map-range_with_len, length-map-range_with_len}
use Rattle.std.specs.List.{range_with_len}
use Rattle.std.specs.Int.{w128, byte_at, bytes_low_first, from_le_bytes, to_le_bytes}
use lib.Lanes.{Each1}
use Rattle.gf_poly.specs.Poly.{from_bits, multiply, power_sum, times_x}
use Rattle.gf_poly.proofs.Field.{iterate, iterate-pow, multiply-double, multiply-more, multiply-parts, multiply-zero, power_sum-append, times_x-high, times_x-low}
use Rattle.gcm_seal.specs.Gcm.{add_blocks, all_blocks, block_at, block_of, blocks, counter, element, ghash, hash_key, lengths, reversed, tag_of}

pub low_fits : 0x87 < 2 ^ 128
low_fits = lit< tt

pub d_pos : 0 < 128
d_pos = lit< tt

pub doubled_low : (a : ℕ) → a < 2 ^ 127 → a * 2 ≡ times_x 128 0x87 a
doubled_low a h = omega (arith, times_x-low 128 0x87 low_fits a (omega arith))

pub doubled_high : (a : ℕ) → 2 ^ 127 ≤ a → a < 2 ^ 128 → bit_xor ((a - 2 ^ 127) * 2) 0x87 ≡ times_x 128 0x87 a
doubled_high a h k =
    let e : (a - 2 ^ 127) * 2 ≡ 2 * a - 2 ^ 128 = omega arith in
    ap (λ (x : ℕ). bit_xor x 0x87) e ∙ sym (times_x-high 128 0x87 low_fits a (omega arith) k)

-- ---- a list of a known length, element by element
pub exploded : (l : List ℕ) (n : ℕ) → length l ≡ n → l ≡ map (λ k. get_or l k 0) (range_with_len 0 n)
exploded l n e =
    same_number_lists l (map (λ k. get_or l k 0) (range_with_len 0 n)) (e ∙ sym (length-map-range_with_len (λ k. get_or l k 0) 0 n))
    (λ k h. sym (get_or-map-range_with_len (λ k. get_or l k 0) 0 n k k 0 (omega arith) (omega arith)))

-- two lists of eight
abbrev pub joined : List ℕ → List ℕ → List ℕ
joined a b = get_or a 0 0 ∷ get_or a 1 0 ∷ get_or a 2 0 ∷ get_or a 3 0 ∷ get_or a 4 0 ∷ get_or a 5 0 ∷ get_or a 6 0 ∷ get_or a 7 0
    ∷ get_or b 0 0 ∷ get_or b 1 0 ∷ get_or b 2 0 ∷ get_or b 3 0 ∷ get_or b 4 0 ∷ get_or b 5 0 ∷ get_or b 6 0 ∷ get_or b 7 0 ∷ []

pub joined_is : (a b : List ℕ) → length a ≡ 8 → length b ≡ 8 → joined a b ≡ a ++ b
joined_is a b p q =
    let f = exploded a 8 p in
    let g = exploded b 8 q in
    sym (ap (λ (x : List ℕ). x ++ b) f ∙ ap (λ (x : List ℕ). map (λ k. get_or a k 0) (range_with_len 0 8) ++ x) g)

halves_of : (f : ℕ → ℕ) (at : ℕ) → joined (map (λ j. f (at + j)) (range_with_len 0 8)) (map (λ j. f (at + 8 + j)) (range_with_len 0 8)) ≡
    map (λ j. f (at + j)) (range_with_len 0 16)
halves_of f at =
    let e0 : at + 8 + 0 ≡ at + 8 = omega arith in
    let e1 : at + 8 + 1 ≡ at + 9 = omega arith in
    let e2 : at + 8 + 2 ≡ at + 10 = omega arith in
    let e3 : at + 8 + 3 ≡ at + 11 = omega arith in
    let e4 : at + 8 + 4 ≡ at + 12 = omega arith in
    let e5 : at + 8 + 5 ≡ at + 13 = omega arith in
    let e6 : at + 8 + 6 ≡ at + 14 = omega arith in
    let e7 : at + 8 + 7 ≡ at + 15 = omega arith in
    cc

pub joined_halves : (f : ℕ → ℕ) (at : ℕ) (low high : List ℕ) → low ≡ map (λ j. f (at + j)) (range_with_len 0 8)
    → high ≡ map (λ j. f (at + 8 + j)) (range_with_len 0 8) → joined low high ≡ map (λ j. f (at + j)) (range_with_len 0 16)
joined_halves f at low high p q = (λ i. joined (p i) (q i)) ∙ halves_of f at

pub element_is : (xs : List ℕ) (at : ℕ) → from_le_bytes w128 (map (λ j. reversed (slice_index xs (at + j))) (range_with_len 0 16)) ≡ element
    (λ j. slice_index xs (at + j))
unfolding element
element_is xs at = refl

pub block_of_is : (p : ℕ) → map (λ j. reversed (slice_index (to_le_bytes w128 p) (0 + j))) (range_with_len 0 16) ≡ block_of p
unfolding block_of
block_of_is p = refl

-- ---- the table
abbrev pub of_h : ℕ → ℕ → ℕ
of_h h a = multiply 128 0x87 a h

pub row_is : (p q r s k h : ℕ) → h < 2 ^ 128 → k + 4 ≤ 128 → p ≡ of_h h (2 ^ k) → q ≡ times_x 128 0x87 p → r ≡ times_x 128 0x87 q
    → s ≡ times_x 128 0x87 r
    → 0 ∷ p ∷ q ∷ bit_xor q p ∷ r ∷ bit_xor r p ∷ bit_xor r q ∷ bit_xor r (bit_xor q p) ∷ s ∷ bit_xor s p ∷ bit_xor s q
    ∷ bit_xor s (bit_xor q p)
    ∷ bit_xor s r ∷ bit_xor s (bit_xor r p) ∷ bit_xor s (bit_xor r q) ∷ bit_xor s (bit_xor r (bit_xor q p)) ∷ []
    ≡ map (λ n. of_h h (n * 2 ^ k)) (range_with_len 0 16)
row_is p q r s k h fits le hp hq hr hs =
    let w : 16 * 2 ^ k ≤ 2 ^ 128 = omega (arith, pow-add 2 4 k, pow-le-pow_right {n = 2} (omega arith) {i = 4 + k} {j = 128} (omega arith))
    in
    let pos : 0 < 2 ^ k = pow_pos k in
    let m : ℕ → ℕ = λ n. of_h h (n * 2 ^ k) in
    let zero_is : 0 ≡ m 0 = sym (ap (of_h h) (let z : 0 * 2 ^ k ≡ 0 = omega arith in z) ∙ multiply-zero 128 0x87 low_fits h) in
    let e1 : p ≡ m 1 = hp ∙ ap (of_h h) (let z : 2 ^ k ≡ 1 * 2 ^ k = omega arith in z) in
    let e2 : q ≡ m 2 = hq ∙ ap (times_x 128 0x87) e1 ∙ sym (multiply-double 128 0x87 low_fits (1 * 2 ^ k) h (omega arith))
    ∙ ap (of_h h) (let z : 2 * (1 * 2 ^ k) ≡ 2 * 2 ^ k = omega arith in z) in
    let e4 : r ≡ m 4 = hr ∙ ap (times_x 128 0x87) e2 ∙ sym (multiply-double 128 0x87 low_fits (2 * 2 ^ k) h (omega arith))
    ∙ ap (of_h h) (let z : 2 * (2 * 2 ^ k) ≡ 4 * 2 ^ k = omega arith in z) in
    let e8 : s ≡ m 8 = hs ∙ ap (times_x 128 0x87) e4 ∙ sym (multiply-double 128 0x87 low_fits (4 * 2 ^ k) h (omega arith))
    ∙ ap (of_h h) (let z : 2 * (4 * 2 ^ k) ≡ 8 * 2 ^ k = omega arith in z) in
    let e3 : bit_xor q p ≡ m 3 = (λ i. bit_xor (e2 i) (e1 i)) ∙ multiply-parts 128 0x87 low_fits 2 1 k h (omega arith) (omega arith) in
    let e5 : bit_xor r p ≡ m 5 = (λ i. bit_xor (e4 i) (e1 i)) ∙ multiply-parts 128 0x87 low_fits 4 1 k h (omega arith) (omega arith) in
    let e6 : bit_xor r q ≡ m 6 = (λ i. bit_xor (e4 i) (e2 i)) ∙ multiply-parts 128 0x87 low_fits 4 2 k h (omega arith) (omega arith) in
    let e7 : bit_xor r (bit_xor q p) ≡ m 7 = (λ i. bit_xor (e4 i) (e3 i)) ∙ multiply-parts 128 0x87 low_fits 4 3 k h (omega arith)
    (omega arith) in
    let e9 : bit_xor s p ≡ m 9 = (λ i. bit_xor (e8 i) (e1 i)) ∙ multiply-parts 128 0x87 low_fits 8 1 k h (omega arith) (omega arith) in
    let e10 : bit_xor s q ≡ m 10 = (λ i. bit_xor (e8 i) (e2 i)) ∙ multiply-parts 128 0x87 low_fits 8 2 k h (omega arith) (omega arith) in
    let e11 : bit_xor s (bit_xor q p) ≡ m 11 = (λ i. bit_xor (e8 i) (e3 i)) ∙ multiply-parts 128 0x87 low_fits 8 3 k h (omega arith)
    (omega arith) in
    let e12 : bit_xor s r ≡ m 12 = (λ i. bit_xor (e8 i) (e4 i)) ∙ multiply-parts 128 0x87 low_fits 8 4 k h (omega arith) (omega arith) in
    let e13 : bit_xor s (bit_xor r p) ≡ m 13 = (λ i. bit_xor (e8 i) (e5 i)) ∙ multiply-parts 128 0x87 low_fits 8 5 k h (omega arith)
    (omega arith) in
    let e14 : bit_xor s (bit_xor r q) ≡ m 14 = (λ i. bit_xor (e8 i) (e6 i)) ∙ multiply-parts 128 0x87 low_fits 8 6 k h (omega arith)
    (omega arith) in
    let e15 : bit_xor s (bit_xor r (bit_xor q p)) ≡ m 15 = (λ i. bit_xor (e8 i) (e7 i))
    ∙ multiply-parts 128 0x87 low_fits 8 7 k h (omega arith) (omega arith) in
    (λ i. zero_is i ∷ e1 i ∷ e2 i ∷ e3 i ∷ e4 i ∷ e5 i ∷ e6 i ∷ e7 i ∷ e8 i ∷ e9 i ∷ e10 i ∷ e11 i ∷ e12 i ∷ e13 i ∷ e14 i ∷ e15 i ∷ [])

-- the rows' first entries
pub power_at : (h i : ℕ) → ℕ
power_at h i = iterate 128 0x87 low_fits (4 * i) h

pub power_at_first : (h : ℕ) → h ≡ power_at h 0
unfolding power_at iterate
power_at_first h = refl

pub power_at_next : (h i p q : ℕ) → p ≡ power_at h i → q ≡ times_x 128 0x87 (times_x 128 0x87 (times_x 128 0x87 (times_x 128 0x87 p)))
    → q ≡ power_at h (i + 1)
unfolding power_at iterate
power_at_next h i p q hp hq =
    let e : 4 * (i + 1) ≡ suc (suc (suc (suc (4 * i)))) = omega arith in
    hq ∙ ap (λ (x : ℕ). times_x 128 0x87 (times_x 128 0x87 (times_x 128 0x87 (times_x 128 0x87 x)))) hp
    ∙ sym (ap (λ (n : ℕ). iterate 128 0x87 low_fits n h) e)

pub power_at_is : (h i p : ℕ) → h < 2 ^ 128 → i < 32 → p ≡ power_at h i → p ≡ of_h h (2 ^ (4 * i))
unfolding power_at
power_at_is h i p fits lt e = e ∙ iterate-pow 128 0x87 low_fits (4 * i) h fits (omega arith)

-- entry k, where n x^(4 i) h is known
pub entry_at : (h i n k v : ℕ) (row : List ℕ) → n < 16 → k ≡ 16 * i + n → row ≡ map (λ m. of_h h (m * 2 ^ (4 * i))) (range_with_len 0 16)
    → v ≡ get_or row n 0
    → v ≡ of_h h (k % 16 * 2 ^ (4 * (k / 16)))
entry_at h i n k v row lt e held is =
    let hi : k / 16 ≡ i = omega arith in
    let lo : k % 16 ≡ n = omega arith in
    is ∙ ap (λ (l : List ℕ). get_or l n 0) held ∙ get_or-map-range_with_len (λ m. of_h h (m * 2 ^ (4 * i))) 0 16 n n 0 lt (omega arith)
    ∙ sym ((λ j. of_h h (lo j * 2 ^ (4 * (hi j)))))

-- ---- the product, four coefficients at a time
pub none_multiplied : (y h : ℕ) → 0 ≡ of_h h (y % 2 ^ (8 * 0))
none_multiplied y h = sym (ap (of_h h) (let z : y % 2 ^ (8 * 0) ≡ 0 = omega arith in z) ∙ multiply-zero 128 0x87 low_fits h)

pow_of_256 : (j : ℕ) → 256 ^ j ≡ 2 ^ (8 * j)
pow_of_256 zero = refl
pow_of_256 (suc j) =
    let e : 8 * suc j ≡ 8 + 8 * j = omega arith in
    let d : 2 ^ 8 ≡ 256 = refl in
    pow-suc 256 j ∙ omega (arith, pow_of_256 j, pow-add 2 8 (8 * j), ap (λ (m : ℕ). 2 ^ m) e)

byte_is : (y i : ℕ) → byte_at i y ≡ y / 2 ^ (8 * i) % 256
byte_is y zero = omega arith
byte_is y (suc i) = ap (λ (m : ℕ). y / m % 256) (pow_of_256 (suc i))

bytes_at : (a k y i : ℕ) → i < k → get_or (bytes_low_first a k y) i 0 ≡ byte_at (a + i) y
bytes_at a zero y i lt = absurd (omega arith)
bytes_at a (suc k) y zero lt = ap (λ (m : ℕ). byte_at m y) (sym (add-zero a))
bytes_at a (suc k) y (suc i) lt = bytes_at (suc a) k y i (omega arith) ∙ ap (λ (m : ℕ). byte_at m y) (let e : suc a + i ≡ a + suc i =
    omega arith in e)

-- octet i of y, counted from the lowest
pub octet_at : (y i : ℕ) → i < 16 → get_or (to_le_bytes w128 y) i 0 ≡ y / 2 ^ (8 * i) % 256
octet_at y i lt = bytes_at 0 16 y i lt ∙ ap (λ (m : ℕ). byte_at m y) (zero-add i) ∙ byte_is y i

pub four_more : (y h i z v k n : ℕ) → y < 2 ^ 128 → n ≡ y / 2 ^ (4 * i) % 16 → k ≡ 16 * i + n → z ≡ of_h h (y % 2 ^ (4 * i))
    → v ≡ of_h h (k % 16 * 2 ^ (4 * (k / 16)))
    → bit_xor z v ≡ of_h h (y % 2 ^ (4 * (i + 1)))
four_more y h i z v k n fits hn hk hz hv =
    let hi : k / 16 ≡ i = omega arith in
    let lo : k % 16 ≡ y / 2 ^ (4 * i) % 2 ^ 4 = omega arith in
    let e : 4 + 4 * i ≡ 4 * (i + 1) = omega arith in
    (λ j. bit_xor (hz j) (hv j)) ∙ (λ j. bit_xor (of_h h (y % 2 ^ (4 * i))) (of_h h (lo j * 2 ^ (4 * (hi j)))))
    ∙ multiply-more 128 0x87 low_fits y h 4 (4 * i) fits ∙ ap (λ (m : ℕ). of_h h (y % 2 ^ m)) e

-- eight coefficients more, by two entries of the table
pub eight_more : (y h i z o v v' : ℕ) → o ≡ y / 2 ^ (8 * i) % 256 → y < 2 ^ 128 → z ≡ of_h h (y % 2 ^ (8 * i))
    → v ≡ of_h h ((32 * i + o % 16) % 16 * 2 ^ (4 * ((32 * i + o % 16) / 16)))
    → v' ≡ of_h h ((32 * i + 16 + o / 16) % 16 * 2 ^ (4 * ((32 * i + 16 + o / 16) / 16)))
    → bit_xor (bit_xor z v) v' ≡ of_h h (y % 2 ^ (8 * (i + 1)))
eight_more y h i z o v v' is fits hz hv hv' =
    let start : 8 * i ≡ 4 * (2 * i) = omega arith in
    let end : 4 * (2 * i + 1 + 1) ≡ 8 * (i + 1) = omega arith in
    let half : y / 2 ^ (4 * (2 * i + 1)) ≡ y / 2 ^ (8 * i) / 2 ^ 4 = ap (λ (n : ℕ). y / 2 ^ n) (let e : 4 * (2 * i + 1) ≡ 8 * i + 4 =
    omega arith in e) ∙ sym (shr-shr y (8 * i) 4) in
    let low : o % 16 ≡ y / 2 ^ (4 * (2 * i)) % 16 = ap (λ (n : ℕ). n % 16) is ∙ omega arith ∙ ap (λ (n : ℕ). y / 2 ^ n % 16) start in
    let high : o / 16 ≡ y / 2 ^ (4 * (2 * i + 1)) % 16 = ap (λ (n : ℕ). n / 16) is ∙ omega arith ∙ sym (ap (λ (n : ℕ). n % 16) half) in
    let first = four_more y h (2 * i) z v (32 * i + o % 16) (o % 16) fits low (omega arith) (hz ∙ ap (λ (n : ℕ). of_h h (y % 2 ^ n)) start)
    hv in
    four_more y h (2 * i + 1) (bit_xor z v) v' (32 * i + 16 + o / 16) (o / 16) fits high (omega arith) first hv'
    ∙ ap (λ (n : ℕ). of_h h (y % 2 ^ n)) end

pub all_multiplied : (y h i z : ℕ) → y < 2 ^ 128 → i ≡ 16 → z ≡ of_h h (y % 2 ^ (8 * i)) → z ≡ of_h h y
all_multiplied y h i z fits e held =
    let whole : y % 2 ^ 128 ≡ y = mod-eq_of_lt fits in
    held ∙ ap (λ (m : ℕ). of_h h (y % 2 ^ (8 * m))) e ∙ ap (of_h h) whole

-- ---- Horner's rule over blocks
abbrev pub AllFit : List ℕ → Type 0
AllFit xs = Each1 (λ x. x < 2 ^ 128) xs

reversed-lt : (o : ℕ) → reversed o < 256
unfolding reversed from_bits
reversed-lt o = omega arith

element-lt : (f : ℕ → ℕ) → element f < 2 ^ 128
unfolding element
element-lt f = omega (arith, reversed-lt)

AllFit-append : (xs ys : List ℕ) → AllFit xs → AllFit ys → AllFit (xs ++ ys)
AllFit-append [] ys p q = q
AllFit-append (x ∷ xs) ys p q = (p.0, AllFit-append xs ys p.1 q)

blocks_fit : (xs : List ℕ) (n : ℕ) → AllFit (blocks xs n)
unfolding blocks
blocks_fit xs zero = tt
blocks_fit xs (suc n) = AllFit-append (blocks xs n) (block_at xs n ∷ []) (blocks_fit xs n) (element-lt _, tt)

blocks-suc : (xs : List ℕ) (n : ℕ) → blocks xs (n + 1) ≡ blocks xs n ++ block_at xs n ∷ []
unfolding blocks
blocks-suc xs n = ap (blocks xs) (add-one n)

pub absorbed : (h : ℕ) (xs : List ℕ) (i y x : ℕ) (zs : List ℕ) → h < 2 ^ 128 → AllFit zs → y ≡ power_sum 128 0x87 h (zs ++ blocks xs i)
    → x ≡ block_at xs i
    → multiply 128 0x87 (bit_xor y x) h ≡ power_sum 128 0x87 h (zs ++ blocks xs (i + 1))
absorbed h xs i y x zs p fit hy hx =
    (λ k. multiply 128 0x87 (bit_xor (hy k) (hx k)) h)
    ∙ sym (power_sum-append 128 0x87 low_fits d_pos h (zs ++ blocks xs i) (block_at xs i) p
    (AllFit-append zs (blocks xs i) fit (blocks_fit xs i)) (element-lt _))
    ∙ ap (power_sum 128 0x87 h) (append_assoc zs (blocks xs i) (block_at xs i ∷ []) ∙ ap (λ (t : List ℕ). zs ++ t) (sym (blocks-suc xs i)))

pub all_blocks_fit : (xs : List ℕ) → AllFit (all_blocks xs)
all_blocks_fit xs = blocks_fit xs ((length xs + 15) / 16)

pub fit_both : (xs ys : List ℕ) → AllFit (all_blocks xs ++ all_blocks ys)
fit_both xs ys = AllFit-append (all_blocks xs) (all_blocks ys) (all_blocks_fit xs) (all_blocks_fit ys)

pub absorbed_none : (h : ℕ) (xs zs : List ℕ) (y : ℕ) → y ≡ power_sum 128 0x87 h zs → y ≡ power_sum 128 0x87 h (zs ++ blocks xs 0)
unfolding blocks
absorbed_none h xs zs y e = e ∙ ap (power_sum 128 0x87 h) (sym (append-nil zs))

pub one_block : (xs : List ℕ) → length xs ≡ 16 → all_blocks xs ≡ block_at xs 0 ∷ []
unfolding blocks
one_block xs e = ap (λ (n : ℕ). blocks xs ((n + 15) / 16)) e

pub ghash_is : (h y1 y2 y3 : ℕ) (aad c ls : List ℕ) → ls ≡ lengths aad c → y1 ≡ power_sum 128 0x87 h ([] ++ all_blocks aad)
    → y2 ≡ power_sum 128 0x87 h (all_blocks aad ++ all_blocks c) → y3 ≡ power_sum 128 0x87 h (all_blocks aad ++ all_blocks c
    ++ all_blocks ls)
    → y3 ≡ ghash h aad c
unfolding ghash
ghash_is h y1 y2 y3 aad c ls e p q r =
    let whole : length (lengths aad c) ≡ 16 = refl in
    r ∙ ap (λ (l : List ℕ). power_sum 128 0x87 h (all_blocks aad ++ all_blocks c ++ all_blocks l)) e
    ∙ ap (λ (l : List ℕ). power_sum 128 0x87 h (all_blocks aad ++ all_blocks c ++ l)) (one_block (lengths aad c) whole)

pub hash_key_is : (e : List ℕ → List ℕ) (h : ℕ) (z : List ℕ) → z ≡ e (map (λ _. 0) (range_with_len 0 16))
    → h ≡ element (λ j. slice_index z (0 + j)) → h ≡ hash_key e
unfolding hash_key element
hash_key_is e h z hz hh = hh ∙ ap (λ (l : List ℕ). element (slice_index l)) hz

pub tag_is : (e : List ℕ → List ℕ) (nonce aad c : List ℕ) (h y : ℕ) (t : List ℕ) → h ≡ hash_key e → y ≡ ghash h aad c
    → t ≡ add_blocks (e (counter nonce 0)) (block_of y) → t ≡ tag_of e nonce aad c
unfolding tag_of
tag_is e nonce aad c h y t hh hy ht =
    ht ∙ ap (λ (n : ℕ). add_blocks (e (counter nonce 0)) (block_of n)) hy
    ∙ ap (λ (n : ℕ). add_blocks (e (counter nonce 0)) (block_of (ghash n aad c))) hh

pub sum_of_none : (h : ℕ) → 0 ≡ power_sum 128 0x87 h []
unfolding power_sum
sum_of_none h = refl
