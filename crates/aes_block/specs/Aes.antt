-- AES (FIPS 197). An octet is a number below 256, bit i of which is the coefficient of x^i; a block
-- is a list of 16 octets, octet r + 4 c in row r and column c; a word is a list of four octets.
use Rattle.std.specs.Prelude.{ℕ, zero, suc, ◌+◌, ◌-◌, ◌*◌, ◌/◌, ◌%◌, ◌==◌, cond, List, [], ◌∷◌, ◌++◌, map, bit_xor, slice_index, slice_index_or}
use Rattle.std.specs.Int.{bit_at, w32, to_be_bytes}
use Rattle.std.specs.List.{range_with_len}
use Rattle.gf_poly.specs.Poly.{from_bits, multiply, power}

-- the product modulo x^8 + x^4 + x^3 + x + 1
unfoldable pub times : ℕ → ℕ → ℕ
times a b = multiply 8 0x1b a b

-- the greatest c below n with b c = 1, or 0
unfoldable pub inverse_below : ℕ → ℕ → ℕ
inverse_below zero b = 0
inverse_below (suc n) b = let rest = inverse_below n b in cond (times b n == 1) n rest

-- the multiplicative inverse of an octet in GF(2^8); that of 0 is 0 (FIPS 197 section 4.2)
unfoldable pub inverse : ℕ → ℕ
inverse b = inverse_below 256 b

-- bit i of the affine map
abbrev pub affine_bit : ℕ → ℕ → ℕ
affine_bit b i = (bit_at b i + bit_at b ((i + 4) % 8) + bit_at b ((i + 5) % 8) + bit_at b ((i + 6) % 8)
    + bit_at b ((i + 7) % 8) + bit_at 0x63 i) % 2

-- the S-box: the inverse of an octet under the affine map (section 5.1.1)
unfoldable pub s_box : ℕ → ℕ
s_box b = from_bits (affine_bit (inverse b)) 8

-- the octet in row r and column c
abbrev pub octet : List ℕ → ℕ → ℕ → ℕ
octet b r c = slice_index b (r + 4 * c)

-- the block with f r c in row r and column c
abbrev pub block : (ℕ → ℕ → ℕ) → List ℕ
block f = map (λ k. f (k % 4) (k / 4)) (range_with_len 0 16)

-- the block whose columns are words of 32 bits
abbrev pub square : List ℕ → List ℕ
square s = block (λ r c. slice_index (to_be_bytes w32 (slice_index s c)) r)

-- SubBytes: the S-box on each octet of a block (section 5.1.1)
abbrev pub sub_octets : List ℕ → List ℕ
sub_octets b = block (λ r c. s_box (octet b r c))

-- ShiftRows: row r is rotated left by r places (section 5.1.2)
abbrev pub shift_rows : List ℕ → List ℕ
shift_rows b = block (λ r c. octet b r ((c + r) % 4))

-- row r of the matrix
abbrev pub matrix : ℕ → List ℕ
matrix r = slice_index_or ((2 ∷ 3 ∷ 1 ∷ 1 ∷ []) ∷ (1 ∷ 2 ∷ 3 ∷ 1 ∷ []) ∷ (1 ∷ 1 ∷ 2 ∷ 3 ∷ []) ∷ (3 ∷ 1 ∷ 1 ∷ 2 ∷ []) ∷ []) r []

-- the matrix times a column
abbrev pub mix_word : List ℕ → List ℕ
mix_word w = map (λ r.
    let m : ℕ → ℕ = λ k. times (slice_index (matrix r) k) (slice_index w k) in
    bit_xor (bit_xor (bit_xor (m 0) (m 1)) (m 2)) (m 3)) (range_with_len 0 4)

-- what octet x in row k of a column adds to it
abbrev pub contribution : ℕ → ℕ → List ℕ
contribution k x = map (λ r. times (slice_index (matrix r) k) (s_box x)) (range_with_len 0 4)

-- the octets of column c, from row 0 to row 3
abbrev pub column : List ℕ → ℕ → List ℕ
column b c = map (λ r. octet b r c) (range_with_len 0 4)

-- MixColumns: each column is multiplied by the matrix (section 5.1.3)
abbrev pub mix_columns : List ℕ → List ℕ
mix_columns b = block (λ r c. slice_index (mix_word (column b c)) r)

-- the sum of two words, octet by octet
abbrev pub add_words : List ℕ → List ℕ → List ℕ
add_words v w = map (λ k. bit_xor (slice_index v k) (slice_index w k)) (range_with_len 0 4)

-- adds words 4 i, .., 4 i + 3 of the schedule, word 4 i + c to column c
abbrev pub add_key : List (List ℕ) → ℕ → List ℕ → List ℕ
add_key ws i b = block (λ r c. bit_xor (octet b r c) (slice_index (slice_index_or ws (4 * i + c) []) r))

-- the block after the first addition and i rounds
unfoldable pub after_rounds : List (List ℕ) → List ℕ → ℕ → List ℕ
after_rounds ws b zero = add_key ws 0 b
after_rounds ws b (suc i) = add_key ws (i + 1) (mix_columns (shift_rows (sub_octets (after_rounds ws b i))))

-- the cipher of n rounds
unfoldable pub cipher : List (List ℕ) → ℕ → List ℕ → List ℕ
cipher ws n b = add_key ws n (shift_rows (sub_octets (after_rounds ws b (n - 1))))

-- ---- the key schedule

-- SubWord: the S-box on each octet of a word (section 5.2)
abbrev pub sub_word : List ℕ → List ℕ
sub_word w = map (λ k. s_box (slice_index w k)) (range_with_len 0 4)

-- RotWord: the octets of a word rotated left by one place (section 5.2)
abbrev pub rotate_word : List ℕ → List ℕ
rotate_word w = map (λ k. slice_index w ((k + 1) % 4)) (range_with_len 0 4)

-- x to the power i, the first octet of a word of Rcon; i counts from 0 (section 5.2)
abbrev pub round_constant : ℕ → ℕ
round_constant i = power 8 0x1b 2 i

-- the word t before word i, as it is added to word i - n
abbrev pub turned : ℕ → ℕ → List ℕ → List ℕ
turned n i t = cond (i % n == 0)
    (add_words (sub_word (rotate_word t)) (round_constant (i / n - 1) ∷ 0 ∷ 0 ∷ 0 ∷ []))
    (cond (n == 8) (cond (i % 8 == 4) (sub_word t) t) t)

-- word i of the schedule of a key of n words, from the words before it
abbrev pub next_word : ℕ → List (List ℕ) → ℕ → List ℕ
next_word n ws i = add_words (slice_index_or ws (i - n) []) (turned n i (slice_index_or ws (i - 1) []))

-- word i of a key: its octets 4 i to 4 i + 3
abbrev pub key_word : List ℕ → ℕ → List ℕ
key_word k i = map (λ j. slice_index k (4 * i + j)) (range_with_len 0 4)

-- the first words of the schedule are those of the key
unfoldable pub first_words : List ℕ → ℕ → List (List ℕ)
first_words k zero = []
first_words k (suc i) = first_words k i ++ key_word k i ∷ []

-- the first n + i words of the schedule of the key k of n words
unfoldable pub words : ℕ → List ℕ → ℕ → List (List ℕ)
words n k zero = first_words k n
words n k (suc i) = words n k i ++ next_word n (words n k i) (n + i) ∷ []

-- the cipher under a key of n words: n + 6 rounds
unfoldable pub aes : ℕ → List ℕ → List ℕ → List ℕ
aes n k b = cipher (words n k (4 * (n + 7) - n)) (n + 6) b
