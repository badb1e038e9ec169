-- AES-GCM (SP 800-38D) with a nonce of 12 octets, over a block cipher e.
use Rattle.std.specs.Prelude.{◌≡◌, ℕ, zero, suc, ◌+◌, ◌-◌, ◌*◌, ◌/◌, ◌%◌, List, [], ◌∷◌, ◌++◌, length, map, bit_xor, slice_index}
use Rattle.std.specs.Int.{bit_at, w32, w64, w128, to_be_bytes, from_le_bytes, to_le_bytes}
use Rattle.std.specs.List.{range_with_len}
use Rattle.gf_poly.specs.Poly.{from_bits, power_sum}

-- the octet with its eight bits in the other order
unfoldable pub reversed : ℕ → ℕ
reversed o = from_bits (λ k. bit_at o (7 - k)) 8

-- the polynomial of a block with octet f j at j: the first, highest bit of the first octet is the
-- coefficient of x^0
unfoldable pub element : (ℕ → ℕ) → ℕ
element f = from_le_bytes w128 (map (λ j. reversed (f j)) (range_with_len 0 16))

-- the block of a polynomial
unfoldable pub block_of : ℕ → List ℕ
block_of p = map (λ j. reversed (slice_index (to_le_bytes w128 p) j)) (range_with_len 0 16)

-- block i of the octets xs, which are filled up with zeros
abbrev pub block_at : List ℕ → ℕ → ℕ
block_at xs i = element (λ j. slice_index xs (16 * i + j))

-- the first n blocks
unfoldable pub blocks : List ℕ → ℕ → List ℕ
blocks xs zero = []
blocks xs (suc n) = blocks xs n ++ block_at xs n ∷ []

-- all blocks of the octets, the last filled up with zeros; no octets have no block
abbrev pub all_blocks : List ℕ → List ℕ
all_blocks xs = blocks xs ((length xs + 15) / 16)

-- the last block that is hashed: how many bits the additional data and the sealed text have, each in 64 bits (section 7.1)
abbrev pub lengths : List ℕ → List ℕ → List ℕ
lengths aad c = to_be_bytes w64 (8 * length aad) ++ to_be_bytes w64 (8 * length c)

-- GHASH under the key h: over the additional data, the sealed text, and the block of their lengths (section 6.4)
unfoldable pub ghash : ℕ → List ℕ → List ℕ → ℕ
ghash h aad c = power_sum 128 0x87 h (all_blocks aad ++ all_blocks c ++ block_at (lengths aad c) 0 ∷ [])

-- J i
unfoldable pub counter : List ℕ → ℕ → List ℕ
counter nonce i = nonce ++ to_be_bytes w32 (1 + i)

-- octet k of the stream
abbrev pub stream : (List ℕ → List ℕ) → List ℕ → ℕ → ℕ
stream e nonce k = slice_index (e (counter nonce (k / 16 + 1))) (k % 16)

-- GCTR from J 1 on: the sum of each octet and that of the stream at its place, which seals a text and opens it (section 6.5)
unfoldable pub sealed : (List ℕ → List ℕ) → List ℕ → List ℕ → List ℕ
sealed e nonce p = map (λ k. bit_xor (slice_index p k) (stream e nonce k)) (range_with_len 0 (length p))

-- the sum of two blocks
abbrev pub add_blocks : List ℕ → List ℕ → List ℕ
add_blocks a b = map (λ j. bit_xor (slice_index a j) (slice_index b j)) (range_with_len 0 16)

-- the cipher of the zero block
unfoldable pub hash_key : (List ℕ → List ℕ) → ℕ
hash_key e = element (slice_index (e (map (λ _. 0) (range_with_len 0 16))))

-- the authentication tag of 16 octets of a sealed text and its additional data (section 7.1)
unfoldable pub tag_of : (List ℕ → List ℕ) → List ℕ → List ℕ → List ℕ → List ℕ
tag_of e nonce aad c = add_blocks (e (counter nonce 0)) (block_of (ghash (hash_key e) aad c))

-- (c, t) is the seal of p
abbrev pub Opens : (List ℕ → List ℕ) → List ℕ → List ℕ → List ℕ → List ℕ → List ℕ → Type 0
Opens e nonce aad c t p = (c ≡ sealed e nonce p) × (t ≡ tag_of e nonce aad c)
