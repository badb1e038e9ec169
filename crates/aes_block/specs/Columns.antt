-- Columns of a round as numbers, by the table.
use Rattle.std.specs.Prelude.{ℕ, ◌+◌, ◌*◌, List, [], ◌∷◌, bit_xor, slice_index}
use Rattle.std.specs.Int.{w32, to_be_bytes}
use Rattle.aes_block.specs.declared.tables.TheConstants.{T}

-- what the octet in row k of the column w adds to the column that it goes into
abbrev pub entry : ℕ → ℕ → ℕ
entry k w = slice_index T (256 * k + slice_index (to_be_bytes w32 w) k)

-- the column into which rows 0, .., 3 come from a, b, c and d, with the key word k added
abbrev pub column_of : ℕ → ℕ → ℕ → ℕ → ℕ → ℕ
column_of a b c d k = bit_xor (bit_xor (bit_xor (bit_xor (entry 0 a) (entry 1 b)) (entry 2 c)) (entry 3 d)) k

-- the four columns after the second round, without what column 0 after the first adds; q, r and t are the others there
abbrev pub columns_without : List ℕ → ℕ → ℕ → ℕ → List ℕ
columns_without w q r t = bit_xor (bit_xor (bit_xor (entry 1 q) (entry 2 r)) (entry 3 t)) (slice_index w 8)
    ∷ bit_xor (bit_xor (bit_xor (entry 0 q) (entry 1 r)) (entry 2 t)) (slice_index w 9)
    ∷ bit_xor (bit_xor (bit_xor (entry 0 r) (entry 1 t)) (entry 3 q)) (slice_index w 10)
    ∷ bit_xor (bit_xor (bit_xor (entry 0 t) (entry 2 q)) (entry 3 r)) (slice_index w 11) ∷ []
