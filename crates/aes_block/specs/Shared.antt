-- What the ciphers of blocks that differ in the last octet alone have in common.
use Rattle.std.specs.Prelude.{◌≡◌, ℕ, ◌<◌, ◌==◌, cond, List, [], ◌∷◌, map, bit_xor, slice_index}
use Rattle.std.specs.Int.{w32, to_be_bytes}
use Rattle.std.specs.List.{range_with_len}
use Rattle.aes_block.specs.Aes.{after_rounds, square}
use Rattle.aes_block.specs.Columns.{entry}
use Rattle.aes_block.specs.declared.schedule.KeySchedule.{KeySchedule}
use Rattle.aes_block.specs.declared.shared.SharedRounds.{SharedRounds}

-- the block b with the last octet o
abbrev pub with_last : List ℕ → ℕ → List ℕ
with_last b o = map (λ k. cond (k == 15) o (slice_index b k)) (range_with_len 0 16)

-- the columns after two rounds, from what is shared and the last octet: it alone goes into column 0 of the first round, and
-- each of the four rows of that column into one column of the second
abbrev pub after_two : SharedRounds → ℕ → List ℕ
after_two s o =
    let a : ℕ = bit_xor s.column (entry 3 (bit_xor s.last o)) in
    bit_xor (slice_index s.columns 0) (entry 0 a) ∷ bit_xor (slice_index s.columns 1) (entry 3 a)
    ∷ bit_xor (slice_index s.columns 2) (entry 2 a) ∷ bit_xor (slice_index s.columns 3) (entry 1 a) ∷ []

-- s is what the blocks share that are b but for the last octet
unfoldable pub SharesWords : SharedRounds → List ℕ → List ℕ → Type 0
SharesWords s w b = (o : ℕ) → o < 256 → square (after_two s o) ≡ after_rounds (map (to_be_bytes w32) w) (with_last b o) 2

-- the same of the words of a key
abbrev pub Shares : SharedRounds → KeySchedule → List ℕ → Type 0
Shares s k b = SharesWords s k.words b
