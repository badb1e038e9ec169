-- A window as a bitmap: words of 64 bits, used in turn, each with the numbers of one block of 64.
use Rattle.std.specs.Prelude.{◌≡◌, ◌<◌, ◌≤◌, ℕ, zero, suc, ◌+◌, ◌*◌, ◌/◌, ◌%◌, ◌==◌, ◌&&◌, ◌||◌, nat_le, Bool, false, List, length, slice_index}
use Rattle.std.specs.Int.{bit_at}

-- the bit of a number is set
abbrev pub is_bit_set : List ℕ → ℕ → Bool
is_bit_set words k = bit_at (slice_index words (k / 64 % length words)) (k % 64) == 1

-- among so many words two numbers have one word, and one bit
abbrev pub is_one_word : ℕ → ℕ → ℕ → Bool
is_one_word n a b = a / 64 % n == b / 64 % n

-- among so many words two numbers have one bit, though they may differ by a multiple of all the bits
abbrev pub is_one_bit : ℕ → ℕ → ℕ → Bool
is_one_bit n a b = is_one_word n a b && (a % 64 == b % 64)

-- among so many words this one is that of one of so many blocks from the first on
abbrev pub is_block_word : ℕ → ℕ → ℕ → ℕ → Bool
is_block_word n first zero i = false
is_block_word n first (suc count) i = is_block_word n first count i || (i == (first + count) % n)

-- the number was marked, where it isn't too old to tell
abbrev pub is_held : List ℕ → ℕ → ℕ → Bool
is_held words top k = nat_le k top && is_bit_set words k

-- nothing is marked above the greatest number in its block
abbrev pub IsClearAhead : List ℕ → ℕ → Type 0
IsClearAhead words top = (k : ℕ) → top < k → k / 64 ≡ top / 64 → is_bit_set words k ≡ false

-- a bitmap with a word more than the window fills
pub record IsBitmap (size top : ℕ) (words : List ℕ) : Type 0 where
  pub least : 0 < size
  pub room : size + 64 ≤ 64 * length words
  pub ahead : IsClearAhead words top
