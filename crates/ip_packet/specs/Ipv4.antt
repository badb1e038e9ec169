-- The header of an IPv4 packet (RFC 791 section 3.1).
use Rattle.std.specs.Prelude.{ℕ, ◌+◌, ◌-◌, ◌*◌, ◌/◌, ◌%◌, ◌==◌, ◌||◌, nat_lt, Bool, not, List, [], ◌∷◌, length, take, slice_index}
use Rattle.ip_packet.specs.Field.{number_at}

-- the header's length in octets: its second four bits count words of 4 octets
abbrev pub header_length : List ℕ → ℕ
header_length o = slice_index o 0 % 16 * 4

-- the header is shorter than the fixed one or longer than the packet, or the total length isn't that of the octets
abbrev pub is_length_wrong : List ℕ → Bool
is_length_wrong o = nat_lt (header_length o) 20 || nat_lt (number_at o 2) (header_length o) || not (number_at o 2 == length o)

-- the sum of the words of two octets
abbrev pub words_sum : List ℕ → ℕ
words_sum [] = 0
words_sum (a ∷ []) = 256 * a
words_sum (a ∷ b ∷ o) = 256 * a + b + words_sum o

-- the ones' complement sum of the words, in which a carry is added back (RFC 1071 section 1)
abbrev pub add_back : ℕ → ℕ → ℕ
add_back a b = (a + b) % 65536 + (a + b) / 65536

-- the ones' complement sum of words of two octets; a last single octet is the higher one of its word
abbrev pub ones_sum : List ℕ → ℕ
ones_sum [] = 0
ones_sum (a ∷ []) = add_back (256 * a) 0
ones_sum (a ∷ b ∷ o) = add_back (256 * a + b) (ones_sum o)

-- The ones' complement sum of the header's words isn't all ones. A header isn't all zeros, so its sum is all ones exactly
-- where its words sum to a multiple of 2 ^ 16 - 1.
abbrev pub is_sum_wrong : List ℕ → Bool
is_sum_wrong o = not (words_sum (take (header_length o) o) % 65535 == 0)

-- the sum to be written into a header that has zeros there: the complement of the ones' complement sum of its words
abbrev pub sum_for : List ℕ → ℕ
sum_for header = (65535 - words_sum header % 65535) % 65535

-- more fragments is set, or there is an offset
abbrev pub is_fragment : List ℕ → Bool
is_fragment o = not (slice_index o 6 % 64 == 0) || not (slice_index o 7 == 0)

-- don't fragment is set
abbrev pub has_df : List ℕ → Bool
has_df o = (slice_index o 6 / 64) % 2 == 1
