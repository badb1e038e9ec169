-- Addresses as octets, and the bits of a prefix (RFC 4291 section 2.3, RFC 4632 section 3.1).
use Rattle.std.specs.Prelude.{◌≡◌, ℕ, ◌+◌, ◌-◌, ◌*◌, ◌/◌, ◌^◌, ◌%◌, ◌<◌, ◌==◌, ◌&&◌, List, [], ◌∷◌, length, All, Bool, true, false}
use Rattle.std.specs.Str.{bytes_eq}
use Rattle.ikl_base.specs.declared.address.Addr.{Addr}
use Rattle.ikl_base.specs.declared.address.Addr.TheVariants.{V4, V6}

-- how many bits an address of this family has
abbrev pub bits_of : Addr → ℕ
bits_of (V4 octets) = 32
bits_of (V6 octets) = 128

-- four octets, or sixteen
abbrev pub IsAddress : Addr → Type 0
IsAddress (V4 octets) = (length octets ≡ 4) × All (λ octet. octet < 256) octets
IsAddress (V6 octets) = (length octets ≡ 16) × All (λ octet. octet < 256) octets

-- the number that octets write in network order
abbrev pub value_of : List ℕ → ℕ
value_of [] = 0
value_of (x ∷ xs) = x * 2 ^ (8 * length xs) + value_of xs

-- the first of so many bits, as the number that they write
abbrev pub bits_from : ℕ → ℕ → ℕ → ℕ
bits_from bits all value = value / 2 ^ (all - bits)

-- the first bits of an address, as the number that they write
abbrev pub first_bits : ℕ → Addr → ℕ
first_bits bits (V4 octets) = bits_from bits 32 (value_of octets)
first_bits bits (V6 octets) = bits_from bits 128 (value_of octets)

-- the octets with every bit from this one on zero
abbrev pub cleared_from : ℕ → List ℕ → List ℕ
cleared_from bits [] = []
cleared_from bits (x ∷ xs) = (x - x % 2 ^ (8 - bits)) ∷ cleared_from (bits - 8) xs

-- every bit of the octets from this one on is zero
abbrev pub are_zero_from : ℕ → List ℕ → Bool
are_zero_from bits [] = true
are_zero_from bits (x ∷ xs) = (x % 2 ^ (8 - bits) == 0) && are_zero_from (bits - 8) xs

-- an address has no host bits: every bit from this one on, counted from the first, is zero
abbrev pub is_clear_from : ℕ → Addr → Bool
is_clear_from bits (V4 octets) = are_zero_from bits octets
is_clear_from bits (V6 octets) = are_zero_from bits octets

-- the address with its host bits, those from this one on, set to zero
abbrev pub address_cleared : ℕ → Addr → Addr
address_cleared bits (V4 octets) = V4 (cleared_from bits octets)
address_cleared bits (V6 octets) = V6 (cleared_from bits octets)

-- two addresses of one family
abbrev pub is_one_family : Addr → Addr → Bool
is_one_family (V4 a) (V4 b) = true
is_one_family (V4 a) (V6 b) = false
is_one_family (V6 a) (V4 b) = false
is_one_family (V6 a) (V6 b) = true

-- two whole addresses of one family
abbrev pub AreOneFamily : Addr → Addr → Type 0
AreOneFamily (V4 a) (V4 b) = (length a ≡ 4) × (length b ≡ 4)
AreOneFamily (V4 a) (V6 b) = ⊥
AreOneFamily (V6 a) (V4 b) = ⊥
AreOneFamily (V6 a) (V6 b) = (length a ≡ 16) × (length b ≡ 16)

-- two addresses of one family with the same octets
abbrev pub is_same_address : Addr → Addr → Bool
is_same_address (V4 a) (V4 b) = bytes_eq a b
is_same_address (V4 a) (V6 b) = false
is_same_address (V6 a) (V4 b) = false
is_same_address (V6 a) (V6 b) = bytes_eq a b
