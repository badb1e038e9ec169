-- Octets as hex digits: plain, and in pairs joined by colons (RFC 6991 section 3, `hex-string`).
use Rattle.std.specs.Prelude.{ℕ, ◌==◌, ◌&&◌, nat_le, if◌then◌else◌, Bool, List, [], ◌∷◌, length, map, Option, Some, None, Result, Ok, Err}
use Rattle.std.specs.List.{list_all, slice_split, join_with_byte}
use Rattle.std.specs.Char.{is_ascii_hexdigit}
use Rattle.std.specs.Str.Parse.{digits_value}
use Rattle.yang_values.specs.Parts.{each}
use Rattle.hex.specs.Hex.{encode_lower, decode_of}
use Rattle.yang_values.specs.declared.value.BadValue.{BadValue}
use Rattle.yang_values.specs.declared.value.BadValue.TheVariants.{Form}

-- each octet as two digits in lower case, the high four bits first
abbrev pub digits_text : List ℕ → List ℕ
digits_text octets = encode_lower octets

-- what isn't read has another spelling
abbrev pub or_form : {E : Type 0} → Result (List ℕ) E → Result (List ℕ) BadValue
or_form (Ok octets) = Ok octets
or_form (Err e) = Err Form

-- the octets of an even number of digits of either case, at least two
abbrev pub digits_of : List ℕ → Result (List ℕ) BadValue
digits_of [] = Err Form
digits_of (c ∷ cs) = or_form (decode_of (c ∷ cs))

-- the number that hex digits of either case write, from `least` to `most` of them
unfoldable pub hex_number : ℕ → ℕ → List ℕ → Option ℕ
hex_number least most t =
    if nat_le least (length t) && nat_le (length t) most && list_all is_ascii_hexdigit t
    then Some (digits_value 16 t)
    else None

-- an octet as two digits
abbrev pub pair_text : ℕ → List ℕ
pair_text octet = digits_text (octet ∷ [])

-- pairs of digits, joined by colons
abbrev pub hex_colons : List ℕ → List ℕ
hex_colons octets = join_with_byte 58 (map pair_text octets)

-- the octet of a text of two digits
abbrev pub pair_of : List ℕ → Option ℕ
pair_of t = hex_number 2 2 t

-- the ASCII colon, which parts the pairs of a `hex-string` and the groups of an IPv6 address
abbrev pub is_colon : ℕ → Bool
is_colon c = c == 58

-- what isn't there has another spelling
abbrev pub some_or_form : Option (List ℕ) → Result (List ℕ) BadValue
some_or_form (Some octets) = Ok octets
some_or_form None = Err Form

-- the octets of a `hex-string`: the empty text, or pairs joined by colons
unfoldable pub hex_of : List ℕ → Result (List ℕ) BadValue
hex_of t = if length t == 0 then Ok [] else some_or_form (each pair_of (slice_split is_colon t))
