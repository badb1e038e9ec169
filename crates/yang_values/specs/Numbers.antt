-- Decimal numbers as text (RFC 7950 section 9.2.1, RFC 7951 section 6.1). The canonical text of a number is
-- std's `decimal`: its digits, with no leading zero.
use Rattle.std.specs.Prelude.{ℕ, ◌-◌, ◌^◌, ◌==◌, ◌&&◌, ◌||◌, not, nat_le, nat_lt, Bool, if◌then◌else◌, List, length, slice_index, Result, Ok, Err}
use Rattle.std.specs.List.{list_all}
use Rattle.std.specs.Char.{is_ascii_digit}
use Rattle.std.specs.Str.Parse.{digits_value}
use Rattle.yang_values.specs.declared.value.BadValue.{BadValue}
use Rattle.yang_values.specs.declared.value.BadValue.TheVariants.{Form, Range}

-- decimal digits, at least one, without a leading zero but the text `0`
abbrev pub is_number : List ℕ → Bool
is_number t = not (length t == 0) && (not (slice_index t 0 == 48) || length t == 1) && list_all is_ascii_digit t

-- the number that a text is: first its spelling, then its range
unfoldable pub number_of : ℕ → List ℕ → Result ℕ BadValue
number_of most t =
    if not (is_number t) then Err Form
    else if nat_lt most (digits_value 10 t) then Err Range
    else Ok (digits_value 10 t)

-- a uint64
abbrev pub u64_of : List ℕ → Result ℕ BadValue
u64_of t = number_of (2 ^ 64 - 1) t

-- a port number
abbrev pub port_of : ℕ → Result ℕ BadValue
port_of n = if nat_le n 65535 then Ok n else Err Range
