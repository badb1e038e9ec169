-- Addresses as text (RFC 6991 section 4; RFC 4291 section 2.2 for IPv6, canonical by RFC 5952 section 4).
use Rattle.std.specs.Prelude.{ℕ, ◌+◌, ◌-◌, ◌*◌, ◌/◌, ◌%◌, ◌==◌, ◌&&◌, not, max, nat_le, nat_lt, if◌then◌else◌, Bool, false, List, [], ◌∷◌, ◌++◌, length, take, drop, map, replicate, slice_index, Option, Some, None, option_and_then, Result, Ok, Err}
use Rattle.std.specs.Option.{option_map}
use Rattle.std.specs.List.{prefix_len, list_all, list_any, slice_split, join_with_byte}
use Rattle.std.specs.Fmt.{decimal, digits}
use Rattle.std.specs.Str.Parse.{digits_value}
use Rattle.ikl_base.specs.declared.address.Addr.{Addr}
use Rattle.ikl_base.specs.declared.address.Addr.TheVariants.{V4, V6}
pub use Rattle.ikl_base.specs.Address.{IsAddress}
use Rattle.yang_values.specs.Numbers.{is_number}
use Rattle.yang_values.specs.Parts.{each, ◌>>=◌}
use Rattle.yang_values.specs.HexText.{hex_number, is_colon}
use Rattle.yang_values.specs.declared.value.BadValue.{BadValue}
use Rattle.yang_values.specs.declared.value.BadValue.TheVariants.{Form, Range}

-- ---- IPv4

-- the octets in decimal, joined by dots
abbrev pub dotted : List ℕ → List ℕ
dotted octets = join_with_byte 46 (map decimal octets)

-- the ASCII dot, which parts the numbers of an IPv4 address
abbrev pub is_dot : ℕ → Bool
is_dot c = c == 46

-- the texts are four numbers
abbrev pub is_quad : List (List ℕ) → Bool
is_quad parts = length parts == 4 && list_all is_number parts

-- the decimal digits write a number up to 255
abbrev pub fits_octet : List ℕ → Bool
fits_octet t = nat_le (digits_value 10 t) 255

-- the octets of the parts between dots: first the spelling of all of them, then their range
unfoldable pub quad_of : List (List ℕ) → Result (List ℕ) BadValue
quad_of parts =
    if not (is_quad parts) then Err Form
    else if not (list_all fits_octet parts) then Err Range
    else Ok (map (digits_value 10) parts)

-- ---- IPv6

-- two octets make a group of 16 bits
abbrev pub groups_of : List ℕ → List ℕ
groups_of [] = []
groups_of (high ∷ []) = high ∷ []
groups_of (high ∷ low ∷ rest) = (high * 256 + low) ∷ groups_of rest

-- each group of 16 bits as two octets, the higher first
abbrev pub octets_of : List ℕ → List ℕ
octets_of [] = []
octets_of (group ∷ rest) = (group / 256) ∷ (group % 256) ∷ octets_of rest

-- a group in lower case hex, without leading zeros
abbrev pub group_text : ℕ → List ℕ
group_text group = digits 16 false group

-- groups joined by colons
abbrev pub joined : List ℕ → List ℕ
joined groups = join_with_byte 58 (map group_text groups)

-- how many zero groups the list begins with
abbrev pub zeros_at_front : List ℕ → ℕ
zeros_at_front groups = prefix_len (λ group. group == 0) groups

-- how many zero groups stand in the longest run of them
unfoldable pub longest_run : List ℕ → ℕ
longest_run [] = 0
longest_run (group ∷ rest) = max (zeros_at_front (group ∷ rest)) (longest_run rest)

-- where the first run of at least n zero groups begins
unfoldable pub first_run : ℕ → List ℕ → ℕ
first_run n [] = 0
first_run n (group ∷ rest) = if nat_le n (zeros_at_front (group ∷ rest)) then 0 else first_run n rest + 1

-- the groups with `::` in the place of n of them from k on
abbrev pub shortened : ℕ → ℕ → List ℕ → List ℕ
shortened k n groups = joined (take k groups) ++ 58 ∷ 58 ∷ joined (drop (k + n) groups)

-- `::` stands for the longest run of two or more zero groups, the first of equal runs
unfoldable pub groups_text : List ℕ → List ℕ
groups_text groups =
    if nat_lt (longest_run groups) 2 then joined groups
    else shortened (first_run (longest_run groups) groups) (longest_run groups) groups

-- the group of one to four hex digits
abbrev pub group_of : List ℕ → Option ℕ
group_of t = hex_number 1 4 t

-- the groups of a text in which colons join them; the empty text has none
abbrev pub groups_in : List ℕ → Option (List ℕ)
groups_in t = if length t == 0 then Some [] else each group_of (slice_split is_colon t)

-- a colon stands at the front of the text
abbrev pub begins_with_colon : List ℕ → Bool
begins_with_colon [] = false
begins_with_colon (c ∷ cs) = is_colon c

-- where the first `::` is
unfoldable pub double_colon : List ℕ → Option ℕ
double_colon [] = None
double_colon (c ∷ cs) = if is_colon c && begins_with_colon cs then Some 0 else option_map (λ k. k + 1) (double_colon cs)

-- a `::` is at this place
abbrev pub is_double_at : List ℕ → ℕ → Bool
is_double_at t k = is_colon (slice_index t k) && is_colon (slice_index t (k + 1))

-- all eight groups
abbrev pub eight : List ℕ → Option (List ℕ)
eight groups = if length groups == 8 then Some groups else None

-- eight groups, of which at least one is zero and left out between these
abbrev pub filled : List ℕ → List ℕ → Option (List ℕ)
filled front back =
    if nat_lt (length front + length back) 8
    then Some (front ++ replicate (8 - (length front + length back)) 0 ++ back)
    else None

-- the groups before and after a `::`
abbrev pub eight_between : Option (List ℕ) → Option (List ℕ) → Option (List ℕ)
eight_between front back = do
  front' ← front
  back' ← back
  filled front' back'

-- the groups of a text with a `::` at this place, or with none
unfoldable pub eight_from : List ℕ → Option ℕ → Option (List ℕ)
eight_from t None = option_and_then eight (groups_in t)
eight_from t (Some k) = eight_between (groups_in (take k t)) (groups_in (drop (k + 2) t))

-- ---- both families

-- the canonical text
unfoldable pub address_text : Addr → List ℕ
address_text (V4 octets) = dotted octets
address_text (V6 octets) = groups_text (groups_of octets)

-- the IPv4 address of these octets, if the text had them
abbrev pub v4_of : Result (List ℕ) BadValue → Result Addr BadValue
v4_of (Ok octets) = Ok (V4 octets)
v4_of (Err e) = Err e

-- the IPv6 address of eight groups; a text that has no such groups is misspelt
abbrev pub v6_of : Option (List ℕ) → Result Addr BadValue
v6_of (Some groups) = Ok (V6 (octets_of groups))
v6_of None = Err Form

-- the address that a text is; one with a colon is IPv6
unfoldable pub address_of : List ℕ → Result Addr BadValue
address_of t =
    if list_any is_colon t then v6_of (eight_from t (double_colon t))
    else v4_of (quad_of (slice_split is_dot t))
