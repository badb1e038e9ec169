-- Prefixes as text (RFC 6991 section 4, `ip-prefix`): an address, a slash and a length.
use Rattle.std.specs.Prelude.{ℕ, ◌≤◌, ◌<◌, ◌==◌, ◌||◌, ◌⊎◌, if◌then◌else◌, Bool, List, ◌∷◌, ◌++◌, Option, Some, None, Result, Ok, Err}
use Rattle.std.specs.Fmt.{decimal}
use Rattle.ikl_base.specs.declared.address.Addr.{Addr}
use Rattle.ikl_base.specs.declared.address.Prefix.{Prefix}
use Rattle.ikl_base.specs.Address.{bits_of, address_cleared}
use Rattle.ikl_base.proofs.AddressLemmas.{bits_of-cleared, is_clear_from-cleared}
use Rattle.std.proofs.Common.{subst, sym, inl, inr}
use Rattle.std.specs.Str.Parse.{digits_value}
use Rattle.std.proofs.lemmas.Bool.{cases_lt}
use Rattle.std.specs.Char.{is_ascii_hexdigit}
use Rattle.yang_values.specs.Parts.{cut_at}
use Rattle.yang_values.specs.HexText.{is_colon}
use Rattle.yang_values.specs.Numbers.{is_number}
use Rattle.yang_values.specs.Addresses.{is_dot, address_of, address_text}
use Rattle.yang_values.specs.declared.value.BadValue.{BadValue}
use Rattle.yang_values.specs.declared.value.BadValue.TheVariants.{Form, Range}

-- the canonical text
unfoldable pub prefix_text : Prefix → List ℕ
prefix_text p = address_text p.addr ++ 47 ∷ decimal p.len

-- the ASCII slash, which stands before a length
abbrev pub is_slash : ℕ → Bool
is_slash c = c == 47

-- what stands in the text of a number, an address or a prefix
abbrev pub is_value_octet : ℕ → Bool
is_value_octet c = is_ascii_hexdigit c || is_dot c || is_colon c || is_slash c

-- these many bits of an address; the host bits are dropped
unfoldable pub prefix_made : (a : Addr) (n : ℕ) → n ≤ bits_of a → Prefix
prefix_made a n fits = record {
  addr = address_cleared n a;
  len = n;
  in_range = subst (λ bits. n ≤ bits) (sym (bits_of-cleared n a)) fits;
  cleared = is_clear_from-cleared n a;
}

-- the prefix of an address and a length that fits it or not
abbrev pub prefix_where : (a : Addr) (n : ℕ) → (bits_of a < n) ⊎ (n ≤ bits_of a) → Result Prefix BadValue
prefix_where a n (inl above) = Err Range
prefix_where a n (inr fits) = Ok (prefix_made a n fits)

-- the prefix of an address and the text of a length
abbrev pub with_length : Addr → List ℕ → Result Prefix BadValue
with_length a t =
    if is_number t then prefix_where a (digits_value 10 t) (cases_lt (bits_of a) (digits_value 10 t))
    else Err Form

-- a bad spelling of the address or of the length comes before a range
abbrev pub prefix_from : Result Addr BadValue → List ℕ → Result Prefix BadValue
prefix_from (Ok a) t = with_length a t
prefix_from (Err Form) t = Err Form
prefix_from (Err Range) t = if is_number t then Err Range else Err Form

-- the prefix of the texts before and after the first slash; a text without a slash is misspelt
abbrev pub prefix_of_cut : Option (List ℕ × List ℕ) → Result Prefix BadValue
prefix_of_cut None = Err Form
prefix_of_cut (Some p) = prefix_from (address_of p.0) p.1

-- the prefix that a text is
unfoldable pub prefix_of : List ℕ → Result Prefix BadValue
prefix_of t = prefix_of_cut (cut_at is_slash t)
