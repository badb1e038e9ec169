-- The texts that are written are ASCII.
use Rattle.std.proofs.Common.{◌≡◌, ◌<◌, ◌^◌, ℕ, Bool, true, List, [], ◌∷◌, IsUtf8, arith}
use Rattle.std.specs.List.{list_all}
use Rattle.std.specs.Fmt.{decimal}
use Rattle.std.specs.Str.{IsAscii}
use Rattle.std.proofs.lemmas.Bool.{and_parts}
use Rattle.std.proofs.lemmas.Bool.Decides.{nat_tests}
use Rattle.std.proofs.lemmas.Fmt.{IsAscii-decimal}
use Rattle.std.proofs.lemmas.Str.{IsUtf8-from_ascii}
use Rattle.std.proofs.lemmas.Str.Ascii.{IsAscii-nil, IsAscii-cons}
use Rattle.ikeless_tree.specs.Check.{is_path_octet, is_gateway, is_gateway_octet}
use Rattle.std.specs.List.{All}
use Rattle.std.specs.Char.{is_ascii_hexdigit}
use Rattle.std.proofs.Common.{refl}
use Rattle.std.proofs.lemmas.Bool.{or_left}
use Rattle.std.proofs.lemmas.List.Elements.{recursion_from_All}
use Rattle.yang_values.specs.HexText.{hex_colons, pair_text}
use Rattle.yang_values.proofs.JoinedText.{all_joined, each_also}
use Rattle.yang_values.proofs.QuadText.{also}
use Rattle.yang_values.proofs.ValueText.{pair_digits}
use Rattle.yang_values.specs.Prefixes.{is_value_octet}
use Rattle.std.proofs.Common.{nat_le, length, ◌&&◌}

plain : (q : ℕ → Bool) → ((c : ℕ) → q c ≡ true → c < 128) → (t : List ℕ) → list_all q t ≡ true → IsAscii t
plain q f [] all = IsAscii-nil
plain q f (c ∷ cs) all =
    let parts = and_parts (q c) (list_all q cs) all in
    IsAscii-cons c cs (f c parts.0) (plain q f cs parts.1)

value_small : (c : ℕ) → is_value_octet c ≡ true → c < 128
value_small c h = grind (arith, nat_tests, h)

path_small : (c : ℕ) → is_path_octet c ≡ true → c < 128
path_small c h = grind (arith, nat_tests, h)

pub utf8_number : (n : ℕ) → n < 2 ^ 64 → IsUtf8 (decimal n)
utf8_number n small = IsUtf8-from_ascii (decimal n) (IsAscii-decimal n small)

pub utf8_value : (t : List ℕ) → list_all is_value_octet t ≡ true → IsUtf8 t
utf8_value t all = IsUtf8-from_ascii t (plain is_value_octet value_small t all)

pub utf8_name : (t : List ℕ) → list_all is_path_octet t ≡ true → IsUtf8 t
utf8_name t all = IsUtf8-from_ascii t (plain is_path_octet path_small t all)

hex_plain : (octets : List ℕ) → All (λ o. o < 256) octets → list_all is_value_octet (hex_colons octets) ≡ true
hex_plain octets small = all_joined is_value_octet 58 pair_text refl octets
    (each_also (λ o. o < 256) (λ o. list_all is_value_octet (pair_text o) ≡ true)
    (λ o h. also is_ascii_hexdigit is_value_octet (λ c d. or_left _ _ (or_left _ _ (or_left _ _ d))) (pair_text o) (pair_digits o h))
    octets (recursion_from_All (λ o. o < 256) octets small))

pub utf8_hex : (octets : List ℕ) → All (λ o. o < 256) octets → IsUtf8 (hex_colons octets)
utf8_hex octets small = utf8_value (hex_colons octets) (hex_plain octets small)

gateway_small : (c : ℕ) → is_gateway_octet c ≡ true → c < 128
gateway_small c h = grind (arith, nat_tests, h)

pub utf8_gateway : (name : List ℕ) → is_gateway name ≡ true → IsUtf8 name
utf8_gateway name h =
    let octets = (and_parts (nat_le 1 (length name) && nat_le (length name) 32) (list_all is_gateway_octet name) h).1 in
    IsUtf8-from_ascii name (plain is_gateway_octet gateway_small name octets)
