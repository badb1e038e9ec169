-- The canonical texts of numbers, pairs and groups are read again.
use Rattle.std.proofs.Common.{◌≡◌, ℕ, ◌+◌, ◌-◌, ◌/◌, ◌%◌, ◌^◌, ◌<◌, ◌≤◌, ◌==◌, ◌&&◌, ◌||◌, not, Bool, true, false, List, [], ◌∷◌, length, slice_index, unwrap_or, Option, Some, None, Ok, ◌⊎◌, inl, inr, refl, sym, ap, ◌∙◌, arith, length-append, lit<}
use Rattle.std.specs.List.{list_all}
use Rattle.std.specs.Int.{is_in_range}
use Rattle.std.specs.Char.{is_ascii_hexdigit, digit_value}
use Rattle.std.specs.Fmt.{decimal, digit_glyph}
use Rattle.std.specs.Str.Parse.{digits_value, AllDigits, IsNumeral}
use Rattle.std.proofs.lemmas.Bool.{false≢true, and_parts, and_from, or_left, or_right, ne_eqb, eqb-true, le-leb, le-ltb, cases_lt, agree_below, agree_below_at}
use Rattle.std.proofs.lemmas.Fmt.{digits_decimal, digits_value-decimal, decimal_digit, decimal_nonempty, first_decimal, digits_is_IsNumeral, hex_one_digit}
use Rattle.yang_values.specs.Numbers.{is_number, number_of}
use Rattle.yang_values.specs.HexText.{hex_number, pair_of, pair_text}
use Rattle.yang_values.specs.Addresses.{group_of, group_text}
use Rattle.yang_values.proofs.NumberLemmas.{AreDigits, decimal_model}
use Rattle.yang_values.proofs.HexNumberLemmas.{hex_step}
use Rattle.hex.specs.Hex.{encode_with}

-- ---- decimal numbers

-- digits that don't begin with a zero, or are one digit
is_number_from : (t : List ℕ) → 0 < length t → (not (slice_index t 0 == 48) || length t == 1) ≡ true → AreDigits t → is_number t ≡ true
is_number_from t some bare are =
    let e : (length t == 0) ≡ false = ne_eqb _ _ (λ none. omega arith) in
    rw (e, bare, are) refl

pub is_number-decimal : (n : ℕ) → n < 2 ^ 64 → is_number (decimal n) ≡ true
is_number-decimal n small =
    is_number_from (decimal n) (decimal_nonempty n small) (bare (cases_lt 0 n)) (digits_decimal decimal_model n small)
  where
    bare : (0 < n) ⊎ (n ≤ 0) → (not (slice_index (decimal n) 0 == 48) || length (decimal n) == 1) ≡ true
    bare (inl some) =
        let first = first_decimal n some small in
        let e : (slice_index (decimal n) 0 == 48) ≡ false = ne_eqb _ _ (λ z. omega (arith, first, z)) in
        rw e refl
    bare (inr none) =
        let zero_is : n ≡ 0 = omega arith in
        let e : decimal n ≡ 48 ∷ [] = ap decimal zero_is ∙ decimal_digit 0 (omega arith) in
        rw e refl

-- the canonical text of a number is read again
pub number_of-decimal : (n most : ℕ) → n < 2 ^ 64 → n ≤ most → number_of most (decimal n) ≡ Ok n
unfolding number_of
number_of-decimal n most small fits =
    let v = digits_value-decimal decimal_model n small in
    rw (is_number-decimal n small, v, le-ltb most n fits) refl

-- ---- pairs of hex digits

pair_reads : ℕ → Bool
pair_reads octet = (unwrap_or (pair_of (pair_text octet)) 256 == octet) && list_all is_ascii_hexdigit (pair_text octet)

all_pairs_read : agree_below pair_reads (λ _. true) 256 ≡ true
unfolding pair_reads hex_number encode_with
all_pairs_read = refl

-- ---- groups of hex digits

value_low : (c : ℕ) → c < 48 → digit_value c ≡ 36
value_low c h = grind arith

value_between : (c : ℕ) → 58 ≤ c → c < 65 → digit_value c ≡ 36
value_between c h k = grind arith

value_upper : (c : ℕ) → 65 ≤ c → c < 91 → digit_value c ≡ c - 55
value_upper c h k = grind arith

value_gap : (c : ℕ) → 91 ≤ c → c < 97 → digit_value c ≡ 36
value_gap c h k = grind arith

value_lower : (c : ℕ) → 97 ≤ c → c < 123 → digit_value c ≡ c - 87
value_lower c h k = grind arith

value_high : (c : ℕ) → 123 ≤ c → digit_value c ≡ 36
value_high c h = grind arith

in_range_from : (low high c : ℕ) → low ≤ c → c ≤ high → is_in_range low high c ≡ true
in_range_from low high c h k = and_from _ _ (le-leb low c h) (le-leb c high k)

-- a digit below sixteen is a hex digit
hexdigit_from_value : (c : ℕ) → digit_value c < 16 → is_ascii_hexdigit c ≡ true
hexdigit_from_value c small = elim (cases_lt c 48) [
  | inl a ↦ let v = value_low c a in absurd (omega (arith, v))
  | inr a ↦ elim (cases_lt c 58) [
    | inl b ↦ or_left _ _ (or_left _ _ (in_range_from 48 57 c a (omega arith)))
    | inr b ↦ elim (cases_lt c 65) [
      | inl d ↦ let v = value_between c b d in absurd (omega (arith, v))
      | inr d ↦ elim (cases_lt c 91) [
        | inl e ↦ let v = value_upper c d e in or_left _ _ (or_right _ _ (in_range_from 65 70 c d (omega (arith, v))))
        | inr e ↦ elim (cases_lt c 97) [
          | inl f ↦ let v = value_gap c e f in absurd (omega (arith, v))
          | inr f ↦ elim (cases_lt c 123) [
            | inl g ↦ let v = value_lower c f g in or_right _ _ (in_range_from 97 102 c f (omega (arith, v)))
            | inr g ↦ let v = value_high c g in absurd (omega (arith, v))
          ]
        ]
      ]
    ]
  ]
]

hexdigits_from : (t : List ℕ) → AllDigits 16 t → list_all is_ascii_hexdigit t ≡ true
hexdigits_from [] all = refl
hexdigits_from (c ∷ cs) all = and_from _ _ (hexdigit_from_value c all.0) (hexdigits_from cs all.1)

length-group_step : (n : ℕ) → 16 ≤ n → n < 65536 → length (group_text n) ≡ length (group_text (n / 16)) + 1
length-group_step n big small = ap length (hex_step n big small) ∙ length-append (group_text (n / 16)) (digit_glyph false (n % 16) ∷ [])

length-group_one : (n : ℕ) → n < 16 → length (group_text n) ≡ 1
length-group_one n small = ap length (hex_one_digit false n small)

length-group_two : (n : ℕ) → n < 256 → length (group_text n) ≤ 2
length-group_two n small = elim (cases_lt n 16) [
  | inl low ↦ let e = length-group_one n low in omega (arith, e)
  | inr high ↦ let e = length-group_step n high (omega arith) in let r = length-group_one (n / 16) (omega arith) in omega (arith, e, r)
]

length-group_three : (n : ℕ) → n < 4096 → length (group_text n) ≤ 3
length-group_three n small = elim (cases_lt n 16) [
  | inl low ↦ let e = length-group_one n low in omega (arith, e)
  | inr high ↦ let e = length-group_step n high (omega arith) in let r = length-group_two (n / 16) (omega arith) in omega (arith, e, r)
]

length-group_four : (n : ℕ) → n < 65536 → length (group_text n) ≤ 4
length-group_four n small = elim (cases_lt n 16) [
  | inl low ↦ let e = length-group_one n low in omega (arith, e)
  | inr high ↦ let e = length-group_step n high (omega arith) in let r = length-group_three (n / 16) (omega arith) in omega (arith, e, r)
]

numeral : (n : ℕ) → n < 65536 → IsNumeral 16 (group_text n) × (digits_value 16 (group_text n) ≡ n)
numeral n small = digits_is_IsNumeral 16 false (omega arith) (omega arith) n (omega arith)

pub some_group : (n : ℕ) → n < 65536 → 0 < length (group_text n)
some_group n small = (numeral n small).0.0

pub group_digits : (n : ℕ) → n < 65536 → list_all is_ascii_hexdigit (group_text n) ≡ true
group_digits n small = hexdigits_from (group_text n) (numeral n small).0.1

-- the canonical text of a group is read again
pub group_of-text : (n : ℕ) → n < 65536 → group_of (group_text n) ≡ Some n
unfolding hex_number
group_of-text n small =
    let least = le-leb 1 (length (group_text n)) (some_group n small) in
    let most = le-leb (length (group_text n)) 4 (length-group_four n small) in
    rw (least, most, group_digits n small) (ap Some (numeral n small).1)

-- an octet that passes a test isn't one that fails it
pub apart : (q : ℕ → Bool) (c mark : ℕ) → q mark ≡ false → q c ≡ true → (c == mark) ≡ false
apart q c mark fails passes = ne_eqb c mark (λ same. false≢true (sym fails ∙ ap q (sym same) ∙ passes))

pair_test : (octet : ℕ) → octet < 256 → pair_reads octet ≡ true
pair_test octet small = agree_below_at pair_reads (λ _. true) 256 octet all_pairs_read small

some_from_unwrap : (o : Option ℕ) (n d : ℕ) → n < d → unwrap_or o d ≡ n → o ≡ Some n
some_from_unwrap (Some v) n d h e = ap Some e
some_from_unwrap None n d h e = absurd (omega arith)

-- the two digits of an octet are read again
pub pair_of-text : (octet : ℕ) → octet < 256 → pair_of (pair_text octet) ≡ Some octet
unfolding pair_reads
pair_of-text octet small =
    let parts = and_parts _ _ (pair_test octet small) in
    some_from_unwrap (pair_of (pair_text octet)) octet 256 small (eqb-true _ _ parts.0)

pub pair_digits : (octet : ℕ) → octet < 256 → list_all is_ascii_hexdigit (pair_text octet) ≡ true
unfolding pair_reads
pair_digits octet small = (and_parts _ _ (pair_test octet small)).1

pub some_pair : (octet : ℕ) → 0 < length (pair_text octet)
unfolding encode_with
some_pair octet = lit< tt
