-- Hex digits: their value, and the text of a number digit by digit.
use Rattle.std.proofs.Common.{◌≡◌, ℕ, zero, suc, ◌+◌, ◌*◌, ◌/◌, ◌%◌, ◌^◌, ◌<◌, ◌≤◌, List, [], ◌∷◌, ◌++◌, Bool, true, false, length, refl, sym, ap, ◌∙◌, arith, ◌==◌, cond, ◌&&◌, ◌||◌, nat_le, inl, inr, append_assoc, Some, None}
use Rattle.std.specs.List.{list_all}
use Rattle.std.specs.Char.{is_ascii_hexdigit, digit_value}
use Rattle.std.specs.Int.{is_in_range}
use Rattle.std.proofs.lemmas.Bool.{and_parts, or_cases, leb-true, ne_eqb}
use Rattle.std.specs.Fmt.{digits, digits_onto, digit_glyph}
use Rattle.std.specs.Str.Parse.{AllDigits}
use Rattle.yang_values.specs.HexText.{hex_number}
use Rattle.std.proofs.lemmas.Fmt.{hex_one_digit}
use Rattle.std.proofs.lemmas.Int.Digits.{digits_value-lt}

-- one digit more keeps the number small
pub shift_small : (i n d : ℕ) → i < 4 → n < 16 ^ i → d < 16 → (n * 16 + d < 65536) × (n * 16 + d < 16 ^ (i + 1))
shift_small zero n d h s t = (omega arith, omega arith)
shift_small (suc zero) n d h s t = (omega arith, omega arith)
shift_small (suc (suc zero)) n d h s t = (omega arith, omega arith)
shift_small (suc (suc (suc zero))) n d h s t = (omega arith, omega arith)
shift_small (suc (suc (suc (suc i)))) n d h s t = absurd (omega arith)

-- with more than enough room the room doesn't matter
enough : (k n : ℕ) (acc : List ℕ) → n < 4096
    → digits_onto (suc (suc (suc (suc k)))) 16 false n acc ≡ digits_onto (suc (suc (suc k))) 16 false n acc
enough k n acc h = let e : n / 16 / 16 / 16 ≡ 0 = omega arith in rw e refl

either : (b : Bool) (x y z ys : List ℕ) → z ≡ y ++ ys → cond b (x ++ ys) z ≡ cond b x y ++ ys
either true x y z ys e = refl
either false x y z ys e = e

-- digits stand before what they are put before
onto-append : (k n : ℕ) (xs ys : List ℕ) → digits_onto k 16 false n (xs ++ ys) ≡ digits_onto k 16 false n xs ++ ys
onto-append zero n xs ys = refl
onto-append (suc k) n xs ys =
    either (n / 16 == 0) (digit_glyph false (n % 16) ∷ xs) (digits_onto k 16 false (n / 16) (digit_glyph false (n % 16) ∷ xs)) _ ys
    (onto-append k (n / 16) (digit_glyph false (n % 16) ∷ xs) ys)

-- a number of at most four digits has those of the number without the last, and then the last
pub hex_step : (n : ℕ) → 16 ≤ n → n < 65536 → digits 16 false n ≡ digits 16 false (n / 16) ++ digit_glyph false (n % 16) ∷ []
unfolding digits
hex_step n big small =
    let more : (n / 16 == 0) ≡ false = ne_eqb (n / 16) 0 (λ e. omega arith) in
    let first : digits_onto 64 16 false n [] ≡ digits_onto 63 16 false (n / 16) (digit_glyph false (n % 16) ∷ []) = rw more refl in
    first ∙ sym (enough 60 (n / 16) (digit_glyph false (n % 16) ∷ []) (omega arith))
    ∙ onto-append 64 (n / 16) [] (digit_glyph false (n % 16) ∷ [])

-- a last digit put behind those of the rest
pub put_more : (n : ℕ) (old middle new : List ℕ) → n < 65536 → 16 ≤ n → middle ≡ old ++ digits 16 false (n / 16)
    → new ≡ middle ++ digit_glyph false (n % 16) ∷ [] → new ≡ old ++ digits 16 false n
put_more n old middle new small big m e =
    e ∙ ap (λ x. x ++ digit_glyph false (n % 16) ∷ []) m
    ∙ append_assoc old (digits 16 false (n / 16)) (digit_glyph false (n % 16) ∷ [])
    ∙ ap (λ x. old ++ x) (sym (hex_step n big small))

-- the one digit of a number below sixteen
pub put_one : (n : ℕ) (old new : List ℕ) → n < 16 → new ≡ old ++ digit_glyph false (n % 16) ∷ [] → new ≡ old ++ digits 16 false n
put_one n old new small e =
    let same : n % 16 ≡ n = omega arith in
    e ∙ ap (λ x. old ++ digit_glyph false x ∷ []) same ∙ ap (λ x. old ++ x) (sym (hex_one_digit false n small))

-- ---- reading

in_range : (low high c : ℕ) → is_in_range low high c ≡ true → (low ≤ c) × (c ≤ high)
in_range low high c h =
    let parts = and_parts (nat_le low c) (nat_le c high) h in
    (leb-true low c parts.0, leb-true c high parts.1)

decimal_small : (c : ℕ) → 48 ≤ c → c ≤ 57 → digit_value c < 16
decimal_small c low high = grind arith

upper_small : (c : ℕ) → 65 ≤ c → c ≤ 70 → digit_value c < 16
upper_small c low high = grind arith

lower_small : (c : ℕ) → 97 ≤ c → c ≤ 102 → digit_value c < 16
lower_small c low high = grind arith

hex_digit_small : (c : ℕ) → is_ascii_hexdigit c ≡ true → digit_value c < 16
hex_digit_small c h = elim (or_cases (is_in_range 48 57 c || is_in_range 65 70 c) (is_in_range 97 102 c) h) [
  | inl front ↦ elim (or_cases (is_in_range 48 57 c) (is_in_range 65 70 c) front) [
    | inl decimal ↦ let r = in_range 48 57 c decimal in decimal_small c r.0 r.1
    | inr upper ↦ let r = in_range 65 70 c upper in upper_small c r.0 r.1
  ]
  | inr lower ↦ let r = in_range 97 102 c lower in lower_small c r.0 r.1
]

pub all_hex_digits : (t : List ℕ) → list_all is_ascii_hexdigit t ≡ true → AllDigits 16 t
all_hex_digits [] h = tt
all_hex_digits (c ∷ cs) h =
    let parts = and_parts (is_ascii_hexdigit c) (list_all is_ascii_hexdigit cs) h in
    (hex_digit_small c parts.0, all_hex_digits cs parts.1)

-- what `if` answers with `Some`
some_if : (b : Bool) (v n : ℕ) → cond b (Some v) None ≡ Some n → (b ≡ true) × (v ≡ n)
some_if true v n e = (refl, cc)
some_if false v n e = cc

-- two digits write an octet
pub pair_small : (t : List ℕ) (n : ℕ) → hex_number 2 2 t ≡ Some n → n < 256
unfolding hex_number
pair_small t n e =
    let found = some_if _ _ _ e in
    let parts = and_parts (nat_le 2 (length t) && nat_le (length t) 2) (list_all is_ascii_hexdigit t) found.0 in
    let sizes = and_parts (nat_le 2 (length t)) (nat_le (length t) 2) parts.0 in
    let least = leb-true 2 (length t) sizes.0 in
    let most = leb-true (length t) 2 sizes.1 in
    let two : length t ≡ 2 = omega arith in
    let small = digits_value-lt 16 t (all_hex_digits t parts.1) in
    let bound : 16 ^ length t ≡ 256 = rw two refl in
    omega (arith, small, bound, found.1)
