-- Decimal digits: their value, and the text of a number digit by digit.
use Rattle.std.proofs.Common.{◌≡◌, ℕ, ◌+◌, ◌-◌, ◌*◌, ◌/◌, ◌%◌, ◌^◌, ◌<◌, ◌≤◌, List, [], ◌∷◌, ◌++◌, true, length, take, get_or, sym, ap, ◌∙◌, arith, rules, append_assoc}
use Rattle.std.specs.List.{list_all}
use Rattle.std.specs.Char.{is_ascii_digit, digit_value}
use Rattle.std.specs.Fmt.{decimal}
use Rattle.std.specs.Str.Parse.{digits_value}
use Rattle.std.proofs.lemmas.Fmt.{decimal_digit, decimal_step}
use Rattle.std.proofs.lemmas.Int.Digits.{digits_value_more}
use Rattle.std.proofs.lemmas.Str.Parse.{IsDigitsTest, IsNumeralModel, numerals_by_value, digit_at, digits_value-take-le}

-- every octet is a decimal digit
abbrev pub AreDigits : List ℕ → Type 0
AreDigits ds = list_all is_ascii_digit ds ≡ true

pub tells_are_digits : IsDigitsTest AreDigits
tells_are_digits = search rules

pub decimal_model : IsNumeralModel AreDigits (digits_value 10)
decimal_model = numerals_by_value AreDigits tells_are_digits

-- a last digit put behind those of the rest
pub put_more : (n : ℕ) (old middle new : List ℕ) → n < 2 ^ 64 → 10 ≤ n → middle ≡ old ++ decimal (n / 10)
    → new ≡ middle ++ (48 + n % 10) ∷ [] → new ≡ old ++ decimal n
put_more n old middle new small big m e =
    e ∙ ap (λ x. x ++ (48 + n % 10) ∷ []) m ∙ append_assoc old (decimal (n / 10)) ((48 + n % 10) ∷ [])
    ∙ ap (λ x. old ++ x) (sym (decimal_step n big small))

-- the one digit of a number below ten
pub put_one : (n : ℕ) (old new : List ℕ) → n < 10 → new ≡ old ++ (48 + n % 10) ∷ [] → new ≡ old ++ decimal n
put_one n old new small e =
    let same : 48 + n % 10 ≡ 48 + n = omega arith in
    e ∙ ap (λ x. old ++ x ∷ []) same ∙ ap (λ x. old ++ x) (sym (decimal_digit n small))

-- a digit is from 48 to 57
pub digit_in : (ds : List ℕ) (i : ℕ) → AreDigits ds → i < length ds → (48 ≤ get_or ds i 0) × (get_or ds i 0 ≤ 57)
digit_in ds i are lt = let r = digit_at ds i (decimal_model.to ds are) lt in (r.0, r.1)

digit_value_is : (c : ℕ) → 48 ≤ c → c ≤ 57 → digit_value c ≡ c - 48
digit_value_is c low high = grind arith

-- a front of the digits with one more
pub front_more : (ds : List ℕ) (i : ℕ) → AreDigits ds → i < length ds
    → digits_value 10 (take (i + 1) ds) ≡ digits_value 10 (take i ds) * 10 + (get_or ds i 0 - 48)
front_more ds i are lt = let e = digits_value_more 10 ds i lt in let r = digit_in ds i are lt in
    let v = digit_value_is (get_or ds i 0) r.0 r.1 in
    omega (arith, e, v)

-- a front is worth no more than all of it
pub front_small : (ds : List ℕ) (i : ℕ) → digits_value 10 (take i ds) ≤ digits_value 10 ds
front_small ds i = digits_value-take-le 10 ds i (omega arith)
