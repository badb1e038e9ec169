-- What the definitions compute.
use Rattle.std.proofs.Common.{◌≡◌, ℕ, ◌+◌, ◌-◌, ◌*◌, ◌<◌, refl, true, bit_xor, arith, ◌≤◌, ap, sym, ◌∙◌}
use Rattle.std.specs.Prelude.{slice_index, ◌==◌}
use Rattle.std.proofs.lemmas.Bool.{eqb-true}
use Rattle.gf_poly.specs.Poly.{from_bits, product, times_x, remainder, multiply, power}
use Rattle.gf_poly.proofs.Tables.{all_below, all_below_at}
use Rattle.aes_block.specs.Aes.{times, inverse_below, inverse, s_box}
use Rattle.aes_block.specs.declared.tables.TheConstants.{ROUND_CONSTANTS, S_TABLE}

pub product_57_83 : times 0x57 0x83 ≡ 0xc1
unfolding times multiply product times_x remainder
product_57_83 = refl

pub s_of_53 : s_box 0x53 ≡ 0xed
unfolding times multiply product times_x remainder inverse_below inverse from_bits s_box
s_of_53 = refl

pub table_is_s : all_below (λ x. slice_index S_TABLE x == s_box x) 256 ≡ true
unfolding times multiply product times_x remainder inverse_below inverse from_bits s_box
table_is_s = refl

pub constants : all_below (λ i. slice_index ROUND_CONSTANTS i == power 8 0x1b 2 i) 14 ≡ true
unfolding multiply product times_x remainder power
constants = refl

pub doubles_low : all_below (λ x. times 2 x == x * 2) 128 ≡ true
unfolding times multiply product times_x remainder
doubles_low = refl

pub doubles_high : all_below (λ y. times 2 (y + 128) == bit_xor (y * 2) 0x1b) 128 ≡ true
unfolding times multiply product times_x remainder
doubles_high = refl

pub triples : all_below (λ x. times 3 x == bit_xor (times 2 x) x) 256 ≡ true
unfolding times multiply product times_x remainder
triples = refl

pub ones : all_below (λ x. times 1 x == x) 256 ≡ true
unfolding times multiply product times_x remainder
ones = refl

pub s_table_at : (x : ℕ) → x < 256 → slice_index S_TABLE x ≡ s_box x
s_table_at x lt = eqb-true (slice_index S_TABLE x) (s_box x) (all_below_at (λ x. slice_index S_TABLE x == s_box x) 256 x table_is_s lt)

pub round_constant_at : (i : ℕ) → i < 14 → slice_index ROUND_CONSTANTS i ≡ power 8 0x1b 2 i
round_constant_at i lt = eqb-true (slice_index ROUND_CONSTANTS i) (power 8 0x1b 2 i)
    (all_below_at (λ i. slice_index ROUND_CONSTANTS i == power 8 0x1b 2 i) 14 i constants lt)

pub times_two_low : (x : ℕ) → x < 128 → times 2 x ≡ x * 2
times_two_low x lt = eqb-true (times 2 x) (x * 2) (all_below_at (λ x. times 2 x == x * 2) 128 x doubles_low lt)

pub times_two_high : (x : ℕ) → 128 ≤ x → x < 256 → times 2 x ≡ bit_xor ((x - 128) * 2) 0x1b
times_two_high x le lt =
    let e : x - 128 + 128 ≡ x = omega arith in
    ap (times 2) (sym e) ∙ eqb-true (times 2 (x - 128 + 128)) (bit_xor ((x - 128) * 2) 0x1b)
    (all_below_at (λ y. times 2 (y + 128) == bit_xor (y * 2) 0x1b) 128 (x - 128) doubles_high (omega arith))

pub times_three : (x : ℕ) → x < 256 → times 3 x ≡ bit_xor (times 2 x) x
times_three x lt = eqb-true (times 3 x) (bit_xor (times 2 x) x) (all_below_at (λ x. times 3 x == bit_xor (times 2 x) x) 256 x triples lt)

pub times_one : (x : ℕ) → x < 256 → times 1 x ≡ x
times_one x lt = eqb-true (times 1 x) x (all_below_at (λ x. times 1 x == x) 256 x ones lt)

-- what `inverse` finds is an inverse
inverses : all_below (λ b. times (b + 1) (inverse (b + 1)) == 1) 255 ≡ true
unfolding times multiply product times_x remainder inverse_below inverse
inverses = refl

pub times_inverse : (b : ℕ) → 0 < b → b < 256 → times b (inverse b) ≡ 1
times_inverse b some lt =
    let e : b - 1 + 1 ≡ b = omega arith in
    ap (λ (x : ℕ). times x (inverse x)) (sym e) ∙ eqb-true (times (b - 1 + 1) (inverse (b - 1 + 1))) 1
    (all_below_at (λ b. times (b + 1) (inverse (b + 1)) == 1) 255 (b - 1) inverses (omega arith))

pub inverse_zero : inverse 0 ≡ 0
unfolding times multiply product times_x remainder inverse_below inverse
inverse_zero = refl
