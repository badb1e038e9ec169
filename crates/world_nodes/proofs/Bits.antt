-- One bit of an octet is changed.
use Rattle.std.proofs.Common.{◌≡◌, ℕ, zero, suc, ◌+◌, ◌-◌, ◌*◌, ◌/◌, ◌%◌, ◌^◌, ◌<◌, ◌≤◌, ◌==◌, true, false, List, [], ◌∷◌, length, get_or, set, refl, sym, ap, ◌∙◌, subst, arith, bit_xor, eqb-true}
use Rattle.gf_poly.proofs.Tables.{all_below, all_below_at}
use Rattle.hist_world.specs.Arrivals.{flipped, with_bit}

table : all_below (λ x. bit_xor (x % 256) (1 * 2 ^ (x / 256) % 2 ^ 8) == with_bit (x / 256) (x % 256)) 2048 ≡ true
table = refl

-- the octet with the bit of the code's exclusive or
pub changed-bit : (bit b : ℕ) → bit < 8 → b < 256 → bit_xor b (1 * 2 ^ bit % 2 ^ 8) ≡ with_bit bit b
changed-bit bit b few small =
    let low : (bit * 256 + b) % 256 ≡ b = omega (arith, small) in
    let high : (bit * 256 + b) / 256 ≡ bit = omega (arith, small) in
    let within : bit * 256 + b < 2048 = omega (arith, few, small) in
    let row = all_below_at (λ x. bit_xor (x % 256) (1 * 2 ^ (x / 256) % 2 ^ 8) == with_bit (x / 256) (x % 256)) 2048
    (bit * 256 + b) table within in
    let same = eqb-true (bit_xor ((bit * 256 + b) % 256) (1 * 2 ^ ((bit * 256 + b) / 256) % 2 ^ 8))
    (with_bit ((bit * 256 + b) / 256) ((bit * 256 + b) % 256)) row in
    subst (λ hi. bit_xor b (1 * 2 ^ hi % 2 ^ 8) ≡ with_bit hi b) high
    (subst (λ lo. bit_xor lo (1 * 2 ^ ((bit * 256 + b) / 256) % 2 ^ 8) ≡ with_bit ((bit * 256 + b) / 256) lo) low same)

-- the octet at its place is changed
pub flipped-at : (bit : ℕ) (l : List ℕ) (i : ℕ) → i < length l → flipped i bit l ≡ set l i (with_bit bit (get_or l i 0))
flipped-at bit [] i lt = absurd (omega (arith, lt))
flipped-at bit (b ∷ bs) zero lt = refl
flipped-at bit (b ∷ bs) (suc i) lt =
    let later : (suc i == 0) ≡ false = grind arith in
    let before : suc i - 1 ≡ i = omega arith in
    rw (later, before) (ap (λ z. b ∷ z) (flipped-at bit bs i (omega (arith, lt))))

-- no octet is, past the end
pub flipped-past : (bit : ℕ) (l : List ℕ) (i : ℕ) → length l ≤ i → flipped i bit l ≡ l
flipped-past bit [] i le = refl
flipped-past bit (b ∷ bs) zero le = absurd (omega (arith, le))
flipped-past bit (b ∷ bs) (suc i) le =
    let later : (suc i == 0) ≡ false = grind arith in
    let before : suc i - 1 ≡ i = omega arith in
    rw (later, before) (ap (λ z. b ∷ z) (flipped-past bit bs i (omega (arith, le))))

-- as the code does it
pub flip : (bit : ℕ) (l : List ℕ) (i : ℕ) → bit < 8 → i < length l → get_or l i 0 < 256
    → set l i (bit_xor (get_or l i 0) (1 * 2 ^ bit % 2 ^ 8)) ≡ flipped i bit l
flip bit l i few lt small = ap (λ b. set l i b) (changed-bit bit (get_or l i 0) few small) ∙ sym (flipped-at bit l i lt)
