-- `remainder` is the remainder: p is a multiple of x^d + low plus it.
use Rattle.std.proofs.Common.{◌≡◌, ℕ, zero, suc, ◌+◌, ◌-◌, ◌*◌, ◌/◌, ◌%◌, ◌^◌, ◌<◌, ◌≤◌, bit_xor, sym, ap, ◌∙◌, arith, pow_pos, inl, inr}
use Rattle.std.proofs.lemmas.Bool.{cases_lt}
use Rattle.std.proofs.lemmas.Nat.{pow_below, shr_high, xor_comm, xor_block, xor_lt}
use Rattle.std.proofs.lemmas.Nat.Bits.{bit_at_lowest, bit_at-suc, bit_at-lt, bit_at_above}
use Rattle.std.proofs.Math.Nat.{pow-suc, le_refl}
use Rattle.std.specs.Int.{bit_at}
use lib.Bits.{xor_assoc, xor_self, xor_zero_r}
use Rattle.gf_poly.specs.Poly.{product, times_x, remainder}
use Rattle.gf_poly.proofs.Field.{double_xor, halves, times_x-high, times_x-low, times_x-lt}

product-half : (n a b : ℕ) → product (suc n) a b ≡ bit_xor (b % 2 * a) (2 * product n a (b / 2))
unfolding product
product-half zero a b =
    let one : a * 2 ^ 0 ≡ a = omega arith in
    ap (λ (x : ℕ). x * (a * 2 ^ 0)) (bit_at_lowest b) ∙ ap (λ (x : ℕ). b % 2 * x) one ∙ sym (xor_zero_r (b % 2 * a))
product-half (suc n) a b =
    let c : ℕ = bit_at (b / 2) n in
    let w : a * 2 ^ suc n ≡ 2 * (a * 2 ^ n) = omega (arith, ap (λ (x : ℕ). a * x) (pow-suc 2 n)) in
    let v : c * (2 * (a * 2 ^ n)) ≡ 2 * (c * (a * 2 ^ n)) = omega arith in
    let last : bit_at b (suc n) * (a * 2 ^ suc n) ≡ 2 * (c * (a * 2 ^ n)) = ap (λ (x : ℕ). x * (a * 2 ^ suc n)) (bit_at-suc b n)
    ∙ ap (λ (x : ℕ). c * x) w ∙ v in
    (λ i. bit_xor (product-half n a b i) (last i))
    ∙ xor_assoc (b % 2 * a) (2 * product n a (b / 2)) (2 * (c * (a * 2 ^ n)))
    ∙ ap (bit_xor (b % 2 * a)) (sym (double_xor (product n a (b / 2)) (c * (a * 2 ^ n))))

module _ (d low : ℕ) (low_fits : low < 2 ^ d) where
  unfoldable pub modulus : ℕ
  modulus = 2 ^ d + low

  top_set : (r : ℕ) → 2 ^ d ≤ 2 * r → r < 2 ^ d → bit_at (2 * r) d ≡ 1
  top_set r k h =
      let q : ℕ = 2 * r - 2 ^ d in
      let e : 2 * r ≡ 1 * 2 ^ d + q = omega arith in
      ap (λ (x : ℕ). x / 2 ^ d % 2) e ∙ ap (λ (x : ℕ). x % 2) (shr_high 1 d q (omega arith))

  xor_fits : (r : ℕ) → 2 ^ d ≤ 2 * r → r < 2 ^ d → bit_xor (2 * r - 2 ^ d) low < 2 ^ d
  xor_fits r k h = xor_lt d (2 * r - 2 ^ d) low (omega arith) low_fits

  -- 2 r, less the modulus where its top coefficient is set
  doubled : (r : ℕ) → r < 2 ^ d → 2 * r ≡ bit_xor (bit_at (2 * r) d * modulus) (times_x d low r)
  unfolding modulus
  doubled r h = elim (cases_lt (2 * r) (2 ^ d)) [
    | inl small ↦
        let t : bit_at (2 * r) d ≡ 0 = bit_at_above (2 * r) d d small (le_refl d) in
        let z : 0 * (2 ^ d + low) ≡ 0 = omega arith in
        sym (times_x-low d low low_fits r small)
        ∙ sym (ap (λ (x : ℕ). bit_xor x (times_x d low r)) (ap (λ (x : ℕ). x * (2 ^ d + low)) t ∙ z))
    | inr large ↦
        let q : ℕ = 2 * r - 2 ^ d in
        let t : bit_at (2 * r) d ≡ 1 = top_set r large h in
        let o : 1 * (2 ^ d + low) ≡ 1 * 2 ^ d + low = omega arith in
        let z : 0 * 2 ^ d + bit_xor q low ≡ bit_xor q low = omega arith in
        let blk : bit_xor (1 * 2 ^ d + low) (0 * 2 ^ d + bit_xor q low) ≡ bit_xor 1 0 * 2 ^ d + bit_xor low (bit_xor q low) =
        xor_block d 1 0 low (bit_xor q low) low_fits (xor_fits r large h) in
        let back : bit_xor low (bit_xor q low) ≡ q = xor_comm low (bit_xor q low) ∙ xor_assoc q low low ∙ ap (bit_xor q) (xor_self low)
        ∙ xor_zero_r q in
        let sum : 1 * 2 ^ d + q ≡ 2 * r = omega arith in
        sym (
        ap (λ (x : ℕ). bit_xor x (times_x d low r)) (ap (λ (x : ℕ). x * (2 ^ d + low)) t ∙ o)
        ∙ ap (bit_xor (1 * 2 ^ d + low)) (times_x-high d low low_fits r large h ∙ sym z) ∙ blk
        ∙ ap (λ (x : ℕ). 1 * 2 ^ d + x) back ∙ sum
        )
  ]

  pub remainder-lt : (n p : ℕ) → 0 < d → remainder d low n p < 2 ^ d
  unfolding remainder
  remainder-lt zero p some = pow_pos d
  remainder-lt (suc n) p some = xor_lt d (p % 2) (times_x d low (remainder d low n (p / 2))) (omega (arith, pow_below 0 d some))
      (times_x-lt d low low_fits _)

  pub quotient : ℕ → ℕ → ℕ
  quotient zero p = 0
  quotient (suc n) p = 2 * quotient n (p / 2) + bit_at (2 * remainder d low n (p / 2)) d

  pub quotient-lt : (n p : ℕ) → quotient n p < 2 ^ n
  unfolding quotient
  quotient-lt zero p = pow_pos 0
  quotient-lt (suc n) p = omega (arith, quotient-lt n (p / 2), bit_at-lt (2 * remainder d low n (p / 2)) d, pow-suc 2 n)

  pub divided : (n p : ℕ) → p < 2 ^ n → 0 < d → p ≡ bit_xor (product n modulus (quotient n p)) (remainder d low n p)
  unfolding quotient remainder product
  divided zero p h _ = omega arith
  divided (suc n) p h some =
      let r : ℕ = remainder d low n (p / 2) in
      let q : ℕ = quotient n (p / 2) in
      let t : ℕ = bit_at (2 * r) d in
      let tl : t < 2 = bit_at-lt (2 * r) d in
      let x : ℕ = times_x d low r in
      let m : ℕ = modulus in
      let ih : p / 2 ≡ bit_xor (product n m q) r = divided n (p / 2) (omega (arith, pow-suc 2 n)) some in
      let lo : (2 * q + t) % 2 ≡ t = omega arith in
      let hi : (2 * q + t) / 2 ≡ q = omega arith in
      let prod : product (suc n) m (2 * q + t) ≡ bit_xor (t * m) (2 * product n m q) =
      product-half n m (2 * q + t) ∙ (λ i. bit_xor (lo i * m) (2 * product n m (hi i))) in
      sym (halves d low low_fits p)
      ∙ ap (λ (y : ℕ). bit_xor (p % 2) (2 * y)) ih
      ∙ ap (bit_xor (p % 2)) (double_xor (product n m q) r ∙ ap (bit_xor (2 * product n m q)) (doubled r (remainder-lt n (p / 2) some))
      ∙ sym (xor_assoc (2 * product n m q) (t * m) x) ∙ ap (λ (y : ℕ). bit_xor y x) (xor_comm (2 * product n m q) (t * m) ∙ sym prod))
      ∙ sym (xor_assoc (p % 2) (product (suc n) m (2 * q + t)) x)
      ∙ ap (λ (y : ℕ). bit_xor y x) (xor_comm (p % 2) (product (suc n) m (2 * q + t)))
      ∙ xor_assoc (product (suc n) m (2 * q + t)) (p % 2) x
