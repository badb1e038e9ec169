-- GF(2)[x] / (x^d + low) is a commutative ring, and Horner's rule is the sum of powers.
use Rattle.std.proofs.Common.{◌≡◌, ℕ, zero, suc, ◌+◌, ◌-◌, ◌*◌, ◌/◌, ◌%◌, ◌^◌, ◌<◌, ◌≤◌, List, [], ◌∷◌, length, bit_xor, sym, ap, ◌∙◌, refl, arith, add-zero, add-one, pow_pos, ◌++◌, length-append}
use Rattle.std.proofs.lemmas.Nat.{xor_comm, xor_lt, xor_mod, xor_shr, xor_block, mod-pow-add, mod_below, mod_low, pow_below, shr_high}
use Rattle.std.proofs.lemmas.Nat.Bits.{bit_at-lt, bit_at_xor, bit_at-zero, bit_at_above}
use Rattle.std.proofs.Math.Nat.{pow-suc, pow-le-pow_right, mod-eq_of_lt, le_refl}
use Rattle.std.specs.Int.{bit_at}
use lib.Lanes.{Each1}
use lib.Bits.{xor_assoc, xor_self, xor_zero_r}
use Rattle.gf_poly.specs.Poly.{product, times_x, remainder, multiply, power, power_sum}

-- ---- sums

pub xor_four : (a b c d : ℕ) → bit_xor (bit_xor a b) (bit_xor c d) ≡ bit_xor (bit_xor a c) (bit_xor b d)
xor_four a b c d =
    xor_assoc a b (bit_xor c d)
    ∙ ap (bit_xor a) (sym (xor_assoc b c d) ∙ ap (λ (x : ℕ). bit_xor x d) (xor_comm b c) ∙ xor_assoc c b d)
    ∙ sym (xor_assoc a c (bit_xor b d))

-- one coefficient, times a number
bits_sum : (c e l : ℕ) → c < 2 → e < 2 → (c + e) % 2 * l ≡ bit_xor (c * l) (e * l)
bits_sum zero e l p q =
    let h : (0 + e) % 2 ≡ e = omega arith in
    let z : 0 * l ≡ 0 = omega arith in
    ap (λ (x : ℕ). x * l) h ∙ sym (ap (λ (x : ℕ). bit_xor x (e * l)) z)
bits_sum (suc zero) zero l p q =
    let z : 0 * l ≡ 0 = omega arith in
    sym (ap (bit_xor (1 * l)) z ∙ xor_zero_r (1 * l))
bits_sum (suc zero) (suc zero) l p q =
    let z : 0 * l ≡ 0 = omega arith in
    z ∙ sym (xor_self (1 * l))
bits_sum (suc zero) (suc (suc e)) l p q = absurd (omega arith)
bits_sum (suc (suc c)) e l p q = absurd (omega arith)

-- one coefficient goes through a function that keeps sums
scaled : (f : ℕ → ℕ) → f 0 ≡ 0 → (c a : ℕ) → c < 2 → f (c * a) ≡ c * f a
scaled f z zero a p =
    let e : 0 * a ≡ 0 = omega arith in
    let e' : 0 * f a ≡ 0 = omega arith in ap f e ∙ z ∙ sym e'
scaled f z (suc zero) a p =
    let e : 1 * a ≡ a = omega arith in
    let e' : 1 * f a ≡ f a = omega arith in ap f e ∙ sym e'
scaled f z (suc (suc c)) a p = absurd (omega arith)

bit_times_lt : (c k a : ℕ) → c < 2 → a < 2 ^ k → c * a < 2 ^ k
bit_times_lt zero k a p h = let e : 0 * a ≡ 0 = omega arith in omega (arith, pow_pos k)
bit_times_lt (suc zero) k a p h = let e : 1 * a ≡ a = omega arith in omega arith
bit_times_lt (suc (suc c)) k a p h = absurd (omega arith)

pub double_xor : (a b : ℕ) → 2 * bit_xor a b ≡ bit_xor (2 * a) (2 * b)
double_xor a b =
    let h : bit_xor (a * 2 ^ 1 + 0) (b * 2 ^ 1 + 0) ≡ bit_xor a b * 2 ^ 1 + 0 = xor_block 1 a b 0 0 (pow_pos 1) (pow_pos 1) in
    let e : (x : ℕ) → x * 2 ^ 1 + 0 ≡ 2 * x = λ x. omega arith in
    sym (e (bit_xor a b)) ∙ sym h ∙ ap (λ (x : ℕ). bit_xor x (b * 2 ^ 1 + 0)) (e a) ∙ ap (bit_xor (2 * a)) (e b)

shifted_xor : (a b k : ℕ) → bit_xor a b * 2 ^ k ≡ bit_xor (a * 2 ^ k) (b * 2 ^ k)
shifted_xor a b k =
    let h = xor_block k a b 0 0 (pow_pos k) (pow_pos k) in
    let e : (x : ℕ) → x * 2 ^ k + 0 ≡ x * 2 ^ k = λ x. add-zero (x * 2 ^ k) in
    sym (e (bit_xor a b)) ∙ sym h ∙ ap (λ (x : ℕ). bit_xor x (b * 2 ^ k + 0)) (e a) ∙ ap (bit_xor (a * 2 ^ k)) (e b)

module _ (d low : ℕ) (low_fits : low < 2 ^ d) where
  x_times : ℕ → ℕ
  unfolding times_x
  x_times a = times_x d low a

  pub times_x-xor : (a b : ℕ) → times_x d low (bit_xor a b) ≡ bit_xor (times_x d low a) (times_x d low b)
  unfolding times_x
  times_x-xor a b =
      rw (
        double_xor a b,
        xor_mod (2 * a) (2 * b) d,
        bit_at_xor (2 * a) (2 * b) d,
        bits_sum (bit_at (2 * a) d) (bit_at (2 * b) d) low (bit_at-lt (2 * a) d) (bit_at-lt (2 * b) d),
      )
      (xor_four (2 * a % 2 ^ d) (2 * b % 2 ^ d) (bit_at (2 * a) d * low) (bit_at (2 * b) d * low))

  pub times_x-zero : times_x d low 0 ≡ 0
  unfolding times_x
  times_x-zero =
      let e : 0 % 2 ^ d ≡ 0 = omega (arith, pow_pos d) in
      let n : 0 * low ≡ 0 = omega arith in
      let t : bit_at 0 d * low ≡ 0 = ap (λ (x : ℕ). x * low) (bit_at-zero d) ∙ n in
      ap (λ (x : ℕ). bit_xor x (bit_at 0 d * low)) e ∙ t

  pub times_x-lt : (a : ℕ) → times_x d low a < 2 ^ d
  unfolding times_x
  times_x-lt a = xor_lt d _ _ (mod_below (2 * a) (2 ^ d) (pow_pos d)) (bit_times_lt (bit_at (2 * a) d) d low (bit_at-lt (2 * a) d) low_fits)

  -- ---- remainders
  pub remainder-xor : (n p q : ℕ) → remainder d low n (bit_xor p q) ≡ bit_xor (remainder d low n p) (remainder d low n q)
  unfolding remainder
  remainder-xor zero p q = refl
  remainder-xor (suc n) p q =
      let low_part : bit_xor p q % 2 ≡ bit_xor (p % 2) (q % 2) = xor_mod p q 1 in
      let half : bit_xor p q / 2 ≡ bit_xor (p / 2) (q / 2) = xor_shr p q 1 in
      let rp : ℕ = times_x d low (remainder d low n (p / 2)) in
      let rq : ℕ = times_x d low (remainder d low n (q / 2)) in
      ap (λ (x : ℕ). bit_xor x (times_x d low (remainder d low n (bit_xor p q / 2)))) low_part
      ∙ ap (λ (x : ℕ). bit_xor (bit_xor (p % 2) (q % 2)) (times_x d low x)) (ap (remainder d low n) half ∙ remainder-xor n (p / 2) (q / 2))
      ∙ ap (bit_xor (bit_xor (p % 2) (q % 2))) (times_x-xor (remainder d low n (p / 2)) (remainder d low n (q / 2)))
      ∙ xor_four (p % 2) (q % 2) rp rq

  pub remainder-zero : (n : ℕ) → remainder d low n 0 ≡ 0
  unfolding remainder
  remainder-zero zero = refl
  remainder-zero (suc n) = ap (times_x d low) (remainder-zero n) ∙ times_x-zero

  remainder-double : (n p : ℕ) → remainder d low (suc n) (2 * p) ≡ times_x d low (remainder d low n p)
  unfolding remainder
  remainder-double n p =
      let a : 2 * p % 2 ≡ 0 = omega arith in
      let b : 2 * p / 2 ≡ p = omega arith in
      ap (λ (x : ℕ). bit_xor x (times_x d low (remainder d low n (2 * p / 2)))) a
      ∙ ap (λ (x : ℕ). times_x d low (remainder d low n x)) b

  -- an element is its own remainder
  keeps : (a : ℕ) → a < 2 ^ d → 2 * a < 2 ^ d → times_x d low a ≡ 2 * a
  unfolding times_x
  keeps a h k =
      let e : 2 * a % 2 ^ d ≡ 2 * a = mod-eq_of_lt k in
      let n : 0 * low ≡ 0 = omega arith in
      let t : bit_at (2 * a) d * low ≡ 0 = ap (λ (x : ℕ). x * low) (bit_at_above (2 * a) d d k (le_refl d)) ∙ n in
      ap (λ (x : ℕ). bit_xor x (bit_at (2 * a) d * low)) e ∙ ap (bit_xor (2 * a)) t ∙ xor_zero_r (2 * a)

  pub times_x-low : (a : ℕ) → 2 * a < 2 ^ d → times_x d low a ≡ 2 * a
  times_x-low a k = keeps a (omega arith) k

  pub times_x-high : (a : ℕ) → 2 ^ d ≤ 2 * a → a < 2 ^ d → times_x d low a ≡ bit_xor (2 * a - 2 ^ d) low
  unfolding times_x
  times_x-high a k h =
      let r : ℕ = 2 * a - 2 ^ d in
      let rl : r < 2 ^ d = omega arith in
      let e : 2 * a ≡ 1 * 2 ^ d + r = omega arith in
      let hi : (1 * 2 ^ d + r) / 2 ^ d ≡ 1 = shr_high 1 d r rl in
      let lo : (1 * 2 ^ d + r) % 2 ^ d ≡ r = mod_low 1 d r rl in
      let bit : bit_at (2 * a) d ≡ 1 = ap (λ (x : ℕ). x / 2 ^ d % 2) e ∙ ap (λ (x : ℕ). x % 2) hi in
      let one : 1 * low ≡ low = omega arith in
      ap (λ (x : ℕ). bit_xor x (bit_at (2 * a) d * low)) (ap (λ (x : ℕ). x % 2 ^ d) e ∙ lo)
      ∙ ap (bit_xor r) (ap (λ (x : ℕ). x * low) bit ∙ one)

  pub halves : (p : ℕ) → bit_xor (p % 2) (2 * (p / 2)) ≡ p
  halves p =
      let b : bit_xor (0 * 2 ^ 1 + p % 2) (p / 2 * 2 ^ 1 + 0) ≡ bit_xor 0 (p / 2) * 2 ^ 1 + bit_xor (p % 2) 0 =
      xor_block 1 0 (p / 2) (p % 2) 0 (omega arith) (omega arith) in
      let l : 0 * 2 ^ 1 + p % 2 ≡ p % 2 = omega arith in
      let r : p / 2 * 2 ^ 1 + 0 ≡ 2 * (p / 2) = omega arith in
      ap (λ (x : ℕ). bit_xor x (2 * (p / 2))) (sym l) ∙ ap (bit_xor (0 * 2 ^ 1 + p % 2)) (sym r) ∙ b
      ∙ omega (arith, xor_zero_r (p % 2))

  pub remainder-small : (n p : ℕ) → p < 2 ^ n → p < 2 ^ d → remainder d low n p ≡ p
  unfolding remainder
  remainder-small zero p h k = omega arith
  remainder-small (suc n) p h k =
      ap (λ (x : ℕ). bit_xor (p % 2) (times_x d low x)) (remainder-small n (p / 2) (omega (arith, pow-suc 2 n)) (omega arith))
      ∙ ap (bit_xor (p % 2)) (keeps (p / 2) (omega arith) (omega arith)) ∙ halves p

  -- x^i times a
  unfoldable pub iterate : ℕ → ℕ → ℕ
  iterate zero a = a
  iterate (suc i) a = times_x d low (iterate i a)

  -- the sum of x^i times a, over the i below n where b has x^i
  unfoldable pub lin : ℕ → ℕ → ℕ → ℕ
  lin zero a b = 0
  lin (suc n) a b = bit_xor (lin n a b) (bit_at b n * iterate n a)

  pub iterate-suc : (i a : ℕ) → iterate (i + 1) a ≡ times_x d low (iterate i a)
  unfolding iterate
  iterate-suc i a = ap (λ (n : ℕ). iterate n a) (add-one i)

  -- one more coefficient of b, 0 or 1
  pub lin-skip : (n a b : ℕ) → bit_at b n ≡ 0 → lin (n + 1) a b ≡ lin n a b
  unfolding lin
  lin-skip n a b e =
      let z : 0 * iterate n a ≡ 0 = omega arith in
      ap (λ (m : ℕ). lin m a b) (add-one n) ∙ ap (bit_xor (lin n a b)) (ap (λ (x : ℕ). x * iterate n a) e ∙ z) ∙ xor_zero_r (lin n a b)

  pub lin-take : (n a b : ℕ) → bit_at b n ≡ 1 → lin (n + 1) a b ≡ bit_xor (lin n a b) (iterate n a)
  unfolding lin
  lin-take n a b e =
      let o : 1 * iterate n a ≡ iterate n a = omega arith in
      ap (λ (m : ℕ). lin m a b) (add-one n) ∙ ap (bit_xor (lin n a b)) (ap (λ (x : ℕ). x * iterate n a) e ∙ o)

  iterate-lt : (i a : ℕ) → a < 2 ^ d → iterate i a < 2 ^ d
  unfolding iterate
  iterate-lt zero a h = h
  iterate-lt (suc i) a h = times_x-lt (iterate i a)

  pub lin-lt : (n a b : ℕ) → a < 2 ^ d → lin n a b < 2 ^ d
  unfolding lin
  lin-lt zero a b h = pow_pos d
  lin-lt (suc n) a b h = xor_lt d _ _ (lin-lt n a b h) (bit_times_lt (bit_at b n) d (iterate n a) (bit_at-lt b n) (iterate-lt n a h))

  remainder-shifted : (n i a : ℕ) → a < 2 ^ d → d + i ≤ n → remainder d low n (a * 2 ^ i) ≡ iterate i a
  unfolding iterate
  remainder-shifted n zero a h k =
      let e : a * 2 ^ 0 ≡ a = omega arith in
      let m : 2 ^ d ≤ 2 ^ n = pow-le-pow_right (omega arith) (omega arith) in
      ap (remainder d low n) e ∙ remainder-small n a (omega arith) h
  remainder-shifted zero (suc i) a h k = absurd (omega arith)
  remainder-shifted (suc n) (suc i) a h k =
      let e : a * 2 ^ suc i ≡ 2 * (a * 2 ^ i) = omega (arith, ap (λ (x : ℕ). a * x) (pow-suc 2 i)) in
      ap (remainder d low (suc n)) e ∙ remainder-double n (a * 2 ^ i) ∙ ap (times_x d low) (remainder-shifted n i a h (omega arith))

  remainder-product : (n a b : ℕ) → a < 2 ^ d → n ≤ d → remainder d low (d + d) (product n a b) ≡ lin n a b
  unfolding product lin
  remainder-product zero a b h k = remainder-zero (d + d)
  remainder-product (suc n) a b h k =
      remainder-xor (d + d) (product n a b) (bit_at b n * (a * 2 ^ n))
      ∙ ap (bit_xor (remainder d low (d + d) (product n a b)))
      (scaled (remainder d low (d + d)) (remainder-zero (d + d)) (bit_at b n) (a * 2 ^ n) (bit_at-lt b n)
      ∙ ap (λ (x : ℕ). bit_at b n * x) (remainder-shifted (d + d) n a h (omega arith)))
      ∙ ap (λ (x : ℕ). bit_xor x (bit_at b n * iterate n a)) (remainder-product n a b h (omega arith))

  pub multiply_is : (a b : ℕ) → a < 2 ^ d → multiply d low a b ≡ lin d a b
  unfolding multiply
  multiply_is a b h = remainder-product d a b h (le_refl d)

  -- ---- the sum is linear on both sides
  lin-xor_right : (n a b c : ℕ) → lin n a (bit_xor b c) ≡ bit_xor (lin n a b) (lin n a c)
  unfolding lin
  lin-xor_right zero a b c = refl
  lin-xor_right (suc n) a b c =
      ap (bit_xor (lin n a (bit_xor b c)))
      (ap (λ (x : ℕ). x * iterate n a) (bit_at_xor b c n) ∙ bits_sum (bit_at b n) (bit_at c n) (iterate n a) (bit_at-lt b n)
      (bit_at-lt c n))
      ∙ ap (λ (x : ℕ). bit_xor x (bit_xor (bit_at b n * iterate n a) (bit_at c n * iterate n a))) (lin-xor_right n a b c)
      ∙ xor_four (lin n a b) (lin n a c) (bit_at b n * iterate n a) (bit_at c n * iterate n a)

  -- a function that keeps sums and x goes through
  module _ (f : ℕ → ℕ) (f_xor : (a b : ℕ) → f (bit_xor a b) ≡ bit_xor (f a) (f b)) (f_zero : f 0 ≡ 0) (f_x : (a : ℕ)
      → f (times_x d low a) ≡ times_x d low (f a)) where
    iterate-through : (i a : ℕ) → f (iterate i a) ≡ iterate i (f a)
    unfolding iterate
    iterate-through zero a = refl
    iterate-through (suc i) a = f_x (iterate i a) ∙ ap (times_x d low) (iterate-through i a)

    lin-through : (n a b : ℕ) → f (lin n a b) ≡ lin n (f a) b
    unfolding lin
    lin-through zero a b = f_zero
    lin-through (suc n) a b =
        f_xor (lin n a b) (bit_at b n * iterate n a)
        ∙ ap (λ (x : ℕ). bit_xor x (f (bit_at b n * iterate n a))) (lin-through n a b)
        ∙ ap (bit_xor (lin n (f a) b)) (scaled f f_zero (bit_at b n) (iterate n a) (bit_at-lt b n)
        ∙ ap (λ (x : ℕ). bit_at b n * x) (iterate-through n a))

  iterate-xor : (i a b : ℕ) → iterate i (bit_xor a b) ≡ bit_xor (iterate i a) (iterate i b)
  unfolding iterate
  iterate-xor zero a b = refl
  iterate-xor (suc i) a b = ap (times_x d low) (iterate-xor i a b) ∙ times_x-xor (iterate i a) (iterate i b)

  iterate-zero : (i : ℕ) → iterate i 0 ≡ 0
  unfolding iterate
  iterate-zero zero = refl
  iterate-zero (suc i) = ap (times_x d low) (iterate-zero i) ∙ times_x-zero

  scaled_xor : (c u v : ℕ) → c < 2 → c * bit_xor u v ≡ bit_xor (c * u) (c * v)
  scaled_xor zero u v h =
      let e : (x : ℕ) → 0 * x ≡ 0 = λ x. omega arith in
      e (bit_xor u v) ∙ sym (ap (λ (x : ℕ). bit_xor x (0 * v)) (e u) ∙ e v)
  scaled_xor (suc zero) u v h =
      let e : (x : ℕ) → 1 * x ≡ x = λ x. omega arith in
      e (bit_xor u v) ∙ sym (ap (λ (x : ℕ). bit_xor x (1 * v)) (e u) ∙ ap (bit_xor u) (e v))
  scaled_xor (suc (suc c)) u v h = absurd (omega arith)

  pub lin-xor_left : (n a b c : ℕ) → lin n (bit_xor a b) c ≡ bit_xor (lin n a c) (lin n b c)
  unfolding lin
  lin-xor_left zero a b c = refl
  lin-xor_left (suc n) a b c =
      ap (bit_xor (lin n (bit_xor a b) c))
      (ap (λ (x : ℕ). bit_at c n * x) (iterate-xor n a b) ∙ scaled_xor (bit_at c n) (iterate n a) (iterate n b) (bit_at-lt c n))
      ∙ ap (λ (x : ℕ). bit_xor x (bit_xor (bit_at c n * iterate n a) (bit_at c n * iterate n b))) (lin-xor_left n a b c)
      ∙ xor_four (lin n a c) (lin n b c) (bit_at c n * iterate n a) (bit_at c n * iterate n b)

  lin-zero_left : (n c : ℕ) → lin n 0 c ≡ 0
  unfolding lin
  lin-zero_left zero c = refl
  lin-zero_left (suc n) c =
      ap (λ (x : ℕ). bit_xor x (bit_at c n * iterate n 0)) (lin-zero_left n c)
      ∙ ap (λ (x : ℕ). bit_at c n * x) (iterate-zero n) ∙ omega arith

  lin-times_x : (n a c : ℕ) → lin n (times_x d low a) c ≡ times_x d low (lin n a c)
  lin-times_x n a c = sym (lin-through (times_x d low) times_x-xor times_x-zero (λ x. refl) n a c)

  -- (a c) b = (a b) c
  lin-swap : (a b c : ℕ) → lin d (lin d a c) b ≡ lin d (lin d a b) c
  lin-swap a b c =
      lin-through (λ y. lin d y b) (λ y z. lin-xor_left d y z b) (lin-zero_left d b) (λ y. lin-times_x d y b) d a c

  -- ---- 1
  iterate-one : (i : ℕ) → i < d → iterate i 1 ≡ 2 ^ i
  unfolding iterate
  iterate-one zero h = refl
  iterate-one (suc i) h =
      let below : 2 ^ i < 2 ^ d = pow_below i d (omega arith) in
      let next : 2 ^ suc i < 2 ^ d = pow_below (suc i) d h in
      ap (times_x d low) (iterate-one i (omega arith)) ∙ keeps (2 ^ i) below (omega (arith, pow-suc 2 i)) ∙ omega (arith, pow-suc 2 i)

  lin-one : (n b : ℕ) → n ≤ d → lin n 1 b ≡ b % 2 ^ n
  unfolding lin
  lin-one zero b h = omega arith
  lin-one (suc n) b h =
      let c : ℕ = b / 2 ^ n % 2 in
      let lo : b % 2 ^ n < 2 ^ n = mod_below b (2 ^ n) (pow_pos n) in
      let blk : bit_xor (0 * 2 ^ n + b % 2 ^ n) (c * 2 ^ n + 0) ≡ bit_xor 0 c * 2 ^ n + bit_xor (b % 2 ^ n) 0 =
      xor_block n 0 c (b % 2 ^ n) 0 lo (pow_pos n) in
      let sum : b % 2 ^ suc n ≡ c * 2 ^ n + b % 2 ^ n = ap (λ (x : ℕ). b % 2 ^ x) (omega arith) ∙ mod-pow-add b 1 n in
      let l : 0 * 2 ^ n + b % 2 ^ n ≡ b % 2 ^ n = omega arith in
      let r : c * 2 ^ n + 0 ≡ c * 2 ^ n = add-zero (c * 2 ^ n) in
      ap (λ (x : ℕ). bit_xor x (c * iterate n 1)) (lin-one n b (omega arith))
      ∙ ap (λ (x : ℕ). bit_xor (b % 2 ^ n) (c * x)) (iterate-one n (omega arith))
      ∙ ap (λ (x : ℕ). bit_xor x (c * 2 ^ n)) (sym l) ∙ ap (bit_xor (0 * 2 ^ n + b % 2 ^ n)) (sym r) ∙ blk
      ∙ ap (λ (x : ℕ). c * 2 ^ n + x) (xor_zero_r (b % 2 ^ n)) ∙ sym sum

  lin-unit : (b : ℕ) → b < 2 ^ d → lin d 1 b ≡ b
  lin-unit b h = lin-one d b (le_refl d) ∙ mod-eq_of_lt h

  lin_comm : (a b : ℕ) → a < 2 ^ d → b < 2 ^ d → lin d a b ≡ lin d b a
  lin_comm a b p q =
      ap (λ (x : ℕ). lin d x b) (sym (lin-unit a p)) ∙ lin-swap 1 b a ∙ ap (λ (x : ℕ). lin d x a) (lin-unit b q)

  lin_assoc : (a b c : ℕ) → a < 2 ^ d → b < 2 ^ d → c < 2 ^ d → lin d (lin d a b) c ≡ lin d a (lin d b c)
  lin_assoc a b c p q r =
      ap (λ (x : ℕ). lin d x c) (lin_comm a b p q) ∙ lin-swap b c a ∙ lin_comm (lin d b c) a (lin-lt d b c q) p

  -- ---- the same of `multiply`
  pub multiply-lt : (a b : ℕ) → a < 2 ^ d → multiply d low a b < 2 ^ d
  multiply-lt a b p = rw (multiply_is a b p) (lin-lt d a b p)

  pub multiply_assoc : (a b c : ℕ) → a < 2 ^ d → b < 2 ^ d → c < 2 ^ d → multiply d low (multiply d low a b) c ≡ multiply d low a
      (multiply d low b c)
  multiply_assoc a b c p q r =
      multiply_is (multiply d low a b) c (multiply-lt a b p) ∙ ap (λ (x : ℕ). lin d x c) (multiply_is a b p)
      ∙ lin_assoc a b c p q r ∙ sym (multiply_is a (multiply d low b c) p ∙ ap (lin d a) (multiply_is b c q))

  pub multiply_comm : (a b : ℕ) → a < 2 ^ d → b < 2 ^ d → multiply d low a b ≡ multiply d low b a
  multiply_comm a b p q = multiply_is a b p ∙ lin_comm a b p q ∙ sym (multiply_is b a q)

  pub multiply-xor : (a b c : ℕ) → a < 2 ^ d → b < 2 ^ d → multiply d low (bit_xor a b) c ≡ bit_xor (multiply d low a c)
      (multiply d low b c)
  multiply-xor a b c p q =
      multiply_is (bit_xor a b) c (xor_lt d a b p q) ∙ lin-xor_left d a b c
      ∙ sym (ap (λ (x : ℕ). bit_xor x (multiply d low b c)) (multiply_is a c p) ∙ ap (bit_xor (lin d a c)) (multiply_is b c q))

  -- ---- products by h of numbers of few bits, for tables
  pub multiply-zero : (h : ℕ) → multiply d low 0 h ≡ 0
  multiply-zero h = multiply_is 0 h (pow_pos d) ∙ lin-zero_left d h

  pub multiply-double : (a h : ℕ) → 2 * a < 2 ^ d → multiply d low (2 * a) h ≡ times_x d low (multiply d low a h)
  multiply-double a h k =
      let fits : a < 2 ^ d = omega arith in
      ap (λ (x : ℕ). multiply d low x h) (sym (times_x-low a k))
      ∙ multiply_is (times_x d low a) h (times_x-lt a) ∙ lin-times_x d a h ∙ ap (times_x d low) (sym (multiply_is a h fits))

  -- part a and part b of a number, shifted by k
  pub multiply-parts : (a b k h : ℕ) → a * 2 ^ k < 2 ^ d → b * 2 ^ k < 2 ^ d
      → bit_xor (multiply d low (a * 2 ^ k) h) (multiply d low (b * 2 ^ k) h) ≡ multiply d low (bit_xor a b * 2 ^ k) h
  multiply-parts a b k h p q =
      sym (ap (λ (x : ℕ). multiply d low x h) (shifted_xor a b k) ∙ multiply-xor (a * 2 ^ k) (b * 2 ^ k) h p q)

  -- n coefficients more
  pub multiply-more : (y h n k : ℕ) → y < 2 ^ d
      → bit_xor (multiply d low (y % 2 ^ k) h) (multiply d low (y / 2 ^ k % 2 ^ n * 2 ^ k) h) ≡ multiply d low (y % 2 ^ (n + k)) h
  multiply-more y h n k fits =
      let c : ℕ = y / 2 ^ k % 2 ^ n in
      let r : ℕ = y % 2 ^ k in
      let lo : r < 2 ^ k = mod_below y (2 ^ k) (pow_pos k) in
      let sum : y % 2 ^ (n + k) ≡ c * 2 ^ k + r = mod-pow-add y n k in
      let le : y % 2 ^ (n + k) ≤ y = omega (arith, pow_pos (n + k)) in
      let blk : bit_xor (0 * 2 ^ k + r) (c * 2 ^ k + 0) ≡ bit_xor 0 c * 2 ^ k + bit_xor r 0 = xor_block k 0 c r 0 lo (pow_pos k) in
      let l : 0 * 2 ^ k + r ≡ r = omega arith in
      let e : bit_xor r (c * 2 ^ k) ≡ c * 2 ^ k + r =
      ap (λ (x : ℕ). bit_xor x (c * 2 ^ k)) (sym l) ∙ ap (bit_xor (0 * 2 ^ k + r)) (sym (add-zero (c * 2 ^ k))) ∙ blk
      ∙ ap (λ (x : ℕ). c * 2 ^ k + x) (xor_zero_r r) in
      sym (ap (λ (x : ℕ). multiply d low x h) (sum ∙ sym e) ∙ multiply-xor r (c * 2 ^ k) h (omega arith) (omega arith))

  -- the i-th multiple by x
  pub iterate-pow : (i h : ℕ) → h < 2 ^ d → i < d → iterate i h ≡ multiply d low (2 ^ i) h
  unfolding iterate
  iterate-pow zero h fits lt = sym (multiply_is 1 h (pow_below 0 d lt) ∙ lin-unit h fits)
  iterate-pow (suc i) h fits lt =
      let below : 2 ^ suc i < 2 ^ d = pow_below (suc i) d lt in
      let e : 2 ^ suc i ≡ 2 * 2 ^ i = omega (arith, pow-suc 2 i) in
      ap (times_x d low) (iterate-pow i h fits (omega arith)) ∙ sym (multiply-double (2 ^ i) h (omega arith))
      ∙ ap (λ (x : ℕ). multiply d low x h) (sym e)

  module _ (d_pos : 0 < d) where
    one_lt : 1 < 2 ^ d
    one_lt = pow_below 0 d d_pos

    pub multiply-one : (b : ℕ) → b < 2 ^ d → multiply d low 1 b ≡ b
    multiply-one b h = multiply_is 1 b one_lt ∙ lin-unit b h

    pub power-lt : (a k : ℕ) → power d low a k < 2 ^ d
    unfolding power
    power-lt a zero = one_lt
    power-lt a (suc k) = multiply-lt (power d low a k) a (power-lt a k)

    pub power_sum-lt : (h : ℕ) (xs : List ℕ) → Each1 (λ x. x < 2 ^ d) xs → power_sum d low h xs < 2 ^ d
    unfolding power_sum
    power_sum-lt h [] _ = pow_pos d
    power_sum-lt h (x ∷ xs) fits = xor_lt d _ _ (multiply-lt x _ fits.0) (power_sum-lt h xs fits.1)

    -- Horner's rule
    pub power_sum-append : (h : ℕ) (xs : List ℕ) (x : ℕ) → h < 2 ^ d → Each1 (λ x. x < 2 ^ d) xs → x < 2 ^ d
        → power_sum d low h (xs ++ x ∷ []) ≡ multiply d low (bit_xor (power_sum d low h xs) x) h
    unfolding power_sum power
    power_sum-append h [] x p fits q =
        xor_zero_r (multiply d low x (power d low h 1)) ∙ ap (multiply d low x) (multiply-one h p)
    power_sum-append h (z ∷ zs) x p fits q =
        let k : ℕ = length zs + 1 in
        let longer : length (zs ++ x ∷ []) ≡ k = length-append zs (x ∷ []) in
        let first : multiply d low z (power d low h (k + 1)) ≡ multiply d low (multiply d low z (power d low h k)) h =
        ap (λ (n : ℕ). multiply d low z (power d low h n)) (add-one k) ∙ sym (multiply_assoc z (power d low h k) h fits.0 (power-lt h k) p)
        in
        ap (λ (n : ℕ). bit_xor (multiply d low z (power d low h (n + 1))) (power_sum d low h (zs ++ x ∷ []))) longer
        ∙ ap (λ (y : ℕ). bit_xor y (power_sum d low h (zs ++ x ∷ []))) first
        ∙ ap (bit_xor (multiply d low (multiply d low z (power d low h k)) h)) (power_sum-append h zs x p fits.1 q)
        ∙ sym (multiply-xor (multiply d low z (power d low h k)) (bit_xor (power_sum d low h zs) x) h (multiply-lt z _ fits.0)
        (xor_lt d _ _ (power_sum-lt h zs fits.1) q))
        ∙ ap (λ (y : ℕ). multiply d low y h) (sym (xor_assoc (multiply d low z (power d low h k)) (power_sum d low h zs) x))
