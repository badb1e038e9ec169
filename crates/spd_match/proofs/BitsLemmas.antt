-- The first bits of the numbers that octets write, octet by octet.
use Rattle.std.proofs.Common.{◌≡◌, ◌<◌, ◌≤◌, ◌+◌, ◌-◌, ◌*◌, ◌/◌, ◌^◌, ◌==◌, ◌&&◌, ℕ, Bool, true, false, List, [], ◌∷◌, length, get_or, drop, suc, Fits, w8, refl, sym, ap, ◌∙◌, subst, arith}
use Rattle.std.specs.List.{AllByRecursion}
use Rattle.std.proofs.lemmas.Nat.{div-mul-add, pow-add, pow_pos}
use Rattle.std.proofs.Math.Nat.{add-mul-div_left, div-div-eq-div-mul, div-lt_iff_lt-mul, mul-le-mul_left}
use Rattle.std.proofs.lemmas.Bool.Decides.{Decides-eqb}
use Rattle.ikl_base.specs.Address.{value_of}
use Rattle.spd_match.specs.Match.{agree}

abbrev AreSmall : List ℕ → Type 0
AreSmall xs = AllByRecursion (λ x. x < 256) xs

more-bits : (n : ℕ) → 2 ^ (8 * suc n) ≡ 256 * 2 ^ (8 * n)
more-bits n = let e : 8 * suc n ≡ 8 + 8 * n = omega arith in ap (λ k. 2 ^ k) e ∙ pow-add 2 8 (8 * n)

-- so many octets write a number below that power
value-below : (xs : List ℕ) → AreSmall xs → value_of xs < 2 ^ (8 * length xs)
value-below [] small = omega arith
value-below (x ∷ xs) small =
    let k = 2 ^ (8 * length xs) in
    let ih : value_of xs < k = value-below xs small.1 in
    let first : k * (x + 1) ≤ k * 256 = mul-le-mul_left k (omega (arith, small.0)) in
    let e : 2 ^ (8 * suc (length xs)) ≡ 256 * k = more-bits (length xs) in
    omega (arith, ih, first, e)

both : (u v w : Bool) → (w ≡ true → (u ≡ true) × (v ≡ true)) → (u ≡ true → v ≡ true → w ≡ true) → (u && v) ≡ w
both true true true f g = refl
both true true false f g = sym (g refl refl)
both true false true f g = (f refl).1
both true false false f g = refl
both false v true f g = (f refl).0
both false v false f g = refl

-- two numbers, each of a number of whole ones and a rest, are the same where both are
same-parts : (x y a b m : ℕ) → a < m → b < m → ((x == y) && (a == b)) ≡ ((x * m + a) == (y * m + b))
same-parts x y a b m p q = both (x == y) (a == b) ((x * m + a) == (y * m + b)) apart together
  where
    apart : ((x * m + a) == (y * m + b)) ≡ true → ((x == y) ≡ true) × ((a == b) ≡ true)
    apart t =
        let whole : x * m + a ≡ y * m + b = (Decides-eqb (x * m + a) (y * m + b)).0 t in
        let first : x ≡ y = sym (div-mul-add x m a p) ∙ ap (λ n. n / m) whole ∙ div-mul-add y m b q in
        let product : x * m ≡ y * m = ap (λ n. n * m) first in
        let rest : a ≡ b = omega (arith, whole, product) in
        ((Decides-eqb x y).1 first, (Decides-eqb a b).1 rest)

    together : (x == y) ≡ true → (a == b) ≡ true → ((x * m + a) == (y * m + b)) ≡ true
    together s t =
        let first : x ≡ y = (Decides-eqb x y).0 s in
        let rest : a ≡ b = (Decides-eqb a b).0 t in
        (Decides-eqb (x * m + a) (y * m + b)).1 (ap (λ n. n * m + a) first ∙ ap (λ n. y * m + n) rest)

split : (x v k p m : ℕ) → k ≡ p * m → x * k + v ≡ v + p * (x * m)
split x v k p m e = ap (λ n. x * n + v) e ∙ omega arith

-- the first bits of a first octet and more: the octet, and the first bits of the others
front-bits : (bits all x v : ℕ) → 8 ≤ bits → v < 2 ^ all
    → ((x * 2 ^ all + v) / 2 ^ ((8 + all) - bits) ≡ x * 2 ^ (all - (all - (bits - 8))) + v / 2 ^ (all - (bits - 8)))
    × (v / 2 ^ (all - (bits - 8)) < 2 ^ (all - (all - (bits - 8))))
front-bits bits all x v long small =
    let e = all - (bits - 8) in
    let m = all - e in
    let sizes : all ≡ e + m = omega arith in
    let product : 2 ^ all ≡ 2 ^ e * 2 ^ m = ap (λ n. 2 ^ n) sizes ∙ pow-add 2 e m in
    let left : (8 + all) - bits ≡ e = omega arith in
    let below : v < 2 ^ m * 2 ^ e = omega (arith, small, product) in
    let swap : v / 2 ^ e + x * 2 ^ m ≡ x * 2 ^ m + v / 2 ^ e = omega arith in (
      ap (λ n. (x * 2 ^ all + v) / 2 ^ n) left
          ∙ ap (λ n. n / 2 ^ e) (split x v (2 ^ all) (2 ^ e) (2 ^ m) product)
          ∙ add-mul-div_left v (x * 2 ^ m) (pow_pos e)
          ∙ swap,
      (div-lt_iff_lt-mul (pow_pos e)).1 below,
    )

-- whole octets: the first one, and the first bits of the others
agree-more : (bits x y : ℕ) (xs ys : List ℕ) → length xs ≡ length ys → AreSmall xs → AreSmall ys → 8 ≤ bits
    → ((x == y) && agree (bits - 8) xs ys) ≡ agree bits (x ∷ xs) (y ∷ ys)
agree-more bits x y xs ys same p q long =
    let all = 8 * length xs in
    let e = all - (bits - 8) in
    let m = 2 ^ (all - e) in
    let size : 8 * suc (length xs) ≡ 8 + all = omega arith in
    let other : 8 * length ys ≡ all = ap (λ n. 8 * n) (sym same) in
    let vy : value_of ys < 2 ^ all = subst (λ n. value_of ys < 2 ^ n) other (value-below ys q) in
    let hx = front-bits bits all x (value_of xs) long (value-below xs p) in
    let hy = front-bits bits all y (value_of ys) long vy in
    let fx : (x * 2 ^ all + value_of xs) / 2 ^ (8 * suc (length xs) - bits) ≡ x * m + value_of xs / 2 ^ e =
    ap (λ n. (x * 2 ^ all + value_of xs) / 2 ^ (n - bits)) size ∙ hx.0 in
    let fy : (y * 2 ^ (8 * length ys) + value_of ys) / 2 ^ (8 * suc (length xs) - bits) ≡ y * m + value_of ys / 2 ^ e =
    ap (λ n. (y * 2 ^ n + value_of ys) / 2 ^ (8 * suc (length xs) - bits)) other
    ∙ ap (λ n. (y * 2 ^ all + value_of ys) / 2 ^ (n - bits)) size ∙ hy.0 in
    same-parts x y (value_of xs / 2 ^ e) (value_of ys / 2 ^ e) m hx.1 hy.1
    ∙ ap (λ n. n == (y * m + value_of ys / 2 ^ e)) (sym fx)
    ∙ ap (λ n. ((x * 2 ^ all + value_of xs) / 2 ^ (8 * suc (length xs) - bits)) == n) (sym fy)

-- the first bits of a first octet alone
octet-bits : (bits all x v : ℕ) → bits < 8 → v < 2 ^ all → (x * 2 ^ all + v) / 2 ^ ((8 + all) - bits) ≡ x / 2 ^ (8 - bits)
octet-bits bits all x v short small =
    let left : (8 + all) - bits ≡ all + (8 - bits) = omega arith in
    ap (λ n. (x * 2 ^ all + v) / 2 ^ n) left
    ∙ ap (λ n. (x * 2 ^ all + v) / n) (pow-add 2 all (8 - bits))
    ∙ sym (div-div-eq-div-mul (x * 2 ^ all + v) (2 ^ all) (2 ^ (8 - bits)))
    ∙ ap (λ n. n / 2 ^ (8 - bits)) (div-mul-add x (2 ^ all) v small)

agree-last : (bits x y : ℕ) (xs ys : List ℕ) → length xs ≡ length ys → AreSmall xs → AreSmall ys → bits < 8
    → ((x / 2 ^ (8 - bits)) == (y / 2 ^ (8 - bits))) ≡ agree bits (x ∷ xs) (y ∷ ys)
agree-last bits x y xs ys same p q short =
    let all = 8 * length xs in
    let size : 8 * suc (length xs) ≡ 8 + all = omega arith in
    let other : 8 * length ys ≡ all = ap (λ n. 8 * n) (sym same) in
    let vy : value_of ys < 2 ^ all = subst (λ n. value_of ys < 2 ^ n) other (value-below ys q) in
    let fx : (x * 2 ^ all + value_of xs) / 2 ^ (8 * suc (length xs) - bits) ≡ x / 2 ^ (8 - bits) =
    ap (λ n. (x * 2 ^ all + value_of xs) / 2 ^ (n - bits)) size ∙ octet-bits bits all x (value_of xs) short (value-below xs p) in
    let fy : (y * 2 ^ (8 * length ys) + value_of ys) / 2 ^ (8 * suc (length xs) - bits) ≡ y / 2 ^ (8 - bits) =
    ap (λ n. (y * 2 ^ n + value_of ys) / 2 ^ (8 * suc (length xs) - bits)) other
    ∙ ap (λ n. (y * 2 ^ all + value_of ys) / 2 ^ (n - bits)) size ∙ octet-bits bits all y (value_of ys) short vy in
    ap (λ n. n == (y / 2 ^ (8 - bits))) (sym fx)
    ∙ ap (λ n. ((x * 2 ^ all + value_of xs) / 2 ^ (8 * suc (length xs) - bits)) == n) (sym fy)

-- the same of lists that aren't empty, and what follows their first octets
pub agree-on : (bits : ℕ) (xs ys t u : List ℕ) → length xs ≡ length ys → AreSmall xs → AreSmall ys → 1 ≤ length xs → t ≡ drop 1 xs
    → u ≡ drop 1 ys → 8 ≤ bits
    → ((get_or xs 0 0 == get_or ys 0 0) && agree (bits - 8) t u) ≡ agree bits xs ys
agree-on bits [] ys t u same p q some e f long = absurd (omega arith)
agree-on bits (x ∷ xs) [] t u same p q some e f long = absurd (omega arith)
agree-on bits (x ∷ xs) (y ∷ ys) t u same p q some e f long =
    ap (λ n. (x == y) && agree (bits - 8) n u) e ∙ ap (λ n. (x == y) && agree (bits - 8) xs n) f
    ∙ agree-more bits x y xs ys (omega arith) p.1 q.1 long

pub agree-within : (bits : ℕ) (xs ys : List ℕ) → length xs ≡ length ys → AreSmall xs → AreSmall ys → 1 ≤ length xs → bits < 8
    → ((get_or xs 0 0 / 2 ^ (8 - bits)) == (get_or ys 0 0 / 2 ^ (8 - bits))) ≡ agree bits xs ys
agree-within bits [] ys same p q some short = absurd (omega arith)
agree-within bits (x ∷ xs) [] same p q some short = absurd (omega arith)
agree-within bits (x ∷ xs) (y ∷ ys) same p q some short = agree-last bits x y xs ys (omega arith) p.1 q.1 short

-- octets of a slice
pub all-small : (xs : List ℕ) → ((i : ℕ) → Fits w8 (get_or xs i 0)) → AllByRecursion (λ x. x < 256) xs
all-small [] f = tt
all-small (x ∷ xs) f = (omega (arith, f 0), all-small xs (λ i. f (suc i)))
