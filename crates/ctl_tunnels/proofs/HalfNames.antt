-- What follows the front of a name, as a number.
use Rattle.std.proofs.Common.{◌≡◌, ℕ, ◌-◌, ◌+◌, ◌^◌, ◌<◌, ◌≤◌, ◌==◌, ◌&&◌, ◌||◌, not, nat_le, nat_lt, Bool, true, false, cond, List, [], ◌∷◌, ◌++◌, Option, Some, None, Ok, Err, Result, length, take, drop, get_or, if◌then◌else◌, refl, sym, ◌∙◌, ap, subst, arith, append_assoc, codes}
use Rattle.std.proofs.lemmas.Slice.Eq.{bytes_eq-Decides}
use Rattle.std.proofs.lemmas.Fmt.{decimal-digits_value}
use Rattle.std.proofs.Math.Seq.{take-append_seam}
use Rattle.std.proofs.lemmas.List.{take-append-drop}
use Rattle.std.proofs.lemmas.Grind.{common_steps}
use Rattle.std.specs.Char.{is_ascii_digit}
use Rattle.std.specs.Fmt.{decimal}
use Rattle.std.specs.List.{list_all}
use Rattle.std.specs.Str.{bytes_eq}
use Rattle.std.specs.Str.Parse.{digits_value}
use Rattle.yang_values.proofs.NumberLemmas.{decimal_model, AreDigits}
use Rattle.yang_values.specs.Numbers.{is_number, number_of, u64_of}
use Rattle.yang_values.specs.declared.value.BadValue.{BadValue}
use Rattle.yang_values.specs.declared.value.BadValue.TheVariants.{Form, Range}
use Rattle.ikeless_tree.specs.Half.{in_name, out_name}
use Rattle.ctl_tunnels.specs.declared.half.Side.TheVariants as sides
use Rattle.ctl_tunnels.specs.Halves.{IsSerialAfter, IsHalfName, serial_after, number_or_none, half_by, half_named}
use Rattle.yang_values.proofs.ValueText.{number_of-decimal}

same : (xs ys : List ℕ) → bytes_eq xs ys ≡ true → xs ≡ ys
same xs ys e = (bytes_eq-Decides xs ys).0 e

equal : (xs ys : List ℕ) → xs ≡ ys → bytes_eq xs ys ≡ true
equal xs ys e = (bytes_eq-Decides xs ys).1 e

head_of : List ℕ → ℕ
head_of [] = 0
head_of (x ∷ xs) = x

-- a test that would say that two texts are one is false where they are not
never : (xs ys : List ℕ) → (xs ≡ ys → ⊥) → bytes_eq xs ys ≡ false
never xs ys differ = case (bytes_eq xs ys) refl
  where
    case : (b : Bool) → bytes_eq xs ys ≡ b → b ≡ false
    case true e = absurd (differ (same xs ys e))
    case false e = refl

-- a name with another front
pub other-front : (front start digits xs : List ℕ) → bytes_eq start front ≡ false → length start ≡ length front
    → bytes_eq (front ++ xs) (start ++ digits) ≡ false
other-front front start digits xs e l = never (front ++ xs) (start ++ digits) differ
  where
    differ : front ++ xs ≡ start ++ digits → ⊥
    differ same_text =
        let a : take (length front) (front ++ xs) ≡ front = take-append_seam front xs in
        let b : take (length start) (start ++ digits) ≡ start = take-append_seam start digits in
        let s : start ≡ front = sym b ∙ ap (λ n. take n (start ++ digits)) l ∙ ap (take (length front)) (sym same_text) ∙ a in
        let t : bytes_eq start front ≡ true = equal start front s in
        let u : true ≡ false = sym t ∙ e in cc

-- a name shorter than the front
pub short-name : (front name xs : List ℕ) → length name < length front → bytes_eq (front ++ xs) name ≡ false
short-name front name xs l = never (front ++ xs) name (λ e. absurd (let n : length (front ++ xs) ≡ length name = ap length e in
    grind (arith, common_steps)))

drop-front : (front xs ys : List ℕ) → front ++ xs ≡ front ++ ys → xs ≡ ys
drop-front [] xs ys e = e
drop-front (c ∷ front) xs ys e = drop-front front xs ys cc

-- what is read is what was written
by-form : (t : List ℕ) (n : ℕ) (b more : Bool) → is_number t ≡ b → nat_lt (2 ^ 64 - 1) (digits_value 10 t) ≡ more
    → (if not b then Err Form else if more then Err Range else Ok (digits_value 10 t)) ≡ Ok n → (is_number t ≡ true)
    × (digits_value 10 t ≡ n) × (digits_value 10 t < 2 ^ 64)
by-form t n false more e f h = cc
by-form t n true true e f h = cc
by-form t n true false e f h = (e, cc, grind (arith, common_steps))

three : (a b c : Bool) → (a && b && c) ≡ true → (a ≡ true) × (b ≡ true) × (c ≡ true)
three true true true e = (refl, refl, refl)
three true true false e = cc
three true false c e = cc
three false b c e = cc

some-digit : (n : ℕ) → not (n == 0) ≡ true → 0 < n
some-digit n e = grind arith

lone-zero : (z n : ℕ) → (not (z == 48) || n == 1) ≡ true → z ≡ 48 → n ≡ 1
lone-zero z n e f = grind arith

sound : (t : List ℕ) (n : ℕ) → u64_of t ≡ Ok n → decimal n ≡ t
unfolding number_of
sound t n e =
    let f = by-form t n (is_number t) (nat_lt (2 ^ 64 - 1) (digits_value 10 t)) refl refl e in
    let g = three (not (length t == 0)) (not (get_or t 0 0 == 48) || length t == 1) (list_all is_ascii_digit t) f.0 in
    let h : decimal (digits_value 10 t) ≡ t = decimal-digits_value decimal_model t g.2 (some-digit (length t) g.0)
    (lone-zero (get_or t 0 0) (length t) g.1) f.2 in
    sym (ap decimal f.1) ∙ h

-- the name, cut at its front
whole : (front name start digits : List ℕ) → start ≡ take (length front) name → digits ≡ drop (length front) name
    → bytes_eq start front ≡ true → name ≡ front ++ digits
whole front name start digits s d e =
    let a : take (length front) name ++ drop (length front) name ≡ name = take-append-drop (length front) name in
    let b : start ≡ front = same start front e in
    sym a ∙ ap (λ x. x ++ drop (length front) name) (sym s ∙ b) ∙ ap (λ x. front ++ x) (sym d)

-- a name with another front
pub differs : (front name start digits : List ℕ) → start ≡ take (length front) name → digits ≡ drop (length front) name
    → length start ≡ length front → bytes_eq start front ≡ false → (n : ℕ) → bytes_eq (front ++ decimal n) name ≡ false
differs front name start digits s d l e n =
    let a : take (length front) name ++ drop (length front) name ≡ name = take-append-drop (length front) name in
    let w : name ≡ start ++ digits = sym a ∙ ap (λ x. x ++ drop (length front) name) (sym s) ∙ ap (λ x. start ++ x) (sym d) in
    let r = other-front front start digits (decimal n) e l in
    ap (bytes_eq (front ++ decimal n)) w ∙ r

-- the digits after the front are those of one number
pub one-number : (front name start digits : List ℕ) (m : ℕ) → start ≡ take (length front) name → digits ≡ drop (length front) name
    → bytes_eq start front ≡ true → u64_of digits ≡ Ok m → ((n : ℕ) → n < 2 ^ 64 → u64_of (decimal n) ≡ Ok n) → (k : ℕ) → k < 2 ^ 32
    → bytes_eq (front ++ decimal k) name ≡ (k == m)
one-number front name start digits m s d e u again k low = case (k == m) refl
  where
    case : (b : Bool) → (k == m) ≡ b → bytes_eq (front ++ decimal k) name ≡ b
    case true q =
        let km : k ≡ m = grind arith in
        let f : decimal m ≡ digits = sound digits m u in
        let g : decimal k ≡ digits = ap decimal km ∙ f in
        equal (front ++ decimal k) name (ap (λ x. front ++ x) g ∙ sym (whole front name start digits s d e))
    case false q = never (front ++ decimal k) name differ
      where
        differ : front ++ decimal k ≡ name → ⊥
        differ same_text =
            let x : decimal k ≡ digits = drop-front front (decimal k) digits (same_text ∙ whole front name start digits s d e) in
            let a : u64_of (decimal k) ≡ Ok k = again k (omega arith) in
            let b : ◌≡◌ {A = Result ℕ BadValue} (Ok k) (Ok m) = sym a ∙ ap u64_of x ∙ u in
            let c : k ≡ m = cc in grind arith

-- they are no number
pub no-number : (front name start digits : List ℕ) (bad : BadValue) → start ≡ take (length front) name → digits ≡ drop (length front) name
    → bytes_eq start front ≡ true → u64_of digits ≡ Err bad → ((n : ℕ) → n < 2 ^ 64 → u64_of (decimal n) ≡ Ok n) → (k : ℕ) → k < 2 ^ 32
    → bytes_eq (front ++ decimal k) name ≡ false
no-number front name start digits bad s d e u again k low = never (front ++ decimal k) name differ
  where
    differ : front ++ decimal k ≡ name → ⊥
    differ same_text =
        let x : decimal k ≡ digits = drop-front front (decimal k) digits (same_text ∙ whole front name start digits s d e) in
        let a : u64_of (decimal k) ≡ Ok k = again k (omega arith) in
        let b : ◌≡◌ {A = Result ℕ BadValue} (Ok k) (Err bad) = sym a ∙ ap u64_of x ∙ u in cc

-- the number is too large
pub large-number : (front name start digits : List ℕ) (m : ℕ) → start ≡ take (length front) name → digits ≡ drop (length front) name
    → bytes_eq start front ≡ true → u64_of digits ≡ Ok m → ((n : ℕ) → n < 2 ^ 64 → u64_of (decimal n) ≡ Ok n) → 4294967295 < m → (k : ℕ)
    → k < 2 ^ 32 → bytes_eq (front ++ decimal k) name ≡ false
large-number front name start digits m s d e u again big k low =
    let a = one-number front name start digits m s d e u again k low in
    let b : (k == m) ≡ false = grind arith in a ∙ b

apart : (front other name : List ℕ) (m : ℕ) → ((k n : ℕ) → front ++ decimal k ≡ other ++ decimal n → ⊥) → m < 2 ^ 32
    → ((n : ℕ) → n < 2 ^ 32 → bytes_eq (front ++ decimal n) name ≡ (n == m)) → (n : ℕ) → bytes_eq (other ++ decimal n) name ≡ false
apart front other name m both low all n = never (other ++ decimal n) name differ
  where
    differ : other ++ decimal n ≡ name → ⊥
    differ same_text =
        let a : (m == m) ≡ true = grind arith in
        let b : bytes_eq (front ++ decimal m) name ≡ true = all m low ∙ a in
        let c : front ++ decimal m ≡ name = same (front ++ decimal m) name b in
        both m n (c ∙ sym same_text)

heads-differ : (k n : ℕ) → codes "in/" ++ decimal k ≡ codes "out/" ++ decimal n → ⊥
unfolding head_of
heads-differ k n e = let q : ◌≡◌ {A = ℕ} 105 111 = ap head_of e in absurd (omega arith)

-- the name of an inbound half
pub in-half : (name : List ℕ) (m : ℕ) → m < 2 ^ 32 → IsSerialAfter (codes "in/") name (Some m)
    → IsHalfName name (Some (record { side = sides.In; serial = m }))
unfolding in_name out_name
in-half name m low all = record { inbound = all; outbound = λ n small. apart (codes "in/") (codes "out/") name m heads-differ low all n }

-- the name of an outbound half
pub out-half : (name : List ℕ) (m : ℕ) → IsSerialAfter (codes "in/") name None → IsSerialAfter (codes "out/") name (Some m)
    → IsHalfName name (Some (record { side = sides.Out; serial = m }))
unfolding in_name out_name
out-half name m none all = record { inbound = none; outbound = all }

-- the name of no half
pub no-half : (name : List ℕ) → IsSerialAfter (codes "in/") name None → IsSerialAfter (codes "out/") name None → IsHalfName name None
unfolding in_name out_name
no-half name none all = record { inbound = none; outbound = all }

again : (n : ℕ) → n < 2 ^ 64 → u64_of (decimal n) ≡ Ok n
again n small = number_of-decimal n _ small (omega arith)

-- a number after a front is what follows it
pub serial-is : (front name : List ℕ) → IsSerialAfter front name (serial_after front name)
serial-is front name = by-length (nat_lt (length name) (length front)) refl
  where
    by-size : (m : ℕ) (b : Bool) → nat_le m 4294967295 ≡ b → length front ≤ length name → bytes_eq (take (length front) name) front ≡ true
        → u64_of (drop (length front) name) ≡ Ok m → IsSerialAfter front name (if b then Some m else None)
    by-size m true s l e u = λ k low. one-number front name (take (length front) name) (drop (length front) name) m refl refl e u again k
        low
    by-size m false s l e u = λ k low. large-number front name (take (length front) name) (drop (length front) name) m refl refl e u again
        (grind (arith, common_steps)) k low

    by-number : (r : Result ℕ BadValue) → length front ≤ length name → bytes_eq (take (length front) name) front ≡ true
        → u64_of (drop (length front) name) ≡ r → IsSerialAfter front name (number_or_none r)
    by-number (Ok m) l e u = by-size m (nat_le m 4294967295) refl l e u
    by-number (Err bad) l e u = λ k low. no-number front name (take (length front) name) (drop (length front) name) bad refl refl e u again
        k low

    by-front : (b : Bool) → length front ≤ length name → bytes_eq (take (length front) name) front ≡ b
        → IsSerialAfter front name (if b then number_or_none (u64_of (drop (length front) name)) else None)
    by-front true l e = by-number (u64_of (drop (length front) name)) l e refl
    by-front false l e = λ k low. differs front name (take (length front) name) (drop (length front) name) refl refl
        (grind (arith, common_steps)) e k

    by-length : (b : Bool) → nat_lt (length name) (length front) ≡ b
        → IsSerialAfter front name (if b then None else if bytes_eq (take (length front) name) front
        then number_or_none (u64_of (drop (length front) name)) else None)
    by-length true e = λ k low. short-name front name (decimal k) (grind arith)
    by-length false e = by-front (bytes_eq (take (length front) name) front) (grind arith) refl

low-serial : (front name : List ℕ) (m : ℕ) → serial_after front name ≡ Some m → m < 2 ^ 32
low-serial front name m = by-length (nat_lt (length name) (length front)) (bytes_eq (take (length front) name) front)
    (u64_of (drop (length front) name))
  where
    by-size : (n : ℕ) (b : Bool) → nat_le n 4294967295 ≡ b → (if b then Some n else None) ≡ Some m → m < 2 ^ 32
    by-size n true s e = let q : n ≡ m = cc in grind arith
    by-size n false s e = cc

    by-length : (a b : Bool) (r : Result ℕ BadValue) → (if a then None else if b then number_or_none r else None) ≡ Some m → m < 2 ^ 32
    by-length true b r e = cc
    by-length false false r e = cc
    by-length false true (Ok n) e = by-size n (nat_le n 4294967295) refl e
    by-length false true (Err bad) e = cc

-- a name is read as the half that has it
pub half-is : (name : List ℕ) → IsHalfName name (half_named name)
unfolding half_named
half-is name = by-in (serial_after (codes "in/") name) (serial_after (codes "out/") name) (serial-is (codes "in/") name)
    (serial-is (codes "out/") name) (λ m. low-serial (codes "in/") name m)
  where
    by-in : (a b : Option ℕ) → IsSerialAfter (codes "in/") name a → IsSerialAfter (codes "out/") name b
        → ((m : ℕ) → a ≡ Some m → m < 2 ^ 32) → IsHalfName name (half_by a b)
    by-in (Some m) b p q low = in-half name m (low m refl) p
    by-in None (Some m) p q low = out-half name m p q
    by-in None None p q low = no-half name p q
