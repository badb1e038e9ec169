-- The canonical text of an IPv6 address is read again.
use Rattle.std.proofs.Common.{◌≡◌, ℕ, zero, suc, ◌+◌, ◌-◌, ◌*◌, ◌/◌, ◌%◌, ◌<◌, ◌≤◌, ◌==◌, nat_lt, Bool, true, false, List, [], ◌∷◌, ◌++◌, length, take, drop, replicate, Option, Some, None, Ok, inl, inr, ◌⊎◌, refl, sym, ap, ◌∙◌, arith, append_assoc, append-nil, length-append, ltb-false}
use Rattle.std.specs.Option.{option_map}
use Rattle.std.specs.List.{All, AllByRecursion, list_all, list_any, flat_map}
use Rattle.std.specs.Char.{is_ascii_hexdigit}
use Rattle.std.proofs.lemmas.Bool.{and_parts, le-leb, lt-leb, lt-ltb, eq-eqb, eqb-true, cases_lt, or_right}
use Rattle.std.proofs.lemmas.List.Folds.{list_any-append}
use Rattle.std.proofs.lemmas.List.{take_at, drop_at, length-take-le, length-drop, drop-drop, take-append-drop}
use Rattle.ikl_base.specs.declared.address.Addr.TheVariants.{V6}
use Rattle.yang_values.specs.HexText.{is_colon}
use Rattle.yang_values.specs.Addresses.{groups_of, octets_of, group_of, group_text, joined, groups_in, double_colon, begins_with_colon, zeros_at_front, longest_run, first_run, groups_text, filled, eight_from, address_of}
use Rattle.yang_values.proofs.EachLemmas.{joined_is}
use Rattle.yang_values.proofs.JoinedText.{lacks_mark, each_also, split_texts, each_read, some_joined}
use Rattle.yang_values.proofs.ValueText.{apart, group_digits, some_group, group_of-text}

-- ---- octets and groups

pub octets_again : (os : List ℕ) (m : ℕ) → length os ≡ 2 * m → AllByRecursion (λ o. o < 256) os → octets_of (groups_of os) ≡ os
octets_again [] m size small = refl
octets_again (a ∷ []) m size small = absurd (omega arith)
octets_again (a ∷ b ∷ rest) zero size small = absurd (omega arith)
octets_again (a ∷ b ∷ rest) (suc m) size small =
    let b_small : b < 256 = small.1.0 in
    let high : (a * 256 + b) / 256 ≡ a = omega arith in
    let low : (a * 256 + b) % 256 ≡ b = omega arith in
    let ih = octets_again rest m (omega arith) small.1.1 in
    rw (high, low, ih) refl

pub length-groups_of : (os : List ℕ) (m : ℕ) → length os ≡ 2 * m → length (groups_of os) ≡ m
length-groups_of [] m size = omega arith
length-groups_of (a ∷ []) m size = absurd (omega arith)
length-groups_of (a ∷ b ∷ rest) zero size = absurd (omega arith)
length-groups_of (a ∷ b ∷ rest) (suc m) size = let ih = length-groups_of rest m (omega arith) in omega (arith, ih)

pub small_groups : (os : List ℕ) → AllByRecursion (λ o. o < 256) os → AllByRecursion (λ g. g < 65536) (groups_of os)
small_groups [] small = tt
small_groups (a ∷ []) small = (let h : a < 256 = small.0 in omega arith, tt)
small_groups (a ∷ b ∷ rest) small =
    let ha : a < 256 = small.0 in
    let hb : b < 256 = small.1.0 in
    (omega arith, small_groups rest small.1.1)

pub all_take : (P : ℕ → Type 0) (n : ℕ) (xs : List ℕ) → AllByRecursion P xs → AllByRecursion P (take n xs)
all_take P zero xs all = tt
all_take P (suc n) [] all = tt
all_take P (suc n) (x ∷ xs) all = (all.0, all_take P n xs all.1)

pub all_drop : (P : ℕ → Type 0) (n : ℕ) (xs : List ℕ) → AllByRecursion P xs → AllByRecursion P (drop n xs)
all_drop P zero xs all = all
all_drop P (suc n) [] all = tt
all_drop P (suc n) (x ∷ xs) all = all_drop P n xs all.1

-- ---- groups joined by colons

plain : (c : ℕ) → is_ascii_hexdigit c ≡ true → is_colon c ≡ false
plain c = apart is_ascii_hexdigit c 58 refl

no_colon : (group : ℕ) → group < 65536 → All (λ c. is_colon c ≡ false) (group_text group)
no_colon group small = lacks_mark is_ascii_hexdigit is_colon plain (group_text group) (group_digits group small)

groups_again : (groups : List ℕ) → AllByRecursion (λ g. g < 65536) groups → groups_in (joined groups) ≡ Some groups
groups_again [] small = refl
groups_again (x ∷ xs) small =
    let split = split_texts is_colon 58 group_text refl x xs
    (each_also (λ g. g < 65536) (λ g. All (λ c. is_colon c ≡ false) (group_text g)) no_colon (x ∷ xs) small) in
    let read = each_read group_of group_text (x ∷ xs)
    (each_also (λ g. g < 65536) (λ g. group_of (group_text g) ≡ Some g) group_of-text (x ∷ xs) small) in
    rw (some_joined 58 group_text x xs (some_group x small.0), split, read) refl

-- ---- where `::` is

shift : ℕ → Option ℕ → Option ℕ
shift n o = option_map (λ k. k + n) o

shift_zero : (o : Option ℕ) → shift 0 o ≡ o
unfolding shift
shift_zero None = refl
shift_zero (Some k) = ap Some (omega arith)

shift_shift : (m n l : ℕ) (o : Option ℕ) → m + n ≡ l → shift m (shift n o) ≡ shift l o
unfolding shift
shift_shift m n l None e = refl
shift_shift m n l (Some k) e = ap Some (omega arith)

double_plain : (t s : List ℕ) → list_all is_ascii_hexdigit t ≡ true → double_colon (t ++ s) ≡ shift (length t) (double_colon s)
unfolding double_colon shift
double_plain [] s all = sym (shift_zero (double_colon s))
double_plain (c ∷ cs) s all =
    let parts = and_parts (is_ascii_hexdigit c) (list_all is_ascii_hexdigit cs) all in
    let e = plain c parts.0 in
    rw e (ap (shift 1) (double_plain cs s parts.1) ∙ shift_shift 1 (length cs) (suc (length cs)) (double_colon s) (omega arith))

begins_plain : (t s : List ℕ) → 0 < length t → list_all is_ascii_hexdigit t ≡ true → begins_with_colon (t ++ s) ≡ false
begins_plain [] s some all = absurd (omega arith)
begins_plain (c ∷ cs) s some all = plain c (and_parts _ _ all).0

double_behind : (t : List ℕ) → begins_with_colon t ≡ false → double_colon (58 ∷ t) ≡ shift 1 (double_colon t)
unfolding double_colon shift
double_behind t h = rw h refl

begins_joined : (x : ℕ) (xs s : List ℕ) → x < 65536 → begins_with_colon (joined (x ∷ xs) ++ s) ≡ false
begins_joined x xs s small =
    let behind : List ℕ = flat_map (λ y. 58 ∷ group_text y) xs in
    let e : joined (x ∷ xs) ++ s ≡ group_text x ++ (behind ++ s) =
    ap (λ t. t ++ s) (joined_is 58 group_text x xs) ∙ append_assoc (group_text x) behind s in
    ap begins_with_colon e ∙ begins_plain (group_text x) (behind ++ s) (some_group x small) (group_digits x small)

double_joined : (groups s : List ℕ) → AllByRecursion (λ g. g < 65536) groups
    → double_colon (joined groups ++ s) ≡ shift (length (joined groups)) (double_colon s)
double_joined [] s small = sym (shift_zero (double_colon s))
double_joined (x ∷ []) s small = double_plain (group_text x) s (group_digits x small.0)
double_joined (x ∷ y ∷ ys) s small =
    let rest : List ℕ = joined (y ∷ ys) in
    let size : length (group_text x) + (1 + length rest) ≡ length (joined (x ∷ y ∷ ys)) =
    sym (length-append (group_text x) (58 ∷ rest) ∙ ap (λ n. length (group_text x) + n) (omega arith)) in
    ap double_colon (append_assoc (group_text x) (58 ∷ rest) s)
    ∙ double_plain (group_text x) (58 ∷ (rest ++ s)) (group_digits x small.0)
    ∙ ap (shift (length (group_text x))) (double_behind (rest ++ s) (begins_joined y ys s small.1.0)
    ∙ ap (shift 1) (double_joined (y ∷ ys) s small.1)
    ∙ shift_shift 1 (length rest) (1 + length rest) (double_colon s) refl)
    ∙ shift_shift (length (group_text x)) (1 + length rest) (length (joined (x ∷ y ∷ ys))) (double_colon s) size

-- ---- without `::`

double_none : (groups : List ℕ) → AllByRecursion (λ g. g < 65536) groups → double_colon (joined groups) ≡ None
unfolding shift double_colon
double_none groups small = ap double_colon (sym (append-nil (joined groups))) ∙ double_joined groups [] small

whole_again : (groups : List ℕ) → length groups ≡ 8 → AllByRecursion (λ g. g < 65536) groups
    → eight_from (joined groups) (double_colon (joined groups)) ≡ Some groups
unfolding eight_from
whole_again groups size small =
    rw (double_none groups small, groups_again groups small, eq-eqb (length groups) 8 size) refl

-- ---- with `::`

halves_again : (front back : List ℕ) → AllByRecursion (λ g. g < 65536) front → AllByRecursion (λ g. g < 65536) back
    → eight_from (joined front ++ 58 ∷ 58 ∷ joined back) (double_colon (joined front ++ 58 ∷ 58 ∷ joined back)) ≡ filled front back
unfolding eight_from shift double_colon
halves_again front back front_small back_small =
    let text : List ℕ = joined front ++ 58 ∷ 58 ∷ joined back in
    let at : double_colon text ≡ Some (length (joined front)) =
    double_joined front (58 ∷ 58 ∷ joined back) front_small ∙ ap Some (omega arith) in
    let before : take (length (joined front)) text ≡ joined front = take_at (joined front) (58 ∷ 58 ∷ joined back) (length (joined front))
    refl in
    let marked : text ≡ (joined front ++ 58 ∷ 58 ∷ []) ++ joined back = sym (append_assoc (joined front) (58 ∷ 58 ∷ []) (joined back)) in
    let behind : drop (length (joined front) + 2) text ≡ joined back =
    ap (drop (length (joined front) + 2)) marked
    ∙ drop_at (joined front ++ 58 ∷ 58 ∷ []) (joined back) (length (joined front) + 2) (length-append (joined front) (58 ∷ 58 ∷ [])) in
    ap (eight_from text) at ∙ rw (before, behind, groups_again front front_small, groups_again back back_small) refl

-- ---- the run that `::` stands for

zeros_take : (n : ℕ) (gs : List ℕ) → n ≤ zeros_at_front gs → take n gs ≡ replicate n 0
zeros_take zero gs h = refl
zeros_take (suc n) [] h = absurd (omega arith)
zeros_take (suc n) (g ∷ gs) h = by_test (g == 0) refl (zeros_take n gs)
  where
    by_test : (b : Bool) → (g == 0) ≡ b → (n ≤ zeros_at_front gs → take n gs ≡ replicate n 0) → take (suc n) (g ∷ gs) ≡ replicate (suc n) 0
    by_test true e ih =
        let front : zeros_at_front (g ∷ gs) ≡ 1 + zeros_at_front gs = rw e refl in
        rw (eqb-true g 0 e, ih (omega (arith, h, front))) refl
    by_test false e ih =
        let front : zeros_at_front (g ∷ gs) ≡ 0 = rw e refl in
        absurd (omega (arith, h, front))

zeros_within : (gs : List ℕ) → zeros_at_front gs ≤ length gs
zeros_within [] = omega arith
zeros_within (g ∷ gs) = by_test (g == 0) refl (zeros_within gs)
  where
    by_test : (b : Bool) → (g == 0) ≡ b → zeros_at_front gs ≤ length gs → zeros_at_front (g ∷ gs) ≤ length (g ∷ gs)
    by_test true e ih = rw e (omega (arith, ih))
    by_test false e ih = rw e (omega arith)

run_zeros : (n : ℕ) (gs : List ℕ) → 1 ≤ n → n ≤ longest_run gs → take n (drop (first_run n gs) gs) ≡ replicate n 0
unfolding longest_run first_run
run_zeros n [] some fits = absurd (omega arith)
run_zeros n (g ∷ gs) some fits = by_place (cases_lt (zeros_at_front (g ∷ gs)) n) (run_zeros n gs some)
  where
    by_place : (zeros_at_front (g ∷ gs) < n) ⊎ (n ≤ zeros_at_front (g ∷ gs))
        → (n ≤ longest_run gs → take n (drop (first_run n gs) gs) ≡ replicate n 0)
        → take n (drop (first_run n (g ∷ gs)) (g ∷ gs)) ≡ replicate n 0
    by_place (inr here) ih =
        let e : first_run n (g ∷ gs) ≡ 0 = rw (le-leb n (zeros_at_front (g ∷ gs)) here) refl in
        rw e (zeros_take n (g ∷ gs) here)
    by_place (inl later) ih =
        let e : first_run n (g ∷ gs) ≡ suc (first_run n gs) = rw (lt-leb n (zeros_at_front (g ∷ gs)) later) (omega arith) in
        rw e (ih (omega (arith, fits, later)))

run_within : (n : ℕ) (gs : List ℕ) → 1 ≤ n → n ≤ longest_run gs → first_run n gs + n ≤ length gs
unfolding longest_run first_run
run_within n [] some fits = absurd (omega arith)
run_within n (g ∷ gs) some fits = by_place (cases_lt (zeros_at_front (g ∷ gs)) n) (run_within n gs some)
  where
    by_place : (zeros_at_front (g ∷ gs) < n) ⊎ (n ≤ zeros_at_front (g ∷ gs)) → (n ≤ longest_run gs → first_run n gs + n ≤ length gs)
        → first_run n (g ∷ gs) + n ≤ length (g ∷ gs)
    by_place (inr here) ih =
        let e : first_run n (g ∷ gs) ≡ 0 = rw (le-leb n (zeros_at_front (g ∷ gs)) here) refl in
        let within = zeros_within (g ∷ gs) in
        omega (arith, e, here, within)
    by_place (inl later) ih =
        let e : first_run n (g ∷ gs) ≡ first_run n gs + 1 = rw (lt-leb n (zeros_at_front (g ∷ gs)) later) refl in
        let rest = ih (omega (arith, fits, later)) in
        omega (arith, e, rest)

-- the groups, with the run of zeros in its place
pub filled_again : (gs : List ℕ) (k n : ℕ) → length gs ≡ 8 → 1 ≤ n → k + n ≤ 8 → take n (drop k gs) ≡ replicate n 0
    → filled (take k gs) (drop (k + n) gs) ≡ Some gs
filled_again gs k n size some room zeros =
    let front : length (take k gs) ≡ k = length-take-le k gs (omega arith) in
    let back : length (drop (k + n) gs) ≡ 8 - (k + n) = length-drop (k + n) gs ∙ ap (λ l. l - (k + n)) size in
    let below : nat_lt (k + (8 - (k + n))) 8 ≡ true = lt-ltb _ _ (omega arith) in
    let left : 8 - (k + (8 - (k + n))) ≡ n = omega arith in
    let tail : replicate n 0 ++ drop (k + n) gs ≡ drop k gs =
    ap (λ z. z ++ drop (k + n) gs) (sym zeros) ∙ ap (λ d. take n (drop k gs) ++ d) (sym (drop-drop n k gs)) ∙ take-append-drop n (drop k gs)
    in
    let all : take k gs ++ replicate n 0 ++ drop (k + n) gs ≡ gs =
    append_assoc (take k gs) (replicate n 0) (drop (k + n) gs) ∙ ap (λ d. take k gs ++ d) tail ∙ take-append-drop k gs in
    rw (front, back, below, left) (ap Some all)

-- ---- an address

groups_text_again : (gs : List ℕ) → length gs ≡ 8 → AllByRecursion (λ g. g < 65536) gs
    → eight_from (groups_text gs) (double_colon (groups_text gs)) ≡ Some gs
unfolding groups_text
groups_text_again gs size small = by_length (nat_lt (longest_run gs) 2) refl
  where
    by_length : (b : Bool) → nat_lt (longest_run gs) 2 ≡ b → eight_from (groups_text gs) (double_colon (groups_text gs)) ≡ Some gs
    by_length true short =
        let e : groups_text gs ≡ joined gs = rw short refl in
        rw e (whole_again gs size small)
    by_length false long =
        let n : ℕ = longest_run gs in
        let k : ℕ = first_run n gs in
        let e : groups_text gs ≡ joined (take k gs) ++ 58 ∷ 58 ∷ joined (drop (k + n) gs) = rw long refl in
        let some : 2 ≤ n = ltb-false n 2 long in
        let within = run_within n gs (omega arith) (omega arith) in
        rw e
        (halves_again (take k gs) (drop (k + n) gs) (all_take (λ g. g < 65536) k gs small) (all_drop (λ g. g < 65536) (k + n) gs small)
        ∙ filled_again gs k n size (omega arith) (omega (arith, within, size)) (run_zeros n gs (omega arith) (omega arith)))

-- a colon stands between two groups
colon_between : (gs : List ℕ) → 2 ≤ length gs → list_any is_colon (joined gs) ≡ true
colon_between [] size = absurd (omega arith)
colon_between (x ∷ []) size = absurd (omega arith)
colon_between (x ∷ y ∷ ys) size =
    list_any-append is_colon (group_text x) (58 ∷ joined (y ∷ ys)) ∙ or_right _ _ refl

has_colon : (gs : List ℕ) → length gs ≡ 8 → list_any is_colon (groups_text gs) ≡ true
unfolding groups_text
has_colon gs size = by_length (nat_lt (longest_run gs) 2) refl
  where
    by_length : (b : Bool) → nat_lt (longest_run gs) 2 ≡ b → list_any is_colon (groups_text gs) ≡ true
    by_length true short =
        let e : groups_text gs ≡ joined gs = rw short refl in
        rw e (colon_between gs (omega arith))
    by_length false long =
        let n : ℕ = longest_run gs in
        let k : ℕ = first_run n gs in
        let e : groups_text gs ≡ joined (take k gs) ++ 58 ∷ 58 ∷ joined (drop (k + n) gs) = rw long refl in
        rw e (list_any-append is_colon (joined (take k gs)) (58 ∷ 58 ∷ joined (drop (k + n) gs)) ∙ or_right _ _ refl)

pub v6_again : (octets : List ℕ) → length octets ≡ 16 → AllByRecursion (λ o. o < 256) octets
    → address_of (groups_text (groups_of octets)) ≡ Ok (V6 octets)
unfolding address_of
v6_again octets size small =
    let eight_groups : length (groups_of octets) ≡ 8 = length-groups_of octets 8 (omega arith) in
    rw (has_colon (groups_of octets) eight_groups, groups_text_again (groups_of octets) eight_groups (small_groups octets small))
    (ap (λ os. Ok (V6 os)) (octets_again octets 8 (omega arith) small))
