-- The longest run of zero groups, and the place of `::`.
use Rattle.std.proofs.Common.{◌≡◌, ℕ, zero, suc, ◌+◌, ◌-◌, ◌<◌, ◌≤◌, List, [], ◌∷◌, ◌++◌, true, false, length, take, drop, get_or, replicate, Some, None, refl, sym, ap, ◌∙◌, arith, append_assoc, append-nil, length-append, ◌&&◌, subst}
use borrow.Rule.Slice.PartMut.{put_mid}
use Rattle.std.proofs.lemmas.Bool.{le-leb, lt-leb, lt-ltb}
use Rattle.std.proofs.lemmas.List.{length-replicate, drop-replicate, replicate-append-replicate, take_at, drop_at, drop_all}
use Rattle.yang_values.specs.HexText.{is_colon}
use Rattle.yang_values.specs.Addresses.{zeros_at_front, filled, longest_run, first_run, double_colon, is_double_at, begins_with_colon}

-- no groups have no run
pub longest_run-empty : (gs : List ℕ) → length gs < 1 → 0 ≡ longest_run gs
unfolding longest_run
longest_run-empty [] none = refl
longest_run-empty (g ∷ gs) none = absurd (omega arith)

pub first_run-empty : (n : ℕ) (gs : List ℕ) → length gs < 1 → 0 ≡ first_run n gs
unfolding first_run
first_run-empty n [] none = refl
first_run-empty n (g ∷ gs) none = absurd (omega arith)

-- no later run is longer than the one here
pub longest_run-here : (gs : List ℕ) → 1 ≤ length gs → longest_run (drop 1 gs) ≤ zeros_at_front gs → zeros_at_front gs ≡ longest_run gs
unfolding longest_run
longest_run-here [] some h = absurd (omega arith)
longest_run-here (g ∷ gs) some h = omega arith

pub first_run-here : (gs : List ℕ) → 1 ≤ length gs → longest_run (drop 1 gs) ≤ zeros_at_front gs → 0 ≡ first_run (longest_run gs) gs
unfolding first_run
first_run-here [] some h = absurd (omega arith)
first_run-here (g ∷ gs) some h = let e = longest_run-here (g ∷ gs) some h in
    rw (← e, le-leb (zeros_at_front (g ∷ gs)) (zeros_at_front (g ∷ gs)) (omega arith)) refl

-- a later run is longer
pub longest_run-later : (gs : List ℕ) → 1 ≤ length gs → zeros_at_front gs < longest_run (drop 1 gs)
    → longest_run (drop 1 gs) ≡ longest_run gs
unfolding longest_run
longest_run-later [] some h = absurd (omega arith)
longest_run-later (g ∷ gs) some h = omega arith

pub first_run-later : (gs : List ℕ) → 1 ≤ length gs → zeros_at_front gs < longest_run (drop 1 gs)
    → first_run (longest_run (drop 1 gs)) (drop 1 gs) + 1 ≡ first_run (longest_run gs) gs
unfolding first_run
first_run-later [] some h = absurd (omega arith)
first_run-later (g ∷ gs) some h =
    let e = longest_run-later (g ∷ gs) some h in
    let P : ℕ → Type 0 = λ n. first_run (longest_run gs) gs + 1 ≡ first_run n (g ∷ gs) in
    subst P e (rw (lt-leb (longest_run gs) (zeros_at_front (g ∷ gs)) h) refl)

-- ---- where `::` is

first_colon : (t : List ℕ) → is_colon (get_or t 0 0) ≡ begins_with_colon t
first_colon [] = refl
first_colon (c ∷ cs) = refl

is_double_at-cons : (c : ℕ) (cs : List ℕ) (k : ℕ) → is_double_at (c ∷ cs) (suc k) ≡ is_double_at cs k
is_double_at-cons c cs k =
    let next : suc k + 1 ≡ suc (k + 1) = omega arith in
    ap (λ j. is_colon (get_or cs k 0) && is_colon (get_or (c ∷ cs) j 0)) next

pub double_colon-found : (t : List ℕ) (i : ℕ) → i < length t → ((k : ℕ) → k < i → is_double_at t k ≡ false) → is_double_at t i ≡ true
    → Some i ≡ double_colon t
unfolding double_colon
double_colon-found [] i within before here = absurd (omega arith)
double_colon-found (c ∷ cs) zero within before here =
    let e : is_colon c && begins_with_colon cs ≡ true = rw (← first_colon cs) here in rw e refl
double_colon-found (c ∷ cs) (suc i) within before here =
    let e : is_colon c && begins_with_colon cs ≡ false = rw (← first_colon cs) (before 0 (omega arith)) in
    let ih = double_colon-found cs i (omega arith) (λ k lt. sym (is_double_at-cons c cs k) ∙ before (suc k) (omega arith))
    (sym (is_double_at-cons c cs i) ∙ here) in
    rw (e, ← ih) (ap Some (omega arith))

pub double_colon-none : (t : List ℕ) (n : ℕ) → length t ≤ n → ((k : ℕ) → k < n → is_double_at t k ≡ false) → None ≡ double_colon t
unfolding double_colon
double_colon-none [] n all none = refl
double_colon-none (c ∷ cs) zero all none = absurd (omega arith)
double_colon-none (c ∷ cs) (suc n) all none =
    let e : is_colon c && begins_with_colon cs ≡ false = rw (← first_colon cs) (none 0 (omega arith)) in
    let ih = double_colon-none cs n (omega arith) (λ k lt. sym (is_double_at-cons c cs k) ∙ none (suc k) (omega arith)) in
    rw (e, ← ih) refl

-- ---- eight groups from two parts

pub fill_is : (front back : List ℕ) (n m : ℕ) → length front ≡ n → n + m < 8
    → put_mid (8 - m) (8 - (8 - m)) (front ++ drop n (0 ∷ 0 ∷ 0 ∷ 0 ∷ 0 ∷ 0 ∷ 0 ∷ 0 ∷ [])) back
    ≡ front ++ replicate (8 - (n + m)) 0 ++ back
fill_is front back n m size room =
    let zeros : List ℕ = replicate (8 - (n + m)) 0 in
    let sizes : 8 - (n + m) + m ≡ 8 - n = omega arith in
    let split : drop n (replicate 8 0) ≡ zeros ++ replicate m 0 =
    drop-replicate n 8 0 ∙ ap (λ k. replicate k 0) (sym sizes) ∙ sym (replicate-append-replicate (8 - (n + m)) m 0) in
    let whole : front ++ drop n (replicate 8 0) ≡ (front ++ zeros) ++ replicate m 0 =
    ap (λ z. front ++ z) split ∙ sym (append_assoc front zeros (replicate m 0)) in
    let len : length (front ++ zeros) ≡ 8 - m = rw (length-append, length-replicate) (omega arith) in
    let start : take (8 - m) (front ++ drop n (replicate 8 0)) ≡ front ++ zeros =
    ap (take (8 - m)) whole ∙ take_at (front ++ zeros) (replicate m 0) (8 - m) len in
    let left : drop (8 - m) (front ++ drop n (replicate 8 0)) ≡ replicate m 0 =
    ap (drop (8 - m)) whole ∙ drop_at (front ++ zeros) (replicate m 0) (8 - m) len in
    let none : drop (8 - (8 - m)) (drop (8 - m) (front ++ drop n (replicate 8 0))) ≡ [] =
    ap (drop (8 - (8 - m))) left ∙ drop_all (8 - (8 - m)) (replicate m 0) (rw length-replicate (omega arith)) in
    let written : take (8 - m) (front ++ drop n (replicate 8 0))
    ++ (back ++ drop (8 - (8 - m)) (drop (8 - m) (front ++ drop n (replicate 8 0))))
    ≡ (front ++ zeros) ++ (back ++ []) = rw (start, none) refl in
    written ∙ ap (λ b. (front ++ zeros) ++ b) (append-nil back)

pub filled_is : (front back : List ℕ) (n m : ℕ) → length front ≡ n → length back ≡ m → n + m < 8
    → Some (front ++ replicate (8 - (n + m)) 0 ++ back) ≡ filled front back
filled_is front back n m size size' room = rw (size, size', lt-ltb (n + m) 8 room) refl

-- a list of eight, number by number
pub eight_is : (g : List ℕ) → length g ≡ 8
    → g ≡ get_or g 0 0 ∷ get_or g 1 0 ∷ get_or g 2 0 ∷ get_or g 3 0 ∷ get_or g 4 0 ∷ get_or g 5 0 ∷ get_or g 6 0 ∷ get_or g 7 0 ∷ []
eight_is (a ∷ b ∷ c ∷ d ∷ e ∷ f ∷ g ∷ h ∷ []) size = refl
eight_is _ size = absurd (omega arith)
