-- Where lines end.
use Rattle.std.proofs.Common.{◌≡◌, ◌==◌, ℕ, suc, ◌+◌, ◌≤◌, ◌<◌, Bool, true, false, List, [], ◌∷◌, ◌++◌, length, take, Option, Some, None, refl, ap, ◌∙◌, arith, if◌then◌else◌}
use Rattle.std.specs.Option.{option_map}
use Rattle.std.specs.List.{position, position_from}
use Rattle.std.proofs.Common.{cond}
use Rattle.std.proofs.lemmas.Iterator.Adapters.{position_from-zero}
use Rattle.notice_lines.specs.Reading.{line_end, Open, Long, Ends, begins_by, begins}

abbrev one_more : ℕ → ℕ
one_more n = n + 1

-- the next octet isn't LF where none of them is
next_part : (b : Bool) (o : Option ℕ) → (if b then Some 0 else option_map one_more o) ≡ None → (b ≡ false) × (o ≡ None)
next_part true o e = absurd (some_none e)
  where
    some_none : {A : Type 0} {a : A} → Some a ≡ None → ⊥
    some_none e = cc
next_part false None e = (refl, refl)
next_part false (Some n) e = absurd (some_none e)
  where
    some_none : {A : Type 0} {a : A} → Some a ≡ None → ⊥
    some_none e = cc

pub end_none : (a b : List ℕ) → line_end a ≡ None → line_end b ≡ None → line_end (a ++ b) ≡ None
end_none [] b p q = q
end_none (c ∷ cs) b p q =
    let parts = next_part (c == 10) (line_end cs) p in
    let ih = end_none cs b parts.1 q in
    rw (parts.0, ih) refl

plus : (n m k : ℕ) → n ≡ m + k → n + 1 ≡ suc m + k
plus n m k e = omega (arith, e)

pub end_some : (a b : List ℕ) (n : ℕ) → line_end a ≡ None → line_end b ≡ Some n → line_end (a ++ b) ≡ Some (length a + n)
end_some [] b n p q = q ∙ ap Some (omega arith)
end_some (c ∷ cs) b n p q =
    let parts = next_part (c == 10) (line_end cs) p in
    let ih = end_some cs b n parts.1 q in
    rw (parts.0, ih) (ap Some (plus (length cs + n) (length cs) n refl))

within_more : (b : Bool) (o : Option ℕ) (n m : ℕ) → (if b then Some 0 else option_map one_more o) ≡ Some n → ((k : ℕ) → o ≡ Some k → k < m)
    → n < suc m
within_more true o n m e ih = let p : 0 ≡ n = cc in omega (arith, p)
within_more false None n m e ih = absurd (none_some e)
  where
    none_some : {A : Type 0} {a : A} → None ≡ Some a → ⊥
    none_some e = cc
within_more false (Some k) n m e ih = let p : k + 1 ≡ n = cc in let q = ih k refl in omega (arith, p, q)

pub end_within : (a : List ℕ) (n : ℕ) → line_end a ≡ Some n → n < length a
end_within [] n e = absurd (none_some e)
  where
    none_some : {A : Type 0} {a : A} → None ≡ Some a → ⊥
    none_some e = cc
end_within (c ∷ cs) n e = within_more (c == 10) (line_end cs) n (length cs) e (λ k. end_within cs k)

-- a line and its end stay where more comes
pub end_stays : (a b : List ℕ) (n : ℕ) → line_end a ≡ Some n → line_end (a ++ b) ≡ Some n
end_stays [] b n e = absurd (none_some e)
  where
    none_some : {A : Type 0} {a : A} → None ≡ Some a → ⊥
    none_some e = cc
end_stays (c ∷ cs) b n e = more (c == 10) (line_end cs) (line_end (cs ++ b)) n e (λ k. end_stays cs b k)
  where
    more : (z : Bool) (o p : Option ℕ) (n : ℕ) → (if z then Some 0 else option_map one_more o) ≡ Some n
        → ((k : ℕ) → o ≡ Some k → p ≡ Some k) → (if z then Some 0 else option_map one_more p) ≡ Some n
    more true o p n e ih = e
    more false None p n e ih = absurd (let q : ⊥ = cc in q)
    more false (Some k) p n e ih = rw (ih k refl) e

pub take_past : (a b : List ℕ) (n : ℕ) → take (length a + n) (a ++ b) ≡ a ++ take n b
take_past [] b n = ap (λ k. take k b) (omega arith)
take_past (c ∷ cs) b n = ap (λ k. take k (c ∷ cs ++ b)) (size (length cs)) ∙ ap (λ l. c ∷ l) (take_past cs b n)
  where
    size : (m : ℕ) → suc m + n ≡ suc (m + n)
    size m = omega arith

pub begins_open : (octets : List ℕ) → line_end octets ≡ None → length octets ≤ 4096 → begins octets ≡ Open
unfolding begins
begins_open octets e p = ap (λ o. begins_by o (length octets)) e ∙ short (length octets) p
  where
    short : (n : ℕ) → n ≤ 4096 → begins_by None n ≡ Open
    short n p = grind arith

pub begins_ends : (octets : List ℕ) (n : ℕ) → line_end octets ≡ Some n → n ≤ 4096 → begins octets ≡ Ends n
unfolding begins
begins_ends octets n e p = ap (λ o. begins_by o (length octets)) e ∙ short (length octets) p
  where
    short : (m : ℕ) → n ≤ 4096 → begins_by (Some n) m ≡ Ends n
    short m p = grind arith

pub begins_long : (octets : List ℕ) → line_end octets ≡ None → 4096 < length octets → begins octets ≡ Long
unfolding begins
begins_long octets e p = ap (λ o. begins_by o (length octets)) e ∙ far (length octets) p
  where
    far : (n : ℕ) → 4096 < n → begins_by None n ≡ Long
    far n p = grind arith

pub begins_late : (octets : List ℕ) (n : ℕ) → line_end octets ≡ Some n → 4096 < n → begins octets ≡ Long
unfolding begins
begins_late octets n e p = ap (λ o. begins_by o (length octets)) e ∙ far (length octets) p
  where
    far : (m : ℕ) → 4096 < n → begins_by (Some n) m ≡ Long
    far m p = grind arith

position_later : (i : ℕ) (cs : List ℕ) → position_from (λ c. c == 10) i cs ≡ option_map (λ n. n + i) (line_end cs)
position_later i [] = refl
position_later i (c ∷ cs) = by_test (c == 10) (position_from (λ c. c == 10) (i + 1) cs) (line_end cs) (position_later (i + 1) cs)
  where
    by_test : (b : Bool) (p o : Option ℕ) → p ≡ option_map (λ n. n + (i + 1)) o
        → cond b (Some i) p ≡ option_map (λ n. n + i) (if b then Some 0 else option_map one_more o)
    by_test true p o e = ap Some (omega arith)
    by_test false p None e = e
    by_test false p (Some n) e = e ∙ ap Some (omega arith)

pub position_end : (cs : List ℕ) → position (λ c. c == 10) cs ≡ line_end cs
position_end cs = position_from-zero (λ c. c == 10) cs ∙ position_later 0 cs ∙ same (line_end cs)
  where
    same : (o : Option ℕ) → option_map (λ n. n + 0) o ≡ o
    same None = refl
    same (Some n) = ap Some (omega arith)
