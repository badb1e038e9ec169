-- How many requests, answers and notices of a session there are.
use Rattle.std.proofs.Common.{◌≡◌, ◌==◌, ◌&&◌, ◌||◌, not, ℕ, zero, suc, ◌+◌, ◌≤◌, ◌<◌, Bool, true, false, List, [], ◌∷◌, ◌++◌, length, Option, Some, None, ◌⊎◌, inl, inr, refl, ap, sym, ◌∙◌, arith, length-append, if◌then◌else◌}
use Rattle.std.specs.Str.{bytes_eq}
use Rattle.std.specs.List.{slice_get}
use Rattle.std.specs.Option.{MatchOption}
use Rattle.std.proofs.Common.{subst}
use Rattle.std.proofs.lemmas.Option.{slice_get_within}
use Rattle.ikeless_tree.specs.declared.order.Order.{Order}
use Rattle.ikeless_tree.specs.declared.order.Answer.{Answer}
use Rattle.ikeless_tree.specs.declared.order.Notice.{Notice}
use Rattle.hist_acts.specs.declared.act.Act.{Act}
use Rattle.hist_acts.specs.declared.act.Act.TheVariants as acts
use Rattle.hist_acts.specs.Sessions.{openings, is_open, session_taken, is_session, orders, handled, answered, order_at, answer_at, notices, notices_heard, next_request, next_answer, next_notice}
use Rattle.session_pipe.specs.Sessions.{KeepsSessions}
use Rattle.session_pipe.specs.Past.{requests, responses, lines}
use Rattle.session_pipe.proofs.Names.{same_name, both_left, both_right, same_number, other_session, if_not}

-- ---- sessions

last-opened : (here : Bool) (s t o : ℕ) → (here ≡ true → s ≡ o + 1) → (t ≡ 0) ⊎ (t ≡ o) → ((if here then s else t) ≡ 0)
    ⊎ ((if here then s else t) ≡ (if here then o + 1 else o))
last-opened true s t o is ih = inr (is refl)
last-opened false s t o is ih = ih

last-boot : (here : Bool) (t o : ℕ) → (t ≡ 0) ⊎ (t ≡ o) → ((if here then 0 else t) ≡ 0) ⊎ ((if here then 0 else t) ≡ o)
last-boot true t o ih = inl refl
last-boot false t o ih = ih

opened_there : (f : List ℕ) (s : ℕ) (g : List ℕ) (h : List Act) → s ≡ openings f h + 1 → bytes_eq f g ≡ true → s ≡ openings g h + 1
opened_there f s g h is e = is ∙ ap (λ name. openings name h + 1) (same_name f g e)

-- the session taken is the last one opened, or none
pub taken_last : (g : List ℕ) (h : List Act) → KeepsSessions h → (session_taken g h ≡ 0) ⊎ (session_taken g h ≡ openings g h)
taken_last g [] l = inl refl
taken_last g (acts.Opened f s ∷ h) l = last-opened (bytes_eq f g) s (session_taken g h) (openings g h) (opened_there f s g h l.0.1)
    (taken_last g h l.1)
taken_last g (acts.Boot f ∷ h) l = last-boot (bytes_eq f g) (session_taken g h) (openings g h) (taken_last g h l.1)
taken_last g (_ ∷ h) l = taken_last g h l.1

pub taken_bound : (g : List ℕ) (h : List Act) → KeepsSessions h → session_taken g h ≤ openings g h
taken_bound g h l = let last = taken_last g h l in grind arith

open-opened : (here b : Bool) (o : ℕ) → (b ≡ true → 0 < o) → (here || b) ≡ true → 0 < (if here then o + 1 else o)
open-opened true b o ih e = omega arith
open-opened false b o ih e = ih e

-- an open session has a number
pub open_some : (g : List ℕ) (h : List Act) → KeepsSessions h → is_open g h ≡ true → 0 < openings g h
open_some g [] l e = absurd (grind arith)
open_some g (acts.Opened f s ∷ h) l e = open-opened (bytes_eq f g) (is_open g h) (openings g h) (open_some g h l.1) e
open_some g (acts.Cut f s ∷ h) l e = open_some g h l.1 (both_right (not (bytes_eq f g)) (is_open g h) e)
open_some g (_ ∷ h) l e = open_some g h l.1 e

-- ---- a session that was never opened has no messages

less_opened : (here : Bool) (o s : ℕ) → (if here then o + 1 else o) < s → o < s
less_opened true o s p = omega arith
less_opened false o s p = p

below : (f g : List ℕ) (t s : ℕ) (h : List Act) → t ≤ openings f h → openings g h < s → f ≡ g → t < s
below f g t s h p q e = let same = ap (λ name. openings name h) e in omega (arith, same)

pub no_requests : (request : List Act → Order → List ℕ) (g : List ℕ) (s : ℕ) (h : List Act) → KeepsSessions h → openings g h < s
    → requests request g s h ≡ []
no_requests request g s [] l p = refl
no_requests request g s (acts.Opened f t ∷ h) l p = no_requests request g s h l.1 (less_opened (bytes_eq f g) (openings g h) s p)
no_requests request g s (acts.Order f t k o ∷ h) l p =
    let first : t ≤ openings f h = let e = l.0.1 in omega (arith, e) in
    if_not (is_session f t g s) (requests request g s h ++ request h o ∷ []) (requests request g s h)
    (other_session f t g s (below f g t s h first p))
    ∙ no_requests request g s h l.1 p
no_requests request g s (_ ∷ h) l p = no_requests request g s h l.1 p

taken_below : (f g : List ℕ) (t s : ℕ) (h : List Act) → KeepsSessions h → t ≡ session_taken f h → openings g h < s → f ≡ g → t < s
taken_below f g t s h l is q = let bound = taken_bound f h l in below f g t s h (omega (arith, bound, is)) q

pub no_responses : (response : List Act → Answer → List ℕ) (g : List ℕ) (s : ℕ) (h : List Act) → KeepsSessions h → openings g h < s
    → responses response g s h ≡ []
no_responses response g s [] l p = refl
no_responses response g s (acts.Opened f t ∷ h) l p = no_responses response g s h l.1 (less_opened (bytes_eq f g) (openings g h) s p)
no_responses response g s (acts.Handled f t k a ∷ h) l p =
    if_not (is_session f t g s) (responses response g s h ++ response h a ∷ []) (responses response g s h)
    (other_session f t g s (taken_below f g t s h l.1 l.0.0 p))
    ∙ no_responses response g s h l.1 p
no_responses response g s (_ ∷ h) l p = no_responses response g s h l.1 p

pub no_lines : (line : List Act → Notice → List ℕ) (g : List ℕ) (s : ℕ) (h : List Act) → KeepsSessions h → openings g h < s
    → lines line g s h ≡ []
no_lines line g s [] l p = refl
no_lines line g s (acts.Opened f t ∷ h) l p = no_lines line g s h l.1 (less_opened (bytes_eq f g) (openings g h) s p)
no_lines line g s (acts.Notice f t n ∷ h) l p =
    if_not (is_session f t g s) (lines line g s h ++ line h n ∷ []) (lines line g s h)
    (other_session f t g s (taken_below f g t s h l.1 l.0 p))
    ∙ no_lines line g s h l.1 p
no_lines line g s (_ ∷ h) l p = no_lines line g s h l.1 p

-- ---- each message has its place

longer : (here : Bool) (n : ℕ) (xs : List (List ℕ)) (x : List ℕ) → length xs ≡ n
    → length (if here then xs ++ x ∷ [] else xs) ≡ (if here then n + 1 else n)
longer true n xs x e = let p = length-append xs (x ∷ []) in omega (arith, p, e)
longer false n xs x e = e

pub count_requests : (request : List Act → Order → List ℕ) (g : List ℕ) (s : ℕ) (h : List Act)
    → length (requests request g s h) ≡ orders g s h
count_requests request g s [] = refl
count_requests request g s (acts.Order f t k o ∷ h) = longer (is_session f t g s) (orders g s h) (requests request g s h) (request h o)
    (count_requests request g s h)
count_requests request g s (_ ∷ h) = count_requests request g s h

pub count_responses : (response : List Act → Answer → List ℕ) (g : List ℕ) (s : ℕ) (h : List Act)
    → length (responses response g s h) ≡ handled g s h
count_responses response g s [] = refl
count_responses response g s (acts.Handled f t k a ∷ h) = longer (is_session f t g s) (handled g s h) (responses response g s h)
    (response h a) (count_responses response g s h)
count_responses response g s (_ ∷ h) = count_responses response g s h

-- where a value stands, its message stands at this place
abbrev pub HasPlace : {A : Type 0} → (List Act → A → List ℕ) → Option A → List (List ℕ) → ℕ → Type 0
HasPlace message value xs k = MatchOption value (slice_get xs k ≡ None) (λ a. (w : List Act) × (slice_get xs k ≡ Some (message w a)))

at_end : (xs : List (List ℕ)) (x : List ℕ) → slice_get (xs ++ x ∷ []) (length xs) ≡ Some x
at_end [] x = refl
at_end (y ∷ xs) x = at_end xs x

elsewhere : (xs : List (List ℕ)) (x : List ℕ) (k : ℕ) → (k ≡ length xs → ⊥) → slice_get (xs ++ x ∷ []) k ≡ slice_get xs k
elsewhere [] x zero q = absurd (q refl)
elsewhere [] x (suc k) q = refl
elsewhere (y ∷ xs) x zero q = refl
elsewhere (y ∷ xs) x (suc k) q = elsewhere xs x k (λ e. q (ap suc e))

along : {A : Type 0} (message : List Act → A → List ℕ) (value : Option A) (xs ys : List (List ℕ)) (k : ℕ) → slice_get ys k ≡ slice_get xs k
    → HasPlace message value xs k → HasPlace message value ys k
along message None xs ys k e p = e ∙ p
along message (Some a) xs ys k e p = (p.0, e ∙ p.1)

one-more : {A : Type 0} (message : List Act → A → List ℕ) (h : List Act) (a : A) (old : Option A) (xs : List (List ℕ)) (new : Bool)
    (j k : ℕ) → (j == k + 1) ≡ new → j ≡ length xs + 1
    → HasPlace message old xs k → HasPlace message (if new then Some a else old) (xs ++ message h a ∷ []) k
one-more message h a old xs true j k e is p =
    let same : k ≡ length xs = let q = same_number j (k + 1) e in omega (arith, q, is) in
    (h, ap (slice_get (xs ++ message h a ∷ [])) same ∙ at_end xs (message h a))
one-more message h a old xs false j k e is p =
    along message old xs (xs ++ message h a ∷ []) k (elsewhere xs (message h a) k (λ q. not_equal j k (length xs) e is q)) p
  where
    not_equal : (j k n : ℕ) → (j == k + 1) ≡ false → j ≡ n + 1 → k ≡ n → ⊥
    not_equal j k n e is q = grind arith

pub place_more : {A : Type 0} (message : List Act → A → List ℕ) (h : List Act) (a : A) (old : Option A) (xs : List (List ℕ)) (here : Bool)
    (j k : ℕ) → (here ≡ true → j ≡ length xs + 1)
    → HasPlace message old xs k → HasPlace message (if here && (j == k + 1) then Some a else old) (if here then xs ++ message h a
    ∷ [] else xs) k
place_more message h a old xs true j k is p = one-more message h a old xs (j == k + 1) j k refl (is refl) p
place_more message h a old xs false j k is p = p

order_number : (request : List Act → Order → List ℕ) (f : List ℕ) (t k : ℕ) (g : List ℕ) (s : ℕ) (h : List Act) → k ≡ orders f t h + 1
    → is_session f t g s ≡ true → k ≡ length (requests request g s h) + 1
order_number request f t k g s h is e =
    let name = same_name f g (both_left (bytes_eq f g) (t == s) e) in
    let session = same_number t s (both_right (bytes_eq f g) (t == s) e) in
    let one = ap (λ n. orders n t h) name in
    let two = ap (λ n. orders g n h) session in
    let all = count_requests request g s h in
    omega (arith, is, one, two, all)

pub order_place : (request : List Act → Order → List ℕ) (g : List ℕ) (s k : ℕ) (h : List Act) → KeepsSessions h
    → HasPlace request (order_at g s (k + 1) h) (requests request g s h) k
order_place request g s k [] l = refl
order_place request g s k (acts.Order f t j o ∷ h) l =
    place_more request h o (order_at g s (k + 1) h) (requests request g s h) (is_session f t g s) j k
    (order_number request f t j g s h l.0.2) (order_place request g s k h l.1)
order_place request g s k (_ ∷ h) l = order_place request g s k h l.1

answer_number : (response : List Act → Answer → List ℕ) (f : List ℕ) (t k : ℕ) (g : List ℕ) (s : ℕ) (h : List Act) → k ≡ handled f t h + 1
    → is_session f t g s ≡ true → k ≡ length (responses response g s h) + 1
answer_number response f t k g s h is e =
    let name = same_name f g (both_left (bytes_eq f g) (t == s) e) in
    let session = same_number t s (both_right (bytes_eq f g) (t == s) e) in
    let one = ap (λ n. handled n t h) name in
    let two = ap (λ n. handled g n h) session in
    let all = count_responses response g s h in
    omega (arith, is, one, two, all)

pub answer_place : (response : List Act → Answer → List ℕ) (g : List ℕ) (s k : ℕ) (h : List Act) → KeepsSessions h
    → HasPlace response (answer_at g s (k + 1) h) (responses response g s h) k
answer_place response g s k [] l = refl
answer_place response g s k (acts.Handled f t j a ∷ h) l =
    place_more response h a (answer_at g s (k + 1) h) (responses response g s h) (is_session f t g s) j k
    (answer_number response f t j g s h l.0.1) (answer_place response g s k h l.1)
answer_place response g s k (_ ∷ h) l = answer_place response g s k h l.1

-- ---- no more is handled or heard than there is

-- what is said of a session of one name is said of it under another
pub there : (f : List ℕ) (t : ℕ) (g : List ℕ) (s : ℕ) (P : List ℕ → ℕ → Type 0) → is_session f t g s ≡ true → P f t → P g s
there f t g s P e p =
    let name = same_name f g (both_left (bytes_eq f g) (t == s) e) in
    let session = same_number t s (both_right (bytes_eq f g) (t == s) e) in
    let Q : List ℕ → Type 0 = λ n. P n t in
    let R : ℕ → Type 0 = λ n. P g n in
    subst R session (subst Q name p)

pub place_within : {A : Type 0} (message : List Act → A → List ℕ) (value : Option A) (a : A) (xs : List (List ℕ)) (k : ℕ) → value ≡ Some a
    → HasPlace message value xs k → k < length xs
place_within message None a xs k e p = absurd (none_is_some a e)
  where
    none_is_some : {A : Type 0} (a : A) → None ≡ Some a → ⊥
    none_is_some a e = cc
place_within message (Some b) a xs k e p = slice_get_within xs k (message p.0 b) p.1

pub where_none : {A : Type 0} (z : Bool) (v : Option A) (a : A) → (if z then None else v) ≡ Some a → (z ≡ false) × (v ≡ Some a)
where_none true v a e = absurd (none_is_some a e)
  where
    none_is_some : {A : Type 0} (a : A) → None ≡ Some a → ⊥
    none_is_some a e = cc
where_none false v a e = (refl, e)

pub else_none : {A : Type 0} (b : Bool) (v : Option A) (a : A) → (if b then v else None) ≡ Some a → (b ≡ true) × (v ≡ Some a)
else_none true v a e = (refl, e)
else_none false v a e = absurd (none_is_some a e)
  where
    none_is_some : {A : Type 0} (a : A) → None ≡ Some a → ⊥
    none_is_some a e = cc

more_there : (here : Bool) (n : ℕ) (xs : List (List ℕ)) (x : List ℕ) → n ≤ length xs → n ≤ length (if here then xs ++ x ∷ [] else xs)
more_there true n xs x p = let q = length-append xs (x ∷ []) in omega (arith, p, q)
more_there false n xs x p = p

one_taken : (here : Bool) (n m : ℕ) → n ≤ m → (here ≡ true → n < m) → (if here then n + 1 else n) ≤ m
one_taken true n m p q = let r = q refl in omega arith
one_taken false n m p q = p

request_there : (request : List Act → Order → List ℕ) (f : List ℕ) (t : ℕ) (o : Order) (h : List Act) → KeepsSessions h
    → t ≡ session_taken f h → next_request f h ≡ Some o → handled f t h < length (requests request f t h)
request_there request f t o h l is e =
    let P : ℕ → Type 0 = λ n. handled f n h < length (requests request f n h) in
    let n = session_taken f h in
    let at = where_none (n == 0) (order_at f n (handled f n h + 1) h) o e in
    subst P (sym is) (place_within request (order_at f n (handled f n h + 1) h) o (requests request f n h) (handled f n h) at.1
    (order_place request f n (handled f n h) h l))

pub handled_bound : (request : List Act → Order → List ℕ) (g : List ℕ) (s : ℕ) (h : List Act) → KeepsSessions h
    → handled g s h ≤ length (requests request g s h)
handled_bound request g s [] l = omega arith
handled_bound request g s (acts.Order f t k o ∷ h) l = more_there (is_session f t g s) (handled g s h) (requests request g s h)
    (request h o) (handled_bound request g s h l.1)
handled_bound request g s (acts.Handled f t k a ∷ h) l =
    one_taken (is_session f t g s) (handled g s h) (length (requests request g s h)) (handled_bound request g s h l.1)
    (λ e. there f t g s (λ n m. handled n m h < length (requests request n m h)) e (request_there request f t l.0.2.0 h l.1 l.0.0 l.0.2.1))
handled_bound request g s (_ ∷ h) l = handled_bound request g s h l.1

answer_there : (response : List Act → Answer → List ℕ) (f : List ℕ) (t : ℕ) (a : Answer) (h : List Act) → KeepsSessions h → t ≡ openings f h
    → next_answer f h ≡ Some a → answered f t h < length (responses response f t h)
answer_there response f t a h l is e =
    let P : ℕ → Type 0 = λ n. answered f n h < length (responses response f n h) in
    let n = openings f h in
    let at = else_none (is_open f h) (answer_at f n (answered f n h + 1) h) a e in
    subst P (sym is) (place_within response (answer_at f n (answered f n h + 1) h) a (responses response f n h) (answered f n h) at.1
    (answer_place response f n (answered f n h) h l))

pub answered_bound : (response : List Act → Answer → List ℕ) (g : List ℕ) (s : ℕ) (h : List Act) → KeepsSessions h
    → answered g s h ≤ length (responses response g s h)
answered_bound response g s [] l = omega arith
answered_bound response g s (acts.Handled f t k a ∷ h) l = more_there (is_session f t g s) (answered g s h) (responses response g s h)
    (response h a) (answered_bound response g s h l.1)
answered_bound response g s (acts.Answered f t k a ∷ h) l =
    one_taken (is_session f t g s) (answered g s h) (length (responses response g s h)) (answered_bound response g s h l.1)
    (λ e. there f t g s (λ n m. answered n m h < length (responses response n m h)) e (answer_there response f t a h l.1 l.0.0 l.0.2))
answered_bound response g s (_ ∷ h) l = answered_bound response g s h l.1

notice_more : (line : List Act → Notice → List ℕ) (h : List Act) (n : Notice) (here : Bool) (ns : List Notice) (xs : List (List ℕ)) (k : ℕ)
    → length xs ≡ length ns → HasPlace line (slice_get ns k) xs k
    → HasPlace line (slice_get (if here then ns ++ n ∷ [] else ns) k) (if here then xs ++ line h n ∷ [] else xs) k
notice_more line h n true ns xs k same p = added ns xs k same p
  where
    added : (ns : List Notice) (xs : List (List ℕ)) (k : ℕ) → length xs ≡ length ns → HasPlace line (slice_get ns k) xs k
        → HasPlace line (slice_get (ns ++ n ∷ []) k) (xs ++ line h n ∷ []) k
    added [] [] zero same p = (h, refl)
    added [] [] (suc k) same p = refl
    added [] (x ∷ xs) k same p = absurd (omega (arith, same))
    added (m ∷ ns) [] k same p = absurd (omega (arith, same))
    added (m ∷ ns) (x ∷ xs) zero same p = p
    added (m ∷ ns) (x ∷ xs) (suc k) same p = added ns xs k (omega (arith, same)) p
notice_more line h n false ns xs k same p = p

count_lines : (line : List Act → Notice → List ℕ) (g : List ℕ) (s : ℕ) (h : List Act) → length (lines line g s h) ≡ length (notices g s h)
count_lines line g s [] = refl
count_lines line g s (acts.Notice f t n ∷ h) = both (is_session f t g s) (lines line g s h) (notices g s h) (count_lines line g s h)
  where
    both : (here : Bool) (xs : List (List ℕ)) (ns : List Notice) → length xs ≡ length ns → length (if here then xs ++ line h n ∷ [] else xs)
        ≡ length (if here then ns ++ n ∷ [] else ns)
    both true xs ns e = length-append xs (line h n ∷ []) ∙ ap (λ k. k + 1) e ∙ sym (length-append ns (n ∷ []))
    both false xs ns e = e
count_lines line g s (_ ∷ h) = count_lines line g s h

pub notice_place : (line : List Act → Notice → List ℕ) (g : List ℕ) (s k : ℕ) (h : List Act)
    → HasPlace line (slice_get (notices g s h) k) (lines line g s h) k
notice_place line g s k [] = refl
notice_place line g s k (acts.Notice f t n ∷ h) = notice_more line h n (is_session f t g s) (notices g s h) (lines line g s h) k
    (count_lines line g s h) (notice_place line g s k h)
notice_place line g s k (_ ∷ h) = notice_place line g s k h

notice_there : (line : List Act → Notice → List ℕ) (f : List ℕ) (t : ℕ) (n : Notice) (h : List Act) → t ≡ openings f h
    → next_notice f h ≡ Some n → notices_heard f t h < length (lines line f t h)
notice_there line f t n h is e =
    let P : ℕ → Type 0 = λ s. notices_heard f s h < length (lines line f s h) in
    let s = openings f h in
    let at = else_none (is_open f h) (slice_get (notices f s h) (notices_heard f s h)) n e in
    subst P (sym is) (place_within line (slice_get (notices f s h) (notices_heard f s h)) n (lines line f s h) (notices_heard f s h) at.1
    (notice_place line f s (notices_heard f s h) h))

pub heard_bound : (line : List Act → Notice → List ℕ) (g : List ℕ) (s : ℕ) (h : List Act) → KeepsSessions h
    → notices_heard g s h ≤ length (lines line g s h)
heard_bound line g s [] l = omega arith
heard_bound line g s (acts.Notice f t n ∷ h) l = more_there (is_session f t g s) (notices_heard g s h) (lines line g s h) (line h n)
    (heard_bound line g s h l.1)
heard_bound line g s (acts.Heard f t n ∷ h) l =
    one_taken (is_session f t g s) (notices_heard g s h) (length (lines line g s h)) (heard_bound line g s h l.1)
    (λ e. there f t g s (λ a b. notices_heard a b h < length (lines line a b h)) e (notice_there line f t n h l.0.0 l.0.1))
heard_bound line g s (_ ∷ h) l = heard_bound line g s h l.1
