-- Orders and answers by their numbers, and that what is heard comes in the order in which it was given.
use Rattle.std.proofs.Common.{◌≡◌, ℕ, zero, suc, ◌+◌, ◌≤◌, ◌==◌, ◌&&◌, Bool, true, false, List, [], ◌∷◌, ◌++◌, length, take, Option, Some, refl, sym, ◌∙◌, ap, subst, arith, length-append, if◌then◌else◌}
use Rattle.std.specs.List.{slice_get}
use Rattle.std.proofs.lemmas.Option.{slice_get_within}
use Rattle.ikeless_tree.specs.declared.order.Answer.{Answer}
use Rattle.ikeless_tree.specs.declared.order.Notice.{Notice}
use Rattle.hist_acts.specs.declared.act.Act.{Act}
use Rattle.hist_acts.specs.declared.act.Act.TheVariants as acts
use Rattle.hist_acts.specs.Sessions.{answer_at, answered, handled, is_open, is_session, next_answer, next_notice, notices, notices_heard, openings, order_at, orders, orders_given}
use Rattle.session_pipe.specs.Sessions.{KeepsSessions, MayStand}
use Rattle.session_pipe.proofs.Counts.{else_none, there}
use Rattle.session_pipe.proofs.Names.{same_number}
use Rattle.hist_sessions.specs.Heard.{Follows, answers_given, answers_heard, told}

-- ---- lists that grow at their end

at-end : {A : Type 0} (xs : List A) (x : A) → slice_get (xs ++ x ∷ []) (length xs) ≡ Some x
at-end [] x = refl
at-end (y ∷ xs) x = at-end xs x

elsewhere : {A : Type 0} (xs : List A) (x : A) (k : ℕ) → (k ≡ length xs → ⊥) → slice_get (xs ++ x ∷ []) k ≡ slice_get xs k
elsewhere [] x zero q = absurd (q refl)
elsewhere [] x (suc k) q = refl
elsewhere (y ∷ xs) x zero q = refl
elsewhere (y ∷ xs) x (suc k) q = elsewhere xs x k (λ e. q (ap suc e))

not-last : (j k n : ℕ) → (j == k + 1) ≡ false → j ≡ n + 1 → k ≡ n → ⊥
not-last j k n e is q = grind arith

new-number : {A : Type 0} (xs : List A) (x : A) (old : Option A) (b : Bool) (j k : ℕ) → (j == k + 1) ≡ b → j ≡ length xs + 1
    → old ≡ slice_get xs k
    → (if b then Some x else old) ≡ slice_get (xs ++ x ∷ []) k
new-number xs x old true j k e is p =
    let m = same_number j (k + 1) e in
    let same : k ≡ length xs = omega (arith, m, is) in
    sym (ap (slice_get (xs ++ x ∷ [])) same ∙ at-end xs x)
new-number xs x old false j k e is p = p ∙ sym (elsewhere xs x k (λ q. not-last j k (length xs) e is q))

-- one more, of this session or of another one
more-number : {A : Type 0} (here : Bool) (xs : List A) (x : A) (old : Option A) (j k : ℕ) → (here ≡ true → j ≡ length xs + 1)
    → old ≡ slice_get xs k
    → (if here && (j == k + 1) then Some x else old) ≡ slice_get (if here then xs ++ x ∷ [] else xs) k
more-number true xs x old j k is p = new-number xs x old (j == k + 1) j k refl (is refl) p
more-number false xs x old j k is p = p

longer : {A : Type 0} (here : Bool) (n : ℕ) (xs : List A) (x : A) → length xs ≡ n
    → length (if here then xs ++ x ∷ [] else xs) ≡ (if here then n + 1 else n)
longer true n xs x e = let p = length-append xs (x ∷ []) in omega (arith, p, e)
longer false n xs x e = e

-- ---- orders and answers by their numbers

pub orders-count : (g : List ℕ) (s : ℕ) (h : List Act) → length (orders_given g s h) ≡ orders g s h
orders-count g s [] = refl
orders-count g s (acts.Order f t k o ∷ h) = longer (is_session f t g s) (orders g s h) (orders_given g s h) o (orders-count g s h)
orders-count g s (_ ∷ h) = orders-count g s h

pub handled-count : (g : List ℕ) (s : ℕ) (h : List Act) → length (answers_given g s h) ≡ handled g s h
handled-count g s [] = refl
handled-count g s (acts.Handled f t k a ∷ h) = longer (is_session f t g s) (handled g s h) (answers_given g s h) a (handled-count g s h)
handled-count g s (_ ∷ h) = handled-count g s h

pub answered-count : (g : List ℕ) (s : ℕ) (h : List Act) → length (answers_heard g s h) ≡ answered g s h
answered-count g s [] = refl
answered-count g s (acts.Answered f t k a ∷ h) = longer (is_session f t g s) (answered g s h) (answers_heard g s h) a (answered-count g s h)
answered-count g s (_ ∷ h) = answered-count g s h

pub heard-count : (g : List ℕ) (s : ℕ) (h : List Act) → length (told g s h) ≡ notices_heard g s h
heard-count g s [] = refl
heard-count g s (acts.Heard f t n ∷ h) = longer (is_session f t g s) (notices_heard g s h) (told g s h) n (heard-count g s h)
heard-count g s (_ ∷ h) = heard-count g s h

pub order-at : (g : List ℕ) (s k : ℕ) (h : List Act) → KeepsSessions h → order_at g s (k + 1) h ≡ slice_get (orders_given g s h) k
order-at g s k [] l = refl
order-at g s k (acts.Order f t j o ∷ h) l =
    more-number (is_session f t g s) (orders_given g s h) o (order_at g s (k + 1) h) j k
    (λ e. there f t g s (λ n m. j ≡ orders n m h + 1) e l.0.2 ∙ ap (λ z. z + 1) (sym (orders-count g s h))) (order-at g s k h l.1)
order-at g s k (_ ∷ h) l = order-at g s k h l.1

pub answer-at : (g : List ℕ) (s k : ℕ) (h : List Act) → KeepsSessions h → answer_at g s (k + 1) h ≡ slice_get (answers_given g s h) k
answer-at g s k [] l = refl
answer-at g s k (acts.Handled f t j a ∷ h) l =
    more-number (is_session f t g s) (answers_given g s h) a (answer_at g s (k + 1) h) j k
    (λ e. there f t g s (λ n m. j ≡ handled n m h + 1) e l.0.1 ∙ ap (λ z. z + 1) (sym (handled-count g s h))) (answer-at g s k h l.1)
answer-at g s k (_ ∷ h) l = answer-at g s k h l.1

-- ---- what is heard is the first of what was given

take-more : {A : Type 0} (n : ℕ) (xs : List A) (x : A) → n ≤ length xs → take n (xs ++ x ∷ []) ≡ take n xs
take-more zero xs x p = refl
take-more (suc n) [] x p = absurd (omega (arith, p))
take-more (suc n) (y ∷ xs) x p = ap (λ z. y ∷ z) (take-more n xs x (omega (arith, p)))

take-next : {A : Type 0} (n : ℕ) (xs : List A) (x : A) → slice_get xs n ≡ Some x → take (suc n) xs ≡ take n xs ++ x ∷ []
take-next zero [] x e = cc
take-next zero (y ∷ xs) x e = let q : y ≡ x = cc in ap (λ z. z ∷ []) q
take-next (suc n) [] x e = cc
take-next (suc n) (y ∷ xs) x e = ap (λ z. y ∷ z) (take-next n xs x e)

-- what is heard of what was given, and how much of it
record IsFirst {A : Type 0} (heard given : List A) (n : ℕ) : Type 0 where
  pub is : heard ≡ take n given
  pub few : n ≤ length given

given-more : {A : Type 0} (here : Bool) (heard given : List A) (x : A) (n : ℕ) → IsFirst heard given n
    → IsFirst heard (if here then given ++ x ∷ [] else given) n
given-more true heard given x n p = record {
  is = p.is ∙ sym (take-more n given x p.few);
  few = (let q = length-append given (x ∷ []) in
      let few = p.few in omega (arith, q, few));
}
given-more false heard given x n p = p

heard-more : {A : Type 0} (here : Bool) (heard given : List A) (x : A) (n : ℕ) → (here ≡ true → slice_get given n ≡ Some x)
    → IsFirst heard given n
    → IsFirst (if here then heard ++ x ∷ [] else heard) given (if here then n + 1 else n)
heard-more true heard given x n e p =
    let next : n + 1 ≡ suc n = omega arith in
    record {
      is = ap (λ z. z ++ x ∷ []) p.is ∙ sym (take-next n given x (e refl)) ∙ ap (λ k. take k given) (sym next);
      few =
          (let q = slice_get_within given n x (e refl) in omega (arith, q));
    }
heard-more false heard given x n e p = p

next-given : (f : List ℕ) (t : ℕ) (a : Answer) (h : List Act) → KeepsSessions h → t ≡ openings f h → next_answer f h ≡ Some a
    → slice_get (answers_given f t h) (answered f t h) ≡ Some a
next-given f t a h l is e =
    let at = else_none (is_open f h) (answer_at f (openings f h) (answered f (openings f h) h + 1) h) a e in
    let own : answer_at f t (answered f t h + 1) h ≡ Some a = subst (λ (z : ℕ). answer_at f z (answered f z h + 1) h ≡ Some a) (sym is) at.1
    in
    sym (answer-at f t (answered f t h) h l) ∙ own

answers-first : (g : List ℕ) (s : ℕ) (h : List Act) → KeepsSessions h → IsFirst (answers_heard g s h) (answers_given g s h) (answered g s h)
answers-first g s [] l = record { is = refl; few = omega arith }
answers-first g s (acts.Handled f t k a ∷ h) l = given-more (is_session f t g s) (answers_heard g s h) (answers_given g s h) a
    (answered g s h) (answers-first g s h l.1)
answers-first g s (acts.Answered f t k a ∷ h) l =
    heard-more (is_session f t g s) (answers_heard g s h) (answers_given g s h) a (answered g s h)
    (λ e. there f t g s (λ n m. slice_get (answers_given n m h) (answered n m h) ≡ Some a) e (next-given f t a h l.1 l.0.0 l.0.2))
    (answers-first g s h l.1)
answers-first g s (_ ∷ h) l = answers-first g s h l.1

next-told : (f : List ℕ) (t : ℕ) (n : Notice) (h : List Act) → t ≡ openings f h → next_notice f h ≡ Some n
    → slice_get (notices f t h) (notices_heard f t h) ≡ Some n
next-told f t n h is e =
    let at = else_none (is_open f h) (slice_get (notices f (openings f h) h) (notices_heard f (openings f h) h)) n e in
    subst (λ (z : ℕ). slice_get (notices f z h) (notices_heard f z h) ≡ Some n) (sym is) at.1

notices-first : (g : List ℕ) (s : ℕ) (h : List Act) → KeepsSessions h → IsFirst (told g s h) (notices g s h) (notices_heard g s h)
notices-first g s [] l = record { is = refl; few = omega arith }
notices-first g s (acts.Notice f t n ∷ h) l = given-more (is_session f t g s) (told g s h) (notices g s h) n (notices_heard g s h)
    (notices-first g s h l.1)
notices-first g s (acts.Heard f t n ∷ h) l =
    heard-more (is_session f t g s) (told g s h) (notices g s h) n (notices_heard g s h)
    (λ e. there f t g s (λ a b. slice_get (notices a b h) (notices_heard a b h) ≡ Some n) e (next-told f t n h l.0.0 l.0.1))
    (notices-first g s h l.1)
notices-first g s (_ ∷ h) l = notices-first g s h l.1

pub answers-in-order : (g : List ℕ) (s : ℕ) (h : List Act) → KeepsSessions h
    → answers_heard g s h ≡ take (answered g s h) (answers_given g s h)
answers-in-order g s h l = (answers-first g s h l).is

pub notices-in-order : (g : List ℕ) (s : ℕ) (h : List Act) → KeepsSessions h → told g s h ≡ take (notices_heard g s h) (notices g s h)
notices-in-order g s h l = (notices-first g s h l).is

pub few-answered : (g : List ℕ) (s : ℕ) (h : List Act) → KeepsSessions h → answered g s h ≤ handled g s h
few-answered g s h l = let few = (answers-first g s h l).few in let n = handled-count g s h in omega (arith, few, n)

pub few-heard : (g : List ℕ) (s : ℕ) (h : List Act) → KeepsSessions h → notices_heard g s h ≤ length (notices g s h)
few-heard g s h l = (notices-first g s h l).few

-- ---- each act, wherever it stands

pub keeps-tail : (newer h : List Act) → KeepsSessions (newer ++ h) → KeepsSessions h
keeps-tail [] h l = l
keeps-tail (a ∷ newer) h l = keeps-tail newer h l.1

pub stands-there : (h : List Act) (a : Act) (older : List Act) → KeepsSessions h → Follows h a older → MayStand a older
stands-there h a older l f = (keeps-tail f.0 (a ∷ older) (subst KeepsSessions f.1 l)).0
