-- Sessions: what is taken, open, cut, handled and answered.
use Rattle.std.proofs.Common.{◌≡◌, ℕ, ◌+◌, ◌≤◌, ◌<◌, Bool, true, false, ◌==◌, not, ◌&&◌, ◌||◌, List, [], ◌∷◌, Option, Some, None, ◌⊎◌, inl, inr, refl, sym, ◌∙◌, arith, if◌then◌else◌}
use Rattle.std.specs.Str.{bytes_eq}
use Rattle.ikeless_tree.specs.declared.command.Peer.{Peer}
use Rattle.ikeless_tree.specs.declared.order.Order.{Order}
use Rattle.ikeless_tree.specs.declared.order.Answer.{Answer}
use Rattle.hist_acts.specs.declared.act.Act.{Act}
use Rattle.hist_acts.specs.declared.act.Act.TheVariants as acts
use Rattle.hist_acts.specs.Sessions.{answer_at, answered, handled, is_open, is_session, next_request, openings, order_at, orders, session_taken, was_cut}
use Rattle.hist_safety.specs.Law.{IsLawful}
use Rattle.hist_safety.proofs.Basics.{no, or-split, name-is, session-is, spot-is, more, if-old}

taken-opened : (b : Bool) (s t o p : ℕ) → (b ≡ true → s ≡ p + 1) → (b ≡ true → p ≡ o) → (t ≡ 0) ⊎ (t ≡ o) → ((if b then s else t) ≡ 0)
    ⊎ ((if b then s else t) ≡ (if b then o + 1 else o))
taken-opened true s t o p e q i = inr (let a = e refl in let c = q refl in omega (arith, a, c))
taken-opened false s t o p e q i = i

taken-boot : (b : Bool) (t o : ℕ) → (t ≡ 0) ⊎ (t ≡ o) → ((if b then 0 else t) ≡ 0) ⊎ ((if b then 0 else t) ≡ o)
taken-boot true t o i = inl refl
taken-boot false t o i = i

pub openings-at : (f g : List ℕ) (h : List Act) → bytes_eq f g ≡ true → openings f h ≡ openings g h
openings-at f g h e = let p = name-is f g e in rw p refl

-- the session taken is the last one opened, or none
pub taken-last : (gs : List Peer) (g : List ℕ) (h : List Act) → IsLawful gs h → (session_taken g h ≡ 0) ⊎ (session_taken g h ≡ openings g h)
taken-last gs g [] l = inl refl
taken-last gs g (acts.Opened f s ∷ h) l = taken-opened (bytes_eq f g) s (session_taken g h) (openings g h) (openings f h) (λ e. l.0.1)
    (openings-at f g h) (taken-last gs g h l.1)
taken-last gs g (acts.Boot f ∷ h) l = taken-boot (bytes_eq f g) (session_taken g h) (openings g h) (taken-last gs g h l.1)
taken-last gs g (a ∷ h) l = taken-last gs g h l.1

-- a session that was cut was opened
old-cut : (f g : List ℕ) (t s : ℕ) (c : Bool) (h : List Act) → (c ≡ true → s ≤ openings g h) → t ≡ openings f h
    → (is_session f t g s || c) ≡ true → s ≤ openings g h
old-cut f g t s c h ih p e =
    or-split {A = s ≤ openings g h} (is_session f t g s) c (λ q. let r = session-is f t g s q in
    let u : openings f h ≡ openings g h = rw r.0 refl in let v = r.1 in omega (arith, p, u, v)) ih e

pub cut-old : (gs : List Peer) (g : List ℕ) (s : ℕ) (h : List Act) → IsLawful gs h → was_cut g s h ≡ true → s ≤ openings g h
cut-old gs g s [] l e = absurd (no e)
cut-old gs g s (acts.Opened f t ∷ h) l e = more (bytes_eq f g) s (openings g h) (cut-old gs g s h l.1 e)
cut-old gs g s (acts.Cut f t ∷ h) l e = old-cut f g t s (was_cut g s h) h (cut-old gs g s h l.1) l.0.2 e
cut-old gs g s (a ∷ h) l e = cut-old gs g s h l.1 e

-- and it isn't the open one
closed-opened : (b : Bool) (s o : ℕ) (p : Bool) → s ≤ o → (p ≡ true → s < o) → (b || p) ≡ true → s < (if b then o + 1 else o)
closed-opened b s o p i j e = grind arith

closed-cut : (f g : List ℕ) (t s o : ℕ) (p c : Bool) → (c ≡ true → p ≡ true → s < o) → (is_session f t g s || c) ≡ true
    → (not (bytes_eq f g) && p) ≡ true → s < o
closed-cut f g t s o p c ih e q = grind arith

pub cut-closed : (gs : List Peer) (g : List ℕ) (s : ℕ) (h : List Act) → IsLawful gs h → was_cut g s h ≡ true → is_open g h ≡ true
    → s < openings g h
cut-closed gs g s [] l e q = absurd (no e)
cut-closed gs g s (acts.Opened f t ∷ h) l e q = closed-opened (bytes_eq f g) s (openings g h) (is_open g h) (cut-old gs g s h l.1 e)
    (cut-closed gs g s h l.1 e) q
cut-closed gs g s (acts.Cut f t ∷ h) l e q = closed-cut f g t s (openings g h) (is_open g h) (was_cut g s h) (cut-closed gs g s h l.1) e q
cut-closed gs g s (a ∷ h) l e q = cut-closed gs g s h l.1 e q

-- requests are handled, and answers heard, in order
pub count-at : (c : List ℕ → ℕ → List Act → ℕ) (f : List ℕ) (t j : ℕ) (g : List ℕ) (s k : ℕ) (h : List Act) → j ≡ c f t h + 1
    → (is_session f t g s && (j == k)) ≡ true → k ≡ c g s h + 1
count-at c f t j g s k h e q = let p = spot-is f t j g s k q in let r : c f t h ≡ c g s h = rw (p.0, p.1) refl in let v = p.2 in
    omega (arith, e, r, v)

told-new : (k n : ℕ) (b c : Bool) (a t : Answer) (o : Option Answer) → ((b && c) ≡ true → k ≡ n + 1) → (o ≡ Some t → k ≤ n)
    → (if b && c then Some a else o) ≡ Some t → k ≤ (if b then n + 1 else n)
told-new k n true true a t o q ih e = let p = q refl in omega (arith, p)
told-new k n true false a t o q ih e = let p = ih e in omega (arith, p)
told-new k n false c a t o q ih e = ih e

pub told-handled : (gs : List Peer) (g : List ℕ) (s k : ℕ) (t : Answer) (h : List Act) → IsLawful gs h → answer_at g s k h ≡ Some t
    → k ≤ handled g s h
told-handled gs g s k t [] l e = absurd (grind arith)
told-handled gs g s k t (acts.Handled f u j r ∷ h) l e = told-new k (handled g s h) (is_session f u g s) (j == k) r t (answer_at g s k h)
    (count-at handled f u j g s k h l.0.1) (told-handled gs g s k t h l.1) e
told-handled gs g s k t (a ∷ h) l e = told-handled gs g s k t h l.1 e

more-answered : (b : Bool) (m n p q : ℕ) → m ≤ n → (b ≡ true → p ≡ m) → (b ≡ true → q ≡ n) → p + 1 ≤ q → (if b then m + 1 else m) ≤ n
more-answered true m n p q i e f r = let a = e refl in let c = f refl in omega (arith, a, c, r)
more-answered false m n p q i e f r = i

pub same-count : (c : List ℕ → ℕ → List Act → ℕ) (f : List ℕ) (t : ℕ) (g : List ℕ) (s : ℕ) (h : List Act) → is_session f t g s ≡ true
    → c f t h ≡ c g s h
same-count c f t g s h e = let p = session-is f t g s e in rw (p.0, p.1) refl

pub answered-handled : (gs : List Peer) (g : List ℕ) (s : ℕ) (h : List Act) → IsLawful gs h → answered g s h ≤ handled g s h
answered-handled gs g s [] l = omega arith
answered-handled gs g s (acts.Handled f u j r ∷ h) l = more (is_session f u g s) (answered g s h) (handled g s h)
    (answered-handled gs g s h l.1)
answered-handled gs g s (acts.Answered f u j r ∷ h) l =
    let q : answered f u h + 1 ≤ handled f u h = (let a = told-handled gs f u j r h l.1 l.0.4 in let b = l.0.3 in omega (arith, a, b)) in
    more-answered (is_session f u g s) (answered g s h) (handled g s h) (answered f u h) (handled f u h) (answered-handled gs g s h l.1)
    (same-count answered f u g s h) (same-count handled f u g s h) q
answered-handled gs g s (a ∷ h) l = answered-handled gs g s h l.1

-- no more is handled than was ordered
bound-order : (k n : ℕ) (b c : Bool) (a t : Order) (o : Option Order) → ((b && c) ≡ true → k ≡ n + 1) → (o ≡ Some t → k ≤ n)
    → (if b && c then Some a else o) ≡ Some t → k ≤ (if b then n + 1 else n)
bound-order k n true true a t o q ih e = let p = q refl in omega (arith, p)
bound-order k n true false a t o q ih e = let p = ih e in omega (arith, p)
bound-order k n false c a t o q ih e = ih e

pub order-bound : (gs : List Peer) (g : List ℕ) (s k : ℕ) (b : Order) (h : List Act) → IsLawful gs h → order_at g s k h ≡ Some b
    → k ≤ orders g s h
order-bound gs g s k b [] l e = absurd (grind arith)
order-bound gs g s k b (acts.Order f u j a ∷ h) l e = bound-order k (orders g s h) (is_session f u g s) (j == k) a b (order_at g s k h)
    (count-at orders f u j g s k h l.0.3) (order-bound gs g s k b h l.1) e
order-bound gs g s k b (a ∷ h) l e = order-bound gs g s k b h l.1 e

-- the order that is handled next has the next number of the session taken
next-of : (b : Bool) (o : Order) (r : Option Order) → (if b then None else r) ≡ Some o → r ≡ Some o
next-of true o r e = absurd (grind arith)
next-of false o r e = e

pub next-is : (g : List ℕ) (o : Order) (h : List Act) → next_request g h ≡ Some o
    → order_at g (session_taken g h) (handled g (session_taken g h) h + 1) h ≡ Some o
next-is g o h e = next-of (session_taken g h == 0) o (order_at g (session_taken g h) (handled g (session_taken g h) h + 1) h) e

pub next-at : (g : List ℕ) (t j : ℕ) (o : Order) (h : List Act) → t ≡ session_taken g h → j ≡ handled g t h + 1 → next_request g h ≡ Some o
    → order_at g t j h ≡ Some o
next-at g t j o h e q n = rw (q, e) (next-is g o h n)

pub handled-ordered : (gs : List Peer) (g : List ℕ) (s : ℕ) (h : List Act) → IsLawful gs h → handled g s h ≤ orders g s h
handled-ordered gs g s [] l = omega arith
handled-ordered gs g s (acts.Handled f u j r ∷ h) l =
    let q : handled f u h + 1 ≤ orders f u h =
    rw (sym l.0.1) (order-bound gs f u j l.0.2.0 h l.1 (next-at f u j l.0.2.0 h l.0.0 l.0.1 l.0.2.1)) in
    more-answered (is_session f u g s) (handled g s h) (orders g s h) (handled f u h) (orders f u h) (handled-ordered gs g s h l.1)
    (same-count handled f u g s h) (same-count orders f u g s h) q
handled-ordered gs g s (acts.Order f u j a ∷ h) l = more (is_session f u g s) (handled g s h) (orders g s h) (handled-ordered gs g s h l.1)
handled-ordered gs g s (a ∷ h) l = handled-ordered gs g s h l.1

pub not-new : (b : Bool) (k n : ℕ) → (b ≡ true → k ≡ n + 1) → k ≤ n → b ≡ false
not-new true k n q p = absurd (let r = q refl in omega (arith, r, p))
not-new false k n q p = refl

-- so the order of what was handled isn't a new one
pub told-order : (gs : List Peer) (g : List ℕ) (s k : ℕ) (f : List ℕ) (u j : ℕ) (a b : Order) (r : Answer) (h : List Act) → IsLawful gs h
    → j ≡ orders f u h + 1 → answer_at g s k h ≡ Some r →
    (if is_session f u g s && (j == k) then Some a else order_at g s k h) ≡ Some b → order_at g s k h ≡ Some b
told-order gs g s k f u j a b r h l q e w =
    let p = told-handled gs g s k r h l e in
    let o = handled-ordered gs g s h l in
    let n = not-new (is_session f u g s && (j == k)) k (orders g s h) (count-at orders f u j g s k h q) (omega (arith, p, o)) in
    sym (if-old (is_session f u g s && (j == k)) (Some a) (order_at g s k h) n) ∙ w
