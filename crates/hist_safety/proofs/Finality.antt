-- A removal of a half is ordered behind its put, so once it is handled no put can be.
use Rattle.std.proofs.Common.{◌≡◌, ℕ, ◌+◌, ◌≤◌, ◌<◌, Bool, true, false, not, ◌&&◌, ◌||◌, List, [], ◌∷◌, ◌⊎◌, inl, inr, refl, sym, subst, arith, if◌then◌else◌}
use Rattle.std.proofs.lemmas.Bool.{or_right}
use Rattle.std.specs.Str.{bytes_eq}
use Rattle.ikeless_tree.specs.declared.command.Peer.{Peer}
use Rattle.ikeless_tree.specs.declared.order.Order.TheVariants as asks
use Rattle.hist_acts.specs.declared.act.Act.{Act}
use Rattle.hist_acts.specs.declared.act.Act.TheVariants as acts
use Rattle.hist_acts.specs.Sessions.{handled, is_open, is_session, openings, orders, session_taken}
use Rattle.hist_safety.specs.Orders.{is_removal_ordered, was_order_given, place_of, session_of, site}
use Rattle.hist_safety.specs.Law.{IsLawful, OrderMayHappen}
use Rattle.hist_safety.specs.Kept.{Never}
use Rattle.hist_safety.proofs.Basics.{no, or-false, or-split, name-is, session-self, more}

open-more : (b p : Bool) (o : ℕ) → (p ≡ true → 1 ≤ o) → (b || p) ≡ true → 1 ≤ (if b then o + 1 else o)
open-more true p o i e = omega arith
open-more false p o i e = i e

open-less : (b p : Bool) (o : ℕ) → (p ≡ true → 1 ≤ o) → (not b && p) ≡ true → 1 ≤ o
open-less true p o i e = absurd (no e)
open-less false p o i e = i e

open-some : (g : List ℕ) (h : List Act) → is_open g h ≡ true → 1 ≤ openings g h
open-some g [] e = absurd (no e)
open-some g (acts.Opened f s ∷ h) e = open-more (bytes_eq f g) (is_open g h) (openings g h) (open-some g h) e
open-some g (acts.Cut f s ∷ h) e = open-less (bytes_eq f g) (is_open g h) (openings g h) (open-some g h) e
open-some g (a ∷ h) e = open-some g h e

-- the session of the order of a put was opened
sess-new : (x f : List ℕ) (t : ℕ) (h : List Act) → t ≡ openings f h → 1 ≤ openings f h → (b : Bool)
    → (b ≡ false → (1 ≤ session_of x h) × (session_of x h ≤ openings (site x h) h)) →
    (1 ≤ (if b then t else session_of x h)) × ((if b then t else session_of x h) ≤ openings (if b then f else site x h) h)
sess-new x f t h e p true i = (omega (arith, e, p), omega (arith, e))
sess-new x f t h e p false i = i refl

pub sess-in : (gs : List Peer) (x : List ℕ) (h : List Act) → IsLawful gs h → was_order_given x h ≡ true → (1 ≤ session_of x h)
    × (session_of x h ≤ openings (site x h) h)
sess-in gs x [] l e = absurd (no e)
sess-in gs x (acts.Opened f t ∷ h) l e = let i = sess-in gs x h l.1 e in
    (i.0, more (bytes_eq f (site x h)) (session_of x h) (openings (site x h) h) i.1)
sess-in gs x (acts.Order f t j (asks.Put d) ∷ h) l e =
    sess-new x f t h l.0.2 (open-some f h l.0.1) (bytes_eq d.name x)
    (λ q. sess-in gs x h l.1 (or-false (bytes_eq d.name x) (was_order_given x h) q e))
sess-in gs x (a ∷ h) l e = sess-in gs x h l.1 e

-- the number of the order of a put
num-new : (x f : List ℕ) (t j : ℕ) (h : List Act) → j ≡ orders f t h + 1 → (b : Bool)
    → (b ≡ false → place_of x h ≤ orders (site x h) (session_of x h) h) →
    (if b then j else place_of x h) ≤ (if is_session f t (if b then f else site x h) (if b then t else session_of x h)
    then orders (if b then f else site x h) (if b then t else session_of x h) h + 1 else orders (if b then f else site x h)
    (if b then t else session_of x h) h)
num-new x f t j h e true i = let q = session-self f t in rw q (omega (arith, e))
num-new x f t j h e false i = more (is_session f t (site x h) (session_of x h)) (place_of x h) (orders (site x h) (session_of x h) h)
    (i refl)

pub num-in : (gs : List Peer) (x : List ℕ) (h : List Act) → IsLawful gs h → was_order_given x h ≡ true
    → place_of x h ≤ orders (site x h) (session_of x h) h
num-in gs x [] l e = absurd (no e)
num-in gs x (acts.Order f t j (asks.Put d) ∷ h) l e =
    num-new x f t j h l.0.3 (bytes_eq d.name x) (λ q. num-in gs x h l.1 (or-false (bytes_eq d.name x) (was_order_given x h) q e))
num-in gs x (acts.Order f t j a ∷ h) l e = more (is_session f t (site x h) (session_of x h)) (place_of x h)
    (orders (site x h) (session_of x h) h) (num-in gs x h l.1 e)
num-in gs x (a ∷ h) l e = num-in gs x h l.1 e

-- a removal is ordered at the gateway of the half, after its put
pub remove-at : (g x : List ℕ) (h : List Act) → OrderMayHappen g (asks.Remove x) h → (was_order_given x h ≡ true) × (g ≡ site x h)
remove-at g x h (inl p) = (p.order, p.here)
remove-at g x h (inr p) = (p.order, p.here)

doomed-new : (y x : List ℕ) (h : List Act) → was_order_given y h ≡ true → (is_removal_ordered x h ≡ true → was_order_given x h ≡ true)
    → (bytes_eq y x || is_removal_ordered x h) ≡ true → was_order_given x h ≡ true
doomed-new y x h o i e = or-split {A = was_order_given x h ≡ true} (bytes_eq y x) (is_removal_ordered x h)
    (λ q. subst (λ z. was_order_given z h ≡ true) (name-is y x q) o) i e

pub doomed-ordered : (gs : List Peer) (x : List ℕ) (h : List Act) → IsLawful gs h → is_removal_ordered x h ≡ true
    → was_order_given x h ≡ true
doomed-ordered gs x [] l e = absurd (no e)
doomed-ordered gs x (acts.Order f t j (asks.Remove y) ∷ h) l e = doomed-new y x h (remove-at f y h l.0.4).0 (doomed-ordered gs x h l.1) e
doomed-ordered gs x (acts.Order f t j (asks.Put d) ∷ h) l e = or_right (bytes_eq d.name x) (was_order_given x h)
    (doomed-ordered gs x h l.1 e)
doomed-ordered gs x (a ∷ h) l e = doomed-ordered gs x h l.1 e

-- an order of this session and number is behind the put of the half
abbrev pub Later : ℕ → ℕ → List ℕ → List Act → Type 0
Later s k x h = (session_of x h < s) ⊎ ((session_of x h ≡ s) × (place_of x h < k))

later-cases : (p s : ℕ) → p ≤ s → (p < s) ⊎ (p ≡ s)
later-cases p s e = grind arith

pub later-new : (gs : List Peer) (x f : List ℕ) (t j : ℕ) (h : List Act) → IsLawful gs h → was_order_given x h ≡ true → f ≡ site x h
    → t ≡ openings f h → j ≡ orders f t h + 1 → Later t j x h
later-new gs x f t j h l o e p q =
    let s = (sess-in gs x h l o).1 in
    let n = num-in gs x h l o in
    let a : session_of x h ≤ t = rw (p, e) s in
    elim (later-cases (session_of x h) t a) as (λ z. Later t j x h) [
      | inl r ↦ inl r
      | inr r ↦ inr (r, (let m : place_of x h ≤ orders f t h = rw (e, sym r) n in omega (arith, m, q)))
    ]

-- behind it is handled, no put can be
pub never-later : (x f : List ℕ) (t j : ℕ) (h : List Act) → f ≡ site x h → t ≡ session_taken f h → j ≡ handled f t h + 1 → Later t j x h
    → Never x h
never-later x f t j h e p q (inl b) = λ r. let g : session_taken f h ≡ session_of x h = rw e r in absurd (omega (arith, b, p, g))
never-later x f t j h e p q (inr b) = λ z.
    let s = b.0 in
    let n = b.1 in
    let r : place_of x h ≤ handled f t h = omega (arith, n, q) in
    rw (sym e, s) r

pub never-opened : (b : Bool) (t k s n o r : ℕ) → (b ≡ true → t ≡ o + 1) → s ≤ o → (k ≡ s → n ≤ r) → (if b then t else k) ≡ s → n ≤ r
never-opened true t k s n o r p q i e = let f = p refl in absurd (omega (arith, f, q, e))
never-opened false t k s n o r p q i e = i e

pub never-boot : (b : Bool) (k s n r : ℕ) → 1 ≤ s → (k ≡ s → n ≤ r) → (if b then 0 else k) ≡ s → n ≤ r
never-boot true k s n r q i e = absurd (omega (arith, q, e))
never-boot false k s n r q i e = i e

pub opened-at : (f g : List ℕ) (s : ℕ) (h : List Act) → s ≡ openings f h + 1 → bytes_eq f g ≡ true → s ≡ openings g h + 1
opened-at f g s h e q = let p = name-is f g q in let r : openings f h ≡ openings g h = rw p refl in omega (arith, e, r)
