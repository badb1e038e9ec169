-- The lists put in force at a gateway stand in the order of their orders.
use Rattle.std.proofs.Common.{◌≡◌, ℕ, ◌+◌, ◌<◌, ◌≤◌, Bool, true, false, ◌==◌, ◌&&◌, List, [], ◌∷◌, ◌++◌, Option, Some, None, ◌⊎◌, inl, inr, refl, sym, ◌∙◌, ap, subst, arith, if◌then◌else◌}
use Rattle.std.proofs.lemmas.Bool.{and_from}
use Rattle.std.specs.Str.{bytes_eq}
use Rattle.ikeless_tree.specs.declared.command.Peer.{Peer}
use Rattle.ikeless_tree.specs.declared.entry.SpdEntry.{SpdEntry}
use Rattle.ikeless_tree.specs.declared.order.Answer.{Answer}
use Rattle.ikeless_tree.specs.declared.order.Order.{Order}
use Rattle.ikeless_tree.specs.declared.order.Order.TheVariants as asks
use Rattle.ikeless_tree.specs.declared.ends.GoneWhy.TheVariants as gone
use Rattle.hist_acts.specs.declared.act.Act.{Act}
use Rattle.hist_acts.specs.declared.act.Act.TheVariants as acts
use Rattle.hist_acts.specs.Sessions.{handled, is_session, next_request, openings, order_at, orders, session_taken}
use Rattle.hist_controller.specs.Machine.{place}
use Rattle.hist_safety.specs.Law.{IsAnswer, IsLawful, MayHappen, is_ready}
use Rattle.hist_safety.proofs.Basics.{no, if-old, more, name-is, name-true, self}
use Rattle.hist_safety.proofs.Sessions.{count-at, next-is, not-new, order-bound, taken-last}
use Rattle.hist_world.specs.Lists.{StandFrom, put_in_force}
use Rattle.hist_world.proofs.ListPlaces.{IsLater}

-- ---- orders stay

order-stays : (gs : List Peer) (g : List ℕ) (s k : ℕ) (o : Order) (a : Act) (h : List Act) → IsLawful gs (a ∷ h) → order_at g s k h ≡ Some o
    → order_at g s k (a ∷ h) ≡ Some o
order-stays gs g s k o (acts.Order f t j r) h l e =
    let new = not-new (is_session f t g s && (j == k)) k (orders g s h) (count-at orders f t j g s k h l.0.3)
    (order-bound gs g s k o h l.1 e) in
    if-old (is_session f t g s && (j == k)) (Some r) (order_at g s k h) new ∙ e
order-stays gs g s k o a h l e = e

openings-grow : (g : List ℕ) (a : Act) (h : List Act) → openings g h ≤ openings g (a ∷ h)
openings-grow g (acts.Opened f s) h = more (bytes_eq f g) (openings g h) (openings g h) (omega arith)
openings-grow g a h = omega arith

-- ---- after a list is put in force its request is answered

abbrev IsPolicyAt : List ℕ → List Act → Type 0
IsPolicyAt g (acts.Policy f l ∷ h) = f ≡ g
IsPolicyAt g _ = ⊥

abbrev IsHandling : Act → Type 0
IsHandling (acts.Handled f s k a) = Unit {0}
IsHandling _ = ⊥

after-policy : (gs : List Peer) (a : Act) (f : List ℕ) (l : List SpdEntry) (h : List Act) → MayHappen gs a (acts.Policy f l ∷ h)
    → IsHandling a
after-policy gs (acts.Handled g s k a) f l h m = tt
after-policy gs (acts.Opened g s) f l h m = absurd (no m.0)
after-policy gs (acts.Cut g s) f l h m = absurd (no m.0)
after-policy gs (acts.Order g s k o) f l h m = absurd (no m.0)
after-policy gs (acts.Answered g s k a) f l h m = absurd (no m.0)
after-policy gs (acts.Policy g r) f l h m = absurd (no m.0)
after-policy gs (acts.Put g e) f l h m = absurd (no m.0)
after-policy gs (acts.Gone g x gone.Removed) f l h m = absurd (no m.0)
after-policy gs (acts.Gone g x gone.Hard) f l h m = absurd (no m)
after-policy gs (acts.Clear g o) f l h m = let e = m.let_before in cc
after-policy gs (acts.Sent g x n o) f l h m = absurd m
after-policy gs (acts.Gave g x n p) f l h m = absurd m
after-policy gs (acts.Pass g o) f l h m = absurd m
after-policy gs (acts.Drop g w) f l h m = absurd m
after-policy gs a f l h m = absurd (no m)

only-handling : (gs : List Peer) (g : List ℕ) (a : Act) (h : List Act) → MayHappen gs a h → IsPolicyAt g h → IsHandling a
only-handling gs g a (acts.Policy f l ∷ h) m e = after-policy gs a f l h m
only-handling gs g a [] m e = absurd e
only-handling gs g a (b ∷ h) m e = absurd e

not-ready : (g : List ℕ) (h : List Act) → is_ready h ≡ true → IsPolicyAt g h → ⊥
not-ready g (acts.Policy f l ∷ h) r e = no r
not-ready g [] r e = e
not-ready g (a ∷ h) r e = e

answers-policy : (f : List ℕ) (o : Order) (a : Answer) (e : List ℕ) (l : List SpdEntry) (h : List Act)
    → IsAnswer f o a (acts.Policy e l ∷ h) → e ≡ f
answers-policy f (asks.Policy r) a e l h m = m
answers-policy f asks.Read a e l h m = absurd (no m.0)
answers-policy f (asks.Put d) a e l h m = absurd (no m.0)
answers-policy f (asks.Remove x) a e l h m = absurd (no m.0)

answers-there : (g f : List ℕ) (o : Order) (a : Answer) (h : List Act) → IsAnswer f o a h → IsPolicyAt g h → f ≡ g
answers-there g f o a (acts.Policy e l ∷ h) m q = sym (answers-policy f o a e l h m) ∙ q
answers-there g f o a [] m q = absurd q
answers-there g f o a (b ∷ h) m q = absurd q

-- The order of the list put in force last is handled, or its answer comes next.
abbrev Behind : List ℕ → ℕ → ℕ → List Act → Type 0
Behind g s k h = (k ≤ handled g s h) ⊎ (IsPolicyAt g h × (s ≡ session_taken g h) × (k ≡ handled g s h + 1))

ready-behind : (g : List ℕ) (s k : ℕ) (h : List Act) → is_ready h ≡ true → Behind g s k h → k ≤ handled g s h
ready-behind g s k h r (inl p) = p
ready-behind g s k h r (inr p) = absurd (not-ready g h r p.0)

one-more : (b : Bool) (k n : ℕ) → b ≡ true → k ≡ n + 1 → k ≤ (if b then n + 1 else n)
one-more true k n p q = omega (arith, q)
one-more false k n p q = absurd (no p)

behind-more : (gs : List Peer) (g : List ℕ) (s k : ℕ) (a : Act) (h : List Act) → MayHappen gs a h → Behind g s k h → k ≤ handled g s (a ∷ h)
behind-more gs g s k (acts.Handled f t j a) h m (inl p) = more (is_session f t g s) k (handled g s h) p
behind-more gs g s k (acts.Handled f t j a) h m (inr p) =
    let at = answers-there g f m.2.0 a h m.2.2 p.0 in
    let same : t ≡ s = m.0 ∙ ap (λ (z : List ℕ). session_taken z h) at ∙ sym p.1 in
    let here : is_session f t g s ≡ true = and_from (bytes_eq f g) (t == s) (name-true f g at) (ap (λ (z : ℕ). z == s) same ∙ self s) in
    one-more (is_session f t g s) k (handled g s h) here p.2
behind-more gs g s k a h m (inl p) = p
behind-more gs g s k a h m (inr p) = absurd (only-handling gs g a h m p.0)

-- ---- places

-- what is known of the places of lists that were ordered
pub record Placing (g : List ℕ) (all : List (List SpdEntry)) (at : ℕ → ℕ → ℕ) (h : List Act) : Type 0 where
  pub stands : (s k : ℕ) (l : List SpdEntry) → order_at g s k h ≡ Some (asks.Policy l) → place (at s k) all ≡ Some l
  pub rises : (s k t m : ℕ) (l r : List SpdEntry) → order_at g s k h ≡ Some (asks.Policy l) → order_at g t m h ≡ Some (asks.Policy r)
      → IsLater s k t m → at s k ≤ at t m

placing-older : (gs : List Peer) (g : List ℕ) (all : List (List SpdEntry)) (at : ℕ → ℕ → ℕ) (a : Act) (h : List Act) → IsLawful gs (a ∷ h)
    → Placing g all at (a ∷ h) → Placing g all at h
placing-older gs g all at a h l p = record {
  stands = λ s k w e. p.stands s k w (order-stays gs g s k (asks.Policy w) a h l e);
  rises = λ s k t m w r e f i. p.rises s k t m w r (order-stays gs g s k (asks.Policy w) a h l e)
      (order-stays gs g t m (asks.Policy r) a h l f) i;
}

-- lists stand in order, the last at a place up to m
abbrev Between : ℕ → ℕ → List (List SpdEntry) → List (List SpdEntry) → Type 0
Between n m all [] = n ≤ m
Between n m all (l ∷ ls) = (i : ℕ) × (n ≤ i) × (place i all ≡ Some l) × Between i m all ls

between-more : (n m j : ℕ) (all ls : List (List SpdEntry)) (l : List SpdEntry) → Between n m all ls → m ≤ j → place j all ≡ Some l
    → Between n j all (ls ++ l ∷ [])
between-more n m j all [] l b i e = (j, omega (arith, b, i), e, omega arith)
between-more n m j all (r ∷ ls) l b i e = (b.0, b.1, b.2, between-more b.0 m j all ls l b.3 i e)

between-from : (n m : ℕ) (all ls : List (List SpdEntry)) → Between n m all ls → StandFrom n all ls
between-from n m all [] b = tt
between-from n m all (l ∷ ls) b = (b.0, b.1, b.2, between-from b.0 m all ls b.3)

-- the lists put in force stand in order, the last at the place of an order that was passed
record Last (g : List ℕ) (all : List (List SpdEntry)) (at : ℕ → ℕ → ℕ) (h : List Act) (ls : List (List SpdEntry)) : Type 0 where
  pub session : ℕ
  pub number : ℕ
  pub list : List SpdEntry
  pub order : order_at g session number h ≡ Some (asks.Policy list)
  pub stand : Between 0 (at session number) all ls
  pub opened : session ≤ openings g h
  pub behind : Behind g session number h

abbrev Ordered : List ℕ → List (List SpdEntry) → (ℕ → ℕ → ℕ) → List Act → List (List SpdEntry) → Type 0
Ordered g all at h ls = (ls ≡ []) ⊎ Last g all at h ls

-- an act that puts no list in force there
ordered-more : (gs : List Peer) (g : List ℕ) (all : List (List SpdEntry)) (at : ℕ → ℕ → ℕ) (a : Act) (h : List Act)
    (ls : List (List SpdEntry)) → IsLawful gs (a ∷ h)
    → Ordered g all at h ls → Ordered g all at (a ∷ h) ls
ordered-more gs g all at a h ls l (inl e) = inl e
ordered-more gs g all at a h ls l (inr q) =
    let grow = openings-grow g a h in
    let old = q.opened in
    inr (record {
      session = q.session;
      number = q.number;
      list = q.list;
      order = order-stays gs g q.session q.number (asks.Policy q.list) a h l q.order;
      stand = q.stand;
      opened = omega (arith, grow, old);
      behind = inl (behind-more gs g q.session q.number a h l.0 q.behind);
    })

some-session : (t : ℕ) (o : Option Order) (r : Order) → (if t == 0 then None else o) ≡ Some r → t ≡ 0 → ⊥
some-session t o r e z = grind (arith, e, z)

taken-is : (t n : ℕ) → (t ≡ 0) ⊎ (t ≡ n) → (t ≡ 0 → ⊥) → t ≡ n
taken-is t n (inl z) q = absurd (q z)
taken-is t n (inr e) q = e

lower : (s n k m t : ℕ) → s ≤ n → t ≡ n → (s ≡ t → k < m) → IsLater s k t m
lower s n k m t p e q = by (s == t) refl where
  by : (b : Bool) → (s == t) ≡ b → IsLater s k t m
  by true w = let u : s ≡ t = grind (arith, w) in inr (u, q u)
  by false w = inl (grind (arith, w, p, e))

-- a list is put in force there
new-list : (gs : List Peer) (g : List ℕ) (all : List (List SpdEntry)) (at : ℕ → ℕ → ℕ) (list : List SpdEntry) (h : List Act) → IsLawful gs h
    → is_ready h ≡ true → next_request g h ≡ Some (asks.Policy list)
    → Placing g all at h → Ordered g all at h (put_in_force g h) → Last g all at (acts.Policy g list ∷ h) (put_in_force g h ++ list ∷ [])
new-list gs g all at list h l ready next p q =
    let t : ℕ = session_taken g h in
    let m : ℕ = handled g t h + 1 in
    let order : order_at g t m h ≡ Some (asks.Policy list) = next-is g (asks.Policy list) h next in
    let last : t ≡ openings g h = taken-is t (openings g h) (taken-last gs g h l) (some-session t (order_at g t m h) (asks.Policy list)
    next) in
    let stands = p.stands t m list order in
    record {
      session = t;
      number = m;
      list = list;
      order = order;
      stand = stand-case q stands;
      opened = omega (arith, last);
      behind = inr (refl, refl, refl);
    } where
      stand-case : Ordered g all at h (put_in_force g h) → place (at (session_taken g h) (handled g (session_taken g h) h + 1)) all ≡ Some
          list
          → Between 0 (at (session_taken g h) (handled g (session_taken g h) h + 1)) all (put_in_force g h ++ list ∷ [])
      stand-case (inl e) w = subst (λ z. Between 0 (at (session_taken g h) (handled g (session_taken g h) h + 1)) all (z ++ list ∷ []))
          (sym e) (at (session_taken g h) (handled g (session_taken g h) h + 1), omega arith, w, omega arith)
      stand-case (inr q) w =
          let t : ℕ = session_taken g h in
          let m : ℕ = handled g t h + 1 in
          let order : order_at g t m h ≡ Some (asks.Policy list) = next-is g (asks.Policy list) h next in
          let last : t ≡ openings g h =
          taken-is t (openings g h) (taken-last gs g h l) (some-session t (order_at g t m h) (asks.Policy list) next) in
          let low = ready-behind g q.session q.number h ready q.behind in
          let late = lower q.session (openings g h) q.number m t q.opened last
          (λ e. let same : handled g q.session h ≡ handled g t h = ap (λ (z : ℕ). handled g z h) e in omega (arith, low, same)) in
          between-more 0 (at q.session q.number) (at t m) all (put_in_force g h) list q.stand
          (p.rises q.session q.number t m q.list list q.order order late) w

new-case : (gs : List Peer) (g : List ℕ) (all : List (List SpdEntry)) (at : ℕ → ℕ → ℕ) (f : List ℕ) (list : List SpdEntry) (h : List Act)
    (b : Bool) → bytes_eq f g ≡ b → IsLawful gs (acts.Policy f list ∷ h)
    → Placing g all at h → Ordered g all at h (put_in_force g h) → Ordered g all at (acts.Policy f list ∷ h) (if b then put_in_force g h
    ++ list ∷ [] else put_in_force g h)
new-case gs g all at f list h true e l p q =
    let same = name-is f g e in
    let next : next_request g h ≡ Some (asks.Policy list) = ap (λ (z : List ℕ). next_request z h) (sym same) ∙ l.0.1 in
    subst (λ (z : List ℕ). Ordered g all at (acts.Policy z list ∷ h) (put_in_force g h ++ list ∷ [])) (sym same)
    (inr (new-list gs g all at list h l.1 l.0.0 next p q))
new-case gs g all at f list h false e l p q = ordered-more gs g all at (acts.Policy f list) h (put_in_force g h) l q

ordered : (gs : List Peer) (g : List ℕ) (all : List (List SpdEntry)) (at : ℕ → ℕ → ℕ) (h : List Act) → IsLawful gs h → Placing g all at h
    → Ordered g all at h (put_in_force g h)
ordered gs g all at [] l p = inl refl
ordered gs g all at (acts.Policy f list ∷ h) l p =
    let older = placing-older gs g all at (acts.Policy f list) h l p in
    new-case gs g all at f list h (bytes_eq f g) refl l older (ordered gs g all at h l.1 older)
ordered gs g all at (a ∷ h) l p = ordered-more gs g all at a h (put_in_force g h) l
    (ordered gs g all at h l.1 (placing-older gs g all at a h l p))

never-back : (g : List ℕ) (all : List (List SpdEntry)) (at : ℕ → ℕ → ℕ) (h : List Act) (ls : List (List SpdEntry)) → Ordered g all at h ls
    → StandFrom 0 all ls
never-back g all at h ls (inl e) = subst (λ z. StandFrom 0 all z) (sym e) tt
never-back g all at h ls (inr q) = between-from 0 (at q.session q.number) all ls q.stand

-- the lists put in force stand in order among all, where those ordered do
pub in-order : (gs : List Peer) (g : List ℕ) (all : List (List SpdEntry)) (at : ℕ → ℕ → ℕ) (h : List Act) → IsLawful gs h
    → Placing g all at h → StandFrom 0 all (put_in_force g h)
in-order gs g all at h l p = never-back g all at h (put_in_force g h) (ordered gs g all at h l p)
