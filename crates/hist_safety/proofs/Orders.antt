-- Orders of one half: where its put was ordered, and that it is ordered once.
use Rattle.std.proofs.Common.{◌≡◌, ℕ, ◌+◌, ◌≤◌, ◌<◌, ◌^◌, Bool, true, false, ◌==◌, ◌&&◌, ◌||◌, List, [], ◌∷◌, decimal, drop, Option, Some, ◌⊎◌, inl, inr, refl, sym, ◌∙◌, ap, subst, arith, if◌then◌else◌}
use Rattle.std.proofs.lemmas.Bool.{false_from_ne_true}
use Rattle.std.specs.Str.{bytes_eq}
use Rattle.std.proofs.lemmas.Fmt.{decimal_injective}
use Rattle.ikeless_tree.specs.declared.sad.SadEntry.{SadEntry}
use Rattle.ikeless_tree.specs.declared.command.Peer.{Peer}
use Rattle.ikeless_tree.specs.declared.order.Order.{Order}
use Rattle.ikeless_tree.specs.declared.order.Order.TheVariants as asks
use Rattle.ikeless_tree.specs.Half.{is_inbound, in_half, out_half}
use Rattle.hist_acts.specs.declared.act.Act.{Act}
use Rattle.hist_acts.specs.declared.act.Act.TheVariants as acts
use Rattle.hist_acts.specs.Sessions.{handled, is_session, order_at, session_taken}
use Rattle.hist_halves.specs.Halves.{is_half, put_of, was_put}
use Rattle.hist_safety.specs.Orders.{inbounds, order_of, was_order_given, site}
use Rattle.hist_safety.specs.Law.{IsLawful, PutInMayHappen, PutOutMayHappen}
use Rattle.hist_safety.specs.Kept.{IsPutAt, PutIs}
use Rattle.hist_safety.proofs.Basics.{no, or-split, name-is, name-not, name-self, half-is, spot-is, more, if-cases, some-is}
use Rattle.hist_safety.proofs.Sessions.{next-is}

-- ---- names of halves
pub in-out : (t u : List ℕ) → in_half t ≡ out_half u → ⊥
in-out t u e = let p : true ≡ false = ap is_inbound e in no (sym p)

pub in-serial : (t u : List ℕ) → in_half t ≡ in_half u → t ≡ u
in-serial t u e = ap (λ (x : List ℕ). drop 3 x) e

pub out-serial : (t u : List ℕ) → out_half t ≡ out_half u → t ≡ u
out-serial t u e = ap (λ (x : List ℕ). drop 4 x) e

-- ---- serials: the N-th inbound put is that of serial N
serial-put : (m : ℕ) (f : List ℕ) (e : SadEntry) (h : List Act) → m < 2 ^ 64
    → (was_order_given (in_half (decimal m)) h ≡ true → m ≤ inbounds h) → PutInMayHappen e h ⊎ PutOutMayHappen f e h →
    (bytes_eq e.name (in_half (decimal m)) || was_order_given (in_half (decimal m)) h) ≡ true
    → m ≤ (if is_inbound e.name then inbounds h + 1 else inbounds h)
serial-put m f e h lt ih (inl p) q =
    or-split {A = m ≤ (if is_inbound e.name then inbounds h + 1 else inbounds h)} (bytes_eq e.name (in_half (decimal m)))
    (was_order_given (in_half (decimal m)) h)
    (λ r.
    let few = p.few in
    let same : decimal (inbounds h + 1) ≡ decimal m = in-serial (decimal (inbounds h + 1)) (decimal m) (sym p.name
    ∙ name-is e.name (in_half (decimal m)) r) in
    let n : inbounds h + 1 ≡ m = decimal_injective (inbounds h + 1) m (omega (arith, few)) lt same in
    let b : is_inbound e.name ≡ true = ap is_inbound p.name in
    rw b (omega (arith, n)))
    (λ r. more (is_inbound e.name) m (inbounds h) (ih r)) q
serial-put m f e h lt ih (inr p) q =
    or-split {A = m ≤ (if is_inbound e.name then inbounds h + 1 else inbounds h)} (bytes_eq e.name (in_half (decimal m)))
    (was_order_given (in_half (decimal m)) h)
    (λ r. absurd (in-out (decimal m) p.serial (sym (name-is e.name (in_half (decimal m)) r) ∙ p.name)))
    (λ r. more (is_inbound e.name) m (inbounds h) (ih r)) q

pub serial : (gs : List Peer) (m : ℕ) (h : List Act) → m < 2 ^ 64 → IsLawful gs h → was_order_given (in_half (decimal m)) h ≡ true
    → m ≤ inbounds h
serial gs m [] lt l q = absurd (no q)
serial gs m (acts.Order f s k (asks.Put e) ∷ h) lt l q = serial-put m f e h lt (serial gs m h lt l.1) l.0.4 q
serial gs m (a ∷ h) lt l q = serial gs m h lt l.1 q

-- the put of a half is ordered at most once
pub once-ordered : (gs : List Peer) (f : List ℕ) (e : SadEntry) (h : List Act) → IsLawful gs h → PutInMayHappen e h ⊎ PutOutMayHappen f e h
    → was_order_given e.name h ≡ false
once-ordered gs f e h l (inl p) =
    false_from_ne_true (was_order_given e.name h) (λ q.
    let few = p.few in
    let r : was_order_given (in_half (decimal (inbounds h + 1))) h ≡ true = subst (λ z. was_order_given z h ≡ true) p.name q in
    let n = serial gs (inbounds h + 1) h (omega (arith, few)) l r in
    omega (arith, n))
once-ordered gs f e h l (inr p) = subst (λ z. was_order_given z h ≡ false) (sym p.name) p.once

-- so a half that was ordered isn't the one that is ordered now
pub other : (gs : List Peer) (x f : List ℕ) (e : SadEntry) (h : List Act) → IsLawful gs h → PutInMayHappen e h ⊎ PutOutMayHappen f e h
    → was_order_given x h ≡ true → bytes_eq e.name x ≡ false
other gs x f e h l m q = name-not e.name x (λ p. let r : was_order_given e.name h ≡ true = rw p q in
    no (sym (once-ordered gs f e h l m) ∙ r))

-- ---- what was ordered with this number

-- an order with this number is this one, or an older one
pub order-old : (b : Bool) (a d : Order) (o : Option Order) → (a ≡ d → ⊥) → (if b then Some a else o) ≡ Some d → o ≡ Some d
order-old true a d o q e = absurd (q (some-is a d e))
order-old false a d o q e = e

pub put-is : (d e : SadEntry) → Some (asks.Put d) ≡ Some (asks.Put e) → d ≡ e
put-is d e p = grind arith

place-here : (f : List ℕ) (t j : ℕ) (d : SadEntry) (h : List Act) → IsPutAt f t j d (acts.Order f t j (asks.Put d) ∷ h)
place-here f t j d h = let q : bytes_eq d.name d.name ≡ true = name-self d.name in (rw q refl, rw q refl, rw q refl, rw q refl, rw q refl)

place-older : (g f : List ℕ) (s k t j : ℕ) (e d : SadEntry) (h : List Act) → bytes_eq d.name e.name ≡ false → IsPutAt g s k e h
    → IsPutAt g s k e (acts.Order f t j (asks.Put d) ∷ h)
place-older g f s k t j e d h q p = (rw q p.0, rw q p.1, rw q p.2, rw q p.3, rw q p.4)

place-add : (g f : List ℕ) (s k t j : ℕ) (e d : SadEntry) (h : List Act) → (order_at g s k h ≡ Some (asks.Put e) → IsPutAt g s k e h)
    → (was_order_given e.name h ≡ true → bytes_eq d.name e.name ≡ false) →
    (here : Bool) → (here ≡ true → (f ≡ g) × (t ≡ s) × (j ≡ k)) →
    (if here then Some (asks.Put d) else order_at g s k h) ≡ Some (asks.Put e) → IsPutAt g s k e (acts.Order f t j (asks.Put d) ∷ h)
place-add g f s k t j e d h ih ot true three q =
    let p : d ≡ e = put-is d e q in
    let r = three refl in
    let one = subst (λ z. IsPutAt f t j z (acts.Order f t j (asks.Put d) ∷ h)) p (place-here f t j d h) in
    (one.0, one.1 ∙ r.0, one.2 ∙ r.1, one.3 ∙ r.2, one.4)
place-add g f s k t j e d h ih ot false three q = let r = ih q in place-older g f s k t j e d h (ot r.0) r

pub place : (gs : List Peer) (g : List ℕ) (s k : ℕ) (e : SadEntry) (h : List Act) → IsLawful gs h → order_at g s k h ≡ Some (asks.Put e)
    → IsPutAt g s k e h
place gs g s k e [] l q = absurd (grind arith)
place gs g s k e (acts.Order f t j asks.Read ∷ h) l q =
    place gs g s k e h l.1 (order-old (is_session f t g s && (j == k)) asks.Read (asks.Put e) (order_at g s k h) (λ p. grind arith) q)
place gs g s k e (acts.Order f t j (asks.Policy list) ∷ h) l q =
    place gs g s k e h l.1 (order-old (is_session f t g s && (j == k)) (asks.Policy list) (asks.Put e) (order_at g s k h) (λ p. grind arith)
    q)
place gs g s k e (acts.Order f t j (asks.Remove x) ∷ h) l q =
    place gs g s k e h l.1 (order-old (is_session f t g s && (j == k)) (asks.Remove x) (asks.Put e) (order_at g s k h) (λ p. grind arith) q)
place gs g s k e (acts.Order f t j (asks.Put d) ∷ h) l q =
    place-add g f s k t j e d h (place gs g s k e h l.1) (other gs e.name f d h l.1 l.0.4) (is_session f t g s && (j == k))
    (spot-is f t j g s k) q
place gs g s k e (a ∷ h) l q = place gs g s k e h l.1 q

-- ---- a Put is that of the order of its half
abbrev pub Was : List ℕ → List ℕ → List Act → Type 0
Was g x h = (was_order_given x h ≡ true) × (site x h ≡ g)

was-new : (f g x : List ℕ) (e : SadEntry) (h : List Act) → Was f e.name h → is_half f e.name g x ≡ true → Was g x h
was-new f g x e h p q =
    let r = half-is f e.name g x q in
    subst (λ z. Was z x h) r.0 (subst (λ z. Was f z h) r.1 p)

pub was-older : (g x f : List ℕ) (t j : ℕ) (d : SadEntry) (h : List Act) → bytes_eq d.name x ≡ false → Was g x h
    → Was g x (acts.Order f t j (asks.Put d) ∷ h)
was-older g x f t j d h q p = (rw q p.0, rw q p.1)

pub was : (gs : List Peer) (g x : List ℕ) (h : List Act) → IsLawful gs h → was_put g x h ≡ true → Was g x h
was gs g x [] l q = absurd (no q)
was gs g x (acts.Put f e ∷ h) l q =
    let p = place gs f (session_taken f h) (handled f (session_taken f h) h + 1) e h l.1 (next-is f (asks.Put e) h l.0.1) in
    or-split {A = Was g x h} (is_half f e.name g x) (was_put g x h) (was-new f g x e h (p.0, p.1)) (was gs g x h l.1) q
was gs g x (acts.Order f t j (asks.Put d) ∷ h) l q = let r = was gs g x h l.1 q in
    was-older g x f t j d h (other gs x f d h l.1 l.0.4 r.0) r
was gs g x (a ∷ h) l q = was gs g x h l.1 q

-- ---- what was put is what was ordered

put-new : (f g x : List ℕ) (d : SadEntry) (h : List Act) → (was_order_given d.name h ≡ true) → (site d.name h ≡ f)
    → (order_of d.name h ≡ Some d) → is_half f d.name g x ≡ true → PutIs g x d h
put-new f g x d h a b c q =
    let r = half-is f d.name g x q in
    let one : PutIs f d.name d h = (refl, a, b, c) in
    subst (λ z. PutIs z x d h) r.0 (subst (λ z. PutIs f z d h) r.1 one)

put-older : (g x f : List ℕ) (t j : ℕ) (e d : SadEntry) (h : List Act) → bytes_eq d.name x ≡ false → PutIs g x e h
    → PutIs g x e (acts.Order f t j (asks.Put d) ∷ h)
put-older g x f t j e d h q p = (p.0, rw q p.1, rw q p.2, rw q p.3)

pub put-order : (gs : List Peer) (g x : List ℕ) (e : SadEntry) (h : List Act) → IsLawful gs h → put_of g x h ≡ Some e → PutIs g x e h
put-order gs g x e [] l q = absurd (grind arith)
put-order gs g x e (acts.Put f d ∷ h) l q =
    let p = place gs f (session_taken f h) (handled f (session_taken f h) h + 1) d h l.1 (next-is f (asks.Put d) h l.0.1) in
    elim (if-cases (is_half f d.name g x) d e (put_of g x h) q) as (λ z. PutIs g x e h) [
      | inl r ↦ subst (λ z. PutIs g x z h) r.1 (put-new f g x d h p.0 p.1 p.4 r.0)
      | inr r ↦ put-order gs g x e h l.1 r
    ]
put-order gs g x e (acts.Order f t j (asks.Put d) ∷ h) l q = let r = put-order gs g x e h l.1 q in
    put-older g x f t j e d h (other gs x f d h l.1 l.0.4 r.1) r
put-order gs g x e (a ∷ h) l q = put-order gs g x e h l.1 q

-- what has an entry was put
was-some : (b c : Bool) (d e : SadEntry) (o : Option SadEntry) → (o ≡ Some e → c ≡ true) → (if b then Some d else o) ≡ Some e
    → (b || c) ≡ true
was-some true c d e o ih q = refl
was-some false c d e o ih q = ih q

pub put-was : (g x : List ℕ) (e : SadEntry) (h : List Act) → put_of g x h ≡ Some e → was_put g x h ≡ true
put-was g x e [] q = absurd (grind arith)
put-was g x e (acts.Put f d ∷ h) q = was-some (is_half f d.name g x) (was_put g x h) d e (put_of g x h) (put-was g x e h) q
put-was g x e (a ∷ h) q = put-was g x e h q
