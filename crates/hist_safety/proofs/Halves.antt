-- The halves of an association: the inbound one stays while the outbound one is there.
use Rattle.std.proofs.Common.{◌≡◌, ℕ, ◌+◌, ◌≤◌, ◌<◌, nat_lt, Bool, true, false, ◌==◌, not, ◌&&◌, ◌||◌, List, [], ◌∷◌, decimal, Option, Some, None, ◌⊎◌, inl, inr, refl, sym, ◌∙◌, ap, subst, arith, if◌then◌else◌}
use Rattle.std.specs.Str.{bytes_eq}
use Rattle.std.proofs.lemmas.Bool.{ltb-true, or_right, or_left}
use Rattle.ikeless_tree.specs.declared.sad.SadEntry.{SadEntry}
use Rattle.ikeless_tree.specs.declared.command.Peer.{Peer}
use Rattle.ikeless_tree.specs.declared.order.Order.{Order}
use Rattle.ikeless_tree.specs.declared.order.Order.TheVariants as asks
use Rattle.ikeless_tree.specs.declared.order.Answer.{Answer}
use Rattle.ikeless_tree.specs.declared.ends.GoneWhy.TheVariants as gone
use Rattle.ikeless_tree.specs.Half.{in_half, out_half}
use Rattle.hist_acts.specs.declared.act.Act.{Act}
use Rattle.hist_acts.specs.declared.act.Act.TheVariants as acts
use Rattle.hist_acts.specs.Sessions.{answer_at, handled, is_session, order_at, session_taken}
use Rattle.hist_halves.specs.Halves.{is_half, is_lapsed, is_live, was_put}
use Rattle.hist_safety.specs.Orders.{inbounds, is_removal_ordered, is_removal_answered, is_put_accepted, is_removal_handled, is_put, is_removal, was_order_given, site}
use Rattle.hist_safety.specs.Law.{IsAnswer, IsLawful, PutInMayHappen, PutOutMayHappen, RemoveInMayHappen, RemoveOutMayHappen}
use Rattle.hist_safety.specs.Kept.{Last}
use Rattle.hist_safety.proofs.Basics.{no, both-left, both-right, or-split, name-is, half-is, half-true, spot-is, some-is, if-cases}
use Rattle.hist_safety.proofs.Sessions.{next-at, next-is, told-order}
use Rattle.hist_safety.proofs.Orders.{in-out, in-serial, other, out-serial, was}
use Rattle.hist_safety.proofs.Removal.{asked, left-off, off-dead}
use Rattle.hist_safety.proofs.Pairs.{pair}

-- the put of a half that was handled is refused, or stands
answer-put : (g : List ℕ) (e : SadEntry) (a : Answer) (h : List Act) → IsAnswer g (asks.Put e) a h → (400 ≤ a.status)
    ⊎ (was_put g e.name h ≡ true)
answer-put g e a (acts.Put f d ∷ h) p =
    inr (or_left (is_half f d.name g e.name) (was_put g e.name h) (half-true f d.name g e.name p.0 (ap (λ (z : SadEntry). z.name) p.1)))
answer-put g e a [] p = inl p.1
answer-put g e a (b ∷ h) p = inl p.1

told-put-new : (g f : List ℕ) (s k t j : ℕ) (e : SadEntry) (o : Order) (r q : Answer) (h : List Act) → order_at f t j h ≡ Some o
    → IsAnswer f o q h → order_at g s k h ≡ Some (asks.Put e) → q ≡ r → (f ≡ g) × (t ≡ s) × (j ≡ k) → (400 ≤ r.status)
    ⊎ (was_put g e.name h ≡ true)
told-put-new g f s k t j e o r q h n m w eq p =
    let u : order_at f t j h ≡ Some (asks.Put e) = rw (p.0, p.1, p.2) w in
    let b : o ≡ asks.Put e = some-is o (asks.Put e) (sym n ∙ u) in
    let i = answer-put f e q h (subst (λ z. IsAnswer f z q h) b m) in
    subst (λ z. (400 ≤ z.status) ⊎ (was_put g e.name h ≡ true)) eq (subst (λ z. (400 ≤ q.status) ⊎ (was_put z e.name h ≡ true)) p.0 i)

put-more : {A : Type 0} (b c : Bool) → A ⊎ (c ≡ true) → A ⊎ ((b || c) ≡ true)
put-more b c (inl a) = inl a
put-more b c (inr q) = inr (or_right b c q)

pub told-put : (gs : List Peer) (g : List ℕ) (s k : ℕ) (e : SadEntry) (r : Answer) (h : List Act) → IsLawful gs h
    → answer_at g s k h ≡ Some r → order_at g s k h ≡ Some (asks.Put e) → (400 ≤ r.status) ⊎ (was_put g e.name h ≡ true)
told-put gs g s k e r [] l p q = absurd (grind arith)
told-put gs g s k e r (acts.Handled f t j a ∷ h) l p q =
    elim (if-cases (is_session f t g s && (j == k)) a r (answer_at g s k h) p) as (λ z. (400 ≤ r.status) ⊎ (was_put g e.name h ≡ true)) [
      | inl w ↦ told-put-new g f s k t j e l.0.2.0 r a h (next-at f t j l.0.2.0 h l.0.0 l.0.1 l.0.2.1) l.0.2.2 q w.1
          (spot-is f t j g s k w.0)
      | inr w ↦ told-put gs g s k e r h l.1 w q
    ]
told-put gs g s k e r (acts.Order f t j a ∷ h) l p q =
    told-put gs g s k e r h l.1 p (told-order gs g s k f t j a (asks.Put e) r h l.1 l.0.3 p q)
told-put gs g s k e r (acts.Put f d ∷ h) l p q = put-more {A = 400 ≤ r.status} (is_half f d.name g e.name) (was_put g e.name h)
    (told-put gs g s k e r h l.1 p q)
told-put gs g s k e r (a ∷ h) l p q = told-put gs g s k e r h l.1 p q

-- the put that was answered with 201 stands
pub put-order-is : (x : List ℕ) (o : Option Order) → is_put x o ≡ true → (e : SadEntry) × (e.name ≡ x) × (o ≡ Some (asks.Put e))
put-order-is x (Some (asks.Put e)) q = (e, name-is e.name x q, refl)
put-order-is x (Some (asks.Remove y)) q = absurd (no q)
put-order-is x (Some asks.Read) q = absurd (no q)
put-order-is x (Some (asks.Policy l)) q = absurd (no q)
put-order-is x None q = absurd (no q)

accepted : {A : Type 0} (n : ℕ) → n < 400 → (400 ≤ n) ⊎ A → A
accepted n e (inl p) = absurd (omega (arith, e, p))
accepted n e (inr a) = a

made-new : (gs : List Peer) (f : List ℕ) (t j : ℕ) (x : List ℕ) (a : Answer) (h : List Act) → IsLawful gs h → answer_at f t j h ≡ Some a
    → (is_put x (order_at f t j h) && nat_lt a.status 400) ≡ true → was_put (site x h) x h ≡ true
made-new gs f t j x a h l p q =
    let o = put-order-is x (order_at f t j h) (both-left (is_put x (order_at f t j h)) (nat_lt a.status 400) q) in
    let n = ltb-true a.status 400 (both-right (is_put x (order_at f t j h)) (nat_lt a.status 400) q) in
    let w = accepted {A = was_put f o.0.name h ≡ true} a.status n (told-put gs f t j o.0 a h l p o.2) in
    let v : was_put f x h ≡ true = subst (λ z. was_put f z h ≡ true) o.1 w in
    subst (λ z. was_put z x h ≡ true) (sym (was gs f x h l v).1) v

made-older : (x f : List ℕ) (d : SadEntry) (h : List Act) → bytes_eq d.name x ≡ false → was_put (site x h) x h ≡ true
    → was_put (if bytes_eq d.name x then f else site x h) x h ≡ true
made-older x f d h q p = rw q p

pub made-put : (gs : List Peer) (x : List ℕ) (h : List Act) → IsLawful gs h → is_put_accepted x h ≡ true → was_put (site x h) x h ≡ true
made-put gs x [] l q = absurd (no q)
made-put gs x (acts.Answered f t j a ∷ h) l q =
    or-split {A = was_put (site x h) x h ≡ true} (is_put x (order_at f t j h) && nat_lt a.status 400) (is_put_accepted x h)
    (made-new gs f t j x a h l.1 l.0.4) (made-put gs x h l.1) q
made-put gs x (acts.Put f d ∷ h) l q = or_right (is_half f d.name (site x h) x) (was_put (site x h) x h) (made-put gs x h l.1 q)
made-put gs x (acts.Order f t j (asks.Put d) ∷ h) l q =
    let i = made-put gs x h l.1 q in
    made-older x f d h (other gs x f d h l.1 l.0.4 (was gs (site x h) x h l.1 i).0) i
made-put gs x (a ∷ h) l q = made-put gs x h l.1 q

-- the outbound half is ordered only where the inbound one was put
pub first-in : (gs : List Peer) (t : List ℕ) (h : List Act) → IsLawful gs h → was_order_given (out_half t) h ≡ true
    → was_put (site (in_half t) h) (in_half t) h ≡ true
first-in gs t h l o = made-put gs (in_half t) h l (pair gs t h l o).8

-- ---- the inbound half is ordered removed only where the outbound one is gone for good
last-in : (gs : List Peer) (t : List ℕ) (h : List Act) → IsLawful gs h → (was_order_given (out_half t) h ≡ false)
    ⊎ (is_removal_answered (out_half t) h ≡ true) → Last t h
last-in gs t h l (inl p) = inl p
last-in gs t h l (inr p) = inr (left-off gs (out_half t) h l p)

last-remove : (gs : List Peer) (f y t : List ℕ) (h : List Act) → IsLawful gs h → RemoveInMayHappen f y h ⊎ RemoveOutMayHappen f y h
    → y ≡ in_half t → Last t h
last-remove gs f y t h l (inl p) q = let e = in-serial p.serial t (sym p.name ∙ q) in
    subst (λ z. Last z h) e (last-in gs p.serial h l p.last)
last-remove gs f y t h l (inr p) q = absurd (in-out t p.serial (sym q ∙ p.name))

last-put : (f t : List ℕ) (d : SadEntry) (h : List Act) → is_removal_ordered (in_half t) h ≡ true → PutInMayHappen d h
    ⊎ PutOutMayHappen f d h → d.name ≡ out_half t → ⊥
last-put f t d h e (inl p) q = in-out (decimal (inbounds h + 1)) t (sym p.name ∙ q)
last-put f t d h e (inr p) q =
    let r = out-serial p.serial t (sym p.name ∙ q) in
    let s : is_removal_ordered (in_half p.serial) h ≡ true = rw r e in
    no (sym p.stays ∙ s)

last-or : (b c : Bool) {A : Type 0} → (b ≡ true → ⊥) → (c ≡ false) ⊎ A → ((b || c) ≡ false) ⊎ A
last-or true c f i = absurd (f refl)
last-or false c f i = i

last-off : {A : Type 0} (b c : Bool) → A ⊎ (c ≡ true) → A ⊎ ((b || c) ≡ true)
last-off b c (inl a) = inl a
last-off b c (inr q) = inr (or_right b c q)

pub last : (gs : List Peer) (t : List ℕ) (h : List Act) → IsLawful gs h → is_removal_ordered (in_half t) h ≡ true → Last t h
last gs t [] l e = absurd (no e)
last gs t (acts.Order f s k (asks.Remove y) ∷ h) l e =
    or-split {A = Last t h} (bytes_eq y (in_half t)) (is_removal_ordered (in_half t) h)
    (λ q. last-remove gs f y t h l.1 l.0.4 (name-is y (in_half t) q)) (last gs t h l.1) e
last gs t (acts.Order f s k (asks.Put d) ∷ h) l e =
    last-or (bytes_eq d.name (out_half t)) (was_order_given (out_half t) h) {A = is_removal_handled (out_half t) h ≡ true}
    (λ q. last-put f t d h e l.0.4 (name-is d.name (out_half t) q)) (last gs t h l.1 e)
last gs t (acts.Handled f s k a ∷ h) l e = last-off {A = was_order_given (out_half t) h ≡ false}
    (is_removal (out_half t) (order_at f s k h)) (is_removal_handled (out_half t) h) (last gs t h l.1 e)
last gs t (a ∷ h) l e = last gs t h l.1 e

-- ---- a half that was put is live, lapsed, or its removal is ordered
abbrev pub Stands : Bool → Bool → Bool → Type 0
Stands v p d = (v ≡ true) ⊎ ((p ≡ true) ⊎ (d ≡ true))

stays-put : (b c v p d : Bool) → (c ≡ true → Stands v p d) → (b || c) ≡ true → Stands (b || v) (not b && p) d
stays-put true c v p d i e = inl refl
stays-put false c v p d i e = i e

stays-gone : (b v p d : Bool) → (b ≡ true → d ≡ true) → Stands v p d → Stands (not b && v) p d
stays-gone true v p d q i = inr (inr (q refl))
stays-gone false v p d q i = i

stays-hard : (b v p d : Bool) → Stands v p d → Stands (not b && v) (b || p) d
stays-hard true v p d i = inr (inl refl)
stays-hard false v p d i = i

stays-boot : (b c v p d : Bool) → c ≡ true → Stands v p d → Stands (not b && v) ((b && c) || p) d
stays-boot true c v p d e i = inr (inl (or_left c p e))
stays-boot false c v p d e i = i

stays-doomed : (b v p d : Bool) → Stands v p d → Stands v p (b || d)
stays-doomed true v p d i = inr (inr refl)
stays-doomed false v p d i = i

pub stays : (gs : List Peer) (g x : List ℕ) (h : List Act) → IsLawful gs h → was_put g x h ≡ true
    → Stands (is_live g x h) (is_lapsed g x h) (is_removal_ordered x h)
stays gs g x [] l e = absurd (no e)
stays gs g x (acts.Put f d ∷ h) l e = stays-put (is_half f d.name g x) (was_put g x h) (is_live g x h) (is_lapsed g x h)
    (is_removal_ordered x h) (stays gs g x h l.1) e
stays gs g x (acts.Gone f y gone.Removed ∷ h) l e =
    let d = (asked gs f (session_taken f h) (handled f (session_taken f h) h + 1) y h l.1 (next-is f (asks.Remove y) h l.0.1)).0 in
    stays-gone (is_half f y g x) (is_live g x h) (is_lapsed g x h) (is_removal_ordered x h)
    (λ q. subst (λ z. is_removal_ordered z h ≡ true) (half-is f y g x q).1 d) (stays gs g x h l.1 e)
stays gs g x (acts.Gone f y gone.Hard ∷ h) l e = stays-hard (is_half f y g x) (is_live g x h) (is_lapsed g x h) (is_removal_ordered x h)
    (stays gs g x h l.1 e)
stays gs g x (acts.Boot f ∷ h) l e = stays-boot (bytes_eq f g) (was_put g x h) (is_live g x h) (is_lapsed g x h) (is_removal_ordered x h) e
    (stays gs g x h l.1 e)
stays gs g x (acts.Order f s k (asks.Remove y) ∷ h) l e = stays-doomed (bytes_eq y x) (is_live g x h) (is_lapsed g x h)
    (is_removal_ordered x h) (stays gs g x h l.1 e)
stays gs g x (a ∷ h) l e = stays gs g x h l.1 e

live-put : (b c d : Bool) → (c ≡ true → d ≡ true) → (b || c) ≡ true → (b || d) ≡ true
live-put true c d i e = refl
live-put false c d i e = i e

-- what is live was put
pub live-was : (g x : List ℕ) (h : List Act) → is_live g x h ≡ true → was_put g x h ≡ true
live-was g x [] e = absurd (no e)
live-was g x (acts.Put f d ∷ h) e = live-put (is_half f d.name g x) (is_live g x h) (was_put g x h) (live-was g x h) e
live-was g x (acts.Gone f y w ∷ h) e = live-was g x h (both-right (not (is_half f y g x)) (is_live g x h) e)
live-was g x (acts.Boot f ∷ h) e = live-was g x h (both-right (not (bytes_eq f g)) (is_live g x h) e)
live-was g x (a ∷ h) e = live-was g x h e

live-out : (gs : List Peer) (g t : List ℕ) (h : List Act) → IsLawful gs h → is_live g (out_half t) h ≡ true → Last t h → ⊥
live-out gs g t h l e (inl q) = no (sym q ∙ (was gs g (out_half t) h l (live-was g (out_half t) h e)).0)
live-out gs g t h l e (inr q) =
    let a = (was gs g (out_half t) h l (live-was g (out_half t) h e)).1 in
    let b : is_live (site (out_half t) h) (out_half t) h ≡ true = rw a e in
    no (sym (off-dead gs (out_half t) h l q).2 ∙ b)

out-stays : (v p d : Bool) → (d ≡ true → ⊥) → Stands v p d → (v ≡ true) ⊎ (p ≡ true)
out-stays v p d f (inl a) = inl a
out-stays v p d f (inr (inl b)) = inr b
out-stays v p d f (inr (inr e)) = absurd (f e)

-- while the outbound half is live the inbound one is live, or lapsed since its put
pub sent-safe : (gs : List Peer) (g t : List ℕ) (h : List Act) → IsLawful gs h → is_live g (out_half t) h ≡ true →
    (was_put (site (in_half t) h) (in_half t) h ≡ true) × ((is_live (site (in_half t) h) (in_half t) h ≡ true)
    ⊎ (is_lapsed (site (in_half t) h) (in_half t) h ≡ true))
sent-safe gs g t h l e =
    let o = (was gs g (out_half t) h l (live-was g (out_half t) h e)).0 in
    let p = first-in gs t h l o in (
      p,
      out-stays (is_live (site (in_half t) h) (in_half t) h) (is_lapsed (site (in_half t) h) (in_half t) h)
          (is_removal_ordered (in_half t) h) (λ d. live-out gs g t h l e (last gs t h l d)) (stays gs (site (in_half t) h) (in_half t) h l p),
    )
