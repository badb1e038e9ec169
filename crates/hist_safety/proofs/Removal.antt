-- Once a removal of a half is handled, it isn't live and can't be put.
use Rattle.std.proofs.Common.{◌≡◌, ℕ, ◌+◌, ◌≤◌, ◌<◌, Bool, true, false, ◌==◌, not, ◌&&◌, ◌||◌, List, [], ◌∷◌, Option, Some, None, ◌⊎◌, inl, inr, refl, sym, ◌∙◌, ap, subst, arith, if◌then◌else◌}
use Rattle.std.proofs.lemmas.Bool.{or_right, or_left, and_right}
use Rattle.std.specs.Str.{bytes_eq}
use Rattle.ikeless_tree.specs.declared.sad.SadEntry.{SadEntry}
use Rattle.ikeless_tree.specs.declared.command.Peer.{Peer}
use Rattle.ikeless_tree.specs.declared.order.Order.{Order}
use Rattle.ikeless_tree.specs.declared.order.Order.TheVariants as asks
use Rattle.ikeless_tree.specs.declared.order.Answer.{Answer}
use Rattle.ikeless_tree.specs.declared.ends.GoneWhy.TheVariants as gone
use Rattle.hist_acts.specs.declared.act.Act.{Act}
use Rattle.hist_acts.specs.declared.act.Act.TheVariants as acts
use Rattle.hist_acts.specs.Sessions.{answer_at, handled, is_session, next_request, openings, order_at, session_taken}
use Rattle.hist_halves.specs.Halves.{is_half, is_live}
use Rattle.hist_safety.specs.Orders.{is_removal_ordered, is_removal_answered, is_removal_handled, is_removal, place_of, session_of, site}
use Rattle.hist_safety.specs.Law.{IsAnswer, IsLawful}
use Rattle.hist_safety.specs.Kept.{Dead, Never}
use Rattle.hist_safety.proofs.Basics.{no, or-split, name-is, name-self, name-true, half-is, half-true, spot-is, more, some-is, if-cases}
use Rattle.hist_safety.proofs.Sessions.{next-at, next-is, told-order}
use Rattle.hist_safety.proofs.Orders.{order-old, other, place}
use Rattle.hist_safety.proofs.Once.{too-far}
use Rattle.hist_safety.proofs.Finality.{Later, doomed-ordered, later-new, never-boot, never-later, never-opened, opened-at, remove-at, sess-in}

-- an order of a removal is at the gateway of the half, behind its put
abbrev pub Asked : List ℕ → ℕ → ℕ → List ℕ → List Act → Type 0
Asked g s k x h = (is_removal_ordered x h ≡ true) × (g ≡ site x h) × Later s k x h

remove-is : (y x : List ℕ) → Some (asks.Remove y) ≡ Some (asks.Remove x) → y ≡ x
remove-is y x p = grind arith

asked-new : (f y x : List ℕ) (t j : ℕ) (h : List Act) → y ≡ x → f ≡ site y h → Later t j y h
    → Asked f t j x (acts.Order f t j (asks.Remove y) ∷ h)
asked-new f y x t j h p q b = (
  or_left (bytes_eq y x) (is_removal_ordered x h) (name-true y x p),
  q
      ∙ ap (λ (z : List ℕ). site z h) p,
  subst (λ z. Later t j z h) p b,
)

asked-remove : (g f x y : List ℕ) (s k t j : ℕ) (h : List Act) → f ≡ site y h → Later t j y h
    → (order_at g s k h ≡ Some (asks.Remove x) → Asked g s k x h) →
    (here : Bool) → (here ≡ true → (f ≡ g) × (t ≡ s) × (j ≡ k)) → (if here then Some (asks.Remove y) else order_at g s k h) ≡ Some
    (asks.Remove x) → Asked g s k x (acts.Order f t j (asks.Remove y) ∷ h)
asked-remove g f x y s k t j h q b i true three e =
    let r = three refl in
    let one = asked-new f y x t j h (remove-is y x e) q b in
    (one.0, sym r.0 ∙ one.1, subst (λ z. Later z k x h) r.1 (subst (λ z. Later t z x h) r.2 one.2))
asked-remove g f x y s k t j h q b i false three e = let r = i e in (or_right (bytes_eq y x) (is_removal_ordered x h) r.0, r.1, r.2)

asked-put : (g f x : List ℕ) (s k t j : ℕ) (d : SadEntry) (h : List Act) → bytes_eq d.name x ≡ false → Asked g s k x h
    → Asked g s k x (acts.Order f t j (asks.Put d) ∷ h)
asked-put g f x s k t j d h q i =
    let b : ((if bytes_eq d.name x then t else session_of x h) < s) ⊎ (((if bytes_eq d.name x then t else session_of x h) ≡ s)
    × ((if bytes_eq d.name x then j else place_of x h) < k)) = rw q i.2 in
    (i.0, rw q i.1, b)

pub asked : (gs : List Peer) (g : List ℕ) (s k : ℕ) (x : List ℕ) (h : List Act) → IsLawful gs h → order_at g s k h ≡ Some (asks.Remove x)
    → Asked g s k x h
asked gs g s k x [] l e = absurd (grind arith)
asked gs g s k x (acts.Order f t j asks.Read ∷ h) l e =
    asked gs g s k x h l.1 (order-old (is_session f t g s && (j == k)) asks.Read (asks.Remove x) (order_at g s k h) (λ q. grind arith) e)
asked gs g s k x (acts.Order f t j (asks.Policy p) ∷ h) l e =
    asked gs g s k x h l.1 (order-old (is_session f t g s && (j == k)) (asks.Policy p) (asks.Remove x) (order_at g s k h) (λ q. grind arith)
    e)
asked gs g s k x (acts.Order f t j (asks.Put d) ∷ h) l e =
    let i = asked gs g s k x h l.1 (order-old (is_session f t g s && (j == k)) (asks.Put d) (asks.Remove x) (order_at g s k h)
    (λ q. grind arith) e) in
    asked-put g f x s k t j d h (other gs x f d h l.1 l.0.4 (doomed-ordered gs x h l.1 i.0)) i
asked gs g s k x (acts.Order f t j (asks.Remove y) ∷ h) l e =
    let m = remove-at f y h l.0.4 in
    asked-remove g f x y s k t j h m.1 (later-new gs y f t j h l.1 m.0 m.1 l.0.2 l.0.3) (asked gs g s k x h l.1) (is_session f t g s
    && (j == k)) (spot-is f t j g s k) e
asked gs g s k x (a ∷ h) l e = asked gs g s k x h l.1 e

pub removal-is : (x : List ℕ) (o : Option Order) → is_removal x o ≡ true → o ≡ Some (asks.Remove x)
removal-is x (Some (asks.Remove y)) e = ap (λ (z : List ℕ). Some (asks.Remove z)) (name-is y x e)
removal-is x (Some (asks.Put d)) e = absurd (no e)
removal-is x (Some asks.Read) e = absurd (no e)
removal-is x (Some (asks.Policy l)) e = absurd (no e)
removal-is x None e = absurd (no e)

gone-dead : (b d : Bool) → b ≡ true → (not b && d) ≡ false
gone-dead true d e = refl
gone-dead false d e = absurd (no e)

answer-dead : (g x : List ℕ) (a : Answer) (h : List Act) → IsAnswer g (asks.Remove x) a h → is_live g x h ≡ false
answer-dead g x a (acts.Gone f y gone.Removed ∷ h) p = gone-dead (is_half f y g x) (is_live g x h) (half-true f y g x p.0 p.1)
answer-dead g x a [] p = p.1
answer-dead g x a (b ∷ h) p = p.1

put-dead : (b c : Bool) → (b ≡ true → ⊥) → c ≡ false → (b || c) ≡ false
put-dead true c f e = absurd (f refl)
put-dead false c f e = e

never-put : (gs : List Peer) (f x : List ℕ) (e : SadEntry) (h : List Act) → IsLawful gs h → next_request f h ≡ Some (asks.Put e)
    → e.name ≡ x → Never x h → ⊥
never-put gs f x e h l m q n =
    let p = place gs f (session_taken f h) (handled f (session_taken f h) h + 1) e h l (next-is f (asks.Put e) h m) in
    let k = subst (λ z. Never z h) (sym q) n in
    let r : session_taken (site e.name h) h ≡ session_of e.name h = ap (λ (z : List ℕ). session_taken z h) p.1 ∙ sym p.2 in
    too-far f e.name (session_taken f h) h p.1 p.2 p.3 (k r)

never-handled : (x f : List ℕ) (t j : ℕ) (a : Answer) (h : List Act) → Never x h → Never x (acts.Handled f t j a ∷ h)
never-handled x f t j a h n = λ e. more (is_session f t (site x h) (session_of x h)) (place_of x h) (handled (site x h) (session_of x h) h)
    (n e)

-- once a removal was handled, no put of the half can be handled, and it isn't live
dead-new : (gs : List Peer) (f x : List ℕ) (t j : ℕ) (a : Answer) (h : List Act) → IsLawful gs (acts.Handled f t j a ∷ h)
    → order_at f t j h ≡ Some (asks.Remove x) → Dead x (acts.Handled f t j a ∷ h)
dead-new gs f x t j a h l o =
    let k = asked gs f t j x h l.1 o in
    let p : asks.Remove x ≡ l.0.2.0 = some-is (asks.Remove x) l.0.2.0 (sym o ∙ next-at f t j l.0.2.0 h l.0.0 l.0.1 l.0.2.1) in
    let d = answer-dead f x a h (subst (λ z. IsAnswer f z a h) (sym p) l.0.2.2) in
    let e : is_live (site x h) x h ≡ false = subst (λ z. is_live z x h ≡ false) k.1 d in
    (k.0, never-handled x f t j a h (never-later x f t j h k.1 l.0.0 l.0.1 k.2), e)

dead-put : (x f : List ℕ) (t j : ℕ) (d : SadEntry) (h : List Act) → bytes_eq d.name x ≡ false → Dead x h
    → Dead x (acts.Order f t j (asks.Put d) ∷ h)
dead-put x f t j d h q i =
    let n : session_taken (if bytes_eq d.name x then f else site x h) h ≡ (if bytes_eq d.name x then t else session_of x h)
    → (if bytes_eq d.name x then j else place_of x h) ≤ handled (if bytes_eq d.name x then f else site x h) (if bytes_eq d.name x then t
    else session_of x h) h = rw q i.1 in
    let e : is_live (if bytes_eq d.name x then f else site x h) x h ≡ false = rw q i.2 in
    (i.0, n, e)

pub off-dead : (gs : List Peer) (x : List ℕ) (h : List Act) → IsLawful gs h → is_removal_handled x h ≡ true → Dead x h
off-dead gs x [] l e = absurd (no e)
off-dead gs x (acts.Handled f t j a ∷ h) l e =
    or-split {A = Dead x (acts.Handled f t j a ∷ h)} (is_removal x (order_at f t j h)) (is_removal_handled x h)
    (λ q. dead-new gs f x t j a h l (removal-is x (order_at f t j h) q))
    (λ q. let i = off-dead gs x h l.1 q in (i.0, never-handled x f t j a h i.1, i.2)) e
off-dead gs x (acts.Put f d ∷ h) l e =
    let i = off-dead gs x h l.1 e in (
      i.0,
      i.1,
      put-dead (is_half f d.name (site x h) x) (is_live (site x h) x h)
          (λ q. never-put gs f x d h l.1 l.0.1 (half-is f d.name (site x h) x q).1 i.1) i.2,
    )
off-dead gs x (acts.Gone f y w ∷ h) l e = let i = off-dead gs x h l.1 e in
    (i.0, i.1, and_right (not (is_half f y (site x h) x)) (is_live (site x h) x h) i.2)
off-dead gs x (acts.Boot f ∷ h) l e =
    let i = off-dead gs x h l.1 e in
    let s = sess-in gs x h l.1 (doomed-ordered gs x h l.1 i.0) in (
      i.0,
      never-boot (bytes_eq f (site x h)) (session_taken (site x h) h) (session_of x h) (place_of x h)
          (handled (site x h) (session_of x h) h) s.0 i.1,
      and_right (not (bytes_eq f (site x h))) (is_live (site x h) x h) i.2,
    )
off-dead gs x (acts.Opened f t ∷ h) l e =
    let i = off-dead gs x h l.1 e in
    let s = sess-in gs x h l.1 (doomed-ordered gs x h l.1 i.0) in (
      i.0,
      never-opened (bytes_eq f (site x h)) t (session_taken (site x h) h) (session_of x h) (place_of x h) (openings (site x h) h)
          (handled (site x h) (session_of x h) h) (opened-at f (site x h) t h l.0.1) s.1 i.1,
      i.2,
    )
off-dead gs x (acts.Order f t j (asks.Remove y) ∷ h) l e = let i = off-dead gs x h l.1 e in
    (or_right (bytes_eq y x) (is_removal_ordered x h) i.0, i.1, i.2)
off-dead gs x (acts.Order f t j (asks.Put d) ∷ h) l e =
    let i = off-dead gs x h l.1 e in
    dead-put x f t j d h (other gs x f d h l.1 l.0.4 (doomed-ordered gs x h l.1 i.0)) i
off-dead gs x (a ∷ h) l e = off-dead gs x h l.1 e

told-new : (g f x : List ℕ) (s k t j : ℕ) (h : List Act) → order_at g s k h ≡ Some (asks.Remove x) → (f ≡ g) × (t ≡ s) × (j ≡ k)
    → (is_removal x (order_at f t j h) || is_removal_handled x h) ≡ true
told-new g f x s k t j h e p =
    let q : order_at f t j h ≡ Some (asks.Remove x) = rw (p.0, p.1, p.2) e in
    or_left (is_removal x (order_at f t j h)) (is_removal_handled x h) (ap (is_removal x) q ∙ name-self x)

-- a removal that is told was handled
pub told-off : (gs : List Peer) (g : List ℕ) (s k : ℕ) (x : List ℕ) (r : Answer) (h : List Act) → IsLawful gs h → answer_at g s k h ≡ Some r
    → order_at g s k h ≡ Some (asks.Remove x) → is_removal_handled x h ≡ true
told-off gs g s k x r [] l e f = absurd (grind arith)
told-off gs g s k x r (acts.Handled f t j q ∷ h) l e w =
    elim (if-cases (is_session f t g s && (j == k)) q r (answer_at g s k h) e) as
    (λ z. (is_removal x (order_at f t j h) || is_removal_handled x h) ≡ true) [
      | inl p ↦ told-new g f x s k t j h w (spot-is f t j g s k p.0)
      | inr p ↦ or_right (is_removal x (order_at f t j h)) (is_removal_handled x h) (told-off gs g s k x r h l.1 p w)
    ]
told-off gs g s k x r (acts.Order f t j a ∷ h) l e w =
    told-off gs g s k x r h l.1 e (told-order gs g s k f t j a (asks.Remove x) r h l.1 l.0.3 e w)
told-off gs g s k x r (a ∷ h) l e w = told-off gs g s k x r h l.1 e w

pub left-off : (gs : List Peer) (x : List ℕ) (h : List Act) → IsLawful gs h → is_removal_answered x h ≡ true → is_removal_handled x h ≡ true
left-off gs x [] l e = absurd (no e)
left-off gs x (acts.Answered f t j r ∷ h) l e =
    or-split {A = is_removal_handled x h ≡ true} (is_removal x (order_at f t j h)) (is_removal_answered x h)
    (λ q. told-off gs f t j x r h l.1 l.0.4 (removal-is x (order_at f t j h) q)) (left-off gs x h l.1) e
left-off gs x (acts.Handled f t j r ∷ h) l e = or_right (is_removal x (order_at f t j h)) (is_removal_handled x h) (left-off gs x h l.1 e)
left-off gs x (a ∷ h) l e = left-off gs x h l.1 e
