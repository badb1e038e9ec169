-- Each half that was ordered is of an association of the controller, and while it isn't gone for good that association is left.
use Rattle.std.proofs.Common.{◌≡◌, ℕ, ◌+◌, ◌<◌, ◌^◌, Bool, true, false, ◌==◌, not, ◌||◌, List, [], ◌∷◌, length, Option, Some, None, refl, sym, subst, inl, inr, ◌⊎◌, arith, if◌then◌else◌}
use Rattle.std.proofs.lemmas.Bool.{or_right, or_left}
use Rattle.std.specs.Str.{bytes_eq}
use Rattle.std.specs.Option.{option_map}
use Rattle.ikeless_tree.specs.declared.sad.SadEntry.{SadEntry}
use Rattle.ikeless_tree.specs.declared.command.Peer.{Peer}
use Rattle.ikeless_tree.specs.declared.order as tree
use Rattle.ikeless_tree.specs.Half.{in_name, out_name}
use Rattle.hist_acts.specs.Sessions as sessions
use Rattle.hist_controller.specs.Acts.{Association, ControllerOrder, Read, Policy, PutIn, PutOut, RemoveIn, RemoveOut, ControllerAct, Opened, Cut, Answered, Heard, Ordered, Accepted, Refused}
use Rattle.hist_controller.specs.Past.{RemovingIn, is_answer_to, directions, has_answer, is_kind, left, is_made_by, oldest, inbound_put, queue, PuttingIn}
use Rattle.hist_controller.specs.Clauses.{Has, IsControllerPast}
use Rattle.hist_controller.specs.Ever.{made}
use Rattle.hist_controller.specs.Orders.{WasOrdered}
use Rattle.hist_controller.specs.Table.{AllFit}
use Rattle.hist_controller.specs.Told.{Named, in_entry, peer_name, order_told, out_entry, past_told}
use Rattle.hist_controller.proofs.Everything.{whole}
use Rattle.hist_controller.proofs.Homes.{in-home, out-home}
use Rattle.hist_controller.proofs.KeptState.{made-no, rising}
use Rattle.hist_controller.proofs.Lists.{has-left, right-in}
use Rattle.hist_controller.proofs.Serials.{upto}
use Rattle.hist_safety.specs.Orders as world
use Rattle.hist_safety.proofs.Basics.{no, both-right, eq-nat, if-cases, or-split, self}
use Rattle.hist_world.proofs.Told.{same-in, told-at}

-- ---- whose half an order puts

-- the half is the inbound or the outbound one of the association, which was put
abbrev pub IsHalfOf : List Peer → SadEntry → Association → List ControllerAct → Type 0
IsHalfOf ps e x h = ((e ≡ in_entry ps x) × WasOrdered (PutIn x) x.way.receiver h)
    ⊎ ((e ≡ out_entry ps x) × WasOrdered (PutOut x) x.way.sender h)

abbrev pub Owned : List Peer → SadEntry → List ControllerAct → Type 0
Owned ps e h = (x : Association) × IsHalfOf ps e x h

half-older : (ps : List Peer) (e : SadEntry) (x : Association) (g s k : ℕ) (o : ControllerOrder) (h : List ControllerAct)
    → IsHalfOf ps e x h → IsHalfOf ps e x (Ordered g s k o ∷ h)
half-older ps e x g s k o h (inl i) = inl (i.0, inr i.1)
half-older ps e x g s k o h (inr i) = inr (i.0, inr i.1)

older : (ps : List Peer) (e : SadEntry) (g s k : ℕ) (o : ControllerOrder) (h : List ControllerAct) → Owned ps e h
    → Owned ps e (Ordered g s k o ∷ h)
older ps e g s k o h w = (w.0, half-older ps e w.0 g s k o h w.1)

pub owner : (ps : List Peer) (p : ℕ) (x : List ℕ) (e : SadEntry) (h : List ControllerAct) → IsControllerPast p h
    → world.order_of x (past_told ps h) ≡ Some e → Owned ps e h
owner ps p x e [] l q = cc
owner ps p x e (Opened g s ∷ h) l q = owner ps p x e h l.1 q
owner ps p x e (Cut g s ∷ h) l q = owner ps p x e h l.1 q
owner ps p x e (Answered g s k a ∷ h) l q = owner ps p x e h l.1 q
owner ps p x e (Heard g s t ∷ h) l q = owner ps p x e h l.1 q
owner ps p x e (Accepted c ∷ h) l q = owner ps p x e h l.1 q
owner ps p x e (Refused w ∷ h) l q = owner ps p x e h l.1 q
owner ps p x e (Ordered g s k Read ∷ h) l q = older ps e g s k Read h (owner ps p x e h l.1 q)
owner ps p x e (Ordered g s k (Policy list) ∷ h) l q = older ps e g s k (Policy list) h (owner ps p x e h l.1 q)
owner ps p x e (Ordered g s k (PutIn y) ∷ h) l q =
    elim (if-cases (bytes_eq (in_name y.serial) x) (in_entry ps y) e (world.order_of x (past_told ps h)) q) as
    (λ z. Owned ps e (Ordered g s k (PutIn y) ∷ h)) [
      | inl r ↦ (y, inl (sym r.1, inl (refl, sym l.0.3.at)))
      | inr r ↦ older ps e g s k (PutIn y) h (owner ps p x e h l.1 r)
    ]
owner ps p x e (Ordered g s k (PutOut y) ∷ h) l q =
    let home = out-home p (Ordered g s k (PutOut y) ∷ h) l g y (inl (refl, refl)) in
    elim (if-cases (bytes_eq (out_name y.serial) x) (out_entry ps y) e (world.order_of x (past_told ps h)) q) as
    (λ z. Owned ps e (Ordered g s k (PutOut y) ∷ h)) [
      | inl r ↦ (y, inr (sym r.1, inl (refl, sym home.0)))
      | inr r ↦ older ps e g s k (PutOut y) h (owner ps p x e h l.1 r)
    ]
owner ps p x e (Ordered g s k (RemoveIn n) ∷ h) l q = older ps e g s k (RemoveIn n) h (owner ps p x e h l.1 q)
owner ps p x e (Ordered g s k (RemoveOut n) ∷ h) l q = older ps e g s k (RemoveOut n) h (owner ps p x e h l.1 q)

-- ---- an association that was put is left, or the removal of its inbound half was answered

if-kept : (b : Bool) (x : Association) (xs : List Association) → b ≡ false → Has x xs → Has x (if b then [] else xs)
if-kept true x xs e i = absurd (no (sym e))
if-kept false x xs e i = i

if-one : (b : Bool) (x : Association) → b ≡ true → Has x (if b then x ∷ [] else [])
if-one true x e = inl refl
if-one false x e = absurd (no e)

given-made : (p : ℕ) (x : Association) (h : List ControllerAct) → IsControllerPast p h → WasOrdered (PutIn x) x.way.receiver h
    → Has x (made x.way h)
given-made p x [] l i = absurd i
given-made p x (Opened g s ∷ h) l i = given-made p x h l.1 i
given-made p x (Cut g s ∷ h) l i = given-made p x h l.1 i
given-made p x (Answered g s k a ∷ h) l i = given-made p x h l.1 i
given-made p x (Heard g s t ∷ h) l i = given-made p x h l.1 i
given-made p x (Refused w ∷ h) l i = given-made p x h l.1 i
given-made p x (Accepted c ∷ h) l i =
    let known = (in-home p h l.1 x.way.receiver x i).known in
    let low : x.way.id < 0 + length (directions h) = upto 0 (directions h) x.way (rising h) known in
    if-kept (is_made_by c (length (directions h)) x.way) x (made x.way h) (made-no c (length (directions h)) x.way (omega (arith, low)))
    (given-made p x h l.1 i)
given-made p x (Ordered g s k o ∷ h) l (inl e) =
    right-in x (made x.way h) (inbound_put x.way o) (subst (λ (z : ControllerOrder). Has x (inbound_put x.way z)) e.0
    (if-one (x.way.id == x.way.id) x (self x.way.id)))
given-made p x (Ordered g s k o ∷ h) l (inr i) = has-left x (made x.way h) (inbound_put x.way o) (given-made p x h l.1 i)

pub left-or-gone : (p : ℕ) (x : Association) (h : List ControllerAct) → IsControllerPast p h → WasOrdered (PutIn x) x.way.receiver h
    → Has x (left x.way h) ⊎ (has_answer RemovingIn x.serial h ≡ true)
left-or-gone p x h l i = elim ((whole p h l).gone x.way x (given-made p x h l i)) as (λ z. Has x (left x.way h)
    ⊎ (has_answer RemovingIn x.serial h ≡ true)) [ inl j ↦ inl j | inr j ↦ inr j.0 ]

-- ---- in the transcript too

is-gone : (ps : List Peer) (n : ℕ) (o : Option ControllerOrder) → n < 2 ^ 64 → is_answer_to RemovingIn n o ≡ true
    → world.is_removal (in_name n) (option_map (order_told ps) o) ≡ true
is-gone ps n None i q = absurd (no q)
is-gone ps n (Some Read) i q = absurd (no q)
is-gone ps n (Some (Policy list)) i q = absurd (no q)
is-gone ps n (Some (PutIn y)) i q = absurd (no q)
is-gone ps n (Some (PutOut y)) i q = absurd (no q)
is-gone ps n (Some (RemoveIn m)) i q = let same : n ≡ m = eq-nat n m q in same-in true m n q (subst (λ (z : ℕ). z < 2 ^ 64) same i) i
is-gone ps n (Some (RemoveOut m)) i q = absurd (no q)

pub in-left-told : (ps : List Peer) (p : ℕ) (n : ℕ) (h : List ControllerAct) → n < 2 ^ 64 → IsControllerPast p h → Named ps
    → AllFit (length ps) h
    → has_answer RemovingIn n h ≡ true → world.is_removal_answered (in_name n) (past_told ps h) ≡ true
in-left-told ps p n [] i l names f q = absurd (no q)
in-left-told ps p n (Opened g s ∷ h) i l names f q = in-left-told ps p n h i l.1 names f.1 q
in-left-told ps p n (Cut g s ∷ h) i l names f q = in-left-told ps p n h i l.1 names f.1 q
in-left-told ps p n (Answered g s k a ∷ h) i l names f q =
    let t = told-at ps p g s k a h l names f.1 f.0 in
    let m : Bool = world.is_removal (in_name n) (sessions.order_at (peer_name ps g) s k (past_told ps h)) in
    or-split {A = (m || world.is_removal_answered (in_name n) (past_told ps h)) ≡ true} (is_answer_to RemovingIn n (oldest (queue g h)))
    (has_answer RemovingIn n h)
    (λ w. or_left m (world.is_removal_answered (in_name n) (past_told ps h))
    (subst (λ (z : Option tree.Order.Order). world.is_removal (in_name n) z ≡ true) (sym t) (is-gone ps n (oldest (queue g h)) i w)))
    (λ w. or_right m (world.is_removal_answered (in_name n) (past_told ps h)) (in-left-told ps p n h i l.1 names f.1 w)) q
in-left-told ps p n (Heard g s t ∷ h) i l names f q = in-left-told ps p n h i l.1 names f.1 q
in-left-told ps p n (Ordered g s k o ∷ h) i l names f q =
    in-left-told ps p n h i l.1 names f.1 (both-right (not (is_kind PuttingIn n o)) (has_answer RemovingIn n h) q)
in-left-told ps p n (Accepted c ∷ h) i l names f q = in-left-told ps p n h i l.1 names f.1 q
in-left-told ps p n (Refused w ∷ h) i l names f q = in-left-told ps p n h i l.1 names f.1 q
