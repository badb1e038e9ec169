-- The words on orders say of the controller's acts, told in a transcript, what the controller's own words say.
use Rattle.std.proofs.Common.{◌≡◌, ℕ, ◌+◌, ◌<◌, ◌≤◌, ◌^◌, Bool, true, false, ◌==◌, not, ◌&&◌, ◌||◌, nat_le, nat_lt, List, [], ◌∷◌, length, decimal, Option, Some, None, refl, sym, ◌∙◌, ap, subst, inl, inr, arith, if◌then◌else◌}
use Rattle.std.proofs.lemmas.Bool.{or_right, or_left, or_parts}
use Rattle.std.proofs.lemmas.Grind.{common_steps}
use Rattle.std.specs.Str.{bytes_eq}
use Rattle.std.specs.Option.{option_map}
use Rattle.ikeless_tree.specs.declared.sad.SadEntry.{SadEntry}
use Rattle.ikeless_tree.specs.declared.command.Peer.{Peer}
use Rattle.ikeless_tree.specs.declared.order as tree
use Rattle.ikeless_tree.specs.declared.order.Answer.{Answer}
use Rattle.ikeless_tree.specs.Half.{is_inbound, in_name, out_name, in_half, out_half}
use Rattle.hist_acts.specs.Sessions as sessions
use Rattle.hist_controller.specs.Acts.{Association, ControllerOrder, Read, Policy, PutIn, PutOut, RemoveIn, RemoveOut, ControllerAct, Opened, Cut, Answered, Heard, Ordered, Accepted, Refused}
use Rattle.hist_controller.specs.Past.{serials, queue, oldest, is_kind, is_answer_to, has_answer, is_spoiled, is_ended, is_out_ordered, PuttingIn, PuttingOut, RemovingIn, RemovingOut}
use Rattle.hist_controller.specs.Clauses.{IsControllerPast, MayOrderInPut, MayOrderOutPut, MayOrderInRemove}
use Rattle.hist_controller.specs.Orders.{was_ordered, WasOrdered}
use Rattle.hist_controller.specs.Table.{AllFit}
use Rattle.hist_controller.specs.Told.{Named, in_entry, peer_name, order_told, past_told}
use Rattle.hist_controller.proofs.Accepts.{few-keys, few-serials}
use Rattle.hist_controller.proofs.Homes.{in-home, one-put, out-home}
use Rattle.hist_controller.proofs.Names.{in-names, no-both, out-names}
use Rattle.hist_controller.proofs.Readings.{answers-number}
use Rattle.hist_controller.proofs.Serials.{low}
use Rattle.hist_controller.proofs.Transcript.{order-told}
use Rattle.hist_safety.specs.Orders as world
use Rattle.hist_safety.proofs.Basics.{no, eq-nat, name-not, name-self}

-- ---- names of halves

small : (n : ℕ) → n ≤ 1048577 → n < 2 ^ 64
small n e = omega (arith, e)

few : (p : ℕ) (h : List ControllerAct) → IsControllerPast p h → serials h ≤ 1048576
few p h l = let a = few-serials p h l in let b = few-keys p h l in omega (arith, a, b)

pub same-in : (b : Bool) (m n : ℕ) → (n == m) ≡ b → m < 2 ^ 64 → n < 2 ^ 64 → bytes_eq (in_name m) (in_name n) ≡ b
same-in true m n e i j = let q : n ≡ m = grind (arith, e) in
    subst (λ (z : ℕ). bytes_eq (in_name m) (in_name z) ≡ true) (sym q) (name-self (in_name m))
same-in false m n e i j = name-not (in_name m) (in_name n) (λ q. let r = in-names m n i j q in grind (arith, e, r))

same-out : (b : Bool) (m n : ℕ) → (n == m) ≡ b → m < 2 ^ 64 → n < 2 ^ 64 → bytes_eq (out_name m) (out_name n) ≡ b
same-out true m n e i j = let q : n ≡ m = grind (arith, e) in
    subst (λ (z : ℕ). bytes_eq (out_name m) (out_name z) ≡ true) (sym q) (name-self (out_name m))
same-out false m n e i j = name-not (out_name m) (out_name n) (λ q. let r = out-names m n i j q in grind (arith, e, r))

in-not-out : (m n : ℕ) → bytes_eq (in_name m) (out_name n) ≡ false
in-not-out m n = name-not (in_name m) (out_name n) (λ q. no-both m n q)

out-not-in : (m n : ℕ) → bytes_eq (out_name m) (in_name n) ≡ false
out-not-in m n = name-not (out_name m) (in_name n) (λ q. no-both n m (sym q))

pub in-inbound : (n : ℕ) → is_inbound (in_name n) ≡ true
unfolding in_name
in-inbound n = refl

pub out-outbound : (n : ℕ) → is_inbound (out_name n) ≡ false
unfolding out_name
out-outbound n = refl

pub in-half : (n : ℕ) → in_name n ≡ in_half (decimal n)
unfolding in_name
in-half n = refl

pub out-half : (n : ℕ) → out_name n ≡ out_half (decimal n)
unfolding out_name
out-half n = refl

-- the serial of an order that may be given is small
in-small : (p : ℕ) (h : List ControllerAct) (g : ℕ) (x : Association) → IsControllerPast p h → MayOrderInPut h g x → x.serial < 2 ^ 64
in-small p h g x l m = let a = few p h l in let b = m.serial in omega (arith, a, b)

out-small : (p : ℕ) (h : List ControllerAct) (g : ℕ) (x : Association) → IsControllerPast p h → MayOrderOutPut h g x → x.serial < 2 ^ 64
out-small p h g x l m = let a = few p h l in let b = low p h l m.way x m.left in omega (arith, a, b)

in-gone-small : (p : ℕ) (h : List ControllerAct) (g n : ℕ) → IsControllerPast p h → MayOrderInRemove h g n → n < 2 ^ 64
in-gone-small p h g n l m = let a = few p h l in let b = low p h l m.way m.association m.left in let c = m.name in omega (arith, a, b, c)

-- ---- which halves were ordered put and removed

or-both : (a b c d : Bool) → a ≡ b → c ≡ d → (a || c) ≡ (b || d)
or-both a b c d p q = rw (p, q) refl

or-none : (a c d : Bool) → a ≡ false → c ≡ d → (a || c) ≡ d
or-none a c d p q = rw p q

pub in-ordered : (ps : List Peer) (p : ℕ) (n : ℕ) (h : List ControllerAct) → n < 2 ^ 64 → IsControllerPast p h
    → world.was_order_given (in_name n) (past_told ps h) ≡ was_ordered PuttingIn n h
in-ordered ps p n [] i l = refl
in-ordered ps p n (Ordered g s k Read ∷ h) i l = in-ordered ps p n h i l.1
in-ordered ps p n (Ordered g s k (Policy list) ∷ h) i l = in-ordered ps p n h i l.1
in-ordered ps p n (Ordered g s k (PutIn x) ∷ h) i l =
    or-both (bytes_eq (in_name x.serial) (in_name n)) (n == x.serial) (world.was_order_given (in_name n) (past_told ps h))
    (was_ordered PuttingIn n h)
    (same-in (n == x.serial) x.serial n refl (in-small p h g x l.1 l.0.3) i) (in-ordered ps p n h i l.1)
in-ordered ps p n (Ordered g s k (PutOut x) ∷ h) i l =
    or-none (bytes_eq (out_name x.serial) (in_name n)) (world.was_order_given (in_name n) (past_told ps h)) (was_ordered PuttingIn n h)
    (out-not-in x.serial n) (in-ordered ps p n h i l.1)
in-ordered ps p n (Ordered g s k (RemoveIn m) ∷ h) i l = in-ordered ps p n h i l.1
in-ordered ps p n (Ordered g s k (RemoveOut m) ∷ h) i l = in-ordered ps p n h i l.1
in-ordered ps p n (a ∷ h) i l = in-ordered ps p n h i l.1

pub out-ordered : (ps : List Peer) (p : ℕ) (n : ℕ) (h : List ControllerAct) → n < 2 ^ 64 → IsControllerPast p h
    → world.was_order_given (out_name n) (past_told ps h) ≡ was_ordered PuttingOut n h
out-ordered ps p n [] i l = refl
out-ordered ps p n (Ordered g s k Read ∷ h) i l = out-ordered ps p n h i l.1
out-ordered ps p n (Ordered g s k (Policy list) ∷ h) i l = out-ordered ps p n h i l.1
out-ordered ps p n (Ordered g s k (PutIn x) ∷ h) i l =
    or-none (bytes_eq (in_name x.serial) (out_name n)) (world.was_order_given (out_name n) (past_told ps h)) (was_ordered PuttingOut n h)
    (in-not-out x.serial n) (out-ordered ps p n h i l.1)
out-ordered ps p n (Ordered g s k (PutOut x) ∷ h) i l =
    or-both (bytes_eq (out_name x.serial) (out_name n)) (n == x.serial) (world.was_order_given (out_name n) (past_told ps h))
    (was_ordered PuttingOut n h)
    (same-out (n == x.serial) x.serial n refl (out-small p h g x l.1 l.0.3) i) (out-ordered ps p n h i l.1)
out-ordered ps p n (Ordered g s k (RemoveIn m) ∷ h) i l = out-ordered ps p n h i l.1
out-ordered ps p n (Ordered g s k (RemoveOut m) ∷ h) i l = out-ordered ps p n h i l.1
out-ordered ps p n (a ∷ h) i l = out-ordered ps p n h i l.1

pub in-doomed : (ps : List Peer) (p : ℕ) (n : ℕ) (h : List ControllerAct) → n < 2 ^ 64 → IsControllerPast p h
    → world.is_removal_ordered (in_name n) (past_told ps h) ≡ was_ordered RemovingIn n h
in-doomed ps p n [] i l = refl
in-doomed ps p n (Ordered g s k Read ∷ h) i l = in-doomed ps p n h i l.1
in-doomed ps p n (Ordered g s k (Policy list) ∷ h) i l = in-doomed ps p n h i l.1
in-doomed ps p n (Ordered g s k (PutIn x) ∷ h) i l = in-doomed ps p n h i l.1
in-doomed ps p n (Ordered g s k (PutOut x) ∷ h) i l = in-doomed ps p n h i l.1
in-doomed ps p n (Ordered g s k (RemoveIn m) ∷ h) i l =
    or-both (bytes_eq (in_name m) (in_name n)) (n == m) (world.is_removal_ordered (in_name n) (past_told ps h)) (was_ordered RemovingIn n h)
    (same-in (n == m) m n refl (in-gone-small p h g m l.1 l.0.3) i) (in-doomed ps p n h i l.1)
in-doomed ps p n (Ordered g s k (RemoveOut m) ∷ h) i l =
    or-none (bytes_eq (out_name m) (in_name n)) (world.is_removal_ordered (in_name n) (past_told ps h)) (was_ordered RemovingIn n h)
    (out-not-in m n) (in-doomed ps p n h i l.1)
in-doomed ps p n (a ∷ h) i l = in-doomed ps p n h i l.1

-- ---- how many, and what was ordered where

one-more : (b : Bool) (m n : ℕ) → b ≡ true → m ≡ n → (if b then m + 1 else m) ≡ n + 1
one-more true m n p q = ap (λ (z : ℕ). z + 1) q
one-more false m n p q = absurd (no p)

no-more : (b : Bool) (m n : ℕ) → b ≡ false → m ≡ n → (if b then m + 1 else m) ≡ n
no-more true m n p q = absurd (no (sym p))
no-more false m n p q = q

pub inbounds-told : (ps : List Peer) (h : List ControllerAct) → world.inbounds (past_told ps h) ≡ serials h
inbounds-told ps [] = refl
inbounds-told ps (Ordered g s k Read ∷ h) = inbounds-told ps h
inbounds-told ps (Ordered g s k (Policy list) ∷ h) = inbounds-told ps h
inbounds-told ps (Ordered g s k (PutIn x) ∷ h) = one-more (is_inbound (in_name x.serial)) (world.inbounds (past_told ps h)) (serials h)
    (in-inbound x.serial) (inbounds-told ps h)
inbounds-told ps (Ordered g s k (PutOut x) ∷ h) = no-more (is_inbound (out_name x.serial)) (world.inbounds (past_told ps h)) (serials h)
    (out-outbound x.serial) (inbounds-told ps h)
inbounds-told ps (Ordered g s k (RemoveIn m) ∷ h) = inbounds-told ps h
inbounds-told ps (Ordered g s k (RemoveOut m) ∷ h) = inbounds-told ps h
inbounds-told ps (a ∷ h) = inbounds-told ps h

some-in : (b : Bool) (d e : SadEntry) (o : Option SadEntry) → (b ≡ true → d ≡ e) → (b ≡ false → o ≡ Some e)
    → (if b then Some d else o) ≡ Some e
some-in true d e o p q = ap Some (p refl)
some-in false d e o p q = q refl

site-in : (b : Bool) (f g s : List ℕ) → (b ≡ true → f ≡ g) → (b ≡ false → s ≡ g) → (if b then f else s) ≡ g
site-in true f g s p q = p refl
site-in false f g s p q = q refl

not-eq : (b : Bool) (m n : ℕ) → (n == m) ≡ b → b ≡ false → n ≡ m → ⊥
not-eq b m n e q r = grind (arith, e, q, r)

-- what was ordered for an inbound half, and where
pub record InOrder (ps : List Peer) (x : Association) (h : List ControllerAct) : Type 0 where
  pub order : world.order_of (in_name x.serial) (past_told ps h) ≡ Some (in_entry ps x)
  pub site : world.site (in_name x.serial) (past_told ps h) ≡ peer_name ps x.way.receiver

in-older : (p : ℕ) (h : List ControllerAct) (f s k : ℕ) (x y : Association) → WasOrdered (PutIn x) x.way.receiver (Ordered f s k (PutIn y)
    ∷ h) → (x.serial ≡ y.serial → ⊥) → WasOrdered (PutIn x) x.way.receiver h
in-older p h f s k x y (inl e) q = let r : PutIn x ≡ PutIn y = e.0 in absurd (q (grind (arith, r)))
in-older p h f s k x y (inr e) q = e

pub in-order : (ps : List Peer) (p : ℕ) (x : Association) (h : List ControllerAct) → x.serial < 2 ^ 64 → IsControllerPast p h
    → WasOrdered (PutIn x) x.way.receiver h → InOrder ps x h
in-order ps p x [] i l e = absurd e
in-order ps p x (Opened g s ∷ h) i l e = let q = in-order ps p x h i l.1 e in record { order = q.order; site = q.site }
in-order ps p x (Cut g s ∷ h) i l e = let q = in-order ps p x h i l.1 e in record { order = q.order; site = q.site }
in-order ps p x (Answered g s k a ∷ h) i l e = let q = in-order ps p x h i l.1 e in record { order = q.order; site = q.site }
in-order ps p x (Heard g s t ∷ h) i l e = let q = in-order ps p x h i l.1 e in record { order = q.order; site = q.site }
in-order ps p x (Accepted c ∷ h) i l e = let q = in-order ps p x h i l.1 e in record { order = q.order; site = q.site }
in-order ps p x (Refused w ∷ h) i l e = let q = in-order ps p x h i l.1 e in record { order = q.order; site = q.site }
in-order ps p x (Ordered g s k Read ∷ h) i l (inl e) = let r : PutIn x ≡ Read = e.0 in absurd (grind (arith, r))
in-order ps p x (Ordered g s k Read ∷ h) i l (inr e) = let q = in-order ps p x h i l.1 e in record { order = q.order; site = q.site }
in-order ps p x (Ordered g s k (Policy list) ∷ h) i l (inl e) = let r : PutIn x ≡ Policy list = e.0 in absurd (grind (arith, r))
in-order ps p x (Ordered g s k (Policy list) ∷ h) i l (inr e) = let q = in-order ps p x h i l.1 e in
    record { order = q.order; site = q.site }
in-order ps p x (Ordered g s k (PutIn y) ∷ h) i l e =
    let b : Bool = bytes_eq (in_name y.serial) (in_name x.serial) in
    let w : b ≡ (x.serial == y.serial) = same-in (x.serial == y.serial) y.serial x.serial refl (in-small p h g y l.1 l.0.3) i in
    let at : MayOrderInPut h g y = l.0.3 in
    let new : WasOrdered (PutIn y) y.way.receiver (Ordered g s k (PutIn y) ∷ h) = inl (refl, sym at.at) in
    let same : b ≡ true → x ≡ y = λ q. one-put p (Ordered g s k (PutIn y) ∷ h) l x.way.receiver y.way.receiver x y e new
    (eq-nat x.serial y.serial (sym w ∙ q)) in
    let old : b ≡ false → WasOrdered (PutIn x) x.way.receiver h =
    λ q. in-older p h g s k x y e (not-eq (x.serial == y.serial) y.serial x.serial refl (sym w ∙ q)) in
    record {
      order = some-in b (in_entry ps y) (in_entry ps x) (world.order_of (in_name x.serial) (past_told ps h))
          (λ q. ap (in_entry ps) (sym (same q))) (λ q. (in-order ps p x h i l.1 (old q)).order);
      site = site-in b (peer_name ps g) (peer_name ps x.way.receiver) (world.site (in_name x.serial) (past_told ps h))
          (λ q. ap (peer_name ps) at.at ∙ ap (λ (z : Association). peer_name ps z.way.receiver) (sym (same q)))
          (λ q. (in-order ps p x h i l.1 (old q)).site);
    }
in-order ps p x (Ordered g s k (PutOut y) ∷ h) i l (inl e) = let r : PutIn x ≡ PutOut y = e.0 in absurd (grind (arith, r))
in-order ps p x (Ordered g s k (PutOut y) ∷ h) i l (inr e) =
    let q = in-order ps p x h i l.1 e in
    let w = out-not-in y.serial x.serial in
    record { order = rw w q.order; site = rw w q.site }
in-order ps p x (Ordered g s k (RemoveIn m) ∷ h) i l (inl e) = let r : PutIn x ≡ RemoveIn m = e.0 in absurd (grind (arith, r))
in-order ps p x (Ordered g s k (RemoveIn m) ∷ h) i l (inr e) = let q = in-order ps p x h i l.1 e in
    record { order = q.order; site = q.site }
in-order ps p x (Ordered g s k (RemoveOut m) ∷ h) i l (inl e) = let r : PutIn x ≡ RemoveOut m = e.0 in absurd (grind (arith, r))
in-order ps p x (Ordered g s k (RemoveOut m) ∷ h) i l (inr e) = let q = in-order ps p x h i l.1 e in
    record { order = q.order; site = q.site }

out-older : (h : List ControllerAct) (f s k g : ℕ) (x y : Association) → WasOrdered (PutOut x) g (Ordered f s k (PutOut y) ∷ h)
    → (x.serial ≡ y.serial → ⊥) → WasOrdered (PutOut x) g h
out-older h f s k g x y (inl e) q = let r : PutOut x ≡ PutOut y = e.0 in absurd (q (grind (arith, r)))
out-older h f s k g x y (inr e) q = e

-- where an outbound half was ordered
pub out-site : (ps : List Peer) (p : ℕ) (g : ℕ) (x : Association) (h : List ControllerAct) → x.serial < 2 ^ 64 → IsControllerPast p h
    → WasOrdered (PutOut x) g h → world.site (out_name x.serial) (past_told ps h) ≡ peer_name ps g
out-site ps p g x [] i l e = absurd e
out-site ps p g x (Opened f s ∷ h) i l e = out-site ps p g x h i l.1 e
out-site ps p g x (Cut f s ∷ h) i l e = out-site ps p g x h i l.1 e
out-site ps p g x (Answered f s k a ∷ h) i l e = out-site ps p g x h i l.1 e
out-site ps p g x (Heard f s t ∷ h) i l e = out-site ps p g x h i l.1 e
out-site ps p g x (Accepted c ∷ h) i l e = out-site ps p g x h i l.1 e
out-site ps p g x (Refused w ∷ h) i l e = out-site ps p g x h i l.1 e
out-site ps p g x (Ordered f s k Read ∷ h) i l (inl e) = let r : PutOut x ≡ Read = e.0 in absurd (grind (arith, r))
out-site ps p g x (Ordered f s k Read ∷ h) i l (inr e) = out-site ps p g x h i l.1 e
out-site ps p g x (Ordered f s k (Policy list) ∷ h) i l (inl e) = let r : PutOut x ≡ Policy list = e.0 in absurd (grind (arith, r))
out-site ps p g x (Ordered f s k (Policy list) ∷ h) i l (inr e) = out-site ps p g x h i l.1 e
out-site ps p g x (Ordered f s k (PutIn y) ∷ h) i l (inl e) = let r : PutOut x ≡ PutIn y = e.0 in absurd (grind (arith, r))
out-site ps p g x (Ordered f s k (PutIn y) ∷ h) i l (inr e) = let w = in-not-out y.serial x.serial in rw w (out-site ps p g x h i l.1 e)
out-site ps p g x (Ordered f s k (PutOut y) ∷ h) i l e =
    let b : Bool = bytes_eq (out_name y.serial) (out_name x.serial) in
    let w : b ≡ (x.serial == y.serial) = same-out (x.serial == y.serial) y.serial x.serial refl (out-small p h f y l.1 l.0.3) i in
    let all : List ControllerAct = Ordered f s k (PutOut y) ∷ h in
    let old : b ≡ false → WasOrdered (PutOut x) g h =
    λ q. out-older h f s k g x y e (not-eq (x.serial == y.serial) y.serial x.serial refl (sym w ∙ q)) in
    let hx = out-home p all l g x e in
    let hy = out-home p all l f y (inl (refl, refl)) in
    let same : b ≡ true → x ≡ y = λ q. one-put p all l x.way.receiver y.way.receiver x y hx.1 hy.1 (eq-nat x.serial y.serial (sym w ∙ q)) in
    site-in b (peer_name ps f) (peer_name ps g) (world.site (out_name x.serial) (past_told ps h))
    (λ q. ap (peer_name ps) (hy.0 ∙ ap (λ (z : Association). z.way.sender) (sym (same q)) ∙ sym hx.0))
    (λ q. out-site ps p g x h i l.1 (old q))
out-site ps p g x (Ordered f s k (RemoveIn m) ∷ h) i l (inl e) = let r : PutOut x ≡ RemoveIn m = e.0 in absurd (grind (arith, r))
out-site ps p g x (Ordered f s k (RemoveIn m) ∷ h) i l (inr e) = out-site ps p g x h i l.1 e
out-site ps p g x (Ordered f s k (RemoveOut m) ∷ h) i l (inl e) = let r : PutOut x ≡ RemoveOut m = e.0 in absurd (grind (arith, r))
out-site ps p g x (Ordered f s k (RemoveOut m) ∷ h) i l (inr e) = out-site ps p g x h i l.1 e

-- ---- answers

pub inbound-given : (ps : List Peer) (p : ℕ) (x : Association) (h : List ControllerAct) → IsControllerPast p h
    → WasOrdered (PutIn x) x.way.receiver h → x.serial < 2 ^ 64
inbound-given ps p x h l e = let a = (in-home p h l x.way.receiver x e).low in let b = few p h l in omega (arith, a, b)

pub told-at : (ps : List Peer) (p g s n : ℕ) (a : Answer) (h : List ControllerAct) → IsControllerPast p (Answered g s n a ∷ h) → Named ps
    → AllFit (length ps) h → g < length ps
    → sessions.order_at (peer_name ps g) s n (past_told ps h) ≡ option_map (order_told ps) (oldest (queue g h))
told-at ps p g s n a h l names f i = order-told ps h names f g s n i ∙ ap (option_map (order_told ps)) (answers-number p g s n a h l)

low-status : (b : Bool) (m : ℕ) → b ≡ true → (b && nat_le 400 m) ≡ false → nat_lt m 400 ≡ true
low-status b m p q = grind (arith, common_steps, p, q)

is-made : (ps : List Peer) (n : ℕ) (x : Association) (g : ℕ) (a : Answer) (o : Option ControllerOrder) (done sent : Bool) → n < 2 ^ 64
    → x.serial ≡ n → is_answer_to PuttingIn n o ≡ true → is_spoiled x g o a done sent ≡ false
    → (world.is_put (in_name n) (option_map (order_told ps) o) && nat_lt a.status 400) ≡ true
is-made ps n x g a None done sent i e q r = absurd (no q)
is-made ps n x g a (Some Read) done sent i e q r = absurd (no q)
is-made ps n x g a (Some (Policy list)) done sent i e q r = absurd (no q)
is-made ps n x g a (Some (PutIn y)) done sent i e q r =
    let same : n ≡ y.serial = eq-nat n y.serial q in
    let w : bytes_eq (in_name y.serial) (in_name n) ≡ true = same-in true y.serial n q (subst (λ (z : ℕ). z < 2 ^ 64) same i) i in
    let good : nat_lt a.status 400 ≡ true = low-status (x.serial == y.serial) a.status (subst (λ (z : ℕ). (z == y.serial) ≡ true) (sym e) q)
    r in
    rw (w, good) refl
is-made ps n x g a (Some (PutOut y)) done sent i e q r = absurd (no q)
is-made ps n x g a (Some (RemoveIn m)) done sent i e q r = absurd (no q)
is-made ps n x g a (Some (RemoveOut m)) done sent i e q r = absurd (no q)

or-case : (a b c : Bool) → (a ≡ true → c ≡ true) → (b ≡ true → c ≡ true) → (a || b) ≡ true → c ≡ true
or-case true b c p q e = p refl
or-case false b c p q e = q e

kept-both : (b r e : Bool) → (not b && r) ≡ true → (not b && e) ≡ false → (r ≡ true) × (e ≡ false)
kept-both true r e p q = absurd (no p)
kept-both false r e p q = (p, q)

-- an inbound put that was answered, of an association that isn't ended, was answered and not refused
pub made-told : (ps : List Peer) (p : ℕ) (n : ℕ) (x : Association) (h : List ControllerAct) → n < 2 ^ 64 → x.serial ≡ n
    → IsControllerPast p h → Named ps → AllFit (length ps) h
    → has_answer PuttingIn n h ≡ true → is_ended x h ≡ false → world.is_put_accepted (in_name n) (past_told ps h) ≡ true
made-told ps p n x [] i e l names f q r = absurd (no q)
made-told ps p n x (Opened g s ∷ h) i e l names f q r = made-told ps p n x h i e l.1 names f.1 q r
made-told ps p n x (Cut g s ∷ h) i e l names f q r = made-told ps p n x h i e l.1 names f.1 q (or_parts _ (is_ended x h) r).1
made-told ps p n x (Answered g s k a ∷ h) i e l names f q r =
    let d = or_parts (is_spoiled x g (oldest (queue g h)) a (has_answer PuttingIn x.serial h) (is_out_ordered x.serial h)) (is_ended x h) r
    in
    let t = told-at ps p g s k a h l names f.1 f.0 in
    let m : Bool = world.is_put (in_name n) (sessions.order_at (peer_name ps g) s k (past_told ps h)) && nat_lt a.status 400 in
    or-case (is_answer_to PuttingIn n (oldest (queue g h))) (has_answer PuttingIn n h) (m
    || world.is_put_accepted (in_name n) (past_told ps h))
    (λ w. or_left m (world.is_put_accepted (in_name n) (past_told ps h))
    (subst (λ (z : Option tree.Order.Order). (world.is_put (in_name n) z && nat_lt a.status 400) ≡ true) (sym t)
    (is-made ps n x g a (oldest (queue g h)) (has_answer PuttingIn x.serial h) (is_out_ordered x.serial h) i e w d.0)))
    (λ w. or_right m (world.is_put_accepted (in_name n) (past_told ps h)) (made-told ps p n x h i e l.1 names f.1 w d.1)) q
made-told ps p n x (Heard g s t ∷ h) i e l names f q r = made-told ps p n x h i e l.1 names f.1 q r
made-told ps p n x (Ordered g s k o ∷ h) i e l names f q r =
    let r2 : (not (is_kind PuttingIn n o) && is_ended x h) ≡ false =
    subst (λ (z : ℕ). (not (is_kind PuttingIn z o) && is_ended x h) ≡ false) e r in
    let b = kept-both (is_kind PuttingIn n o) (has_answer PuttingIn n h) (is_ended x h) q r2 in
    made-told ps p n x h i e l.1 names f.1 b.0 b.1
made-told ps p n x (Accepted c ∷ h) i e l names f q r = made-told ps p n x h i e l.1 names f.1 q (or_parts _ (is_ended x h) r).1
made-told ps p n x (Refused w ∷ h) i e l names f q r = made-told ps p n x h i e l.1 names f.1 q r

is-gone : (ps : List Peer) (n : ℕ) (o : Option ControllerOrder) → n < 2 ^ 64 → is_answer_to RemovingOut n o ≡ true
    → world.is_removal (out_name n) (option_map (order_told ps) o) ≡ true
is-gone ps n None i q = absurd (no q)
is-gone ps n (Some Read) i q = absurd (no q)
is-gone ps n (Some (Policy list)) i q = absurd (no q)
is-gone ps n (Some (PutIn y)) i q = absurd (no q)
is-gone ps n (Some (PutOut y)) i q = absurd (no q)
is-gone ps n (Some (RemoveIn m)) i q = absurd (no q)
is-gone ps n (Some (RemoveOut m)) i q =
    let same : n ≡ m = eq-nat n m q in
    same-out true m n q (subst (λ (z : ℕ). z < 2 ^ 64) same i) i

heard-kept : (b r : Bool) → (not b && r) ≡ true → r ≡ true
heard-kept true r p = absurd (no p)
heard-kept false r p = p

-- a removal of an outbound half that was answered was answered in the transcript
pub left-told : (ps : List Peer) (p : ℕ) (n : ℕ) (h : List ControllerAct) → n < 2 ^ 64 → IsControllerPast p h → Named ps
    → AllFit (length ps) h
    → has_answer RemovingOut n h ≡ true → world.is_removal_answered (out_name n) (past_told ps h) ≡ true
left-told ps p n [] i l names f q = absurd (no q)
left-told ps p n (Opened g s ∷ h) i l names f q = left-told ps p n h i l.1 names f.1 q
left-told ps p n (Cut g s ∷ h) i l names f q = left-told ps p n h i l.1 names f.1 q
left-told ps p n (Answered g s k a ∷ h) i l names f q =
    let t = told-at ps p g s k a h l names f.1 f.0 in
    let m : Bool = world.is_removal (out_name n) (sessions.order_at (peer_name ps g) s k (past_told ps h)) in
    or-case (is_answer_to RemovingOut n (oldest (queue g h))) (has_answer RemovingOut n h) (m
    || world.is_removal_answered (out_name n) (past_told ps h))
    (λ w. or_left m (world.is_removal_answered (out_name n) (past_told ps h))
    (subst (λ (z : Option tree.Order.Order). world.is_removal (out_name n) z ≡ true) (sym t) (is-gone ps n (oldest (queue g h)) i w)))
    (λ w. or_right m (world.is_removal_answered (out_name n) (past_told ps h)) (left-told ps p n h i l.1 names f.1 w)) q
left-told ps p n (Heard g s t ∷ h) i l names f q = left-told ps p n h i l.1 names f.1 q
left-told ps p n (Ordered g s k o ∷ h) i l names f q =
    left-told ps p n h i l.1 names f.1 (heard-kept (is_kind PuttingIn n o) (has_answer RemovingOut n h) q)
left-told ps p n (Accepted c ∷ h) i l names f q = left-told ps p n h i l.1 names f.1 q
left-told ps p n (Refused w ∷ h) i l names f q = left-told ps p n h i l.1 names f.1 q
