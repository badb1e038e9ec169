-- Each order of the controller may be given in the world.
use Rattle.std.proofs.Common.{◌≡◌, ℕ, ◌+◌, ◌-◌, ◌<◌, ◌≤◌, ◌^◌, Bool, true, false, ◌==◌, not, ◌||◌, List, [], ◌∷◌, ◌++◌, length, decimal, Some, refl, sym, ◌∙◌, ap, subst, inl, inr, ◌⊎◌, arith, if◌then◌else◌}
use Rattle.std.proofs.lemmas.Bool.{or_right, or_left, false_from_ne_true}
use Rattle.std.specs.Str.{bytes_eq}
use Rattle.ikl_base.specs.Address.{AreOneFamily}
use Rattle.ikeless_tree.specs.declared.command.Peer.{Peer}
use Rattle.ikeless_tree.specs.Half.{in_name, out_name, aes_part, in_half, out_half}
use Rattle.hist_controller.specs.Acts.{Association, ControllerOrder, Read, Policy, PutIn, PutOut, RemoveIn, RemoveOut, ControllerAct, Opened, Cut, Answered, Heard, Ordered, Accepted, Refused}
use Rattle.hist_controller.specs.Past.{keys, is_out_ordered, has_answer, is_ended, is_read, PuttingIn, PuttingOut, is_kind}
use Rattle.hist_controller.specs.Clauses.{IsControllerPast}
use Rattle.hist_controller.specs.Machine.{place}
use Rattle.hist_controller.specs.Orders.{WasOrdered, was_ordered}
use Rattle.hist_controller.specs.Table.{AllFit}
use Rattle.hist_controller.specs.Told.{Named, peer_address, in_entry, out_entry, peer_name, order_told, past_told}
use Rattle.hist_controller.proofs.Accepts.{apart, few-keys, few-serials, placings}
use Rattle.hist_controller.proofs.Befores.{before, not-ended}
use Rattle.hist_controller.proofs.Homes.{in-home, in-removal, out-home, out-removal}
use Rattle.hist_controller.proofs.Often.{keyed}
use Rattle.hist_safety.specs.Law as law
use Rattle.hist_safety.specs.Orders as world
use Rattle.hist_safety.proofs.Basics.{no, name-is, self}
use Rattle.hist_world.proofs.Told.{in-doomed, in-half, in-order, in-ordered, inbound-given, inbounds-told, left-told, made-told, out-half, out-ordered, out-site}

-- ---- keys

pub place-more : {A : Type 0} (i : ℕ) (ks more : List A) (k : A) → place i ks ≡ Some k → place i (ks ++ more) ≡ Some k
place-more i [] more k e = cc
place-more {A = A} i (x ∷ ks) more k e = place-cons (i == 0) i x ks more k (place-more (i - 1) ks more k) e where
  place-cons : (b : Bool) (i : ℕ) (x : A) (ks more : List A) (k : A) → (place (i - 1) ks ≡ Some k → place (i - 1) (ks ++ more) ≡ Some k)
      → (if b then Some x else place (i - 1) ks) ≡ Some k → (if b then Some x else place (i - 1) (ks ++ more)) ≡ Some k
  place-cons true i x ks more k ih e = e
  place-cons false i x ks more k ih e = ih e

-- an inbound put has the key whose place its serial is
given-key : (p : ℕ) (g : ℕ) (y : Association) (h : List ControllerAct) → IsControllerPast p h → WasOrdered (PutIn y) g h
    → place (y.serial - 1) (keys h) ≡ Some y.key
given-key p g y [] l e = absurd e
given-key p g y (Opened f s ∷ h) l e = given-key p g y h l.1 e
given-key p g y (Cut f s ∷ h) l e = given-key p g y h l.1 e
given-key p g y (Answered f s k a ∷ h) l e = given-key p g y h l.1 e
given-key p g y (Heard f s t ∷ h) l e = given-key p g y h l.1 e
given-key p g y (Accepted c ∷ h) l e = place-more (y.serial - 1) (keys h) _ y.key (given-key p g y h l.1 e)
given-key p g y (Refused w ∷ h) l e = given-key p g y h l.1 e
given-key p g y (Ordered f s k o ∷ h) l (inr e) = given-key p g y h l.1 e
given-key p g y (Ordered f s k Read ∷ h) l (inl e) = let r : PutIn y ≡ Read = e.0 in absurd (grind (arith, r))
given-key p g y (Ordered f s k (Policy list) ∷ h) l (inl e) = let r : PutIn y ≡ Policy list = e.0 in absurd (grind (arith, r))
given-key p g y (Ordered f s k (PutIn z) ∷ h) l (inl e) =
    let r : PutIn y ≡ PutIn z = e.0 in
    let q : y ≡ z = grind (arith, r) in
    subst (λ (v : Association). place (v.serial - 1) (keys h) ≡ Some v.key) (sym q) ((keyed p (Ordered f s k (PutIn z) ∷ h) l).all.0)
given-key p g y (Ordered f s k (PutOut z) ∷ h) l (inl e) = let r : PutIn y ≡ PutOut z = e.0 in absurd (grind (arith, r))
given-key p g y (Ordered f s k (RemoveIn m) ∷ h) l (inl e) = let r : PutIn y ≡ RemoveIn m = e.0 in absurd (grind (arith, r))
given-key p g y (Ordered f s k (RemoveOut m) ∷ h) l (inl e) = let r : PutIn y ≡ RemoveOut m = e.0 in absurd (grind (arith, r))

-- an association that was put with this AES part
abbrev UsesKey : List ℕ → List ControllerAct → Type 0
UsesKey part h = (x : Association) × WasOrdered (PutIn x) x.way.receiver h × (aes_part x.key ≡ part)

uses-older : (part : List ℕ) (g s k : ℕ) (o : ControllerOrder) (h : List ControllerAct) → UsesKey part h
    → UsesKey part (Ordered g s k o ∷ h)
uses-older part g s k o h u = (u.0, inr u.1, u.2)

uses-case : {A : Type 0} (b c : Bool) → (b ≡ true → A) → (c ≡ true → A) → (b || c) ≡ true → A
uses-case true c p q e = p refl
uses-case false c p q e = q e

uses-key : (ps : List Peer) (p : ℕ) (part : List ℕ) (h : List ControllerAct) → IsControllerPast p h
    → world.is_key_used part (past_told ps h) ≡ true → UsesKey part h
uses-key ps p part [] l e = absurd (no e)
uses-key ps p part (Opened g s ∷ h) l e = uses-key ps p part h l.1 e
uses-key ps p part (Cut g s ∷ h) l e = uses-key ps p part h l.1 e
uses-key ps p part (Answered g s k a ∷ h) l e = uses-key ps p part h l.1 e
uses-key ps p part (Heard g s t ∷ h) l e = uses-key ps p part h l.1 e
uses-key ps p part (Accepted c ∷ h) l e = uses-key ps p part h l.1 e
uses-key ps p part (Refused w ∷ h) l e = uses-key ps p part h l.1 e
uses-key ps p part (Ordered g s k Read ∷ h) l e = uses-older part g s k Read h (uses-key ps p part h l.1 e)
uses-key ps p part (Ordered g s k (Policy list) ∷ h) l e = uses-older part g s k (Policy list) h (uses-key ps p part h l.1 e)
uses-key ps p part (Ordered g s k (PutIn y) ∷ h) l e =
    uses-case {A = UsesKey part (Ordered g s k (PutIn y) ∷ h)} (bytes_eq (aes_part y.key) part) (world.is_key_used part (past_told ps h))
    (λ q. (y, inl (refl, sym l.0.3.at), name-is (aes_part y.key) part q))
    (λ q. uses-older part g s k (PutIn y) h (uses-key ps p part h l.1 q)) e
uses-key ps p part (Ordered g s k (PutOut y) ∷ h) l e =
    uses-case {A = UsesKey part (Ordered g s k (PutOut y) ∷ h)} (bytes_eq (aes_part y.key) part) (world.is_key_used part (past_told ps h))
    (λ q. (y, (out-home p (Ordered g s k (PutOut y) ∷ h) l g y (inl (refl, refl))).1, name-is (aes_part y.key) part q))
    (λ q. uses-older part g s k (PutOut y) h (uses-key ps p part h l.1 q)) e
uses-key ps p part (Ordered g s k (RemoveIn m) ∷ h) l e = uses-older part g s k (RemoveIn m) h (uses-key ps p part h l.1 e)
uses-key ps p part (Ordered g s k (RemoveOut m) ∷ h) l e = uses-older part g s k (RemoveOut m) h (uses-key ps p part h l.1 e)

fresh-key : (ps : List Peer) (p g s k : ℕ) (x : Association) (h : List ControllerAct) → IsControllerPast p (Ordered g s k (PutIn x) ∷ h)
    → world.is_key_used (aes_part x.key) (past_told ps h) ≡ false
fresh-key ps p g s k x h l = false_from_ne_true (world.is_key_used (aes_part x.key) (past_told ps h)) (λ q.
    let u = uses-key ps p (aes_part x.key) h l.1 q in
    let low = (in-home p h l.1 u.0.way.receiver u.0 u.1).low in
    let old = given-key p u.0.way.receiver u.0 h l.1 u.1 in
    let new = (keyed p (Ordered g s k (PutIn x) ∷ h) l).all.0 in
    let same = apart p h l.1 (u.0.serial - 1) (x.serial - 1) u.0.key x.key old new u.2 in
    let at = l.0.3.serial in
    let one = at-least p h l.1 u.0 u.1 in
    omega (arith, low, same, at, one)) where
      at-least : (p : ℕ) (h : List ControllerAct) → IsControllerPast p h → (y : Association) → WasOrdered (PutIn y) y.way.receiver h
          → 1 ≤ y.serial
      at-least p [] l y e = absurd e
      at-least p (Opened f s ∷ h) l y e = at-least p h l.1 y e
      at-least p (Cut f s ∷ h) l y e = at-least p h l.1 y e
      at-least p (Answered f s k a ∷ h) l y e = at-least p h l.1 y e
      at-least p (Heard f s t ∷ h) l y e = at-least p h l.1 y e
      at-least p (Accepted c ∷ h) l y e = at-least p h l.1 y e
      at-least p (Refused w ∷ h) l y e = at-least p h l.1 y e
      at-least p (Ordered f s k o ∷ h) l y (inr e) = at-least p h l.1 y e
      at-least p (Ordered f s k Read ∷ h) l y (inl e) = let r : PutIn y ≡ Read = e.0 in absurd (grind (arith, r))
      at-least p (Ordered f s k (Policy list) ∷ h) l y (inl e) = let r : PutIn y ≡ Policy list = e.0 in absurd (grind (arith, r))
      at-least p (Ordered f s k (PutIn z) ∷ h) l y (inl e) =
          let r : PutIn y ≡ PutIn z = e.0 in
          let q : y ≡ z = grind (arith, r) in
          let n = l.0.3.serial in
          subst (λ (v : Association). 1 ≤ v.serial) (sym q) (omega (arith, n))
      at-least p (Ordered f s k (PutOut z) ∷ h) l y (inl e) = let r : PutIn y ≡ PutOut z = e.0 in absurd (grind (arith, r))
      at-least p (Ordered f s k (RemoveIn m) ∷ h) l y (inl e) = let r : PutIn y ≡ RemoveIn m = e.0 in absurd (grind (arith, r))
      at-least p (Ordered f s k (RemoveOut m) ∷ h) l y (inl e) = let r : PutIn y ≡ RemoveOut m = e.0 in absurd (grind (arith, r))

-- ---- which halves were put

given-in : (g : ℕ) (x : Association) (h : List ControllerAct) → WasOrdered (PutIn x) g h → was_ordered PuttingIn x.serial h ≡ true
given-in g x [] e = absurd e
given-in g x (Opened f s ∷ h) e = given-in g x h e
given-in g x (Cut f s ∷ h) e = given-in g x h e
given-in g x (Answered f s k a ∷ h) e = given-in g x h e
given-in g x (Heard f s t ∷ h) e = given-in g x h e
given-in g x (Accepted c ∷ h) e = given-in g x h e
given-in g x (Refused w ∷ h) e = given-in g x h e
given-in g x (Ordered f s k o ∷ h) (inl e) = or_left (is_kind PuttingIn x.serial o) (was_ordered PuttingIn x.serial h)
    (subst (λ (z : ControllerOrder). is_kind PuttingIn x.serial z ≡ true) e.0 (self x.serial))
given-in g x (Ordered f s k o ∷ h) (inr e) = or_right (is_kind PuttingIn x.serial o) (was_ordered PuttingIn x.serial h) (given-in g x h e)

given-out : (g : ℕ) (x : Association) (h : List ControllerAct) → WasOrdered (PutOut x) g h → was_ordered PuttingOut x.serial h ≡ true
given-out g x [] e = absurd e
given-out g x (Opened f s ∷ h) e = given-out g x h e
given-out g x (Cut f s ∷ h) e = given-out g x h e
given-out g x (Answered f s k a ∷ h) e = given-out g x h e
given-out g x (Heard f s t ∷ h) e = given-out g x h e
given-out g x (Accepted c ∷ h) e = given-out g x h e
given-out g x (Refused w ∷ h) e = given-out g x h e
given-out g x (Ordered f s k o ∷ h) (inl e) = or_left (is_kind PuttingOut x.serial o) (was_ordered PuttingOut x.serial h)
    (subst (λ (z : ControllerOrder). is_kind PuttingOut x.serial z ≡ true) e.0 (self x.serial))
given-out g x (Ordered f s k o ∷ h) (inr e) = or_right (is_kind PuttingOut x.serial o) (was_ordered PuttingOut x.serial h)
    (given-out g x h e)

-- ---- the orders

-- any two gateways have addresses of one family
abbrev pub Family : List Peer → Type 0
Family ps = (f g : ℕ) → f < length ps → g < length ps → AreOneFamily (peer_address ps f) (peer_address ps g)

may-put-in : (ps : List Peer) (g s k : ℕ) (x : Association) (h : List ControllerAct) → IsControllerPast (length ps) (Ordered g s k (PutIn x)
    ∷ h) → Family ps → law.PutInMayHappen (in_entry ps x) (past_told ps h)
may-put-in ps g s k x h l family =
    let all : List ControllerAct = Ordered g s k (PutIn x) ∷ h in
    let many = inbounds-told ps h in
    let at = l.0.3.serial in
    let n : x.serial ≡ world.inbounds (past_told ps h) + 1 = at ∙ ap (λ (z : ℕ). z + 1) (sym many) in
    let a = few-serials (length ps) all l in
    let b = few-keys (length ps) h l.1 in
    let w = placings (length ps) h l.1 x.way l.0.3.of in
    record {
      name = in-half x.serial ∙ ap (λ (z : ℕ). in_half (decimal z)) n;
      few = omega (arith, a, b, many);
      spi = ap (λ (z : ℕ). 256 + z) n;
      key = fresh-key ps (length ps) g s k x h l;
      ends = family x.way.receiver x.way.sender w.receiver w.sender;
    }

older-in : (x : Association) (g f s k : ℕ) (o : ControllerOrder) (h : List ControllerAct) → (PutIn x ≡ o → ⊥)
    → WasOrdered (PutIn x) g (Ordered f s k o ∷ h) → WasOrdered (PutIn x) g h
older-in x g f s k o h q (inl e) = absurd (q e.0)
older-in x g f s k o h q (inr e) = e

older-out : (x : Association) (g f s k : ℕ) (o : ControllerOrder) (h : List ControllerAct) → (PutOut x ≡ o → ⊥)
    → WasOrdered (PutOut x) g (Ordered f s k o ∷ h) → WasOrdered (PutOut x) g h
older-out x g f s k o h q (inl e) = absurd (q e.0)
older-out x g f s k o h q (inr e) = e

may-put-out : (ps : List Peer) (g s k : ℕ) (x : Association) (h : List ControllerAct)
    → IsControllerPast (length ps) (Ordered g s k (PutOut x) ∷ h) → Named ps → AllFit (length ps) h
    → law.PutOutMayHappen (peer_name ps g) (out_entry ps x) (past_told ps h)
may-put-out ps g s k x h l names f =
    let all : List ControllerAct = Ordered g s k (PutOut x) ∷ h in
    let t = past_told ps h in
    let out = out-home (length ps) all l g x (inl (refl, refl)) in
    let put : WasOrdered (PutIn x) x.way.receiver h = older-in x x.way.receiver g s k (PutOut x) h (λ e. grind (arith, e)) out.1 in
    let low = inbound-given ps (length ps) x h l.1 put in
    let o = in-order ps (length ps) x h low l.1 put in
    let b = before (length ps) h g (PutOut x) l.1 l.0.3 in
    let w = placings (length ps) h l.1 x.way (in-home (length ps) h l.1 x.way.receiver x put).known in
    let e = not-ended (is_ended x h) (not (has_answer PuttingOut x.serial h)) (not (is_out_ordered x.serial h))
    (has_answer PuttingIn x.serial h) (is_read l.0.3.way.sender h) (is_read l.0.3.way.receiver h) l.0.3.may in
    let i = in-half x.serial in
    let far : bytes_eq (peer_name ps x.way.receiver) (peer_name ps g) ≡ false =
    ap (λ (z : ℕ). bytes_eq (peer_name ps x.way.receiver) (peer_name ps z)) out.0 ∙ names x.way.receiver x.way.sender w.receiver w.sender
    ∙ w.apart in
    record {
      serial = decimal x.serial;
      name = out-half x.serial;
      once = ap (λ (z : List ℕ). world.was_order_given z t) (sym (out-half x.serial)) ∙ out-ordered ps (length ps) x.serial h low l.1 ∙ b.1;
      inbound = in_entry ps x;
      order = ap (λ (z : List ℕ). world.order_of z t) (sym i) ∙ o.order;
      key = refl;
      spi = refl;
      selector = refl;
      local = refl;
      remote = refl;
      elsewhere = ap (λ (z : List ℕ). bytes_eq (world.site z t) (peer_name ps g)) (sym i) ∙ ap (λ (z : List ℕ). bytes_eq z (peer_name ps g))
          o.site ∙ far;
      made = ap (λ (z : List ℕ). world.is_put_accepted z t) (sym i) ∙ made-told ps (length ps) x.serial x h low refl l.1 names f b.0 e;
      stays = ap (λ (z : List ℕ). world.is_removal_ordered z t) (sym i) ∙ in-doomed ps (length ps) x.serial h low l.1 ∙ b.2;
    }

may-remove-in : (ps : List Peer) (g s k n : ℕ) (h : List ControllerAct) → IsControllerPast (length ps) (Ordered g s k (RemoveIn n) ∷ h)
    → Named ps → AllFit (length ps) h
    → law.RemoveInMayHappen (peer_name ps g) (in_name n) (past_told ps h)
may-remove-in ps g s k n h l names f =
    let all : List ControllerAct = Ordered g s k (RemoveIn n) ∷ h in
    let t = past_told ps h in
    let r = in-removal (length ps) all l g n (inl (refl, refl)) in
    let x = r.0 in
    let put : WasOrdered (PutIn x) g h = older-in x g g s k (RemoveIn n) h (λ e. grind (arith, e)) r.2 in
    let at = (in-home (length ps) h l.1 g x put).at in
    let there : WasOrdered (PutIn x) x.way.receiver h = subst (λ (z : ℕ). WasOrdered (PutIn x) z h) at put in
    let low0 = inbound-given ps (length ps) x h l.1 there in
    let low : n < 2 ^ 64 = subst (λ (z : ℕ). z < 2 ^ 64) (sym r.1) low0 in
    let o = in-order ps (length ps) x h low0 l.1 there in
    let order : world.was_order_given (in_name n) t ≡ true = in-ordered ps (length ps) n h low l.1
    ∙ ap (λ (z : ℕ). was_ordered PuttingIn z h) r.1 ∙ given-in g x h put in
    let here : peer_name ps g ≡ world.site (in_name n) t = ap (peer_name ps) at ∙ sym o.site
    ∙ ap (λ (z : ℕ). world.site (in_name z) t) (sym r.1) in
    let Q : Type 0 = (world.was_order_given (out_half (decimal n)) t ≡ false) ⊎ (world.is_removal_answered (out_half (decimal n)) t ≡ true)
    in
    let last : Q = elim (before (length ps) h g (RemoveIn n) l.1 l.0.3) as (λ z. Q) [
      | inl a ↦ inl (ap (λ (z : List ℕ). world.was_order_given z t) (sym (out-half n)) ∙ out-ordered ps (length ps) n h low l.1 ∙ a)
      | inr a ↦ inr (ap (λ (z : List ℕ). world.is_removal_answered z t) (sym (out-half n)) ∙ left-told ps (length ps) n h low l.1 names f a)
    ] in
    record { serial = decimal n; name = in-half n; order = order; here = here; last = last }

may-remove-out : (ps : List Peer) (g s k n : ℕ) (h : List ControllerAct) → IsControllerPast (length ps) (Ordered g s k (RemoveOut n) ∷ h)
    → law.RemoveOutMayHappen (peer_name ps g) (out_name n) (past_told ps h)
may-remove-out ps g s k n h l =
    let all : List ControllerAct = Ordered g s k (RemoveOut n) ∷ h in
    let t = past_told ps h in
    let r = out-removal (length ps) all l g n (inl (refl, refl)) in
    let x = r.0 in
    let put : WasOrdered (PutOut x) g h = older-out x g g s k (RemoveOut n) h (λ e. grind (arith, e)) r.2 in
    let home = out-home (length ps) h l.1 g x put in
    let low0 = inbound-given ps (length ps) x h l.1 home.1 in
    let low : n < 2 ^ 64 = subst (λ (z : ℕ). z < 2 ^ 64) (sym r.1) low0 in
    let order : world.was_order_given (out_name n) t ≡ true = out-ordered ps (length ps) n h low l.1
    ∙ ap (λ (z : ℕ). was_ordered PuttingOut z h) r.1 ∙ given-out g x h put in
    let here : peer_name ps g ≡ world.site (out_name n) t = sym (out-site ps (length ps) g x h low0 l.1 put)
    ∙ ap (λ (z : ℕ). world.site (out_name z) t) (sym r.1) in
    record { serial = decimal n; name = out-half n; order = order; here = here }

-- each order may be given after the controller's acts as a transcript tells them
pub order-may : (ps : List Peer) (g s k : ℕ) (o : ControllerOrder) (h : List ControllerAct)
    → IsControllerPast (length ps) (Ordered g s k o ∷ h) → Named ps → AllFit (length ps) h → Family ps
    → law.OrderMayHappen (peer_name ps g) (order_told ps o) (past_told ps h)
order-may ps g s k Read h l names f family = tt
order-may ps g s k (Policy list) h l names f family = tt
order-may ps g s k (PutIn x) h l names f family = inl (may-put-in ps g s k x h l family)
order-may ps g s k (PutOut x) h l names f family = inr (may-put-out ps g s k x h l names f)
order-may ps g s k (RemoveIn n) h l names f family = inl (may-remove-in ps g s k n h l names f)
order-may ps g s k (RemoveOut n) h l names f family = inr (may-remove-out ps g s k n h l)
