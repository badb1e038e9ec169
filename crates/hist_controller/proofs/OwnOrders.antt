-- What an order makes of the orders that wait.
use Rattle.std.proofs.Common.{◌≡◌, ℕ, ◌+◌, ◌≤◌, Bool, true, false, ◌==◌, not, ◌&&◌, ◌||◌, List, [], ◌∷◌, ◌++◌, ◌⊎◌, inl, inr, refl, sym, subst, ◌∙◌, ap, arith, if◌then◌else◌, append-nil}
use Rattle.std.specs.List.{list_any}
use Rattle.hist_controller.specs.Acts.{Way, Association, ControllerOrder, Read, Policy, PutIn, PutOut, RemoveIn, RemoveOut, ControllerAct, Ordered}
use Rattle.hist_controller.specs.Past.{queue, serials, is_read, directions, PuttingIn, PuttingOut, RemovingOut, is_kind, is_out_ordered, has_answer, is_ended, is_in_progress, inbound_put, left, last_if, newest_serial, is_own, is_busy}
use Rattle.hist_controller.specs.State.{association_of}
use Rattle.hist_controller.specs.Clauses.{Has, MayOrder, IsControllerPast}
use Rattle.hist_controller.specs.Own.{is_half_order, IsOf, is_awaited, OwnWaits, Owner, is_in_order}
use Rattle.hist_controller.proofs.Lists.{has-left, right-in}
use Rattle.hist_controller.proofs.KeptState.{eq-own}
use Rattle.hist_controller.proofs.Serials.{has-more, put-one, low, one, one-way}
use Rattle.hist_controller.proofs.Removed.{neither}
use Rattle.hist_controller.proofs.Befores.{has-queue, is-not, third-of-5}
use Rattle.hist_controller.proofs.Everything.{no-in}
use Rattle.hist_controller.proofs.Accepts.{placings}
use Rattle.hist_controller.proofs.Homes.{own-way}
use Rattle.hist_controller.proofs.Few.{busy-there}
use Rattle.hist_controller.proofs.Left.{progress-newest}
use Rattle.hist_controller.proofs.CountOrders.{count, none-count, grown-count}
use Rattle.hist_controller.proofs.Owners.{kept, own-of, own-half, same-owner, at-one, own-count, Orderly, move, equal}

pub record NewOwner (h : List ControllerAct) (g s n : ℕ) (o : ControllerOrder) : Type 0 where
  pub way : Way
  pub of : Has way (directions h)
  pub free : is_busy way h ≡ false
  pub waits : OwnWaits way (Ordered g s n o ∷ h) g o

put-there : (x : Association) (xs : List Association) → Has x (xs ++ (if x.way.id == x.way.id then x ∷ [] else []))
put-there x xs = right-in x xs (if x.way.id == x.way.id then x ∷ [] else []) (let q = eq-own x.way.id in rw q (inl refl))

new-in-put : (h : List ControllerAct) (g s n : ℕ) (x : Association) → MayOrder h g (PutIn x) → NewOwner h g s n (PutIn x)
new-in-put h g s n x m = record {
  way = x.way;
  of = m.of;
  free = m.free;
  waits = record {
    association = x;
    left = put-there x (left x.way h);
    of = refl;
    at = m.at;
    state = rw (eq-own x.serial) refl;
    newest =
        λ t. rw (eq-own x.way.id) refl;
  };
}

not-gone : (i s d r e : Bool) → e ≡ false → ((not s || i) && (not d || s) && (not r || (e && s))) ≡ true → r ≡ false
not-gone i s d r e t u = grind arith

out-put-state : (x : Association) (i s d r e a b : Bool) → (x.serial == x.serial) ≡ true → ((not e && not d) && not s && i && a && b) ≡ true
    → is_in_order (kept x i s d r e) ≡ true → is_awaited (PutOut x) (kept x i ((x.serial == x.serial) || s) d r e) ≡ true
out-put-state x i s d r e a b q t u =
    let v = not-gone i s d r e (no-end e d s i a b t) u in
    let w = no-answer e d s i a b t in
    rw (q, v, w.0, w.1) refl
  where
    no-end : (e d s i a b : Bool) → ((not e && not d) && not s && i && a && b) ≡ true → e ≡ false
    no-end e d s i a b t = grind arith

    no-answer : (e d s i a b : Bool) → ((not e && not d) && not s && i && a && b) ≡ true → (i ≡ true) × (d ≡ false)
    no-answer e d s i a b t = (grind arith, grind arith)

new-out-put : (p : ℕ) (h : List ControllerAct) → IsControllerPast p h → Orderly h → (g s n : ℕ) (x : Association) → MayOrder h g (PutOut x)
    → NewOwner h g s n (PutOut x)
new-out-put p h l c g s n x m = record {
  way = m.way;
  of = m.of;
  free = m.free;
  waits = record {
    association = x;
    left = has-left x (left m.way h) [] m.left;
    of = refl;
    at = m.at;
    state = out-put-state x (has_answer PuttingIn x.serial h) (is_out_ordered x.serial h) (has_answer PuttingOut x.serial h)
        (has_answer RemovingOut x.serial h) (is_ended x h) (is_read m.way.sender h) (is_read m.way.receiver h) (eq-own x.serial) m.may
        (c.sound m.way x m.left);
    newest = λ t. progress-newest p h l m.way x m.left (first (is_in_progress h x) (not (is_out_ordered x.serial h))
        (has_answer PuttingIn x.serial h) (is_read m.way.sender h) (is_read m.way.receiver h) m.may);
  };
}
  where
    first : (a b c d e : Bool) → (a && b && c && d && e) ≡ true → a ≡ true
    first true b c d e t = refl
    first false b c d e t = cc

new-in-removal : (h : List ControllerAct) (g s n k : ℕ) → MayOrder h g (RemoveIn k) → NewOwner h g s n (RemoveIn k)
new-in-removal h g s n k m = record {
  way = m.way;
  of = m.of;
  free = m.free;
  waits = record {
    association = m.association;
    left = has-left m.association (left m.way h) [] m.left;
    of = m.name;
    at = m.at;
    state = front-of (is_ended m.association h) (not (is_out_ordered m.association.serial h)
        || has_answer RemovingOut m.association.serial h) (is_read m.way.receiver h) m.may;
    newest = λ t. cc;
  };
}
  where
    front-of : (a b c : Bool) → (a && b && c) ≡ true → (a && b) ≡ true
    front-of true true c e = refl
    front-of true false c e = cc
    front-of false b c e = cc

new-out-removal : (h : List ControllerAct) (g s n k : ℕ) → MayOrder h g (RemoveOut k) → NewOwner h g s n (RemoveOut k)
new-out-removal h g s n k m = record {
  way = m.way;
  of = m.of;
  free = m.free;
  waits = record {
    association = m.association;
    left = has-left m.association (left m.way h) [] m.left;
    of = m.name;
    at = m.at;
    state = front-of (is_ended m.association h) (is_out_ordered m.association.serial h)
        (not (has_answer RemovingOut m.association.serial h)) (is_read m.way.sender h) m.may;
    newest = λ t. cc;
  };
}
  where
    front-of : (a b c d : Bool) → (a && b && c && d) ≡ true → (a && b && c) ≡ true
    front-of true true true d e = refl
    front-of true true false d e = cc
    front-of true false c d e = cc
    front-of false b c d e = cc

pub new-owner : (p : ℕ) (h : List ControllerAct) → IsControllerPast p h → Orderly h → (g s n : ℕ) (o : ControllerOrder) → MayOrder h g o
    → is_half_order o ≡ true → NewOwner h g s n o
new-owner p h l c g s n Read m t = cc
new-owner p h l c g s n (Policy q) m t = cc
new-owner p h l c g s n (PutIn x) m t = new-in-put h g s n x m
new-owner p h l c g s n (PutOut x) m t = new-out-put p h l c g s n x m
new-owner p h l c g s n (RemoveIn k) m t = new-in-removal h g s n k m
new-owner p h l c g s n (RemoveOut k) m t = new-out-removal h g s n k m

-- a direction for whose order another one waits gets none
waits-busy : (h : List ControllerAct) (d : Way) (f : ℕ) (o : ControllerOrder) → OwnWaits d h f o → Has o (queue f h) → is_busy d h ≡ false
    → ⊥
waits-busy h d f o w i b = busy-there h d w.association f o (own-of h d f o w) i (at-one d o f w.at) b

no-out-put : (p : ℕ) (h : List ControllerAct) → IsControllerPast p h → (g : ℕ) (z : ControllerOrder) → MayOrder h g z → (d : Way)
    → Has d (directions h) → (f : ℕ) (o : ControllerOrder) → (w : OwnWaits d h f o) → Has o (queue f h)
    → is_kind PuttingOut w.association.serial z ≡ false
no-out-put p h l g Read m d i f o w j = refl
no-out-put p h l g (Policy q) m d i f o w j = refl
no-out-put p h l g (PutIn y) m d i f o w j = refl
no-out-put p h l g (PutOut y) m d i f o w j = is-not (w.association.serial == y.serial) (λ t.
    let e = one p h l d m.way w.association y w.left m.left (equal w.association.serial y.serial t) in
    let a = own-way p h l d w.association i w.left in
    let b = own-way p h l m.way y m.of m.left in
    let q : d ≡ m.way = a ∙ (ap (λ (z : Association). z.way) e ∙ sym b) in
    waits-busy h d f o w j (ap (λ z. is_busy z h) q ∙ m.free))
no-out-put p h l g (RemoveIn n) m d i f o w j = refl
no-out-put p h l g (RemoveOut n) m d i f o w j = refl

newest-same : (h : List ControllerAct) (g : ℕ) (z : ControllerOrder) → MayOrder h g z → (d : Way) → Has d (directions h)
    → (f : ℕ) (o : ControllerOrder) → OwnWaits d h f o → Has o (queue f h) → last_if d z (newest_serial d h) ≡ newest_serial d h
newest-same h g Read m d i f o w j = refl
newest-same h g (Policy q) m d i f o w j = refl
newest-same h g (PutIn y) m d i f o w j = at (d.id == y.way.id) refl
  where
    at : (b : Bool) → (d.id == y.way.id) ≡ b → (if b then y.serial else newest_serial d h) ≡ newest_serial d h
    at true t = let q : d ≡ y.way = one-way h d y.way i m.of (grind arith) in
        absurd (waits-busy h d f o w j (ap (λ z. is_busy z h) q ∙ m.free))
    at false t = refl
newest-same h g (PutOut y) m d i f o w j = refl
newest-same h g (RemoveIn n) m d i f o w j = refl
newest-same h g (RemoveOut n) m d i f o w j = refl

ordered-state : (o : ControllerOrder) (x : Association) (i s d r e a b : Bool) → a ≡ false → b ≡ false
    → is_awaited o (kept x i s d r e) ≡ true → is_awaited o (kept x (not a && i) (not a && (b || s)) (not a && d) (not a && r) (not a && e))
    ≡ true
ordered-state o x i s d r e true b p q t = cc
ordered-state o x i s d r e false true p q t = cc
ordered-state o x i s d r e false false p q t = t

ordered-each : (p : ℕ) (h : List ControllerAct) (g s n : ℕ) (z : ControllerOrder) → IsControllerPast p h → MayOrder h g z → Orderly h
    → (f : ℕ) (o : ControllerOrder) → Has o (queue f h) ⊎ ((o ≡ z) × ((f == g) ≡ true)) → is_half_order o ≡ true
    → Owner (Ordered g s n z ∷ h) f o
ordered-each p h g s n z l m c f o (inl i) t =
    let k = c.each f o i t in
    let x : Association = k.waits.association in
    record {
      way = k.way;
      of = k.of;
      waits = move h (Ordered g s n z ∷ h) k.way f o k.waits
          (has-left x (left k.way h) (inbound_put k.way z) k.waits.left)
          (ordered-state o x (has_answer PuttingIn x.serial h) (is_out_ordered x.serial h) (has_answer PuttingOut x.serial h)
          (has_answer RemovingOut x.serial h) (is_ended x h) (is_kind PuttingIn x.serial z) (is_kind PuttingOut x.serial z)
          (no-in h g z x m (low p h l k.way x k.waits.left)) (no-out-put p h l g z m k.way k.of f o k.waits i) k.waits.state)
          (newest-same h g z m k.way k.of f o k.waits i);
    }
ordered-each p h g s n z l m c f o (inr i) t =
    let e : f ≡ g = let u = i.1 in grind arith in
    let t' : is_half_order z ≡ true = ap is_half_order (sym i.0) ∙ t in
    let k = new-owner p h l c g s n z m t' in
    let w : Owner (Ordered g s n z ∷ h) g z = record { way = k.way; of = k.of; waits = k.waits } in
    subst (λ y. Owner (Ordered g s n z ∷ h) f y) (sym i.0) (subst (λ y. Owner (Ordered g s n z ∷ h) y z) (sym e) w)

-- what is its own stays so
pub any-one : {A : Type 0} (p : A → Bool) (xs : List A) (x : A) → p x ≡ false → list_any p (xs ++ x ∷ []) ≡ list_any p xs
any-one p [] x e = rw e refl
any-one p (y ∷ ys) x e = ap (λ b. p y || b) (any-one p ys x e)

removal-same : (h : List ControllerAct) (x : Association) (b : Bool) (n : ℕ) (d : Way) → n ≤ serials h → x.serial ≡ serials h + 1
    → list_any (λ (y : Association). y.serial == n) (left d h ++ (if b then x ∷ [] else [])) ≡ list_any (λ (y : Association). y.serial == n)
    (left d h)
removal-same h x true n d e q = any-one (λ (y : Association). y.serial == n) (left d h) x (grind arith)
removal-same h x false n d e q = ap (list_any (λ (y : Association). y.serial == n)) (append-nil (left d h))

removal-low : (p : ℕ) (h : List ControllerAct) → IsControllerPast p h → (f : ℕ) (o : ControllerOrder) → Owner h f o → (n : ℕ)
    → ((w : Association) → IsOf w o → n ≡ w.serial) → n ≤ serials h
removal-low p h l f o k n q =
    let e = q k.waits.association k.waits.of in
    let a = low p h l k.way k.waits.association k.waits.left in
    omega arith

own-after-put : (p : ℕ) (h : List ControllerAct) → IsControllerPast p h → Orderly h → (x : Association) → x.serial ≡ serials h + 1
    → (d : Way) (b : Bool) (f : ℕ) (o : ControllerOrder) → Has o (queue f h) → is_own d (left d h ++ (if b then x ∷ [] else [])) o ≡ is_own
    d (left d h) o
own-after-put p h l c x e d b f Read i = refl
own-after-put p h l c x e d b f (Policy q) i = refl
own-after-put p h l c x e d b f (PutIn y) i = refl
own-after-put p h l c x e d b f (PutOut y) i = refl
own-after-put p h l c x e d b f (RemoveIn n) i =
    removal-same h x b n d (removal-low p h l f (RemoveIn n) (c.each f (RemoveIn n) i refl) n (λ w q. q)) e
own-after-put p h l c x e d b f (RemoveOut n) i =
    removal-same h x b n d (removal-low p h l f (RemoveOut n) (c.each f (RemoveOut n) i refl) n (λ w q. q)) e

own-with-none : (d : Way) (xs : List Association) (o : ControllerOrder) → is_own d (xs ++ []) o ≡ is_own d xs o
own-with-none d xs o = ap (λ ys. is_own d ys o) (append-nil xs)

pub own-same : (p : ℕ) (h : List ControllerAct) → IsControllerPast p h → Orderly h → (g : ℕ) (z : ControllerOrder) → MayOrder h g z
    → (d : Way) (f : ℕ) (o : ControllerOrder) → Has o (queue f h) → is_own d (left d h ++ inbound_put d z) o ≡ is_own d (left d h) o
own-same p h l c g Read m d f o i = own-with-none d (left d h) o
own-same p h l c g (Policy q) m d f o i = own-with-none d (left d h) o
own-same p h l c g (PutIn x) m d f o i = own-after-put p h l c x m.serial d (d.id == x.way.id) f o i
own-same p h l c g (PutOut x) m d f o i = own-with-none d (left d h) o
own-same p h l c g (RemoveIn n) m d f o i = own-with-none d (left d h) o
own-same p h l c g (RemoveOut n) m d f o i = own-with-none d (left d h) o

not-both : (s r g : ℕ) (a b : Bool) → (s == r) ≡ false → (s == g) ≡ a → (r == g) ≡ b
    → (if a && true then 1 else 0) + (if b && true then 1 else 0) ≤ 1
not-both s r g true true e t u = absurd (let w : (s == r) ≡ true = grind arith in let v : true ≡ false = sym w ∙ e in cc)
not-both s r g true false e t u = omega arith
not-both s r g false true e t u = omega arith
not-both s r g false false e t u = omega arith

none-added : (b : Bool) → ◌≡◌ {A = ℕ} (if b && false then 1 else 0) 0
none-added true = refl
none-added false = refl

ordered-few : (p : ℕ) (h : List ControllerAct) (g s n : ℕ) (z : ControllerOrder) → (l : IsControllerPast p (Ordered g s n z ∷ h))
    → Orderly h → (d : Way) → Has d (directions h) → own-count d (Ordered g s n z ∷ h) ≤ 1
ordered-few p h g s n z l c d i =
    let a = grown-count (is_own d (left d h ++ inbound_put d z)) (is_own d (left d h)) (queue d.sender h) z
    (own-same p h l.1 c g z l.0.3 d d.sender) (d.sender == g) in
    let b = grown-count (is_own d (left d h ++ inbound_put d z)) (is_own d (left d h)) (queue d.receiver h) z
    (own-same p h l.1 c g z l.0.3 d d.receiver) (d.receiver == g) in
    at (is_own d (left d h ++ inbound_put d z) z) refl a b
  where
    at : (t : Bool) → is_own d (left d h ++ inbound_put d z) z ≡ t
        → count (is_own d (left d h ++ inbound_put d z)) (if d.sender == g then queue d.sender h ++ z ∷ [] else queue d.sender h) ≡ count
        (is_own d (left d h)) (queue d.sender h) + (if (d.sender == g) && is_own d (left d h ++ inbound_put d z) z then 1 else 0)
        → count (is_own d (left d h ++ inbound_put d z)) (if d.receiver == g then queue d.receiver h ++ z ∷ [] else queue d.receiver h) ≡
        count (is_own d (left d h)) (queue d.receiver h) + (if (d.receiver == g) && is_own d (left d h ++ inbound_put d z) z then 1 else 0)
        → own-count d (Ordered g s n z ∷ h) ≤ 1
    at false t a b =
        let a' : count (is_own d (left d h ++ inbound_put d z)) (if d.sender == g then queue d.sender h ++ z ∷ [] else queue d.sender h) ≡
        count (is_own d (left d h)) (queue d.sender h) + (if (d.sender == g) && false then 1 else 0) = rw t at a in
        let b' : count (is_own d (left d h ++ inbound_put d z)) (if d.receiver == g then queue d.receiver h ++ z
        ∷ [] else queue d.receiver h) ≡ count (is_own d (left d h)) (queue d.receiver h) + (if (d.receiver == g)
        && false then 1 else 0) = rw t at b in
        let x = none-added (d.sender == g) in
        let y = none-added (d.receiver == g) in
        let k = c.few d i in
        omega arith
    at true t a b =
        let a' : count (is_own d (left d h ++ inbound_put d z)) (if d.sender == g then queue d.sender h ++ z ∷ [] else queue d.sender h) ≡
        count (is_own d (left d h)) (queue d.sender h) + (if (d.sender == g) && true then 1 else 0) = rw t at a in
        let b' : count (is_own d (left d h ++ inbound_put d z)) (if d.receiver == g then queue d.receiver h ++ z
        ∷ [] else queue d.receiver h) ≡ count (is_own d (left d h)) (queue d.receiver h) + (if (d.receiver == g)
        && true then 1 else 0) = rw t at b in
        let w = new-owner p h l.1 c g s n z l.0.3 (own-half d (left d h ++ inbound_put d z) z t) in
        let e : d ≡ w.way = same-owner p (Ordered g s n z ∷ h) l d w.way g z i w.of t w.waits in
        let f : is_busy d h ≡ false = ap (λ y. is_busy y h) e ∙ w.free in
        let q = neither (list_any (is_own d (left d h)) (queue d.sender h)) (list_any (is_own d (left d h)) (queue d.receiver h)) f in
        let x = none-count (is_own d (left d h)) (queue d.sender h) q.0 in
        let y = none-count (is_own d (left d h)) (queue d.receiver h) q.1 in
        let k = not-both d.sender d.receiver g (d.sender == g) (d.receiver == g) (placings p h l.1 d i).apart refl refl in
        omega arith

ordered-order : (x : Association) (i s d r e a b : Bool) → a ≡ false → (b ≡ true → i ≡ true) → is_in_order (kept x i s d r e) ≡ true
    → is_in_order (kept x (not a && i) (not a && (b || s)) (not a && d) (not a && r) (not a && e)) ≡ true
ordered-order x i s d r e true b p f t = cc
ordered-order x i s d r e false true p f t = let u : i ≡ true = f refl in put-order i s d r e u t
  where
    put-order : (i s d r e : Bool) → i ≡ true → ((not s || i) && (not d || s) && (not r || (e && s))) ≡ true
        → ((not true || i) && (not d || true) && (not r || (e && true))) ≡ true
    put-order i s d r e u t = grind arith
ordered-order x i s d r e false false p f t = t

in-was-answered : (p : ℕ) (h : List ControllerAct) → IsControllerPast p h → (g : ℕ) (z : ControllerOrder) → MayOrder h g z
    → (d : Way) (x : Association) → Has x (left d h) → is_kind PuttingOut x.serial z ≡ true → has_answer PuttingIn x.serial h ≡ true
in-was-answered p h l g Read m d x i t = cc
in-was-answered p h l g (Policy q) m d x i t = cc
in-was-answered p h l g (PutIn y) m d x i t = cc
in-was-answered p h l g (PutOut y) m d x i t =
    let e : x.serial ≡ y.serial = grind arith in
    ap (λ k. has_answer PuttingIn k h) e ∙ third-of-5 (is_in_progress h y) (not (is_out_ordered y.serial h))
    (has_answer PuttingIn y.serial h) (is_read m.way.sender h) (is_read m.way.receiver h) m.may
in-was-answered p h l g (RemoveIn n) m d x i t = cc
in-was-answered p h l g (RemoveOut n) m d x i t = cc

new-order : (x : Association) (i s d r e b : Bool) → (x.serial == x.serial) ≡ true
    → is_in_order (kept x (not (x.serial == x.serial) && i) (not (x.serial == x.serial) && (b || s)) (not (x.serial == x.serial) && d)
    (not (x.serial == x.serial) && r) (not (x.serial == x.serial) && e)) ≡ true
new-order x i s d r e b q = rw q refl

ordered-sound : (p : ℕ) (h : List ControllerAct) (g s n : ℕ) (z : ControllerOrder) → IsControllerPast p h → MayOrder h g z → Orderly h
    → (d : Way) (x : Association) → Has x (left d h) ⊎ Has x (inbound_put d z) → is_in_order (association_of (Ordered g s n z ∷ h) x) ≡ true
ordered-sound p h g s n z l m c d x (inl i) = ordered-order x (has_answer PuttingIn x.serial h) (is_out_ordered x.serial h)
    (has_answer PuttingOut x.serial h) (has_answer RemovingOut x.serial h) (is_ended x h) (is_kind PuttingIn x.serial z)
    (is_kind PuttingOut x.serial z) (no-in h g z x m (low p h l d x i)) (in-was-answered p h l g z m d x i) (c.sound d x i)
ordered-sound p h g s n z l m c d x (inr i) =
    subst (λ y. is_in_order (association_of (Ordered g s n y ∷ h) x) ≡ true) (sym (put-one d x z i).0)
    (new-order x (has_answer PuttingIn x.serial h) (is_out_ordered x.serial h) (has_answer PuttingOut x.serial h)
    (has_answer RemovingOut x.serial h) (is_ended x h) false (eq-own x.serial))

pub orderly-ordered : (p : ℕ) (h : List ControllerAct) (g s n : ℕ) (z : ControllerOrder) → IsControllerPast p (Ordered g s n z ∷ h)
    → Orderly h → Orderly (Ordered g s n z ∷ h)
orderly-ordered p h g s n z l c =
    record {
      each = λ f o i t. ordered-each p h g s n z l.1 l.0.3 c f o (has-queue (f == g) (queue f h) z o i) t;
      few = λ d i. ordered-few p h g s n z l c d i;
      sound = λ d x i. ordered-sound p h g s n z l.1 l.0.3 c d x (has-more x (left d h) (inbound_put d z) i);
    }
