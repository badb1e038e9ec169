-- An association that is not ended waits for an answer to its next put, or its outbound put was answered.
use Rattle.std.proofs.Common.{◌≡◌, ℕ, ◌<◌, Bool, true, false, ◌==◌, not, ◌&&◌, ◌||◌, nat_le, nat_lt, List, [], ◌∷◌, ◌++◌, Option, Some, None, ◌⊎◌, inl, inr, refl, sym, subst, ◌∙◌, ap, arith, if◌then◌else◌}
use Rattle.std.proofs.lemmas.Bool.{or_cases, lt-ltb}
use Rattle.std.specs.List.{filter, list_any}
use Rattle.ikeless_tree.specs.declared.order.Answer.{Answer}
use Rattle.hist_controller.specs.Acts.{Way, Association, ControllerOrder, Read, Policy, PutIn, PutOut, RemoveIn, RemoveOut, ControllerAct, Opened, Cut, Answered, Heard, Ordered, Accepted, Refused}
use Rattle.hist_controller.specs.Past.{is_open, oldest, rest, queue, Kind, PuttingIn, PuttingOut, RemovingIn, is_kind, is_answer_to, is_out_ordered, has_answer, is_spoiled, is_ended, is_end_of, inbound_put, left}
use Rattle.hist_controller.specs.Clauses.{Has, MayOrder, IsControllerPast, MayOrderInPut}
use Rattle.hist_controller.specs.Orders.{WasOrdered}
use Rattle.hist_controller.specs.Halves.{is_plain, PlainAnswers}
use Rattle.hist_controller.proofs.Lists.{has-left}
use Rattle.hist_controller.proofs.Bools.{or-right}
use Rattle.hist_controller.proofs.KeptState.{eq-own}
use Rattle.hist_controller.proofs.Serials.{has-more, has-filter, has-if, put-one, put-serial, of-way, low, one}
use Rattle.hist_controller.proofs.Befores.{has-queue, has-rest, has-none, any-yes}
use Rattle.hist_controller.proofs.Removed.{neither}
use Rattle.hist_controller.proofs.Everything.{no-in}
use Rattle.hist_controller.proofs.Homes.{lefts, own-way, out-home, one-put}

-- ## what waits in a queue

shut-opened : (b : Bool) (q : List ControllerOrder) (o : Bool) → (b || o) ≡ false → (o ≡ false → q ≡ []) → (if b then [] else q) ≡ []
shut-opened true q o e f = refl
shut-opened false q o e f = f e

shut-cut : (b : Bool) (q : List ControllerOrder) (o : Bool) → (not b && o) ≡ false → (o ≡ false → q ≡ []) → (if b then [] else q) ≡ []
shut-cut true q o e f = refl
shut-cut false q o e f = f e

shut-answered : (b : Bool) (q : List ControllerOrder) → q ≡ [] → (if b then rest q else q) ≡ []
shut-answered true q e = rw e refl
shut-answered false q e = e

shut-ordered : (p : ℕ) (h : List ControllerAct) (g f : ℕ) (z : ControllerOrder) (b : Bool) → (g == f) ≡ b → is_open f h ≡ true
    → is_open g h ≡ false → queue g h ≡ [] → (if b then queue g h ++ z ∷ [] else queue g h) ≡ []
shut-ordered p h g f z true t o e q = let w : g ≡ f = grind arith in let u : is_open g h ≡ true = rw w o in
    absurd (let v : true ≡ false = sym u ∙ e in cc)
shut-ordered p h g f z false t o e q = q

-- a shut session has no waiting order
pub shut-queue : (p : ℕ) (h : List ControllerAct) (g : ℕ) → IsControllerPast p h → is_open g h ≡ false → queue g h ≡ []
shut-queue p [] g l e = refl
shut-queue p (Opened f s ∷ h) g l e = shut-opened (g == f) (queue g h) (is_open g h) e (λ t. shut-queue p h g l.1 t)
shut-queue p (Cut f s ∷ h) g l e = shut-cut (g == f) (queue g h) (is_open g h) e (λ t. shut-queue p h g l.1 t)
shut-queue p (Answered f s n a ∷ h) g l e = shut-answered (g == f) (queue g h) (shut-queue p h g l.1 e)
shut-queue p (Heard f s t ∷ h) g l e = shut-queue p h g l.1 e
shut-queue p (Ordered f s n o ∷ h) g l e = shut-ordered p h g f o (g == f) refl l.0.2 e (shut-queue p h g l.1 e)
shut-queue p (Accepted c ∷ h) g l e = shut-queue p h g l.1 e
shut-queue p (Refused w ∷ h) g l e = shut-queue p h g l.1 e

opened-keeps : (h : List ControllerAct) (f g : ℕ) (o : ControllerOrder) (b : Bool) → (f == g) ≡ b → queue g h ≡ [] → Has o (queue f h)
    → Has o (if b then [] else queue f h)
opened-keeps h f g o true t e i = let w : f ≡ g = grind arith in subst (Has o) (ap (λ z. queue z h) w ∙ e) i
opened-keeps h f g o false t e i = i

cut-keeps : (h : List ControllerAct) (f g : ℕ) (o : ControllerOrder) (p : ControllerOrder → Bool) (b : Bool) → (f == g) ≡ b → p o ≡ true
    → list_any p (queue g h) ≡ false → Has o (queue f h) → Has o (if b then [] else queue f h)
cut-keeps h f g o p true t y e i = let w : f ≡ g = grind arith in absurd (any-yes p (queue g h) o (subst (λ z. Has o (queue z h)) w i) y e)
cut-keeps h f g o p false t y e i = i

rest-has : (q : List ControllerOrder) (o : ControllerOrder) (k : Kind) (n : ℕ) → is_kind k n o ≡ true → is_answer_to k n (oldest q) ≡ false
    → Has o q → Has o (rest q)
rest-has [] o k n y e i = i
rest-has (z ∷ q) o k n y e (inl w) = absurd (let u : true ≡ false = sym y ∙ (ap (is_kind k n) w ∙ e) in cc)
rest-has (z ∷ q) o k n y e (inr i) = i

answered-keeps : (h : List ControllerAct) (f g : ℕ) (o : ControllerOrder) (k : Kind) (n : ℕ) (b : Bool) → (f == g) ≡ b
    → is_kind k n o ≡ true → is_answer_to k n (oldest (queue g h)) ≡ false → Has o (queue f h)
    → Has o (if b then rest (queue f h) else queue f h)
answered-keeps h f g o k n true t y e i = let w : f ≡ g = grind arith in rest-has (queue f h) o k n y (rw w e) i
answered-keeps h f g o k n false t y e i = i

grown-keeps : (b : Bool) (q : List ControllerOrder) (z o : ControllerOrder) → Has o q → Has o (if b then q ++ z ∷ [] else q)
grown-keeps true q z o i = has-left o q (z ∷ []) i
grown-keeps false q z o i = i

last-has : (q : List ControllerOrder) (z : ControllerOrder) → Has z (q ++ z ∷ [])
last-has [] z = inl refl
last-has (x ∷ q) z = inr (last-has q z)

new-waits : (h : List ControllerAct) (g f s n : ℕ) (z : ControllerOrder) → f ≡ g → Has z (queue f (Ordered g s n z ∷ h))
new-waits h g f s n z e = let b : (f == g) ≡ true = grind arith in rw b (last-has (queue f h) z)

-- what waits was given
pub queue-given : (h : List ControllerAct) (g : ℕ) (o : ControllerOrder) → Has o (queue g h) → WasOrdered o g h
queue-given [] g o i = i
queue-given (Opened f s ∷ h) g o i = queue-given h g o (has-none (g == f) (queue g h) o i)
queue-given (Cut f s ∷ h) g o i = queue-given h g o (has-none (g == f) (queue g h) o i)
queue-given (Answered f s n a ∷ h) g o i = queue-given h g o (has-rest (g == f) (queue g h) o i)
queue-given (Heard f s t ∷ h) g o i = queue-given h g o i
queue-given (Ordered f s n z ∷ h) g o i = elim (has-queue (g == f) (queue g h) z o i) as (λ q. WasOrdered o g (Ordered f s n z ∷ h)) [
  | inl j ↦ inr (queue-given h g o j)
  | inr j ↦ let t = j.1 in inl (j.0, grind arith)
]
queue-given (Accepted c ∷ h) g o i = queue-given h g o i
queue-given (Refused w ∷ h) g o i = queue-given h g o i

pub oldest-has : (q : List ControllerOrder) (o : ControllerOrder) → oldest q ≡ Some o → Has o q
oldest-has [] o e = cc
oldest-has (x ∷ q) o e = let w : o ≡ x = cc in inl w

-- ## what an association that is not ended waits for

pub record Awaited (h : List ControllerAct) : Type 0 where
  pub inbound : (d : Way) (x : Association) → Has x (left d h) → is_ended x h ≡ false → has_answer PuttingIn x.serial h ≡ false
      → Has (PutIn x) (queue x.way.receiver h)
  pub outbound : (d : Way) (x : Association) → Has x (left d h) → is_ended x h ≡ false → is_out_ordered x.serial h ≡ true
      → has_answer PuttingOut x.serial h ≡ false → Has (PutOut x) (queue x.way.sender h)

-- and where each put is answered with 201 or refused, only the newest one is put whole and not ended
pub record Waits (h : List ControllerAct) : Type 0 where
  pub inbound : (d : Way) (x : Association) → Has x (left d h) → is_ended x h ≡ false → has_answer PuttingIn x.serial h ≡ false
      → Has (PutIn x) (queue x.way.receiver h)
  pub outbound : (d : Way) (x : Association) → Has x (left d h) → is_ended x h ≡ false → is_out_ordered x.serial h ≡ true
      → has_answer PuttingOut x.serial h ≡ false → Has (PutOut x) (queue x.way.sender h)
  pub replaced : (d : Way) (x y : Association) → Has x (left d h) → Has y (left d h) → x.serial < y.serial
      → has_answer PuttingOut y.serial h ≡ true → is_ended y h ≡ false → is_ended x h ≡ true

awaited-opened : (p : ℕ) (h : List ControllerAct) (g s : ℕ) → queue g h ≡ [] → Awaited h → Awaited (Opened g s ∷ h)
awaited-opened p h g s q k =
    record {
      inbound = λ d x i e v. opened-keeps h x.way.receiver g (PutIn x) (x.way.receiver == g) refl q (k.inbound d x i e v);
      outbound = λ d x i e t v. opened-keeps h x.way.sender g (PutOut x) (x.way.sender == g) refl q (k.outbound d x i e t v);
    }

awaited-cut : (h : List ControllerAct) (g s : ℕ) → Awaited h → Awaited (Cut g s ∷ h)
awaited-cut h g s k =
    record {
      inbound = λ d x i e v.
          let n = neither (list_any (λ o. is_kind PuttingIn x.serial o || is_kind PuttingOut x.serial o) (queue g h)) (is_ended x h) e in
          cut-keeps h x.way.receiver g (PutIn x) (λ o. is_kind PuttingIn x.serial o || is_kind PuttingOut x.serial o) (x.way.receiver == g)
          refl (rw (eq-own x.serial) refl) n.0 (k.inbound d x i n.1 v);
      outbound = λ d x i e t v.
          let n = neither (list_any (λ o. is_kind PuttingIn x.serial o || is_kind PuttingOut x.serial o) (queue g h)) (is_ended x h) e in
          cut-keeps h x.way.sender g (PutOut x) (λ o. is_kind PuttingIn x.serial o || is_kind PuttingOut x.serial o) (x.way.sender == g)
          refl (eq-own x.serial) n.0 (k.outbound d x i n.1 t v);
    }

later-put : (a b c d e f : Bool) → a ≡ true → b ≡ true → c ≡ true → (d || (a && b && c)) ≡ true
later-put a b c d e f p q r = rw (p, q, r) (all d)
  where
    all : (d : Bool) → (d || true) ≡ true
    all true = refl
    all false = refl

refused-put : (y z : Association) (s : ℕ) (b : Bool) → y.serial ≡ z.serial → nat_le 400 s ≡ true
    → (((y.serial == z.serial) && nat_le 400 s) || b) ≡ true
refused-put y z s b e r = let q : (y.serial == z.serial) ≡ true = grind arith in rw (q, r) refl

-- the answer to the outbound put of a later association ends an earlier one, or the later one itself
replaced-now : (h : List ControllerAct) (g : ℕ) (a : Answer) (d : Way) (x y : Association) (o : Option ControllerOrder) → Has x (left d h)
    → Has y (left d h) → ((z : Association) → o ≡ Some (PutOut z) → y.serial ≡ z.serial → y ≡ z) → x.serial < y.serial
    → is_plain o a.status ≡ true → is_answer_to PuttingOut y.serial o ≡ true → is_spoiled y g o a (has_answer PuttingIn y.serial h)
    (is_out_ordered y.serial h) ≡ false → is_spoiled x g o a (has_answer PuttingIn x.serial h) (is_out_ordered x.serial h) ≡ true
replaced-now h g a d x y None i j f l m t e = cc
replaced-now h g a d x y (Some Read) i j f l m t e = cc
replaced-now h g a d x y (Some (Policy q)) i j f l m t e = cc
replaced-now h g a d x y (Some (PutIn z)) i j f l m t e = cc
replaced-now h g a d x y (Some (RemoveIn n)) i j f l m t e = cc
replaced-now h g a d x y (Some (RemoveOut n)) i j f l m t e = cc
replaced-now h g a d x y (Some (PutOut z)) i j f l m t e = elim (or_cases (a.status == 201) (nat_le 400 a.status) m) as
    (λ q. is_spoiled x g (Some (PutOut z)) a (has_answer PuttingIn x.serial h) (is_out_ordered x.serial h) ≡ true) [
      | inl q ↦
          let s : y.serial ≡ z.serial = grind arith in
          let w : y ≡ z = f z refl s in
          let u = of-way h d x i in
          let v = of-way h d y j in
          let c : (x.way.id == y.way.id) ≡ true = grind arith in
          let c' : (x.way.id == z.way.id) ≡ true = ap (λ (t : Association). x.way.id == t.way.id) (sym w) ∙ c in
          let b : nat_lt x.serial z.serial ≡ true = lt-ltb x.serial z.serial (omega arith) in
          later-put (x.way.id == z.way.id) (nat_lt x.serial z.serial) (a.status == 201) ((x.serial == z.serial) && nat_le 400 a.status) true
          true c' b q
      | inr q ↦
          let s : y.serial ≡ z.serial = grind arith in
          let r = refused-put y z a.status ((y.way.id == z.way.id) && nat_lt y.serial z.serial && (a.status == 201)) s q in
          absurd (let u : true ≡ false = sym r ∙ e in cc)
    ]

awaited-answered : (h : List ControllerAct) (g s n : ℕ) (a : Answer) → Awaited h → Awaited (Answered g s n a ∷ h)
awaited-answered h g s n a k =
    record {
      inbound = λ d x i e v.
          let j = old d x i in
          let u = neither (is_spoiled x g (oldest (queue g h)) a (has_answer PuttingIn x.serial h) (is_out_ordered x.serial h))
          (is_ended x h) e in
          let w = neither (is_answer_to PuttingIn x.serial (oldest (queue g h))) (has_answer PuttingIn x.serial h) v in
          answered-keeps h x.way.receiver g (PutIn x) PuttingIn x.serial (x.way.receiver == g) refl (eq-own x.serial) w.0
          (k.inbound d x j u.1 w.1);
      outbound = λ d x i e t v.
          let j = old d x i in
          let u = neither (is_spoiled x g (oldest (queue g h)) a (has_answer PuttingIn x.serial h) (is_out_ordered x.serial h))
          (is_ended x h) e in
          let w = neither (is_answer_to PuttingOut x.serial (oldest (queue g h))) (has_answer PuttingOut x.serial h) v in
          answered-keeps h x.way.sender g (PutOut x) PuttingOut x.serial (x.way.sender == g) refl (eq-own x.serial) w.0
          (k.outbound d x j u.1 t w.1);
    }
  where
    old : (d : Way) (x : Association) → Has x (filter (λ z. not (is_answer_to RemovingIn z.serial (oldest (queue g h)))) (left d h))
        → Has x (left d h)
    old d x i = has-filter (λ z. not (is_answer_to RemovingIn z.serial (oldest (queue g h)))) x (left d h) i

no-new : (x : Association) (b : Bool) → (not (x.serial == x.serial) && b) ≡ true → ⊥
no-new x b e = let q = eq-own x.serial in let u : (not true && b) ≡ true = rw q at e in absurd (let v : false ≡ true = u in cc)

out-now : (p : ℕ) (h : List ControllerAct) (g s n : ℕ) (o : ControllerOrder) → IsControllerPast p h → MayOrder h g o
    → (d : Way) (x : Association) → Has x (left d h) → is_kind PuttingOut x.serial o ≡ true
    → Has (PutOut x) (queue x.way.sender (Ordered g s n o ∷ h))
out-now p h g s n Read l m d x i e = cc
out-now p h g s n (Policy q) l m d x i e = cc
out-now p h g s n (PutIn z) l m d x i e = cc
out-now p h g s n (RemoveIn k) l m d x i e = cc
out-now p h g s n (RemoveOut k) l m d x i e = cc
out-now p h g s n (PutOut z) l m d x i e =
    let q : x.serial ≡ z.serial = grind arith in
    let w : x ≡ z = one p h l d m.way x z i m.left q in
    let v = own-way p h l m.way z m.of m.left in
    let t : x.way.sender ≡ g = ap (λ (y : Association). y.way.sender) w ∙ (ap (λ (y : Way). y.sender) (sym v) ∙ sym m.at) in
    subst (λ y. Has (PutOut y) (queue x.way.sender (Ordered g s n (PutOut z) ∷ h))) (sym w) (new-waits h g x.way.sender s n (PutOut z) t)

awaited-ordered : (p : ℕ) (h : List ControllerAct) (g s n : ℕ) (o : ControllerOrder) → IsControllerPast p h → MayOrder h g o → Awaited h
    → Awaited (Ordered g s n o ∷ h)
awaited-ordered p h g s n o l m k =
    record {
      inbound = λ d x i e v. in-case d x (has-more x (left d h) (inbound_put d o) i) e v;
      outbound = λ d x i e t v. out-case d x (has-more x (left d h) (inbound_put d o) i) e t v;
    }
  where
    older : (d : Way) (x : Association) → Has x (left d h) → is_kind PuttingIn x.serial o ≡ false
    older d x i = no-in h g o x m (low p h l d x i)

    in-case : (d : Way) (x : Association) → Has x (left d h) ⊎ Has x (inbound_put d o)
        → (not (is_kind PuttingIn x.serial o) && is_ended x h) ≡ false
        → (not (is_kind PuttingIn x.serial o) && has_answer PuttingIn x.serial h) ≡ false
        → Has (PutIn x) (queue x.way.receiver (Ordered g s n o ∷ h))
    in-case d x (inl i) e v =
        let q = older d x i in
        grown-keeps (x.way.receiver == g) (queue x.way.receiver h) o (PutIn x) (k.inbound d x i (rw q at e) (rw q at v))
    in-case d x (inr i) e v =
        let q = (put-one d x o i).0 in
        let m' : MayOrderInPut h g x = subst (MayOrder h g) q m in
        subst (λ z. Has z (queue x.way.receiver (Ordered g s n o ∷ h))) q (new-waits h g x.way.receiver s n o (sym m'.at))

    out-old : (d : Way) (x : Association) → Has x (left d h) → is_ended x h ≡ false → (b : Bool) → is_kind PuttingOut x.serial o ≡ b
        → (b || is_out_ordered x.serial h) ≡ true → has_answer PuttingOut x.serial h ≡ false
        → Has (PutOut x) (queue x.way.sender (Ordered g s n o ∷ h))
    out-old d x i e true q t v = out-now p h g s n o l m d x i q
    out-old d x i e false q t v = grown-keeps (x.way.sender == g) (queue x.way.sender h) o (PutOut x) (k.outbound d x i e t v)

    out-case : (d : Way) (x : Association) → Has x (left d h) ⊎ Has x (inbound_put d o)
        → (not (is_kind PuttingIn x.serial o) && is_ended x h) ≡ false
        → (not (is_kind PuttingIn x.serial o) && (is_kind PuttingOut x.serial o || is_out_ordered x.serial h)) ≡ true
        → (not (is_kind PuttingIn x.serial o) && has_answer PuttingOut x.serial h) ≡ false
        → Has (PutOut x) (queue x.way.sender (Ordered g s n o ∷ h))
    out-case d x (inl i) e t v =
        let q = older d x i in
        out-old d x i (rw q at e) (is_kind PuttingOut x.serial o) refl (rw q at t) (rw q at v)
    out-case d x (inr i) e t v =
        let q = (put-one d x o i).0 in
        absurd (no-new x (is_kind PuttingOut x.serial (PutIn x) || is_out_ordered x.serial h)
        (subst (λ z. (not (is_kind PuttingIn x.serial z) && (is_kind PuttingOut x.serial z || is_out_ordered x.serial h)) ≡ true) q t))

pub awaited : (p : ℕ) (h : List ControllerAct) → IsControllerPast p h → Awaited h
awaited p [] l = record { inbound = λ d x i e v. absurd i; outbound = λ d x i e t v. absurd i }
awaited p (Opened g s ∷ h) l = awaited-opened p h g s (shut-queue p h g l.1 l.0.0) (awaited p h l.1)
awaited p (Cut g s ∷ h) l = awaited-cut h g s (awaited p h l.1)
awaited p (Answered g s n z ∷ h) l = awaited-answered h g s n z (awaited p h l.1)
awaited p (Heard g s t ∷ h) l = let k = awaited p h l.1 in record { inbound = k.inbound; outbound = k.outbound }
awaited p (Ordered g s n o ∷ h) l = awaited-ordered p h g s n o l.1 l.0.3 (awaited p h l.1)
awaited p (Accepted c ∷ h) l =
    let k = awaited p h l.1 in
    record {
      inbound = λ d x i e v. k.inbound d x (has-if x _ (left d h) i).1 (neither (is_end_of x.way.tunnel.reqid c) (is_ended x h) e).1 v;
      outbound = λ d x i e t v. k.outbound d x (has-if x _ (left d h) i).1 (neither (is_end_of x.way.tunnel.reqid c) (is_ended x h) e).1 t
          v;
    }
awaited p (Refused w ∷ h) l = let k = awaited p h l.1 in record { inbound = k.inbound; outbound = k.outbound }

-- ## what an earlier one is where a later one was put whole

abbrev Replaced : List ControllerAct → Type 0
Replaced h = (d : Way) (x y : Association) → Has x (left d h) → Has y (left d h) → x.serial < y.serial
    → has_answer PuttingOut y.serial h ≡ true → is_ended y h ≡ false → is_ended x h ≡ true

replaced-cut : (h : List ControllerAct) (g s : ℕ) → Replaced h → Replaced (Cut g s ∷ h)
replaced-cut h g s k d x y i j e v w =
    let n = neither (list_any (λ o. is_kind PuttingIn y.serial o || is_kind PuttingOut y.serial o) (queue g h)) (is_ended y h) w in
    or-right (list_any (λ o. is_kind PuttingIn x.serial o || is_kind PuttingOut x.serial o) (queue g h)) (is_ended x h)
    (k d x y i j e v n.1)

replaced-answered : (p : ℕ) (h : List ControllerAct) (g s n : ℕ) (a : Answer) → IsControllerPast p h
    → is_plain (oldest (queue g h)) a.status ≡ true → Replaced h → Replaced (Answered g s n a ∷ h)
replaced-answered p h g s n a l m k d x y i j e v w =
    after-answer d x y (old d x i) (old d y j) e (is_answer_to PuttingOut y.serial (oldest (queue g h))) refl v
    (neither (is_spoiled y g (oldest (queue g h)) a (has_answer PuttingIn y.serial h) (is_out_ordered y.serial h)) (is_ended y h) w)
  where
    old : (d : Way) (x : Association) → Has x (filter (λ z. not (is_answer_to RemovingIn z.serial (oldest (queue g h)))) (left d h))
        → Has x (left d h)
    old d x i = has-filter (λ z. not (is_answer_to RemovingIn z.serial (oldest (queue g h)))) x (left d h) i

    same : (d : Way) (y : Association) → Has y (left d h) → (z : Association) → oldest (queue g h) ≡ Some (PutOut z) → y.serial ≡ z.serial
        → y ≡ z
    same d y j z t e =
        let o = out-home p h l g z (queue-given h g (PutOut z) (oldest-has (queue g h) (PutOut z) t)) in
        one-put p h l y.way.receiver z.way.receiver y z (lefts p h l d y j).put o.1 e

    after-answer : (d : Way) (x y : Association) → Has x (left d h) → Has y (left d h) → x.serial < y.serial → (b : Bool)
        → is_answer_to PuttingOut y.serial (oldest (queue g h)) ≡ b → (b || has_answer PuttingOut y.serial h) ≡ true
        → (is_spoiled y g (oldest (queue g h)) a (has_answer PuttingIn y.serial h) (is_out_ordered y.serial h) ≡ false)
        × (is_ended y h ≡ false) → (is_spoiled x g (oldest (queue g h)) a (has_answer PuttingIn x.serial h) (is_out_ordered x.serial h)
        || is_ended x h) ≡ true
    after-answer d x y i j e true t v w = let q = replaced-now h g a d x y (oldest (queue g h)) i j (same d y j) e m t w.0 in rw q refl
    after-answer d x y i j e false t v w =
        or-right (is_spoiled x g (oldest (queue g h)) a (has_answer PuttingIn x.serial h) (is_out_ordered x.serial h)) (is_ended x h)
        (k d x y i j e v w.1)

replaced-ordered : (p : ℕ) (h : List ControllerAct) (g s n : ℕ) (o : ControllerOrder) → IsControllerPast p h → MayOrder h g o → Replaced h
    → Replaced (Ordered g s n o ∷ h)
replaced-ordered p h g s n o l m k d x y i j e v w = after-case d x y (has-more x (left d h) (inbound_put d o) i)
    (has-more y (left d h) (inbound_put d o) j) e v w
  where
    older : (d : Way) (x : Association) → Has x (left d h) → is_kind PuttingIn x.serial o ≡ false
    older d x i = no-in h g o x m (low p h l d x i)

    after-case : (d : Way) (x y : Association) → Has x (left d h) ⊎ Has x (inbound_put d o) → Has y (left d h) ⊎ Has y (inbound_put d o)
        → x.serial < y.serial → (not (is_kind PuttingIn y.serial o) && has_answer PuttingOut y.serial h) ≡ true
        → (not (is_kind PuttingIn y.serial o) && is_ended y h) ≡ false → (not (is_kind PuttingIn x.serial o) && is_ended x h) ≡ true
    after-case d x y (inl i) (inl j) e v w =
        let q = older d x i in
        let r = older d y j in
        rw q (k d x y i j e (rw r at v) (rw r at w))
    after-case d x y (inr i) (inl j) e v w =
        let q = put-serial h g o x m (put-one d x o i).0 in
        let b = low p h l d y j in
        absurd (omega arith)
    after-case d x y i (inr j) e v w =
        let q = (put-one d y o j).0 in
        absurd (no-new y (has_answer PuttingOut y.serial h)
        (subst (λ z. (not (is_kind PuttingIn y.serial z) && has_answer PuttingOut y.serial h) ≡ true) q v))

pub waits : (p : ℕ) (h : List ControllerAct) → IsControllerPast p h → PlainAnswers h → Waits h
waits p h l a = let k = awaited p h l in record { inbound = k.inbound; outbound = k.outbound; replaced = replaced p h l a }
  where
    replaced : (p : ℕ) (h : List ControllerAct) → IsControllerPast p h → PlainAnswers h → Replaced h
    replaced p [] l a = λ d x y i. absurd i
    replaced p (Opened g s ∷ h) l a = replaced p h l.1 a
    replaced p (Cut g s ∷ h) l a = replaced-cut h g s (replaced p h l.1 a)
    replaced p (Answered g s n z ∷ h) l a = replaced-answered p h g s n z l.1 a.0 (replaced p h l.1 a.1)
    replaced p (Heard g s t ∷ h) l a = replaced p h l.1 a
    replaced p (Ordered g s n o ∷ h) l a = replaced-ordered p h g s n o l.1 l.0.3 (replaced p h l.1 a)
    replaced p (Accepted c ∷ h) l a = λ d x y i j e v w. or-right (is_end_of x.way.tunnel.reqid c) (is_ended x h)
        (replaced p h l.1 a d x y (has-if x _ (left d h) i).1 (has-if y _ (left d h) j).1 e v
        (neither (is_end_of y.way.tunnel.reqid c) (is_ended y h) w).1)
    replaced p (Refused w ∷ h) l a = replaced p h l.1 a
