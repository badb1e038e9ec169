-- What a direction waits for where it idles, and what the words of its associations and orders say plainly.
use Rattle.std.proofs.Common.{◌≡◌, ℕ, ◌+◌, ◌-◌, ◌<◌, ◌≤◌, Bool, true, false, ◌==◌, not, ◌&&◌, ◌||◌, List, [], ◌∷◌, ◌++◌, Option, Some, None, length, ◌⊎◌, inl, inr, refl, sym, subst, ◌∙◌, ap, arith, if◌then◌else◌}
use Rattle.std.proofs.lemmas.Bool.{and_cases}
use Rattle.hist_controller.specs.Acts.{Way, Association, ControllerOrder, PutIn, PutOut, ControllerAct, Opened, Cut, Answered, Heard, Ordered, Accepted, Refused}
use Rattle.hist_controller.specs.Past.{is_open, openings, orders, answered, queue, is_first_answered, is_read, spare, directions, PuttingIn, PuttingOut, RemovingIn, RemovingOut, is_out_ordered, has_answer, is_ended, is_in_progress, inbound_put, left, is_own, is_busy, is_owed}
use Rattle.hist_controller.specs.Law.{may_in_put}
use Rattle.hist_controller.specs.Clauses.{Has, MayOrder, MayOrderInPut, IsControllerPast, Quiet, NotIdle}
use Rattle.hist_controller.specs.Ever.{made}
use Rattle.hist_controller.specs.Machine.{place}
use Rattle.hist_controller.specs.Numbers.{numbered}
use Rattle.hist_controller.specs.Orders.{WasOrdered}
use Rattle.hist_controller.specs.Waiting.{WaitsForGateway, WaitsForGateways, has_outbound_half, WaitsForRemoval, WaitsForKey}
use Rattle.hist_controller.proofs.KeptState.{eq-own, rising, made-no}
use Rattle.hist_controller.proofs.Lists.{has-left, right-in}
use Rattle.hist_controller.proofs.Serials.{has-more, has-if, put-one, of-way, upto}
use Rattle.hist_controller.proofs.Homes.{own-way, in-home}
use Rattle.hist_controller.proofs.Waits.{awaited}
use Rattle.hist_controller.proofs.Few.{busy-there}
use Rattle.hist_controller.proofs.Readings.{queued}
use Rattle.hist_controller.proofs.Removed.{stays-left}
use Rattle.hist_controller.proofs.Everything.{Whole, whole}

not-read : (g : ℕ) (h : List ControllerAct) (o r : Bool) → is_open g h ≡ o → is_first_answered g h ≡ r → (o && r) ≡ false
    → WaitsForGateway g h
not-read g h false r e f t = inl e
not-read g h true r e f t = inr (f ∙ t)

gateway-waits : (g : ℕ) (h : List ControllerAct) → is_read g h ≡ false → WaitsForGateway g h
gateway-waits g h e = not-read g h _ _ refl refl e

both-wait : (h : List ControllerAct) (d : Way) → (is_read d.sender h && is_read d.receiver h) ≡ false → WaitsForGateway d.sender h
    ⊎ WaitsForGateway d.receiver h
both-wait h d e = elim (and_cases (is_read d.sender h) (is_read d.receiver h) e) as (λ z. WaitsForGateway d.sender h
    ⊎ WaitsForGateway d.receiver h) [
      | inl a ↦ inl (gateway-waits d.sender h a)
      | inr b ↦ inr (gateway-waits d.receiver h b)
    ]

-- ## an owed direction

owed-free : (o a b : Bool) → o ≡ true → (o && a && b) ≡ false → (a && b) ≡ false
owed-free true a b e f = f
owed-free false a b e f = cc

owed-quiet : (h : List ControllerAct) (d : Way) → is_owed d h ≡ true → (may_in_put h d ≡ false) ⊎ (spare h ≡ []) → WaitsForKey h d
owed-quiet h d o (inl m) = inl (inr (both-wait h d (owed-free (is_owed d h) (is_read d.sender h) (is_read d.receiver h) o m)))
owed-quiet h d o (inr k) = inr k

owed-by : (h : List ControllerAct) (d : Way) (b : Bool) → is_busy d h ≡ b → (is_busy d h ≡ false → Quiet h d) → is_owed d h ≡ true
    → WaitsForKey h d
owed-by h d true e q o = inl (inl e)
owed-by h d false e q o = owed-quiet h d o (q e).no_in_put

pub owed-waits : (p : ℕ) (h : List ControllerAct) → IsControllerPast p h → NotIdle h → (d : Way) → Has d (directions h) → is_owed d h ≡ true
    → WaitsForKey h d
owed-waits p h l q d i o = owed-by h d (is_busy d h) refl (q d i) o

-- ## an association in progress

free-put : (e o s a r t : Bool) → (not e && not o) ≡ true → s ≡ false → a ≡ true → ((not e && not o) && not s && a && r && t) ≡ false
    → (r && t) ≡ false
free-put e o s a r t p q w f = let u : (true && not false && true && r && t) ≡ false = rw (p, q, w) at f in u

not-both : (a b : Bool) → (not a && not b) ≡ true → (a ≡ false) × (b ≡ false)
not-both true b e = cc
not-both false true e = cc
not-both false false e = (refl, refl)

busy-or : (h : List ControllerAct) (d : Way) (x : Association) (g : ℕ) (o : ControllerOrder) → is_own d (left d h) o ≡ true
    → Has o (queue g h) → (g ≡ d.sender) ⊎ (g ≡ d.receiver) → (b : Bool) → is_busy d h ≡ b → is_busy d h ≡ true
busy-or h d x g o y i s true e = e
busy-or h d x g o y i s false e = absurd (busy-there h d x g o y i s e)

progress-by : (p : ℕ) (h : List ControllerAct) → IsControllerPast p h → (d : Way) → Has d (directions h) → (x : Association)
    → Has x (left d h) → is_in_progress h x ≡ true → (is_busy d h ≡ false → Quiet h d) → (s a b : Bool) → is_out_ordered x.serial h ≡ s
    → has_answer PuttingIn x.serial h ≡ a → is_busy d h ≡ b → WaitsForGateways h d
progress-by p h l d i x j t q s a true e f g = inl g
progress-by p h l d i x j t q true a false e f g =
    let w = own-way p h l d x i j in
    let n = not-both (is_ended x h) (has_answer PuttingOut x.serial h) t in
    let k = (awaited p h l).outbound d x j n.0 e n.1 in
    inl (busy-or h d x x.way.sender (PutOut x) (of-way h d x j) k (inl (ap (λ (z : Way). z.sender) (sym w))) (is_busy d h) refl)
progress-by p h l d i x j t q false false false e f g =
    let w = own-way p h l d x i j in
    let n = not-both (is_ended x h) (has_answer PuttingOut x.serial h) t in
    let k = (awaited p h l).inbound d x j n.0 f in
    inl (busy-or h d x x.way.receiver (PutIn x) (of-way h d x j) k (inr (ap (λ (z : Way). z.receiver) (sym w))) (is_busy d h) refl)
progress-by p h l d i x j t q false true false e f g =
    inr (both-wait h d (free-put (is_ended x h) (has_answer PuttingOut x.serial h) (is_out_ordered x.serial h)
    (has_answer PuttingIn x.serial h) (is_read d.sender h) (is_read d.receiver h) t e f ((q g).no_out_put x j)))

pub progress-waits : (p : ℕ) (h : List ControllerAct) → IsControllerPast p h → NotIdle h → (d : Way) → Has d (directions h)
    → (x : Association) → Has x (left d h) → is_in_progress h x ≡ true → WaitsForGateways h d
progress-waits p h l q d i x j t = progress-by p h l d i x j t (q d i) _ _ _ refl refl refl

-- ## an ended association

free-out : (e s g r : Bool) → e ≡ true → (s && not g) ≡ true → (e && s && not g && r) ≡ false → r ≡ false
free-out true true false r p q f = f
free-out true true true r p q f = cc
free-out true false g r p q f = cc
free-out false s g r p q f = cc

free-in : (e s g r : Bool) → e ≡ true → (s && not g) ≡ false → (e && (not s || g) && r) ≡ false → r ≡ false
free-in true true true r p q f = f
free-in true true false r p q f = cc
free-in true false g r p q f = f
free-in false s g r p q f = cc

ended-by : (h : List ControllerAct) (d : Way) (x : Association) → Has x (left d h) → is_ended x h ≡ true → (is_busy d h ≡ false → Quiet h d)
    → (o b : Bool) → has_outbound_half h x ≡ o → is_busy d h ≡ b → WaitsForRemoval h d x
ended-by h d x j t q o true e g = inl g
ended-by h d x j t q true false e g =
    inr (inl (
      e,
      gateway-waits d.sender h (free-out (is_ended x h) (is_out_ordered x.serial h) (has_answer RemovingOut x.serial h)
          (is_read d.sender h) t e ((q g).no_out_remove x j)),
    ))
ended-by h d x j t q false false e g =
    inr (inr (
      e,
      gateway-waits d.receiver h (free-in (is_ended x h) (is_out_ordered x.serial h) (has_answer RemovingOut x.serial h)
          (is_read d.receiver h) t e ((q g).no_in_remove x j)),
    ))

pub ended-waits : (p : ℕ) (h : List ControllerAct) → IsControllerPast p h → NotIdle h → (d : Way) → Has d (directions h) → (x : Association)
    → Has x (left d h) → is_ended x h ≡ true → WaitsForRemoval h d x
ended-waits p h l q d i x j t = ended-by h d x j t (q d i) _ _ refl refl

-- ## what is left was put and not removed

not-gone : (h : List ControllerAct) (x : Association) (d : Way) → Whole h → Has x (made d h) → has_answer RemovingIn x.serial h ≡ false
    → Has x (left d h)
not-gone h x d k i e = elim (k.gone d x i) as (λ z. Has x (left d h)) [
  | inl j ↦ j
  | inr w ↦ absurd (let u : true ≡ false = sym w.0 ∙ e in cc)
]

-- the associations made in a direction are those put there
pub made-put : (p : ℕ) (h : List ControllerAct) → IsControllerPast p h → (d : Way) (x : Association) → Has x (made d h)
    → ((d.id == x.way.id) ≡ true) × WasOrdered (PutIn x) x.way.receiver h
made-put p [] l d x i = absurd i
made-put p (Opened g s ∷ h) l d x i = made-put p h l.1 d x i
made-put p (Cut g s ∷ h) l d x i = made-put p h l.1 d x i
made-put p (Answered g s n a ∷ h) l d x i = made-put p h l.1 d x i
made-put p (Heard g s t ∷ h) l d x i = made-put p h l.1 d x i
made-put p (Ordered g s n o ∷ h) l d x i = elim (has-more x (made d h) (inbound_put d o) i) as (λ z. ((d.id == x.way.id) ≡ true)
    × WasOrdered (PutIn x) x.way.receiver (Ordered g s n o ∷ h)) [
      | inl j ↦ let k = made-put p h l.1 d x j in (k.0, inr k.1)
      | inr j ↦ let q = put-one d x o j in let m : MayOrderInPut h g x = subst (MayOrder h g) q.0 l.0.3 in (q.1, inl (sym q.0, sym m.at))
    ]
made-put p (Accepted c ∷ h) l d x i = made-put p h l.1 d x (has-if x _ (made d h) i).1
made-put p (Refused w ∷ h) l d x i = made-put p h l.1 d x i

old-has : (x : Association) (b : Bool) (xs : List Association) → b ≡ false → Has x xs → Has x (if b then [] else xs)
old-has x b xs e i = rw e i

put-made : (p : ℕ) (h : List ControllerAct) → IsControllerPast p h → (g : ℕ) (x : Association) → WasOrdered (PutIn x) g h
    → Has x (made x.way h)
put-made p [] l g x i = absurd i
put-made p (Opened f s ∷ h) l g x i = put-made p h l.1 g x i
put-made p (Cut f s ∷ h) l g x i = put-made p h l.1 g x i
put-made p (Answered f s n a ∷ h) l g x i = put-made p h l.1 g x i
put-made p (Heard f s t ∷ h) l g x i = put-made p h l.1 g x i
put-made p (Ordered f s n o ∷ h) l g x (inl e) = subst (λ z. Has x (made x.way h ++ inbound_put x.way z)) e.0
    (right-in x (made x.way h) (inbound_put x.way (PutIn x)) (let q = eq-own x.way.id in rw q (inl refl)))
put-made p (Ordered f s n o ∷ h) l g x (inr i) = has-left x (made x.way h) (inbound_put x.way o) (put-made p h l.1 g x i)
put-made p (Accepted c ∷ h) l g x i =
    let k = (in-home p h l.1 g x i).known in
    let u = upto 0 (directions h) x.way (rising h) k in
    old-has x _ (made x.way h) (made-no c (length (directions h)) x.way (omega arith)) (put-made p h l.1 g x i)
put-made p (Refused w ∷ h) l g x i = put-made p h l.1 g x i

pub left-stood : (p : ℕ) (h : List ControllerAct) → IsControllerPast p h → (d : Way) → Has d (directions h) → (x : Association)
    → Has x (left d h) → (d ≡ x.way) × WasOrdered (PutIn x) d.receiver h × (has_answer RemovingIn x.serial h ≡ false)
left-stood p h l d i x j =
    let w = own-way p h l d x i j in
    let k = made-put p h l d x ((whole p h l).sub d x j) in
    (w, subst (λ z. WasOrdered (PutIn x) z h) (ap (λ (z : Way). z.receiver) (sym w)) k.1, stays-left h d x j)

pub stood-left : (p : ℕ) (h : List ControllerAct) → IsControllerPast p h → (x : Association) (g : ℕ) → WasOrdered (PutIn x) g h
    → has_answer RemovingIn x.serial h ≡ false → Has x (left x.way h)
stood-left p h l x g i e = not-gone h x x.way (whole p h l) (put-made p h l g x i) e

-- ## what waits is what was given and not answered

skip-order : (g f s t n i : ℕ) (o : ControllerOrder) (r : Option ControllerOrder) → (b c d : Bool) → (g == f) ≡ b → (s == t) ≡ c
    → (n == i) ≡ d → (b && c && d) ≡ false → r ≡ None → (if (g == f) && (s == t) && (n == i) then Some o else r) ≡ None
skip-order g f s t n i o r b c d e u w q k = rw (e, u, w, q) k

other-session : (h : List ControllerAct) (g f s t : ℕ) (b c : Bool) → (g == f) ≡ b → (s == t) ≡ c → t ≡ openings f h → openings g h < s
    → (b && c) ≡ false
other-session h g f s t true true e u w q = let x : g ≡ f = grind arith in
    let y : openings f h ≡ openings g h = ap (λ z. openings z h) (sym x) in let v : s ≡ t = grind arith in absurd (omega arith)
other-session h g f s t true false e u w q = refl
other-session h g f s t false c e u w q = refl

and-third : (a b c : Bool) → (a && b) ≡ false → (a && b && c) ≡ false
and-third true b c e = rw e refl
and-third false b c e = refl

fewer : (b : Bool) (n s : ℕ) → (if b then n + 1 else n) < s → n < s
fewer true n s e = omega arith
fewer false n s e = e

-- no order of a later session was given
none-session : (p : ℕ) (h : List ControllerAct) → IsControllerPast p h → (g s n : ℕ) → openings g h < s → numbered g s n h ≡ None
none-session p [] l g s n e = refl
none-session p (Opened f t ∷ h) l g s n e = none-session p h l.1 g s n (fewer (g == f) (openings g h) s e)
none-session p (Cut f t ∷ h) l g s n e = none-session p h l.1 g s n e
none-session p (Answered f t i a ∷ h) l g s n e = none-session p h l.1 g s n e
none-session p (Heard f t x ∷ h) l g s n e = none-session p h l.1 g s n e
none-session p (Ordered f t i o ∷ h) l g s n e =
    skip-order g f s t n i o _ _ _ _ refl refl refl (and-third (g == f) (s == t) (n == i) (other-session h g f s t _ _ refl refl l.0.0 e))
    (none-session p h l.1 g s n e)
none-session p (Accepted c ∷ h) l g s n e = none-session p h l.1 g s n e
none-session p (Refused w ∷ h) l g s n e = none-session p h l.1 g s n e

beyond-opened : (p : ℕ) (h : List ControllerAct) → IsControllerPast p h → (g n : ℕ) (b : Bool)
    → (b ≡ false → numbered g (openings g h) n h ≡ None) → numbered g (if b then openings g h + 1 else openings g h) n h ≡ None
beyond-opened p h l g n true f = none-session p h l g (openings g h + 1) n (omega arith)
beyond-opened p h l g n false f = f refl

old-orders : (b : Bool) (m n : ℕ) → b ≡ false → (if b then 0 else m) < n → m < n
old-orders true m n e f = cc
old-orders false m n e f = f

beyond-number : (h : List ControllerAct) (g f n i : ℕ) (b d : Bool) → (g == f) ≡ b → (n == i) ≡ d → i ≡ orders f h + 1
    → (if b then orders g h + 1 else orders g h) < n → (b && d) ≡ false
beyond-number h g f n i true true e u w q = let x : g ≡ f = grind arith in let y : orders f h ≡ orders g h = ap (λ z. orders z h) (sym x) in
    let v : n ≡ i = grind arith in absurd (omega arith)
beyond-number h g f n i true false e u w q = refl
beyond-number h g f n i false d e u w q = refl

and-middle : (a b c : Bool) → (a && c) ≡ false → (a && b && c) ≡ false
and-middle true true c e = e
and-middle true false c e = refl
and-middle false b c e = refl

-- no order of the newest session has a number beyond those given
none-beyond : (p : ℕ) (h : List ControllerAct) → IsControllerPast p h → (g n : ℕ) → orders g h < n → numbered g (openings g h) n h ≡ None
none-beyond p [] l g n e = refl
none-beyond p (Opened f t ∷ h) l g n e =
    beyond-opened p h l.1 g n (g == f) (λ b. none-beyond p h l.1 g n (old-orders (g == f) (orders g h) n b e))
none-beyond p (Cut f t ∷ h) l g n e = none-beyond p h l.1 g n e
none-beyond p (Answered f t i a ∷ h) l g n e = none-beyond p h l.1 g n e
none-beyond p (Heard f t x ∷ h) l g n e = none-beyond p h l.1 g n e
none-beyond p (Ordered f t i o ∷ h) l g n e = skip-order g f (openings g h) t n i o _ _ _ _ refl refl refl
    (and-middle (g == f) (openings g h == t) (n == i) (beyond-number h g f n i _ _ refl refl l.0.1 e))
    (none-beyond p h l.1 g n (fewer (g == f) (orders g h) n e))
none-beyond p (Accepted c ∷ h) l g n e = none-beyond p h l.1 g n e
none-beyond p (Refused w ∷ h) l g n e = none-beyond p h l.1 g n e

past-end : (j : ℕ) (q : List ControllerOrder) → place j q ≡ None → length q ≤ j
past-end j [] e = omega arith
past-end j (o ∷ q) e = at-place (j == 0) refl e (past-end (j - 1) q)
  where
    at-place : (b : Bool) → (j == 0) ≡ b → (if b then Some o else place (j - 1) q) ≡ None → (place (j - 1) q ≡ None → length q ≤ j - 1)
        → length (o ∷ q) ≤ j
    at-place true t w f = cc
    at-place false t w f = let a = f w in grind arith

by-place : (p : ℕ) (h : List ControllerAct) → IsControllerPast p h → (g : ℕ) → is_open g h ≡ true → (j : ℕ) (z : Option ControllerOrder)
    → place j (queue g h) ≡ z → z ≡ numbered g (openings g h) (answered g h + 1 + j) h
by-place p h l g o j None e =
    let c = (queued p g h l).count o in
    let n = past-end j (queue g h) e in
    sym (none-beyond p h l g (answered g h + 1 + j) (omega arith))
by-place p h l g o j (Some z) e = sym ((queued p g h l).find j z e)

pub queue-numbered : (p : ℕ) (h : List ControllerAct) → IsControllerPast p h → (g : ℕ) → is_open g h ≡ true → (j : ℕ)
    → place j (queue g h) ≡ numbered g (openings g h) (answered g h + 1 + j) h
queue-numbered p h l g o j = by-place p h l g o j (place j (queue g h)) refl
