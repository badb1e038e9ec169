-- The controller's words of its sessions say the same as the words of a transcript of its acts.
use Rattle.std.proofs.Common.{◌≡◌, ℕ, ◌+◌, ◌<◌, Bool, true, false, ◌==◌, not, ◌&&◌, ◌||◌, nat_lt, List, [], ◌∷◌, Option, Some, length, refl, sym, subst, ◌∙◌, ap, arith, if◌then◌else◌}
use Rattle.std.proofs.lemmas.Grind.{common_steps}
use Rattle.std.specs.Option.{option_map}
use Rattle.ikeless_tree.specs.declared.command.Peer.{Peer}
use Rattle.ikeless_tree.specs.declared.order as tree
use Rattle.hist_acts.specs.Sessions as sessions
use Rattle.hist_acts.specs.Past as happened
use Rattle.hist_controller.specs.Acts.{ControllerOrder, ControllerAct, Opened, Cut, Answered, Heard, Ordered, Accepted, Refused}
use Rattle.hist_acts.specs.Past.{after}
use Rattle.hist_controller.specs.Past.{is_open, openings, orders, answered, is_first_answered, is_read}
use Rattle.hist_controller.specs.Clauses.{IsControllerPast}
use Rattle.hist_controller.specs.Table.{AllFit}
use Rattle.hist_controller.specs.Numbers.{numbered}
use Rattle.hist_controller.specs.Told.{peer_name, order_told, all_told, past_told, Named}

-- acts in their order, told one after another, are the past told
pub told-after : (ps : List Peer) (h xs : List ControllerAct) → past_told ps (after h xs) ≡ happened.after (past_told ps h) (all_told ps xs)
told-after ps h [] = refl
told-after ps h (Opened g s ∷ xs) = told-after ps (Opened g s ∷ h) xs
told-after ps h (Cut g s ∷ xs) = told-after ps (Cut g s ∷ h) xs
told-after ps h (Answered g s n a ∷ xs) = told-after ps (Answered g s n a ∷ h) xs
told-after ps h (Heard g s t ∷ xs) = told-after ps (Heard g s t ∷ h) xs
told-after ps h (Ordered g s n o ∷ xs) = told-after ps (Ordered g s n o ∷ h) xs
told-after ps h (Accepted c ∷ xs) = told-after ps (Accepted c ∷ h) xs
told-after ps h (Refused w ∷ xs) = told-after ps (Refused w ∷ h) xs

pub openings-told : (ps : List Peer) (h : List ControllerAct) → Named ps → AllFit (length ps) h → (g : ℕ) → g < length ps
    → sessions.openings (peer_name ps g) (past_told ps h) ≡ openings g h
openings-told ps [] n f g i = refl
openings-told ps (Opened k s ∷ h) n f g i = let e = n k g f.0 i in let q = openings-told ps h n f.1 g i in rw (e, q) refl
openings-told ps (Cut k s ∷ h) n f g i = openings-told ps h n f.1 g i
openings-told ps (Answered k s m a ∷ h) n f g i = openings-told ps h n f.1 g i
openings-told ps (Heard k s t ∷ h) n f g i = openings-told ps h n f.1 g i
openings-told ps (Ordered k s m o ∷ h) n f g i = openings-told ps h n f.1 g i
openings-told ps (Accepted c ∷ h) n f g i = openings-told ps h n f.1 g i
openings-told ps (Refused w ∷ h) n f g i = openings-told ps h n f.1 g i

pub open-told : (ps : List Peer) (h : List ControllerAct) → Named ps → AllFit (length ps) h → (g : ℕ) → g < length ps
    → sessions.is_open (peer_name ps g) (past_told ps h) ≡ is_open g h
open-told ps [] n f g i = refl
open-told ps (Opened k s ∷ h) n f g i = let e = n k g f.0 i in let q = open-told ps h n f.1 g i in rw (e, q) refl
open-told ps (Cut k s ∷ h) n f g i = let e = n k g f.0 i in let q = open-told ps h n f.1 g i in rw (e, q) refl
open-told ps (Answered k s m a ∷ h) n f g i = open-told ps h n f.1 g i
open-told ps (Heard k s t ∷ h) n f g i = open-told ps h n f.1 g i
open-told ps (Ordered k s m o ∷ h) n f g i = open-told ps h n f.1 g i
open-told ps (Accepted c ∷ h) n f g i = open-told ps h n f.1 g i
open-told ps (Refused w ∷ h) n f g i = open-told ps h n f.1 g i

not-later : (b : Bool) (s t : ℕ) → s < t → (b && (s == t)) ≡ false
not-later true s t e = grind arith
not-later false s t e = refl

-- no order of a later session was given
pub none-later : (ps : List Peer) (p : ℕ) (h : List ControllerAct) → IsControllerPast p h → Named ps → AllFit (length ps) h → (g : ℕ)
    → g < length ps → (s : ℕ) → openings g h < s → (sessions.orders (peer_name ps g) s (past_told ps h) ≡ 0)
    × (sessions.answered (peer_name ps g) s (past_told ps h) ≡ 0)
none-later ps p [] l n f g i s e = (refl, refl)
none-later ps p (Opened k t ∷ h) l n f g i s e = none-later ps p h l.1 n f.1 g i s (smaller (g == k) e)
  where
    smaller : (b : Bool) → (if b then openings g h + 1 else openings g h) < s → openings g h < s
    smaller true e = omega arith
    smaller false e = e
none-later ps p (Cut k t ∷ h) l n f g i s e = none-later ps p h l.1 n f.1 g i s e
none-later ps p (Answered k t m a ∷ h) l n f g i s e =
    let q = none-later ps p h l.1 n f.1 g i s e in
    let c = n k g f.0 i in
    (q.0, rw c (none (g == k) refl q.1))
  where
    none : (b : Bool) → (g == k) ≡ b → sessions.answered (peer_name ps g) s (past_told ps h) ≡ 0
        → (if b && (t == s) then sessions.answered (peer_name ps g) s (past_told ps h) + 1 else sessions.answered (peer_name ps g) s
        (past_told ps h)) ≡ 0
    none true c q =
        let w : g ≡ k = grind arith in
        let u : t ≡ openings k h = l.0.2 in
        let v : openings k h ≡ openings g h = ap (λ z. openings z h) (sym w) in
        let z : (t == s) ≡ false = grind arith in
        rw z q
    none false c q = q
none-later ps p (Heard k t x ∷ h) l n f g i s e = none-later ps p h l.1 n f.1 g i s e
none-later ps p (Ordered k t m o ∷ h) l n f g i s e =
    let q = none-later ps p h l.1 n f.1 g i s e in
    let c = n k g f.0 i in
    (rw c (none (g == k) refl q.0), q.1)
  where
    none : (b : Bool) → (g == k) ≡ b → sessions.orders (peer_name ps g) s (past_told ps h) ≡ 0
        → (if b && (t == s) then sessions.orders (peer_name ps g) s (past_told ps h) + 1 else sessions.orders (peer_name ps g) s
        (past_told ps h)) ≡ 0
    none true c q =
        let w : g ≡ k = grind arith in
        let u : t ≡ openings k h = l.0.0 in
        let v : openings k h ≡ openings g h = ap (λ z. openings z h) (sym w) in
        let z : (t == s) ≡ false = grind arith in
        rw z q
    none false c q = q
none-later ps p (Accepted c ∷ h) l n f g i s e = none-later ps p h l.1 n f.1 g i s e
none-later ps p (Refused w ∷ h) l n f g i s e = none-later ps p h l.1 n f.1 g i s e

-- the orders of the newest session that were given, and those that were answered
record Counted (ps : List Peer) (h : List ControllerAct) (g : ℕ) : Type 0 where
  pub given : sessions.orders (peer_name ps g) (openings g h) (past_told ps h) ≡ orders g h
  pub heard : sessions.answered (peer_name ps g) (openings g h) (past_told ps h) ≡ answered g h

counted-opened : (ps : List Peer) (p : ℕ) (h : List ControllerAct) → IsControllerPast p h → Named ps → AllFit (length ps) h → (g k s : ℕ)
    → g < length ps → (b : Bool) → (g == k) ≡ b → Counted ps h g → Counted ps (Opened k s ∷ h) g
counted-opened ps p h l n f g k s i true e q =
    let z = none-later ps p h l n f g i (openings g h + 1) (omega arith) in
    record {
      given = subst (λ b. sessions.orders (peer_name ps g) (if b then openings g h + 1 else openings g h) (past_told ps h) ≡
          (if b then 0 else orders g h)) (sym e) z.0;
      heard = subst (λ b. sessions.answered (peer_name ps g) (if b then openings g h + 1 else openings g h) (past_told ps h) ≡
          (if b then 0 else answered g h)) (sym e) z.1;
    }
counted-opened ps p h l n f g k s i false e q = record {
  given = subst (λ b. sessions.orders (peer_name ps g) (if b then openings g h + 1 else openings g h) (past_told ps h) ≡
      (if b then 0 else orders g h)) (sym e) q.given;
  heard = subst (λ b. sessions.answered (peer_name ps g) (if b then openings g h + 1 else openings g h) (past_told ps h) ≡
      (if b then 0 else answered g h)) (sym e) q.heard;
}

add-both : (b : Bool) (n m : ℕ) → n ≡ m → (if b then n + 1 else n) ≡ (if b then m + 1 else m)
add-both true n m e = ap (λ z. z + 1) e
add-both false n m e = e

in-newest : (h : List ControllerAct) (g k t : ℕ) (b : Bool) → (g == k) ≡ b → t ≡ openings k h → (b && (t == openings g h)) ≡ b
in-newest h g k t true e u = let w : g ≡ k = grind arith in let v : openings k h ≡ openings g h = ap (λ z. openings z h) (sym w) in
    grind arith
in-newest h g k t false e u = refl

counted : (ps : List Peer) (p : ℕ) (h : List ControllerAct) → IsControllerPast p h → Named ps → AllFit (length ps) h → (g : ℕ)
    → g < length ps → Counted ps h g
counted ps p [] l n f g i = record { given = refl; heard = refl }
counted ps p (Opened k s ∷ h) l n f g i = counted-opened ps p h l.1 n f.1 g k s i (g == k) refl (counted ps p h l.1 n f.1 g i)
counted ps p (Cut k s ∷ h) l n f g i = let q = counted ps p h l.1 n f.1 g i in record { given = q.given; heard = q.heard }
counted ps p (Answered k t m a ∷ h) l n f g i =
    let q = counted ps p h l.1 n f.1 g i in
    let c = n k g f.0 i in
    let u = in-newest h g k t (g == k) refl l.0.2 in
    record { given = q.given; heard = rw (c, u) (add-both (g == k) _ _ q.heard) }
counted ps p (Heard k t x ∷ h) l n f g i = let q = counted ps p h l.1 n f.1 g i in record { given = q.given; heard = q.heard }
counted ps p (Ordered k t m o ∷ h) l n f g i =
    let q = counted ps p h l.1 n f.1 g i in
    let c = n k g f.0 i in
    let u = in-newest h g k t (g == k) refl l.0.0 in
    record { given = rw (c, u) (add-both (g == k) _ _ q.given); heard = q.heard }
counted ps p (Accepted c ∷ h) l n f g i = let q = counted ps p h l.1 n f.1 g i in record { given = q.given; heard = q.heard }
counted ps p (Refused w ∷ h) l n f g i = let q = counted ps p h l.1 n f.1 g i in record { given = q.given; heard = q.heard }

pub orders-told : (ps : List Peer) (p : ℕ) (h : List ControllerAct) → IsControllerPast p h → Named ps → AllFit (length ps) h → (g : ℕ)
    → g < length ps → sessions.orders (peer_name ps g) (openings g h) (past_told ps h) ≡ orders g h
orders-told ps p h l n f g i = (counted ps p h l n f g i).given

pub answered-told : (ps : List Peer) (p : ℕ) (h : List ControllerAct) → IsControllerPast p h → Named ps → AllFit (length ps) h → (g : ℕ)
    → g < length ps → sessions.answered (peer_name ps g) (openings g h) (past_told ps h) ≡ answered g h
answered-told ps p h l n f g i = (counted ps p h l n f g i).heard

-- a session is read once an answer was heard in it
read-opened : (b : Bool) (r : Bool) (n : ℕ) → r ≡ nat_lt 0 n → (not b && r) ≡ nat_lt 0 (if b then 0 else n)
read-opened true r n e = refl
read-opened false r n e = e

or-true : (b : Bool) → (b || true) ≡ true
or-true true = refl
or-true false = refl

read-answered : (b r : Bool) (m n : ℕ) → (b ≡ true → m ≡ n + 1) → r ≡ nat_lt 0 n
    → ((b && (m == 1)) || r) ≡ nat_lt 0 (if b then n + 1 else n)
read-answered true r m n f e = now (n == 0) refl (f refl)
  where
    now : (z : Bool) → (n == 0) ≡ z → m ≡ n + 1 → ((m == 1) || r) ≡ nat_lt 0 (n + 1)
    now z q w = let u : nat_lt 0 (n + 1) ≡ true = grind (arith, common_steps) in rw u (first z q w)
      where
        first : (z : Bool) → (n == 0) ≡ z → m ≡ n + 1 → ((m == 1) || r) ≡ true
        first true q w = let v : (m == 1) ≡ true = grind arith in rw v refl
        first false q w = let v : nat_lt 0 n ≡ true = grind (arith, common_steps) in rw (e, v) (or-true (m == 1))
read-answered false r m n f e = e

read-answers : (p : ℕ) (h : List ControllerAct) (g : ℕ) → IsControllerPast p h → is_first_answered g h ≡ nat_lt 0 (answered g h)
read-answers p [] g l = refl
read-answers p (Opened k s ∷ h) g l = read-opened (g == k) (is_first_answered g h) (answered g h) (read-answers p h g l.1)
read-answers p (Cut k s ∷ h) g l = read-answers p h g l.1
read-answers p (Answered k s m a ∷ h) g l = read-answered (g == k) (is_first_answered g h) m (answered g h) (λ e. let w : g ≡ k =
    grind arith in let v = ap (λ z. answered z h) w in let u = l.0.3 in omega arith) (read-answers p h g l.1)
read-answers p (Heard k s t ∷ h) g l = read-answers p h g l.1
read-answers p (Ordered k s m o ∷ h) g l = read-answers p h g l.1
read-answers p (Accepted c ∷ h) g l = read-answers p h g l.1
read-answers p (Refused w ∷ h) g l = read-answers p h g l.1

pub read-told : (ps : List Peer) (p : ℕ) (h : List ControllerAct) → IsControllerPast p h → Named ps → AllFit (length ps) h → (g : ℕ)
    → g < length ps → sessions.is_read (peer_name ps g) (past_told ps h) ≡ is_read g h
read-told ps p h l n f g i =
    let a = open-told ps h n f g i in
    let b = openings-told ps h n f g i in
    let c = answered-told ps p h l n f g i in
    let d = read-answers p h g l in
    rw (a, b, c, d) refl

-- the order of a number in a session
same-test : (b : Bool) (s t n i : ℕ) → ((b && (t == s)) && (i == n)) ≡ (b && (s == t) && (n == i))
same-test true s t n i = let u : (t == s) ≡ (s == t) = turn t s (t == s) (s == t) refl refl in
    let v : (i == n) ≡ (n == i) = turn i n (i == n) (n == i) refl refl in rw (u, v) refl
  where
    turn : (x y : ℕ) (a b : Bool) → (x == y) ≡ a → (y == x) ≡ b → a ≡ b
    turn x y true true e f = refl
    turn x y false false e f = refl
    turn x y true false e f = let w : x ≡ y = grind arith in
        absurd (let z : (y == x) ≡ true = grind arith in let u : true ≡ false = sym z ∙ f in cc)
    turn x y false true e f = let w : x ≡ y = grind arith in
        absurd (let z : (x == y) ≡ true = grind arith in let u : true ≡ false = sym z ∙ e in cc)
same-test false s t n i = refl

map-if : (ps : List Peer) (b : Bool) (o : ControllerOrder) (q : Option ControllerOrder) (r : Option tree.Order.Order)
    → r ≡ option_map (order_told ps) q → (if b then Some (order_told ps o) else r) ≡ option_map (order_told ps) (if b then Some o else q)
map-if ps true o q r e = refl
map-if ps false o q r e = e

pub order-told : (ps : List Peer) (h : List ControllerAct) → Named ps → AllFit (length ps) h → (g s n : ℕ) → g < length ps
    → sessions.order_at (peer_name ps g) s n (past_told ps h) ≡ option_map (order_told ps) (numbered g s n h)
order-told ps [] m f g s n i = refl
order-told ps (Opened k t ∷ h) m f g s n i = order-told ps h m f.1 g s n i
order-told ps (Cut k t ∷ h) m f g s n i = order-told ps h m f.1 g s n i
order-told ps (Answered k t j a ∷ h) m f g s n i = order-told ps h m f.1 g s n i
order-told ps (Heard k t x ∷ h) m f g s n i = order-told ps h m f.1 g s n i
order-told ps (Ordered k t j o ∷ h) m f g s n i =
    let c = m k g f.0 i in
    let q = order-told ps h m f.1 g s n i in
    let u = same-test (g == k) s t n j in
    rw (c, u) (map-if ps ((g == k) && (s == t) && (n == j)) o (numbered g s n h) _ q)
order-told ps (Accepted c ∷ h) m f g s n i = order-told ps h m f.1 g s n i
order-told ps (Refused w ∷ h) m f g s n i = order-told ps h m f.1 g s n i
