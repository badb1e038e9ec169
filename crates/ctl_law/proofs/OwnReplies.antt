-- What an answer to an order of its own makes of a direction.
use Rattle.std.proofs.Common.{◌≡◌, ℕ, Bool, true, false, ◌==◌, not, ◌&&◌, ◌||◌, nat_le, nat_lt, List, [], ◌∷◌, ◌++◌, Option, Some, None, ◌⊎◌, inl, inr, refl, sym, subst, ap, ◌∙◌, arith, if◌then◌else◌}
use Rattle.std.specs.List.{filter, list_any}
use Rattle.std.specs.Option.{option_map}
use Rattle.ikeless_tree.specs.declared.command.Peer.{Peer}
use Rattle.ikeless_tree.specs.declared.order.Answer.{Answer}
use Rattle.std.proofs.Math.Bool.{or-false}
use Rattle.hist_controller.specs.Acts.{Way, Association, ControllerOrder, Read, Policy, PutIn, PutOut, RemoveIn, RemoveOut, ControllerAct, Answered}
use Rattle.hist_controller.specs.Past.{rest, queue, directions, is_over, is_wanted, left, newest_serial, is_own, RemovingIn, is_kind, is_cause_reading}
use Rattle.hist_controller.specs.Law.{first}
use Rattle.hist_controller.specs.Clauses.{Has, IsControllerPast}
use Rattle.hist_controller.specs.Halves.{PlainAnswers}
use Rattle.hist_controller.proofs.KeptState.{eq-own}
use Rattle.hist_controller.proofs.Homes.{own-way}
use Rattle.hist_controller.proofs.Gives.{first-some}
use Rattle.ctl_tunnels.specs.declared.life.Life.{Life}
use Rattle.ctl_tunnels.specs.declared.life.Task.{Task}
use Rattle.ctl_tunnels.specs.declared.life.Task.TheVariants as tasks
use Rattle.ctl_tunnels.specs.Lives as lives
use Rattle.ctl_tunnels.specs.Steps as steps
use Rattle.ctl_core.specs.Step.{front_effect}
use Rattle.hist_controller.specs.Left.{listed, newest_left, older_left}
use Rattle.hist_controller.specs.Own.{own_orders}
use Rattle.ctl_law.specs.Stands.{half_of, waiting_of, life_of, first_half, progress_of, direction_of}
use Rattle.hist_controller.proofs.Left.{older-newest as left-two}
use Rattle.ctl_law.proofs.Lists.{first-filter}
use Rattle.ctl_law.proofs.Own.{half, OwnOrder, own-order, own_at, Awaits, nothing, at_sender, at_receiver, awaits}
use Rattle.ctl_law.proofs.Progresses.{progress, same-progress, older-left, newest-left}
use Rattle.ctl_law.proofs.Heard.{older-below, newest-is}
use Rattle.ctl_law.proofs.Replies.{filter-less, answered_life, by-parts, left-answered, answered-other}

-- ## the order that waited is gone

record Alone (h : List ControllerAct) (d : Way) (f : ℕ) (o : ControllerOrder) (os : List ControllerOrder) : Type 0 where
  pub waited : own_orders d h ≡ o ∷ []
  pub sender : (d.sender == f) ≡ false → own_at d h d.sender ≡ []
  pub receiver : (d.receiver == f) ≡ false → own_at d h d.receiver ≡ []
  pub others : filter (is_own d (left d h)) os ≡ []

tail-none : {A : Type 0} (x y : A) (xs : List A) → x ∷ xs ≡ y ∷ [] → (x ≡ y) × (xs ≡ [])
tail-none x y xs e = (cc, cc)

no-front : {A : Type 0} (x : A) (xs : List A) → x ∷ xs ≡ [] → ⊥
no-front x xs e = cc

alone : (h : List ControllerAct) (d : Way) (f : ℕ) (o : ControllerOrder) (os : List ControllerOrder) → Awaits h d → (f ≡ d.sender)
    ⊎ (f ≡ d.receiver) → own_at d h f ≡ o ∷ filter (is_own d (left d h)) os → Alone h d f o os
alone h d f o os (nothing e g) (inl w) q = absurd (no-front o _ (sym q ∙ ap (own_at d h) w ∙ e))
alone h d f o os (nothing e g) (inr w) q = absurd (no-front o _ (sym q ∙ ap (own_at d h) w ∙ g))
alone h d f o os (at_sender z t x e g u c j m y) (inl w) q =
    let k = tail-none o z _ (sym q ∙ ap (own_at d h) w ∙ e) in
    record { waited = rw (e, g) (ap (λ v. v ∷ []) (sym k.0)); sender = λ v. absurd (grind arith); receiver = λ v. g; others = k.1 }
alone h d f o os (at_sender z t x e g u c j m y) (inr w) q = absurd (no-front o _ (sym q ∙ ap (own_at d h) w ∙ g))
alone h d f o os (at_receiver z t x e g u c j m y) (inl w) q = absurd (no-front o _ (sym q ∙ ap (own_at d h) w ∙ e))
alone h d f o os (at_receiver z t x e g u c j m y) (inr w) q =
    let k = tail-none o z _ (sym q ∙ ap (own_at d h) w ∙ g) in
    record { waited = rw (e, g) (ap (λ v. v ∷ []) (sym k.0)); sender = λ v. e; receiver = λ v. absurd (grind arith); others = k.1 }

any-less : {A : Type 0} (r q : A → Bool) (xs : List A) → list_any r (filter q xs) ≡ true → list_any r xs ≡ true
any-less r q [] e = e
any-less r q (x ∷ xs) e = case (q x) (r x) refl (any-less r q xs) e
  where
    case : (b c : Bool) → r x ≡ c → (list_any r (filter q xs) ≡ true → list_any r xs ≡ true)
        → list_any r (if b then x ∷ filter q xs else filter q xs) ≡ true → (r x || list_any r xs) ≡ true
    case b true u f w = rw u refl
    case true false u f w = rw u (f (ap (λ z. z || list_any r (filter q xs)) (sym u) ∙ w))
    case false false u f w = rw u (f w)

own-less : (d : Way) (q : Association → Bool) (xs : List Association) (z : ControllerOrder) → is_own d (filter q xs) z ≡ true
    → is_own d xs z ≡ true
own-less d q xs Read e = e
own-less d q xs (Policy l) e = e
own-less d q xs (PutIn y) e = e
own-less d q xs (PutOut y) e = e
own-less d q xs (RemoveIn n) e = any-less (λ x. x.serial == n) q xs e
own-less d q xs (RemoveOut n) e = any-less (λ x. x.serial == n) q xs e

gone-at : (h : List ControllerAct) (d : Way) (f g : ℕ) (o : ControllerOrder) (os : List ControllerOrder) (r : ControllerOrder → Bool)
    → queue f h ≡ o ∷ os → ((z : ControllerOrder) → r z ≡ true → is_own d (left d h) z ≡ true)
    → filter (is_own d (left d h)) os ≡ [] → (b : Bool) → (g == f) ≡ b → (b ≡ false → own_at d h g ≡ [])
    → filter r (if b then rest (queue g h) else queue g h) ≡ []
gone-at h d f g o os r e k u true t v =
    let w : g ≡ f = grind arith in
    let q : queue g h ≡ o ∷ os = ap (λ z. queue z h) w ∙ e in
    rw q (filter-less (is_own d (left d h)) r os k u)
gone-at h d f g o os r e k u false t v = filter-less (is_own d (left d h)) r (queue g h) k (v refl)

gone : (h : List ControllerAct) (f s n : ℕ) (a : Answer) (o : ControllerOrder) (os : List ControllerOrder) (d : Way) → queue f h ≡ o ∷ os
    → Alone h d f o os → own_orders d (Answered f s n a ∷ h) ≡ []
gone h f s n a o os d e k =
    let l = left-answered h f s n a o os d e in
    let m = own-less d (λ x. not (is_kind RemovingIn x.serial o)) (left d h) in
    let r = gone-at h d f d.sender o os (is_own d (filter (λ x. not (is_kind RemovingIn x.serial o)) (left d h))) e m k.others
    (d.sender == f) refl k.sender in
    let t = gone-at h d f d.receiver o os (is_own d (filter (λ x. not (is_kind RemovingIn x.serial o)) (left d h))) e m k.others
    (d.receiver == f) refl k.receiver in
    rw (l, r, t) refl

-- ## what becomes of its associations

-- the answer to a put, or to a removal of an outbound half, leaves them
record OwnReply (h : List ControllerAct) (d : Way) (f : ℕ) (a : Answer) (o : ControllerOrder) (t : Task) (m : ℕ) : Type 0 where
  pub is : half_of o ≡ half t m
  pub left : (x : Association) → Has x (left d h) → lives.answered (record { task = t; serial = m }) a.status (life_of h x) ≡
      (if not (is_kind RemovingIn x.serial o) then Some (answered_life h f a o x) else None)
  pub cause : is_cause_reading h d f (Some o) a ≡ false

abbrev keep : (Association → Bool) → Option Association → Option Association
keep q None = None
keep q (Some x) = if q x then Some x else None

first-two : (r q : Association → Bool) (a b : Option Association) → ((x : Association) → a ≡ Some x → r x ≡ true)
    → ((x : Association) → b ≡ Some x → r x ≡ false) → first (λ x. q x && r x) (listed a ++ listed b) ≡ keep q a
first-two r q None None f g = refl
first-two r q None (Some x) f g = let t = g x refl in rw t (dropped (q x))
  where
    dropped : (b : Bool) → (if b && false then Some x else None) ≡ None
    dropped true = refl
    dropped false = refl
first-two r q (Some y) None f g = let t = f y refl in rw t (taken (q y))
  where
    taken : (b : Bool) → (if b && true then Some y else None) ≡ (if b then Some y else None)
    taken true = refl
    taken false = refl
first-two r q (Some y) (Some x) f g = let t = f y refl in let u = g x refl in rw (t, u) (both (q y) (q x))
  where
    both : (b c : Bool) → (if b && true then Some y else if c && false then Some x else None) ≡ (if b then Some y else None)
    both true c = refl
    both false true = refl
    both false false = refl

second-two : (r q : Association → Bool) (a b : Option Association) → ((x : Association) → a ≡ Some x → r x ≡ false)
    → ((x : Association) → b ≡ Some x → r x ≡ true) → first (λ x. q x && r x) (listed a ++ listed b) ≡ keep q b
second-two r q None None f g = refl
second-two r q None (Some x) f g = let t = g x refl in rw t (taken (q x))
  where
    taken : (b : Bool) → (if b && true then Some x else None) ≡ (if b then Some x else None)
    taken true = refl
    taken false = refl
second-two r q (Some y) None f g = let t = f y refl in rw t (dropped (q y))
  where
    dropped : (b : Bool) → (if b && false then Some y else None) ≡ None
    dropped true = refl
    dropped false = refl
second-two r q (Some y) (Some x) f g = let t = f y refl in let u = g x refl in rw (t, u) (both (q y) (q x))
  where
    both : (b c : Bool) → (if b && false then Some y else if c && true then Some x else None) ≡ (if c then Some x else None)
    both true true = refl
    both true false = refl
    both false true = refl
    both false false = refl

kept-keep : (g : Life → Option Life) (f k : Association → Life) (q : Association → Bool) (o : Option Association)
    → ((x : Association) → o ≡ Some x → g (f x) ≡ (if q x then Some (k x) else None))
    → option_map k (keep q o) ≡ steps.kept g (option_map f o)
kept-keep g f k q None e = refl
kept-keep g f k q (Some x) e = mapped (q x) ∙ sym (e x refl)
  where
    mapped : (b : Bool) → option_map k (if b then Some x else None) ≡ (if b then Some (k x) else None)
    mapped true = refl
    mapped false = refl

record Keeps (h : List ControllerAct) (f s n : ℕ) (a : Answer) (o : ControllerOrder) (d : Way) : Type 0 where
  pub older : older_left d (Answered f s n a ∷ h) ≡ keep (λ x. not (is_kind RemovingIn x.serial o)) (older_left d h)
  pub newest : newest_left d (Answered f s n a ∷ h) ≡ keep (λ x. not (is_kind RemovingIn x.serial o)) (newest_left d h)

below : (d : Way) (h : List ControllerAct) (x : Association) → older_left d h ≡ Some x → nat_lt x.serial (newest_serial d h) ≡ true
below d h x e = (first-some (λ z. nat_lt z.serial (newest_serial d h)) (left d h) x e).1

not-below : (d : Way) (h : List ControllerAct) (x : Association) → newest_left d h ≡ Some x → nat_lt x.serial (newest_serial d h) ≡ false
not-below d h x e = let t = newest-is d h x e in grind arith

keeps : (p : ℕ) (h : List ControllerAct) (f s n : ℕ) (a : Answer) (o : ControllerOrder) (os : List ControllerOrder) (d : Way)
    → IsControllerPast p h → PlainAnswers h → queue f h ≡ o ∷ os → Keeps h f s n a o d
keeps p h f s n a o os d l y e =
    let k : left d (Answered f s n a ∷ h) ≡ filter (λ x. not (is_kind RemovingIn x.serial o)) (left d h) = left-answered h f s n a o os d e
    in
    let w : left d h ≡ listed (older_left d h) ++ listed (newest_left d h) = left-two p h l y d in
    record {
      older = ap (first (λ x. nat_lt x.serial (newest_serial d h))) k
          ∙ first-filter (λ x. nat_lt x.serial (newest_serial d h)) (λ x. not (is_kind RemovingIn x.serial o)) (left d h)
          ∙ ap (first (λ x. not (is_kind RemovingIn x.serial o) && nat_lt x.serial (newest_serial d h))) w
          ∙ first-two (λ x. nat_lt x.serial (newest_serial d h)) (λ x. not (is_kind RemovingIn x.serial o)) (older_left d h)
          (newest_left d h) (below d h) (not-below d h);
      newest = ap (first (λ x. x.serial == newest_serial d h)) k
          ∙ first-filter (λ x. x.serial == newest_serial d h) (λ x. not (is_kind RemovingIn x.serial o)) (left d h)
          ∙ ap (first (λ x. not (is_kind RemovingIn x.serial o) && (x.serial == newest_serial d h))) w
          ∙ second-two (λ x. x.serial == newest_serial d h) (λ x. not (is_kind RemovingIn x.serial o)) (older_left d h) (newest_left d h)
          (older-below d h) (newest-is d h);
    }

own-half : (h : List ControllerAct) (f s n : ℕ) (a : Answer) (o : ControllerOrder) (os : List ControllerOrder) (d : Way) (t : Task) (m : ℕ)
    → queue f h ≡ o ∷ os → Alone h d f o os → Keeps h f s n a o d → OwnReply h d f a o t m
    → progress_of (Answered f s n a ∷ h) d ≡ steps.answered (record { task = t; serial = m }) a.status (progress_of h d)
own-half h f s n a o os d t m e k w r =
    by-parts h f s n a o os d e
    ∙ same-progress _ _ _ _ _ _ _ _ _ _ refl (ap (λ b. b || is_wanted d h) r.cause) (ap first_half (gone h f s n a o os d e k))
    (ap (option_map (answered_life h f a o)) w.older ∙ kept-keep (lives.answered (record { task = t; serial = m }) a.status) (life_of h)
    (answered_life h f a o) (λ x. not (is_kind RemovingIn x.serial o)) (older_left d h) (λ x j. r.left x (older-left d h x j)))
    (ap (option_map (answered_life h f a o)) w.newest ∙ kept-keep (lives.answered (record { task = t; serial = m }) a.status) (life_of h)
    (answered_life h f a o) (λ x. not (is_kind RemovingIn x.serial o)) (newest_left d h) (λ x j. r.left x (newest-left d h x j)))
    ∙ sym (ap (λ b. if b then progress (is_over d h) (is_wanted d h) None
    (steps.kept (lives.answered (record { task = t; serial = m }) a.status) (option_map (life_of h) (older_left d h)))
    (steps.kept (lives.answered (record { task = t; serial = m }) a.status) (option_map (life_of h) (newest_left d h)))
    else progress_of h d) waits)
  where
    waits : steps.awaits m (first_half (own_orders d h)) ≡ true
    waits = ap (λ z. steps.awaits m (first_half z)) k.waited ∙ ap (steps.awaits m) r.is ∙ eq-own m

-- ## each order

put-in-reply : (h : List ControllerAct) (d : Way) (f : ℕ) (a : Answer) (y : Association) → OwnReply h d f a (PutIn y) tasks.PutIn y.serial
put-in-reply h d f a y = record { is = refl; left = λ x j. life x (x.serial == y.serial) refl; cause = refl }
  where
    life : (x : Association) (b : Bool) → (x.serial == y.serial) ≡ b
        → (if x.serial == y.serial then lives.answered_own (life_of h x) a.status tasks.PutIn
        else Some (lives.ended_if false (life_of h x))) ≡ Some (answered_life h f a (PutIn y) x)
    life x true t = rw t refl
    life x false t = rw t refl

put-out-reply : (p : ℕ) (h : List ControllerAct) (d : Way) (f : ℕ) (a : Answer) (y : Association) → IsControllerPast p h
    → Has d (directions h) → (d.id == y.way.id) ≡ true → OwnReply h d f a (PutOut y) tasks.PutOut y.serial
put-out-reply p h d f a y l i u = record { is = refl; left = λ x j. life x (same x j) (x.serial == y.serial) refl; cause = refl }
  where
    same : (x : Association) → Has x (left d h) → (x.way.id == y.way.id) ≡ true
    same x j = let w : x.way.id ≡ d.id = ap (λ (z : Way). z.id) (sym (own-way p h l d x i j)) in rw w u

    life : (x : Association) → (x.way.id == y.way.id) ≡ true → (b : Bool) → (x.serial == y.serial) ≡ b
        → (if x.serial == y.serial then lives.answered_own (life_of h x) a.status tasks.PutOut
        else Some (lives.ended_if (nat_lt x.serial y.serial && (a.status == 201)) (life_of h x))) ≡ Some (answered_life h f a (PutOut y) x)
    life x v true t = let w : nat_lt x.serial y.serial ≡ false = grind arith in rw (t, v, w, or-false (nat_le 400 a.status)) refl
    life x v false t = rw (t, v) refl

remove-in-reply : (h : List ControllerAct) (d : Way) (f : ℕ) (a : Answer) (m : ℕ) → OwnReply h d f a (RemoveIn m) tasks.RemoveIn m
remove-in-reply h d f a m = record { is = refl; left = λ x j. life x (x.serial == m) refl; cause = refl }
  where
    life : (x : Association) (b : Bool) → (x.serial == m) ≡ b → (if x.serial == m then None else Some (lives.ended_if false (life_of h x)))
        ≡ (if not (x.serial == m) then Some (answered_life h f a (RemoveIn m) x) else None)
    life x true t = rw t refl
    life x false t = rw t refl

remove-out-reply : (h : List ControllerAct) (d : Way) (f : ℕ) (a : Answer) (m : ℕ) → OwnReply h d f a (RemoveOut m) tasks.RemoveOut m
remove-out-reply h d f a m = record { is = refl; left = λ x j. life x (x.serial == m) refl; cause = refl }
  where
    life : (x : Association) (b : Bool) → (x.serial == m) ≡ b
        → (if x.serial == m then lives.answered_own (life_of h x) a.status tasks.RemoveOut else Some (lives.ended_if false (life_of h x))) ≡
        Some (answered_life h f a (RemoveOut m) x)
    life x true t = rw t refl
    life x false t = rw t refl

answered-own : (p : ℕ) (h : List ControllerAct) (f s n : ℕ) (a : Answer) (o : ControllerOrder) (os : List ControllerOrder) (ps : List Peer)
    (d : Way) → IsControllerPast p h → PlainAnswers h → Has d (directions h) → (d.sender == d.receiver) ≡ false → queue f h ≡ o ∷ os
    → is_own d (left d h) o ≡ true
    → progress_of (Answered f s n a ∷ h) d ≡ front_effect f a (Some (waiting_of ps o)) (direction_of d) (progress_of h d)
answered-own p h f s n a o os ps d l y i c e t = case o t refl
  where
    k : OwnOrder h d f o
    k = own-order p h l d i f o (subst (Has o) (sym e) (inl refl)) t

    at : (b : Bool) → f ≡ (if b then d.receiver else d.sender) → (f ≡ d.sender) ⊎ (f ≡ d.receiver)
    at true w = inr w
    at false w = inl w

    here : own_at d h f ≡ o ∷ filter (is_own d (left d h)) os
    here = rw (e, t) refl

    lone : Alone h d f o os
    lone = alone h d f o os (awaits p h l d i c) (at (lives.is_inbound k.task) k.at) here

    with-reply : (u : Task) (m : ℕ) → OwnReply h d f a o u m → progress_of (Answered f s n a ∷ h) d ≡ steps.answered
        (record { task = u; serial = m }) a.status (progress_of h d)
    with-reply u m r = own-half h f s n a o os d u m e lone (keeps p h f s n a o os d l y e) r

    case : (z : ControllerOrder) → is_own d (left d h) z ≡ true → o ≡ z → progress_of (Answered f s n a ∷ h) d ≡ front_effect f a
        (Some (waiting_of ps z)) (direction_of d) (progress_of h d)
    case Read v w = cc
    case (Policy r) v w = cc
    case (PutIn x) v w = with-reply tasks.PutIn x.serial (subst (λ z. OwnReply h d f a z tasks.PutIn x.serial) (sym w)
        (put-in-reply h d f a x))
    case (PutOut x) v w =
        with-reply tasks.PutOut x.serial (subst (λ z. OwnReply h d f a z tasks.PutOut x.serial) (sym w) (put-out-reply p h d f a x l i v))
    case (RemoveIn m) v w =
        with-reply tasks.RemoveIn m (subst (λ z. OwnReply h d f a z tasks.RemoveIn m) (sym w) (remove-in-reply h d f a m))
    case (RemoveOut m) v w =
        with-reply tasks.RemoveOut m (subst (λ z. OwnReply h d f a z tasks.RemoveOut m) (sym w) (remove-out-reply h d f a m))

pub progress-answered : (p : ℕ) (h : List ControllerAct) (f s n : ℕ) (a : Answer) (o : ControllerOrder) (os : List ControllerOrder)
    (ps : List Peer) (d : Way) → IsControllerPast p h → PlainAnswers h → Has d (directions h) → (d.sender == d.receiver) ≡ false
    → queue f h ≡ o ∷ os
    → progress_of (Answered f s n a ∷ h) d ≡ front_effect f a (Some (waiting_of ps o)) (direction_of d) (progress_of h d)
progress-answered p h f s n a o os ps d l y i c e = case (is_own d (left d h) o) refl
  where
    case : (b : Bool) → is_own d (left d h) o ≡ b → progress_of (Answered f s n a ∷ h) d ≡ front_effect f a (Some (waiting_of ps o))
        (direction_of d) (progress_of h d)
    case true t = answered-own p h f s n a o os ps d l y i c e t
    case false t = answered-other p h f s n a o os ps d l y i c e t
