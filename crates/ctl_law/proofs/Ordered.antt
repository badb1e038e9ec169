-- What an order makes of a direction, its own or another's.
use Rattle.std.proofs.Common.{◌≡◌, ℕ, ◌+◌, ◌<◌, ◌≤◌, Bool, true, false, ◌==◌, not, ◌&&◌, nat_lt, List, [], ◌∷◌, ◌++◌, Option, Some, None, ◌⊎◌, inl, inr, length, refl, sym, subst, ap, ◌∙◌, arith, if◌then◌else◌, append-nil}
use Rattle.std.specs.List.{filter, list_any}
use Rattle.std.specs.Option.{option_map}
use Rattle.hist_controller.specs.Acts.{Way, Association, ControllerOrder, Read, Policy, PutIn, PutOut, RemoveIn, RemoveOut, ControllerAct, Ordered}
use Rattle.hist_controller.specs.Past.{queue, directions, serials, is_wanted, left, last_if, newest_serial, inbound_put, is_own, is_inbound_put_of}
use Rattle.hist_controller.specs.Law.{first}
use Rattle.hist_controller.specs.Clauses.{Has, IsControllerPast}
use Rattle.hist_controller.specs.Halves.{PlainAnswers}
use Rattle.hist_controller.proofs.KeptState.{eq-own}
use Rattle.hist_controller.proofs.Lists.{has-left, right-in}
use Rattle.hist_controller.proofs.Serials.{low}
use Rattle.hist_controller.proofs.Turns.{any-has}
use Rattle.ctl_tunnels.specs.declared.life.Life.{Life}
use Rattle.ctl_tunnels.specs.declared.life.Task.TheVariants as tasks
use Rattle.ctl_tunnels.specs.Lives as lives
use Rattle.ctl_tunnels.specs.Steps as steps
use Rattle.hist_controller.specs.Left.{listed, newest_left, older_left}
use Rattle.hist_controller.specs.Own.{own_orders}
use Rattle.ctl_law.specs.Stands.{life_of, first_half, progress_of}
use Rattle.hist_controller.proofs.Left.{older-newest as left-two}
use Rattle.hist_controller.proofs.Own.{one-own}
use Rattle.ctl_law.proofs.Lists.{filter-append, filter-has, one-is}
use Rattle.ctl_law.proofs.Own.{has_serial, foreign, own_at}
use Rattle.ctl_law.proofs.Progresses.{same-progress, same-first, made-first, older-left, newest-left}

last-has : (q : List ControllerOrder) (z : ControllerOrder) → Has z (q ++ z ∷ [])
last-has [] z = inl refl
last-has (x ∷ q) z = inr (last-has q z)

-- it waits where it was given
pub now-waits : (h : List ControllerAct) (g s n : ℕ) (o : ControllerOrder) → Has o (queue g (Ordered g s n o ∷ h))
now-waits h g s n o = let e : (g == g) ≡ true = eq-own g in rw e (last-has (queue g h) o)

-- ## an order of another direction, or of none

pub no-inbound : (d : Way) (xs : List Association) (o : ControllerOrder) → is_own d xs o ≡ false → (inbound_put d o ≡ [])
    × (is_inbound_put_of d o ≡ false)
no-inbound d xs Read e = (refl, refl)
no-inbound d xs (Policy l) e = (refl, refl)
no-inbound d xs (PutIn y) e = (rw e refl, e)
no-inbound d xs (PutOut y) e = (refl, refl)
no-inbound d xs (RemoveIn n) e = (refl, refl)
no-inbound d xs (RemoveOut n) e = (refl, refl)

same-newest : (d : Way) (xs : List Association) (o : ControllerOrder) (n : ℕ) → is_own d xs o ≡ false → last_if d o n ≡ n
same-newest d xs Read n e = refl
same-newest d xs (Policy l) n e = refl
same-newest d xs (PutIn y) n e = rw e refl
same-newest d xs (PutOut y) n e = refl
same-newest d xs (RemoveIn m) n e = refl
same-newest d xs (RemoveOut m) n e = refl

same-life : (h : List ControllerAct) (g s n : ℕ) (o : ControllerOrder) (x : Association) → has_serial x.serial o ≡ false
    → life_of (Ordered g s n o ∷ h) x ≡ life_of h x
same-life h g s n Read x e = refl
same-life h g s n (Policy l) x e = refl
same-life h g s n (PutIn y) x e = rw e refl
same-life h g s n (PutOut y) x e = rw e refl
same-life h g s n (RemoveIn m) x e = refl
same-life h g s n (RemoveOut m) x e = refl

not-added : (r : ControllerOrder → Bool) (b : Bool) (q : List ControllerOrder) (o : ControllerOrder) → r o ≡ false
    → filter r (if b then q ++ o ∷ [] else q) ≡ filter r q
not-added r true q o e = filter-append r q (o ∷ []) ∙ rw e (append-nil (filter r q))
not-added r false q o e = refl

pub progress-other : (p : ℕ) (h : List ControllerAct) (g s n : ℕ) (o : ControllerOrder) (d : Way) → IsControllerPast p (Ordered g s n o ∷ h)
    → Has d (directions h) → is_own d (left d h) o ≡ false → progress_of (Ordered g s n o ∷ h) d ≡ progress_of h d
progress-other p h g s n o d l i t = same-progress _ _ _ _ _ _ _ _ _ _ refl wanted (ap first_half orders) older newer
  where
    same-left : left d (Ordered g s n o ∷ h) ≡ left d h
    same-left = ap (λ xs. left d h ++ xs) (no-inbound d (left d h) o t).0 ∙ append-nil (left d h)

    newest : newest_serial d (Ordered g s n o ∷ h) ≡ newest_serial d h
    newest = same-newest d (left d h) o (newest_serial d h) t

    wanted : is_wanted d (Ordered g s n o ∷ h) ≡ is_wanted d h
    wanted = ap (λ b. not b && is_wanted d h) (no-inbound d (left d h) o t).1

    orders : own_orders d (Ordered g s n o ∷ h) ≡ own_orders d h
    orders =
        let u = not-added (is_own d (left d h)) (d.sender == g) (queue d.sender h) o t in
        let v = not-added (is_own d (left d h)) (d.receiver == g) (queue d.receiver h) o t in
        rw (same-left, u, v) refl

    life : (x : Association) → Has x (left d h) → life_of (Ordered g s n o ∷ h) x ≡ life_of h x
    life x j = same-life h g s n o x (foreign p (Ordered g s n o ∷ h) l d i g o (now-waits h g s n o) (rw same-left t) x (rw same-left j))

    older : option_map (life_of (Ordered g s n o ∷ h)) (older_left d (Ordered g s n o ∷ h)) ≡ option_map (life_of h) (older_left d h)
    older = ap (option_map (life_of (Ordered g s n o ∷ h))) (rw (same-left, newest) refl)
        ∙ same-first (life_of (Ordered g s n o ∷ h)) (life_of h) (older_left d h) (λ x e. life x (older-left d h x e))

    newer : option_map (life_of (Ordered g s n o ∷ h)) (newest_left d (Ordered g s n o ∷ h)) ≡ option_map (life_of h) (newest_left d h)
    newer = ap (option_map (life_of (Ordered g s n o ∷ h))) (rw (same-left, newest) refl)
        ∙ same-first (life_of (Ordered g s n o ∷ h)) (life_of h) (newest_left d h) (λ x e. life x (newest-left d h x e))

-- ## an order of its own

-- it is the one that waits
now-own : (p : ℕ) (h : List ControllerAct) (g s n : ℕ) (o : ControllerOrder) (d : Way) → IsControllerPast p (Ordered g s n o ∷ h)
    → Has d (directions h) → is_own d (left d (Ordered g s n o ∷ h)) o ≡ true → (g ≡ d.sender) ⊎ (g ≡ d.receiver)
    → own_orders d (Ordered g s n o ∷ h) ≡ o ∷ []
now-own p h g s n o d l i t w = one-is (own_orders d (Ordered g s n o ∷ h)) o (one-own p (Ordered g s n o ∷ h) l d i) (has w)
  where
    has : (g ≡ d.sender) ⊎ (g ≡ d.receiver) → Has o (own_orders d (Ordered g s n o ∷ h))
    has (inl e) = has-left o (own_at d (Ordered g s n o ∷ h) d.sender) (own_at d (Ordered g s n o ∷ h) d.receiver)
        (filter-has (is_own d (left d (Ordered g s n o ∷ h))) (queue d.sender (Ordered g s n o ∷ h)) o
        (subst (λ z. Has o (queue z (Ordered g s n o ∷ h))) e (now-waits h g s n o)) t)
    has (inr e) = right-in o (own_at d (Ordered g s n o ∷ h) d.sender) (own_at d (Ordered g s n o ∷ h) d.receiver)
        (filter-has (is_own d (left d (Ordered g s n o ∷ h))) (queue d.receiver (Ordered g s n o ∷ h)) o
        (subst (λ z. Has o (queue z (Ordered g s n o ∷ h))) e (now-waits h g s n o)) t)

pub progress-remove-in : (p : ℕ) (h : List ControllerAct) (g s n : ℕ) (x : Association) (d : Way)
    → IsControllerPast p (Ordered g s n (RemoveIn x.serial) ∷ h) → Has d (directions h) → Has x (left d h) → g ≡ d.receiver
    → progress_of (Ordered g s n (RemoveIn x.serial) ∷ h) d ≡ steps.ordered (record { task = tasks.RemoveIn; serial = x.serial })
    (progress_of h d)
progress-remove-in p h g s n x d l i j e =
    let k : left d (Ordered g s n (RemoveIn x.serial) ∷ h) ≡ left d h = append-nil (left d h) in
    let t : list_any (λ z. z.serial == x.serial) (left d h) ≡ true = any-has (λ (z : Association). z.serial == x.serial) x (left d h) j
    (eq-own x.serial) in
    let w = now-own p h g s n (RemoveIn x.serial) d l i (rw k t) (inr e) in
    same-progress _ _ _ _ _ _ _ _ _ _ refl refl (ap first_half w)
    (ap (option_map (life_of h)) (rw k refl))
    (ap (option_map (life_of h)) (rw k refl))

pub progress-remove-out : (p : ℕ) (h : List ControllerAct) (g s n : ℕ) (x : Association) (d : Way)
    → IsControllerPast p (Ordered g s n (RemoveOut x.serial) ∷ h) → Has d (directions h) → Has x (left d h) → g ≡ d.sender
    → progress_of (Ordered g s n (RemoveOut x.serial) ∷ h) d ≡ steps.ordered (record { task = tasks.RemoveOut; serial = x.serial })
    (progress_of h d)
progress-remove-out p h g s n x d l i j e =
    let k : left d (Ordered g s n (RemoveOut x.serial) ∷ h) ≡ left d h = append-nil (left d h) in
    let t : list_any (λ z. z.serial == x.serial) (left d h) ≡ true = any-has (λ (z : Association). z.serial == x.serial) x (left d h) j
    (eq-own x.serial) in
    let w = now-own p h g s n (RemoveOut x.serial) d l i (rw k t) (inl e) in
    same-progress _ _ _ _ _ _ _ _ _ _ refl refl (ap first_half w)
    (ap (option_map (life_of h)) (rw k refl))
    (ap (option_map (life_of h)) (rw k refl))

pub progress-put-out : (p : ℕ) (h : List ControllerAct) (g s n : ℕ) (x : Association) (d : Way)
    → IsControllerPast p (Ordered g s n (PutOut x) ∷ h) → Has d (directions h) → (d.id == x.way.id) ≡ true → g ≡ d.sender
    → progress_of (Ordered g s n (PutOut x) ∷ h) d ≡ steps.ordered (record { task = tasks.PutOut; serial = x.serial }) (progress_of h d)
progress-put-out p h g s n x d l i t e =
    let k : left d (Ordered g s n (PutOut x) ∷ h) ≡ left d h = append-nil (left d h) in
    let w = now-own p h g s n (PutOut x) d l i t (inl e) in
    same-progress _ _ _ _ _ _ _ _ _ _ refl refl (ap first_half w)
    (ap (option_map (life_of (Ordered g s n (PutOut x) ∷ h))) (rw k refl)
    ∙ sym (made-first (steps.sent_life x.serial) (life_of h) (life_of (Ordered g s n (PutOut x) ∷ h)) (older_left d h)
    (λ z u. life z (z.serial == x.serial) refl)))
    (ap (option_map (life_of (Ordered g s n (PutOut x) ∷ h))) (rw k refl)
    ∙ sym (made-first (steps.sent_life x.serial) (life_of h) (life_of (Ordered g s n (PutOut x) ∷ h)) (newest_left d h)
    (λ z u. life z (z.serial == x.serial) refl)))
  where
    life : (z : Association) (b : Bool) → (z.serial == x.serial) ≡ b
        → (if z.serial == x.serial then lives.sent (life_of h z) else life_of h z) ≡ life_of (Ordered g s n (PutOut x) ∷ h) z
    life z true u = rw u refl
    life z false u = rw u refl

-- ### a new association

listed-two : (a b : Option Association) → length (listed a ++ listed b) ≤ 2
listed-two None None = omega arith
listed-two None (Some x) = omega arith
listed-two (Some y) None = omega arith
listed-two (Some y) (Some x) = omega arith

older-of-new : (a b : Option Association) (x : Association) → length ((listed a ++ listed b) ++ x ∷ []) ≤ 2
    → ((z : Association) → Has z (listed a ++ listed b) → nat_lt z.serial x.serial ≡ true) → (f : Association → Life)
    → option_map f (first (λ z. nat_lt z.serial x.serial) ((listed a ++ listed b) ++ x ∷ [])) ≡ steps.newer_or (option_map f b)
    (option_map f a)
older-of-new None None x m k f = let t : nat_lt x.serial x.serial ≡ false = grind arith in rw t refl
older-of-new None (Some y) x m k f = let t = k y (inl refl) in rw t refl
older-of-new (Some y) None x m k f = let t = k y (inl refl) in rw t refl
older-of-new (Some y) (Some z) x m k f = absurd (omega arith)

newest-of-new : (xs : List Association) (x : Association) → ((z : Association) → Has z xs → (z.serial == x.serial) ≡ false)
    → first (λ z. z.serial == x.serial) (xs ++ x ∷ []) ≡ Some x
newest-of-new [] x k = let t = eq-own x.serial in rw t refl
newest-of-new (z ∷ xs) x k = let t = k z (inl refl) in rw t (newest-of-new xs x (λ y i. k y (inr i)))

pub progress-put-in : (p : ℕ) (h : List ControllerAct) (g s n : ℕ) (x : Association) (d : Way)
    → IsControllerPast p (Ordered g s n (PutIn x) ∷ h) → PlainAnswers h → Has d (directions h) → (d.id == x.way.id) ≡ true
    → x.serial ≡ serials h + 1 → g ≡ d.receiver
    → progress_of (Ordered g s n (PutIn x) ∷ h) d ≡ steps.ordered (record { task = tasks.PutIn; serial = x.serial }) (progress_of h d)
progress-put-in p h g s n x d l y i t u e =
    same-progress _ _ _ _ _ _ _ _ _ _ refl (ap (λ b. not b && is_wanted d h) t)
    (ap first_half (now-own p h g s n (PutIn x) d l i t (inr e))) older newer
  where
    lower : (z : Association) → Has z (left d h) → z.serial < x.serial
    lower z j = let q = low p h l.1 d z j in omega arith

    all : left d (Ordered g s n (PutIn x) ∷ h) ≡ left d h ++ x ∷ []
    all = ap (λ b. left d h ++ (if b then x ∷ [] else [])) t

    newest : newest_serial d (Ordered g s n (PutIn x) ∷ h) ≡ x.serial
    newest = ap (λ b. if b then x.serial else newest_serial d h) t

    two : left d h ≡ listed (older_left d h) ++ listed (newest_left d h)
    two = left-two p h l.1 y d

    few : length ((listed (older_left d h) ++ listed (newest_left d h)) ++ x ∷ []) ≤ 2
    few =
        let a : left d h ++ x ∷ [] ≡ listed (older_left d (Ordered g s n (PutIn x) ∷ h))
        ++ listed (newest_left d (Ordered g s n (PutIn x) ∷ h)) = sym all ∙ left-two p (Ordered g s n (PutIn x) ∷ h) l y d in
        let b = listed-two (older_left d (Ordered g s n (PutIn x) ∷ h)) (newest_left d (Ordered g s n (PutIn x) ∷ h)) in
        subst (λ z. length (z ++ x ∷ []) ≤ 2) two (subst (λ z. length z ≤ 2) (sym a) b)

    old-life : (z : Association) → Has z (left d h) → life_of (Ordered g s n (PutIn x) ∷ h) z ≡ life_of h z
    old-life z j = same-life h g s n (PutIn x) z (let q = lower z j in grind arith)

    new-life : life_of (Ordered g s n (PutIn x) ∷ h) x ≡ lives.begun x.serial
    new-life = let q = eq-own x.serial in rw q refl

    newer : option_map (life_of (Ordered g s n (PutIn x) ∷ h)) (newest_left d (Ordered g s n (PutIn x) ∷ h)) ≡ Some (lives.begun x.serial)
    newer =
        let a : newest_left d (Ordered g s n (PutIn x) ∷ h) ≡ Some x =
        rw (all, newest) (newest-of-new (left d h) x (λ z j. let q = lower z j in grind arith)) in
        ap (option_map (life_of (Ordered g s n (PutIn x) ∷ h))) a ∙ ap Some new-life

    older : option_map (life_of (Ordered g s n (PutIn x) ∷ h)) (older_left d (Ordered g s n (PutIn x) ∷ h)) ≡ steps.newer_or
        (option_map (life_of h) (newest_left d h)) (option_map (life_of h) (older_left d h))
    older =
        let a : older_left d (Ordered g s n (PutIn x) ∷ h) ≡ first (λ z. nat_lt z.serial x.serial)
        ((listed (older_left d h) ++ listed (newest_left d h)) ++ x ∷ []) =
        rw (all, newest) (ap (λ xs. first (λ z. nat_lt z.serial x.serial) (xs ++ x ∷ [])) two) in
        ap (option_map (life_of (Ordered g s n (PutIn x) ∷ h))) a
        ∙ older-of-new (older_left d h) (newest_left d h) x few (λ z j. let q = lower z (subst (Has z) (sym two) j) in
        grind arith) (life_of (Ordered g s n (PutIn x) ∷ h))
        ∙ ap (steps.newer_or (option_map (life_of (Ordered g s n (PutIn x) ∷ h)) (newest_left d h)))
        (same-first (life_of (Ordered g s n (PutIn x) ∷ h)) (life_of h) (older_left d h) (λ z j. old-life z (older-left d h z j)))
        ∙ ap (λ z. steps.newer_or z (option_map (life_of h) (older_left d h))) (same-first (life_of (Ordered g s n (PutIn x) ∷ h))
        (life_of h) (newest_left d h) (λ z j. old-life z (newest-left d h z j)))
