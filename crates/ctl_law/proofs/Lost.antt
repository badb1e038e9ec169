-- What a cut makes of a direction.
use Rattle.std.proofs.Common.{◌≡◌, ℕ, Bool, true, false, ◌==◌, ◌&&◌, ◌||◌, List, [], ◌∷◌, ◌++◌, Option, Some, None, refl, sym, subst, ap, ◌∙◌, arith, if◌then◌else◌}
use Rattle.std.specs.List.{filter, list_any}
use Rattle.std.specs.Option.{option_map}
use Rattle.std.proofs.Math.Bool.{or-false}
use Rattle.hist_controller.specs.Acts.{Way, Association, ControllerOrder, Read, Policy, PutIn, PutOut, RemoveIn, RemoveOut, ControllerAct, Cut}
use Rattle.hist_controller.specs.Past.{queue, directions, is_over, is_wanted, left, is_own, is_kind, PuttingIn, PuttingOut, is_put_of}
use Rattle.hist_controller.specs.Clauses.{Has, IsControllerPast}
use Rattle.ctl_tunnels.specs.declared.life.HalfOrder.{HalfOrder}
use Rattle.ctl_tunnels.specs.declared.life.Task.{Task}
use Rattle.ctl_tunnels.specs.declared.life.Task.TheVariants as tasks
use Rattle.ctl_tunnels.specs.declared.progress.Progress.{Progress}
use Rattle.ctl_tunnels.specs.Lives as lives
use Rattle.ctl_tunnels.specs.Steps as steps
use Rattle.ctl_core.specs.Step.{cut_effect}
use Rattle.hist_controller.specs.Left.{newest_left, older_left}
use Rattle.hist_controller.specs.Own.{own_orders}
use Rattle.ctl_law.specs.Stands.{half_of, life_of, first_half, progress_of, direction_of}
use Rattle.ctl_law.proofs.Lists.{any-filter, filter-none}
use Rattle.ctl_law.proofs.Own.{has_serial, half, own-order, foreign, own_at, Awaits, nothing, at_sender, at_receiver, awaits}
use Rattle.ctl_law.proofs.Progresses.{progress, same-progress, same-first, made-first, older-left, newest-left}

-- an order puts a half of this serial
abbrev puts_serial : ℕ → ControllerOrder → Bool
puts_serial n o = is_kind PuttingIn n o || is_kind PuttingOut n o

put-own : (d : Way) (xs : List Association) (o : ControllerOrder) → is_put_of d o ≡ true → is_own d xs o ≡ true
put-own d xs Read e = cc
put-own d xs (Policy l) e = cc
put-own d xs (PutIn y) e = e
put-own d xs (PutOut y) e = e
put-own d xs (RemoveIn n) e = cc
put-own d xs (RemoveOut n) e = cc

serial-of : (n : ℕ) (o : ControllerOrder) → puts_serial n o ≡ true → has_serial n o ≡ true
serial-of n Read e = cc
serial-of n (Policy l) e = cc
serial-of n (PutIn y) e = grind arith
serial-of n (PutOut y) e = grind arith
serial-of n (RemoveIn m) e = cc
serial-of n (RemoveOut m) e = cc

abbrev task_in : Option HalfOrder → Task
task_in None = tasks.PutIn
task_in (Some o) = o.task

abbrev serial_in : Option HalfOrder → ℕ
serial_in None = 0
serial_in (Some o) = o.serial

task-of : (t u : Task) (m n : ℕ) → half t m ≡ half u n → (t ≡ u) × (m ≡ n)
task-of t u m n e = (ap task_in e, ap serial_in e)

own-puts : (d : Way) (xs : List Association) (o : ControllerOrder) (t : Task) (n : ℕ) → is_own d xs o ≡ true → half_of o ≡ half t n
    → is_put_of d o ≡ lives.puts t
own-puts d xs Read t n e f = cc
own-puts d xs (Policy l) t n e f = cc
own-puts d xs (PutIn y) t n e f = e ∙ ap lives.puts (task-of tasks.PutIn t y.serial n f).0
own-puts d xs (PutOut y) t n e f = e ∙ ap lives.puts (task-of tasks.PutOut t y.serial n f).0
own-puts d xs (RemoveIn m) t n e f = ap lives.puts (task-of tasks.RemoveIn t m n f).0
own-puts d xs (RemoveOut m) t n e f = ap lives.puts (task-of tasks.RemoveOut t m n f).0

serial-puts : (k : ℕ) (o : ControllerOrder) (t : Task) (n : ℕ) → half_of o ≡ half t n → puts_serial k o ≡ (lives.puts t && (k == n))
serial-puts k Read t n f = cc
serial-puts k (Policy l) t n f = cc
serial-puts k (PutIn y) t n f = let q = task-of tasks.PutIn t y.serial n f in rw (sym q.0, sym q.1) (or-false (k == y.serial))
serial-puts k (PutOut y) t n f = let q = task-of tasks.PutOut t y.serial n f in rw (sym q.0, sym q.1) refl
serial-puts k (RemoveIn m) t n f = let q = task-of tasks.RemoveIn t m n f in rw (sym q.0) refl
serial-puts k (RemoveOut m) t n f = let q = task-of tasks.RemoveOut t m n f in rw (sym q.0) refl

-- what a queue loses of the direction is its own
record Loses (h : List ControllerAct) (d : Way) (f : ℕ) (os : List ControllerOrder) : Type 0 where
  pub puts : list_any (is_put_of d) (queue f h) ≡ list_any (is_put_of d) os
  pub serials : (x : Association) → Has x (left d h) → list_any (puts_serial x.serial) (queue f h) ≡ list_any (puts_serial x.serial) os

loses : (p : ℕ) (h : List ControllerAct) (d : Way) (f : ℕ) → IsControllerPast p h → Has d (directions h) → Loses h d f (own_at d h f)
loses p h d f l i = record {
  puts = any-filter (is_put_of d) (is_own d (left d h)) (queue f h) (λ o j e. put-own d (left d h) o e);
  serials = λ x k. any-filter (puts_serial x.serial) (is_own d (left d h)) (queue f h) (λ o j e. is-own x k o j e (is_own d (left d h) o)
      refl);
}
  where
    is-own : (x : Association) → Has x (left d h) → (o : ControllerOrder) → Has o (queue f h) → puts_serial x.serial o ≡ true → (b : Bool)
        → is_own d (left d h) o ≡ b → b ≡ true
    is-own x k o j e true t = refl
    is-own x k o j e false t = absurd (let u = foreign p h l d i f o j t x k in let v = serial-of x.serial o e in
        let w : true ≡ false = sym v ∙ u in cc)

-- with these orders lost
abbrev after_loss : List ControllerAct → Way → List ControllerOrder → Option HalfOrder → Progress
after_loss h d os q = progress (is_over d h) (list_any (is_put_of d) os || is_wanted d h) q
    (option_map (λ x. lives.ended_if (list_any (puts_serial x.serial) os) (life_of h x)) (older_left d h))
    (option_map (λ x. lives.ended_if (list_any (puts_serial x.serial) os) (life_of h x)) (newest_left d h))

at-cut : (p : ℕ) (h : List ControllerAct) (d : Way) (f s : ℕ) (os : List ControllerOrder) → Loses h d f os
    → progress_of (Cut f s ∷ h) d ≡ after_loss h d os (first_half (own_orders d (Cut f s ∷ h)))
at-cut p h d f s os k = same-progress _ _ _ _ _ _ _ _ _ _ refl (ap (λ b. b || is_wanted d h) k.puts) refl
    (same-first (life_of (Cut f s ∷ h)) (λ x. lives.ended_if (list_any (puts_serial x.serial) os) (life_of h x)) (older_left d h)
    (λ x e. ap (λ b. lives.ended_if b (life_of h x)) (k.serials x (older-left d h x e))))
    (same-first (life_of (Cut f s ∷ h)) (λ x. lives.ended_if (list_any (puts_serial x.serial) os) (life_of h x)) (newest_left d h)
    (λ x e. ap (λ b. lives.ended_if b (life_of h x)) (k.serials x (newest-left d h x e))))

filter-if : {A : Type 0} (r : A → Bool) (b : Bool) (xs : List A) → filter r (if b then [] else xs) ≡ (if b then [] else filter r xs)
filter-if r true xs = refl
filter-if r false xs = refl

own-cut : (h : List ControllerAct) (d : Way) (f s : ℕ) → own_orders d (Cut f s ∷ h) ≡ (if d.sender == f then [] else own_at d h d.sender)
    ++ (if d.receiver == f then [] else own_at d h d.receiver)
own-cut h d f s = rw (
  filter-if (is_own d (left d h)) (d.sender == f) (queue d.sender h),
  filter-if (is_own d (left d h)) (d.receiver == f)
      (queue d.receiver h),
) refl

none-lost : (p : ℕ) (h : List ControllerAct) (d : Way) (f s : ℕ) → IsControllerPast p h → Has d (directions h) → own_at d h f ≡ []
    → first_half (own_orders d (Cut f s ∷ h)) ≡ first_half (own_orders d h)
    → steps.cut_waits (d.sender == f) (d.receiver == f) (progress_of h d) (first_half (own_orders d h)) ≡ progress_of h d
    → progress_of (Cut f s ∷ h) d ≡ cut_effect f (direction_of d) (progress_of h d)
none-lost p h d f s l i e q w =
    let k : Loses h d f [] = subst (Loses h d f) e (loses p h d f l i) in
    let a : progress_of (Cut f s ∷ h) d ≡ after_loss h d [] (first_half (own_orders d (Cut f s ∷ h))) = at-cut p h d f s [] k in
    let b : after_loss h d [] (first_half (own_orders d (Cut f s ∷ h))) ≡ progress_of h d = ap (after_loss h d []) q in
    a ∙ b ∙ sym w

one-lost : (p : ℕ) (h : List ControllerAct) (d : Way) (f s : ℕ) (o : ControllerOrder) (t : Task) (n : ℕ) → IsControllerPast p h
    → Has d (directions h) → own_at d h f ≡ o ∷ []
    → half_of o ≡ half t n → is_own d (left d h) o ≡ true
    → first_half (own_orders d (Cut f s ∷ h)) ≡ None
    → first_half (own_orders d h) ≡ half t n
    → steps.is_at (d.sender == f) (d.receiver == f) t ≡ true
    → progress_of (Cut f s ∷ h) d ≡ cut_effect f (direction_of d) (progress_of h d)
one-lost p h d f s o t n l i e u v q w r =
    let k : Loses h d f (o ∷ []) = subst (Loses h d f) e (loses p h d f l i) in
    let a : progress_of (Cut f s ∷ h) d ≡ after_loss h d (o ∷ []) (first_half (own_orders d (Cut f s ∷ h))) = at-cut p h d f s (o ∷ []) k in
    let m : after_loss h d (o ∷ []) None ≡ steps.lost (record { task = t; serial = n }) (progress_of h d) = lost in
    let c : cut_effect f (direction_of d) (progress_of h d) ≡ steps.lost (record { task = t; serial = n }) (progress_of h d) = taken in
    a ∙ ap (after_loss h d (o ∷ [])) q ∙ m ∙ sym c
  where
    life : (x : Association) → steps.lost_life (record { task = t; serial = n }) (life_of h x) ≡ lives.ended_if
        (list_any (puts_serial x.serial) (o ∷ [])) (life_of h x)
    life x = ap (λ b. lives.ended_if b (life_of h x)) (sym (or-false (puts_serial x.serial o) ∙ serial-puts x.serial o t n u))

    lost : after_loss h d (o ∷ []) None ≡ steps.lost (record { task = t; serial = n }) (progress_of h d)
    lost = same-progress _ _ _ _ _ _ _ _ _ _ refl (ap (λ b. b || is_wanted d h) (or-false (is_put_of d o)
        ∙ own-puts d (left d h) o t n v u)) refl
        (sym (made-first (steps.lost_life (record { task = t; serial = n })) (life_of h)
        (λ x. lives.ended_if (list_any (puts_serial x.serial) (o ∷ [])) (life_of h x)) (older_left d h) (λ x j. life x)))
        (sym (made-first (steps.lost_life (record { task = t; serial = n })) (life_of h)
        (λ x. lives.ended_if (list_any (puts_serial x.serial) (o ∷ [])) (life_of h x)) (newest_left d h) (λ x j. life x)))

    taken : steps.cut_waits (d.sender == f) (d.receiver == f) (progress_of h d) (first_half (own_orders d h)) ≡ steps.lost
        (record { task = t; serial = n }) (progress_of h d)
    taken = ap (steps.cut_waits (d.sender == f) (d.receiver == f) (progress_of h d)) w
        ∙ ap (λ b. if b then steps.lost (record { task = t; serial = n }) (progress_of h d) else progress_of h d) r

-- nothing of it waits at another gateway
elsewhere : (p : ℕ) (h : List ControllerAct) (d : Way) (f : ℕ) → IsControllerPast p h → Has d (directions h) → (d.sender == f) ≡ false
    → (d.receiver == f) ≡ false → own_at d h f ≡ []
elsewhere p h d f l i a b = filter-none (is_own d (left d h)) (queue f h) (λ o j. not-own o j (is_own d (left d h) o) refl)
  where
    not-home : (b : Bool) → f ≡ (if b then d.receiver else d.sender) → ⊥
    not-home true e = absurd (grind arith)
    not-home false e = absurd (grind arith)

    not-own : (o : ControllerOrder) → Has o (queue f h) → (b : Bool) → is_own d (left d h) o ≡ b → b ≡ false
    not-own o j true t = let k = own-order p h l d i f o j t in absurd (not-home (lives.is_inbound k.task) k.at)
    not-own o j false t = refl

is-at : (a b : Bool) (t : Task) (c : Bool) → lives.is_inbound t ≡ c → steps.is_at a b t ≡ (if c then b else a)
is-at a b t c e = ap (λ z. if z then b else a) e

pub progress-cut : (p : ℕ) (h : List ControllerAct) (f s : ℕ) (d : Way) → IsControllerPast p h → Has d (directions h)
    → (d.sender == d.receiver) ≡ false → progress_of (Cut f s ∷ h) d ≡ cut_effect f (direction_of d) (progress_of h d)
progress-cut p h f s d l i n = case (d.sender == f) (d.receiver == f) refl refl (awaits p h l d i n)
  where
    here : (g : ℕ) → (g == f) ≡ true → own_at d h f ≡ own_at d h g
    here g e = let w : f ≡ g = grind arith in ap (own_at d h) w

    waits : (xs ys : List ControllerOrder) → own_at d h d.sender ≡ xs → own_at d h d.receiver ≡ ys
        → first_half (own_orders d h) ≡ first_half (xs ++ ys)
    waits xs ys e g = rw (e, g) refl

    left : (a b : Bool) (xs ys : List ControllerOrder) → (d.sender == f) ≡ a → (d.receiver == f) ≡ b → own_at d h d.sender ≡ xs
        → own_at d h d.receiver ≡ ys → first_half (own_orders d (Cut f s ∷ h)) ≡ first_half ((if a then [] else xs)
        ++ (if b then [] else ys))
    left a b xs ys u v e g = ap first_half (own-cut h d f s ∙ rw (u, v, e, g) refl)

    not-at : (a b : Bool) (q : Option HalfOrder) → (d.sender == f) ≡ a → (d.receiver == f) ≡ b → first_half (own_orders d h) ≡ q
        → steps.cut_waits a b (progress_of h d) q ≡ progress_of h d → steps.cut_waits (d.sender == f) (d.receiver == f) (progress_of h d)
        (first_half (own_orders d h)) ≡ progress_of h d
    not-at a b q u v e w = rw (u, v) (ap (steps.cut_waits a b (progress_of h d)) e ∙ w)

    stays : (a b c : Bool) (t : Task) (k : ℕ) → lives.is_inbound t ≡ c → (if c then b else a) ≡ false
        → steps.cut_waits a b (progress_of h d) (half t k) ≡ progress_of h d
    stays a b c t k e g = ap (λ z. if z then steps.lost (record { task = t; serial = k }) (progress_of h d) else progress_of h d)
        (is-at a b t c e ∙ g)

    goes : (a b c : Bool) (t : Task) → (d.sender == f) ≡ a → (d.receiver == f) ≡ b → lives.is_inbound t ≡ c → (if c then b else a) ≡ true
        → steps.is_at (d.sender == f) (d.receiver == f) t ≡ true
    goes a b c t u v e g = rw (u, v) (is-at a b t c e ∙ g)

    case : (a b : Bool) → (d.sender == f) ≡ a → (d.receiver == f) ≡ b → Awaits h d
        → progress_of (Cut f s ∷ h) d ≡ cut_effect f (direction_of d) (progress_of h d)
    case true true u v w = absurd (grind arith)
    case true false u v (nothing e g) = none-lost p h d f s l i (here d.sender u ∙ e) (left true false [] [] u v e g
        ∙ sym (waits [] [] e g)) (not-at true false None u v (waits [] [] e g) refl)
    case true false u v (at_sender o t x e g k c j m y) = one-lost p h d f s o t x.serial l i (here d.sender u ∙ e) k y
        (left true false (o ∷ []) [] u v e g) (waits (o ∷ []) [] e g ∙ k) (goes true false false t u v c refl)
    case true false u v (at_receiver o t x e g k c j m y) =
        none-lost p h d f s l i (here d.sender u ∙ e) (left true false [] (o ∷ []) u v e g ∙ sym (waits [] (o ∷ []) e g))
        (not-at true false (half t x.serial) u v (waits [] (o ∷ []) e g ∙ k) (stays true false true t x.serial c refl))
    case false true u v (nothing e g) = none-lost p h d f s l i (here d.receiver v ∙ g) (left false true [] [] u v e g
        ∙ sym (waits [] [] e g)) (not-at false true None u v (waits [] [] e g) refl)
    case false true u v (at_sender o t x e g k c j m y) =
        none-lost p h d f s l i (here d.receiver v ∙ g) (left false true (o ∷ []) [] u v e g ∙ sym (waits (o ∷ []) [] e g))
        (not-at false true (half t x.serial) u v (waits (o ∷ []) [] e g ∙ k) (stays false true false t x.serial c refl))
    case false true u v (at_receiver o t x e g k c j m y) = one-lost p h d f s o t x.serial l i (here d.receiver v ∙ g) k y
        (left false true [] (o ∷ []) u v e g) (waits [] (o ∷ []) e g ∙ k) (goes false true true t u v c refl)
    case false false u v (nothing e g) = none-lost p h d f s l i (elsewhere p h d f l i u v) (left false false [] [] u v e g
        ∙ sym (waits [] [] e g)) (not-at false false None u v (waits [] [] e g) refl)
    case false false u v (at_sender o t x e g k c j m y) = none-lost p h d f s l i (elsewhere p h d f l i u v)
        (left false false (o ∷ []) [] u v e g ∙ sym (waits (o ∷ []) [] e g))
        (not-at false false (half t x.serial) u v (waits (o ∷ []) [] e g ∙ k) (stays false false false t x.serial c refl))
    case false false u v (at_receiver o t x e g k c j m y) = none-lost p h d f s l i (elsewhere p h d f l i u v)
        (left false false [] (o ∷ []) u v e g ∙ sym (waits [] (o ∷ []) e g))
        (not-at false false (half t x.serial) u v (waits [] (o ∷ []) e g ∙ k) (stays false false true t x.serial c refl))
