-- What an answer to an order makes of a direction.
use Rattle.std.proofs.Common.{◌≡◌, ℕ, ◌<◌, ◌^◌, Bool, true, false, ◌==◌, not, ◌||◌, nat_lt, List, [], ◌∷◌, Option, Some, None, inl, inr, refl, sym, subst, ap, ◌∙◌, arith, if◌then◌else◌}
use Rattle.std.specs.List.{filter, list_any}
use Rattle.std.specs.Option.{option_map}
use Rattle.std.specs.Str.{bytes_eq}
use Rattle.ikeless_tree.specs.declared.command.Peer.{Peer}
use Rattle.ikeless_tree.specs.declared.order.Answer.{Answer}
use Rattle.ikeless_tree.specs.Half.{in_name, out_name}
use Rattle.hist_controller.specs.Acts.{Way, Association, ControllerOrder, Read, Policy, PutIn, PutOut, RemoveIn, RemoveOut, ControllerAct, Answered}
use Rattle.hist_controller.specs.Past.{rest, queue, directions, is_over, is_wanted, left, newest_serial, is_own, Kind, PuttingIn, PuttingOut, RemovingIn, RemovingOut, is_kind, has_answer, is_out_ordered, is_shown, is_spoiled, is_ended, is_cause_reading, is_unseen}
use Rattle.hist_controller.specs.Law.{first}
use Rattle.hist_controller.specs.Clauses.{Has, IsControllerPast}
use Rattle.hist_controller.specs.Halves.{PlainAnswers}
use Rattle.hist_controller.proofs.Homes.{own-way}
use Rattle.ctl_tunnels.specs.declared.life.Life.{Life}
use Rattle.ctl_tunnels.specs.declared.life.Task.{Task}
use Rattle.ctl_tunnels.specs.declared.life.Task.TheVariants as tasks
use Rattle.ctl_tunnels.specs.Halves.{half_named, names_in, names_out, shows_in, shows_out}
use Rattle.ctl_tunnels.specs.Lives as lives
use Rattle.ctl_tunnels.specs.Steps as steps
use Rattle.ctl_tunnels.proofs.HalfNames.{half-is}
use Rattle.ctl_core.specs.Step.{front_effect}
use Rattle.hist_controller.specs.Left.{newest_left, older_left}
use Rattle.hist_controller.specs.Own.{own_orders}
use Rattle.ctl_law.specs.Stands.{waiting_of, life_of, first_half, progress_of, direction_of}
use Rattle.hist_controller.proofs.Left.{older-newest as left-two}
use Rattle.hist_controller.proofs.KeysInTurn.{left-serial}
use Rattle.ctl_law.proofs.Lists.{any-same, filter-none, filter-has}
use Rattle.ctl_law.proofs.Own.{has_serial, foreign, Awaits, nothing, at_sender, at_receiver, awaits}
use Rattle.ctl_law.proofs.Progresses.{progress, same-progress, same-first, made-first, older-left, newest-left, any-two}

pub kind-serial : (k : Kind) (n : ℕ) (o : ControllerOrder) → has_serial n o ≡ false → is_kind k n o ≡ false
kind-serial PuttingIn n Read e = refl
kind-serial PuttingIn n (Policy l) e = refl
kind-serial PuttingIn n (PutIn y) e = e
kind-serial PuttingIn n (PutOut y) e = refl
kind-serial PuttingIn n (RemoveIn m) e = refl
kind-serial PuttingIn n (RemoveOut m) e = refl
kind-serial PuttingOut n Read e = refl
kind-serial PuttingOut n (Policy l) e = refl
kind-serial PuttingOut n (PutIn y) e = refl
kind-serial PuttingOut n (PutOut y) e = e
kind-serial PuttingOut n (RemoveIn m) e = refl
kind-serial PuttingOut n (RemoveOut m) e = refl
kind-serial RemovingIn n Read e = refl
kind-serial RemovingIn n (Policy l) e = refl
kind-serial RemovingIn n (PutIn y) e = refl
kind-serial RemovingIn n (PutOut y) e = refl
kind-serial RemovingIn n (RemoveIn m) e = e
kind-serial RemovingIn n (RemoveOut m) e = refl
kind-serial RemovingOut n Read e = refl
kind-serial RemovingOut n (Policy l) e = refl
kind-serial RemovingOut n (PutIn y) e = refl
kind-serial RemovingOut n (PutOut y) e = refl
kind-serial RemovingOut n (RemoveIn m) e = refl
kind-serial RemovingOut n (RemoveOut m) e = e

pub filter-all : {A : Type 0} (q : A → Bool) (xs : List A) → ((x : A) → Has x xs → q x ≡ true) → filter q xs ≡ xs
filter-all q [] e = refl
filter-all q (x ∷ xs) e =
    let ih : filter q xs ≡ xs = filter-all q xs (λ y i. e y (inr i)) in
    let f : q x ≡ true = e x (inl refl) in
    rw f (ap (λ ys. x ∷ ys) ih)

pub filter-less : {A : Type 0} (q r : A → Bool) (xs : List A) → ((x : A) → r x ≡ true → q x ≡ true) → filter q xs ≡ [] → filter r xs ≡ []
filter-less q r xs f e = filter-none r xs (λ x i. case x i (r x) refl)
  where
    case : (x : _) → Has x xs → (b : Bool) → r x ≡ b → b ≡ false
    case x i true t = absurd (subst (Has x) e (filter-has q xs x i (f x t)))
    case x i false t = refl

-- ## one association

abbrev pub answered_life : List ControllerAct → ℕ → Answer → ControllerOrder → Association → Life
answered_life h f a o x = record {
  serial = x.serial;
  in_done = is_kind PuttingIn x.serial o || has_answer PuttingIn x.serial h;
  out_sent = is_out_ordered x.serial h;
  out_done = is_kind PuttingOut x.serial o || has_answer PuttingOut x.serial h;
  out_gone = is_kind RemovingOut x.serial o || has_answer RemovingOut x.serial h;
  ended = is_spoiled x f (Some o) a (has_answer PuttingIn x.serial h) (is_out_ordered x.serial h) || is_ended x h;
}

life-answered : (h : List ControllerAct) (f s n : ℕ) (a : Answer) (o : ControllerOrder) (os : List ControllerOrder) (x : Association)
    → queue f h ≡ o ∷ os → life_of (Answered f s n a ∷ h) x ≡ answered_life h f a o x
life-answered h f s n a o os x e = rw e refl

pub by-parts : (h : List ControllerAct) (f s n : ℕ) (a : Answer) (o : ControllerOrder) (os : List ControllerOrder) (d : Way) → queue f h ≡ o
    ∷ os
    → progress_of (Answered f s n a ∷ h) d ≡ progress (is_over d h) (is_cause_reading h d f (Some o) a || is_wanted d h)
    (first_half (own_orders d (Answered f s n a ∷ h))) (option_map (answered_life h f a o) (older_left d (Answered f s n a ∷ h)))
    (option_map (answered_life h f a o) (newest_left d (Answered f s n a ∷ h)))
by-parts h f s n a o os d e = same-progress _ _ _ _ _ _ _ _ _ _ refl (rw e refl) refl
    (same-first (life_of (Answered f s n a ∷ h)) (answered_life h f a o) (older_left d (Answered f s n a ∷ h))
    (λ x i. life-answered h f s n a o os x e))
    (same-first (life_of (Answered f s n a ∷ h)) (answered_life h f a o) (newest_left d (Answered f s n a ∷ h))
    (λ x i. life-answered h f s n a o os x e))

-- ## an order that is not of the direction

pub left-answered : (h : List ControllerAct) (f s n : ℕ) (a : Answer) (o : ControllerOrder) (os : List ControllerOrder) (d : Way)
    → queue f h ≡ o ∷ os → left d (Answered f s n a ∷ h) ≡ filter (λ x. not (is_kind RemovingIn x.serial o)) (left d h)
left-answered h f s n a o os d e = rw e refl

pub left-stays : (h : List ControllerAct) (f s n : ℕ) (a : Answer) (o : ControllerOrder) (os : List ControllerOrder) (d : Way)
    → queue f h ≡ o ∷ os → ((x : Association) → Has x (left d h) → is_kind RemovingIn x.serial o ≡ false)
    → left d (Answered f s n a ∷ h) ≡ left d h
left-stays h f s n a o os d e k = left-answered h f s n a o os d e ∙ filter-all (λ x. not (is_kind RemovingIn x.serial o)) (left d h)
    (λ x i. ap not (k x i))

rest-own : (h : List ControllerAct) (f g : ℕ) (r : ControllerOrder → Bool) (o : ControllerOrder) (os : List ControllerOrder) → queue f h ≡ o
    ∷ os → r o ≡ false → (b : Bool) → (g == f) ≡ b → filter r (if b then rest (queue g h) else queue g h) ≡ filter r (queue g h)
rest-own h f g r o os e t true u =
    let w : g ≡ f = grind arith in
    let q : queue g h ≡ o ∷ os = ap (λ z. queue z h) w ∙ e in
    rw (q, t) refl
rest-own h f g r o os e t false u = refl

orders-stay : (h : List ControllerAct) (f s n : ℕ) (a : Answer) (o : ControllerOrder) (os : List ControllerOrder) (d : Way) → queue f h ≡ o
    ∷ os → left d (Answered f s n a ∷ h) ≡ left d h → is_own d (left d h) o ≡ false → own_orders d (Answered f s n a ∷ h) ≡ own_orders d h
orders-stay h f s n a o os d e k t =
    let u = rest-own h f d.sender (is_own d (left d h)) o os e t (d.sender == f) refl in
    let v = rest-own h f d.receiver (is_own d (left d h)) o os e t (d.receiver == f) refl in
    rw (k, u, v) refl

-- what is the same then
record Stays (h : List ControllerAct) (f s n : ℕ) (a : Answer) (d : Way) : Type 0 where
  pub older : older_left d (Answered f s n a ∷ h) ≡ older_left d h
  pub newest : newest_left d (Answered f s n a ∷ h) ≡ newest_left d h
  pub orders : own_orders d (Answered f s n a ∷ h) ≡ own_orders d h

stays : (p : ℕ) (h : List ControllerAct) (f s n : ℕ) (a : Answer) (o : ControllerOrder) (os : List ControllerOrder) (d : Way)
    → IsControllerPast p h → Has d (directions h) → queue f h ≡ o ∷ os → is_own d (left d h) o ≡ false → Stays h f s n a d
stays p h f s n a o os d l i e t =
    let k = left-stays h f s n a o os d e
    (λ x j. kind-serial RemovingIn x.serial o (foreign p h l d i f o (subst (Has o) (sym e) (inl refl)) t x j)) in
    record {
      older = ap (first (λ x. nat_lt x.serial (newest_serial d h))) k;
      newest = ap (first (λ x. x.serial == newest_serial d h)) k;
      orders = orders-stay h f s n a o os d e k t;
    }

by-stays : (h : List ControllerAct) (f s n : ℕ) (a : Answer) (o : ControllerOrder) (os : List ControllerOrder) (d : Way) (k : Association
    → Life) → queue f h ≡ o ∷ os → Stays h f s n a d
    → ((x : Association) → Has x (left d h) → answered_life h f a o x ≡ k x)
    → progress_of (Answered f s n a ∷ h) d ≡ progress (is_over d h) (is_cause_reading h d f (Some o) a || is_wanted d h)
    (first_half (own_orders d h)) (option_map k (older_left d h)) (option_map k (newest_left d h))
by-stays h f s n a o os d k e y g = by-parts h f s n a o os d e ∙ same-progress _ _ _ _ _ _ _ _ _ _ refl refl (ap first_half y.orders)
    (ap (option_map (answered_life h f a o)) y.older ∙ same-first (answered_life h f a o) k (older_left d h)
    (λ x j. g x (older-left d h x j)))
    (ap (option_map (answered_life h f a o)) y.newest ∙ same-first (answered_life h f a o) k (newest_left d h)
    (λ x j. g x (newest-left d h x j)))

-- ## a list, and a reading

pub answered-policy : (p : ℕ) (h : List ControllerAct) (f s n : ℕ) (a : Answer) (l : _) (os : List ControllerOrder) (ps : List Peer)
    (d : Way) → IsControllerPast p h → Has d (directions h) → queue f h ≡ Policy l ∷ os
    → progress_of (Answered f s n a ∷ h) d ≡ front_effect f a (Some (waiting_of ps (Policy l))) (direction_of d) (progress_of h d)
answered-policy p h f s n a l os ps d k i e =
    by-stays h f s n a (Policy l) os d (life_of h) e (stays p h f s n a (Policy l) os d k i e refl) (λ x j. refl)

shown-in : (names : List (List ℕ)) (n : ℕ) → n < 2 ^ 32 → is_shown names (in_name n) ≡ shows_in names n
shown-in names n e = any-same (λ x. bytes_eq (in_name n) x) (λ x. names_in (half_named x) n) names (λ x i. (half-is x).inbound n e)

shown-out : (names : List (List ℕ)) (n : ℕ) → n < 2 ^ 32 → is_shown names (out_name n) ≡ shows_out names n
shown-out names n e = any-same (λ x. bytes_eq (out_name n) x) (λ x. names_out (half_named x) n) names (λ x i. (half-is x).outbound n e)

when-same : (q r : Life → Bool) (f : Association → Life) (o : Option Association) → ((x : Association) → o ≡ Some x → q (f x) ≡ r (f x))
    → steps.when q (option_map f o) ≡ steps.when r (option_map f o)
when-same q r f None e = refl
when-same q r f (Some x) e = e x refl

pub answered-read : (p : ℕ) (h : List ControllerAct) (f s n : ℕ) (a : Answer) (os : List ControllerOrder) (ps : List Peer) (d : Way)
    → IsControllerPast p h → PlainAnswers h → Has d (directions h) → queue f h ≡ Read ∷ os
    → progress_of (Answered f s n a ∷ h) d ≡ front_effect f a (Some (waiting_of ps Read)) (direction_of d) (progress_of h d)
answered-read p h f s n a os ps d l y i e =
    by-stays h f s n a Read os d (λ x. steps.read_life (d.receiver == f) (shows_in a.names) (life_of h x)) e
    (stays p h f s n a Read os d l i e refl) read
    ∙ same-progress _ _ _ _ _ _ _ _ _ _ refl (ap (λ b. b || is_wanted d h) missing) refl
    (sym (made-first (steps.read_life (d.receiver == f) (shows_in a.names)) (life_of h)
    (λ x. steps.read_life (d.receiver == f) (shows_in a.names) (life_of h x)) (older_left d h) (λ x j. refl)))
    (sym (made-first (steps.read_life (d.receiver == f) (shows_in a.names)) (life_of h)
    (λ x. steps.read_life (d.receiver == f) (shows_in a.names) (life_of h x)) (newest_left d h) (λ x j. refl)))
  where
    small : (x : Association) → Has x (left d h) → x.serial < 2 ^ 32
    small x j = let q = left-serial p h l d x j in omega arith

    read : (x : Association) → Has x (left d h) → answered_life h f a Read x ≡ steps.read_life (d.receiver == f) (shows_in a.names)
        (life_of h x)
    read x j =
        let w : x.way.receiver ≡ d.receiver = ap (λ (z : Way). z.receiver) (sym (own-way p h l d x i j)) in
        let v : is_shown a.names (in_name x.serial) ≡ shows_in a.names x.serial = shown-in a.names x.serial (small x j) in
        rw (w, v) refl

    unseen : (x : Association) → Has x (left d h) → is_unseen h d f a.names x ≡ steps.is_missing (d.sender == f) (d.receiver == f)
        (shows_in a.names) (shows_out a.names) (life_of h x)
    unseen x j =
        let v : is_shown a.names (in_name x.serial) ≡ shows_in a.names x.serial = shown-in a.names x.serial (small x j) in
        let w : is_shown a.names (out_name x.serial) ≡ shows_out a.names x.serial = shown-out a.names x.serial (small x j) in
        rw (v, w) refl

    missing : is_cause_reading h d f (Some Read) a ≡
        (steps.when (steps.is_missing (d.sender == f) (d.receiver == f) (shows_in a.names) (shows_out a.names))
        (option_map (life_of h) (older_left d h))
        || steps.when (steps.is_missing (d.sender == f) (d.receiver == f) (shows_in a.names) (shows_out a.names))
        (option_map (life_of h) (newest_left d h)))
    missing =
        any-same (is_unseen h d f a.names) (λ x. steps.is_missing (d.sender == f) (d.receiver == f) (shows_in a.names) (shows_out a.names)
        (life_of h x)) (left d h) unseen
        ∙ ap (list_any (λ x. steps.is_missing (d.sender == f) (d.receiver == f) (shows_in a.names) (shows_out a.names) (life_of h x)))
        (left-two p h l y d)
        ∙ any-two (λ x. steps.is_missing (d.sender == f) (d.receiver == f) (shows_in a.names) (shows_out a.names) (life_of h x))
        (steps.is_missing (d.sender == f) (d.receiver == f) (shows_in a.names) (shows_out a.names)) (life_of h) (older_left d h)
        (newest_left d h) (λ x. refl)

-- ## a put or a removal of another direction

-- the order that waits in a direction is of an association left
waiting-serial : (h : List ControllerAct) (d : Way) (n : ℕ) → Awaits h d → ((x : Association) → Has x (left d h) → (x.serial == n) ≡ false)
    → steps.awaits n (first_half (own_orders d h)) ≡ false
waiting-serial h d n (nothing e g) k = rw (e, g) refl
waiting-serial h d n (at_sender o t x e g u c j m y) k = rw e (ap (steps.awaits n) u ∙ k x j)
waiting-serial h d n (at_receiver o t x e g u c j m y) k = rw (e, g) (ap (steps.awaits n) u ∙ k x j)

other-half : (h : List ControllerAct) (f s n : ℕ) (a : Answer) (o : ControllerOrder) (os : List ControllerOrder) (d : Way) (t : Task)
    (m : ℕ) → queue f h ≡ o ∷ os → Stays h f s n a d → Awaits h d
    → ((x : Association) → Has x (left d h) → (x.serial == m) ≡ false)
    → ((x : Association) → Has x (left d h) → answered_life h f a o x ≡ life_of h x)
    → is_cause_reading h d f (Some o) a ≡ false
    → progress_of (Answered f s n a ∷ h) d ≡ steps.answered (record { task = t; serial = m }) a.status (progress_of h d)
other-half h f s n a o os d t m e k w g j c =
    by-stays h f s n a o os d (life_of h) e k j
    ∙ same-progress _ _ _ _ _ _ _ _ _ _ refl (ap (λ b. b || is_wanted d h) c) refl refl refl
    ∙ sym (ap (λ b. if b then progress (is_over d h) (is_wanted d h) None
    (steps.kept (lives.answered (record { task = t; serial = m }) a.status) (option_map (life_of h) (older_left d h)))
    (steps.kept (lives.answered (record { task = t; serial = m }) a.status) (option_map (life_of h) (newest_left d h)))
    else progress_of h d) (waiting-serial h d m w g))

other-put-out : (h : List ControllerAct) (f : ℕ) (a : Answer) (d : Way) (x y : Association) → d ≡ x.way → (d.id == y.way.id) ≡ false
    → (x.serial == y.serial) ≡ false → answered_life h f a (PutOut y) x ≡ life_of h x
other-put-out h f a d x y e t u = let v : (x.way.id == y.way.id) ≡ false = (rw (sym (ap (λ (z : Way). z.id) e)) t) in rw (u, v) refl

pub answered-other : (p : ℕ) (h : List ControllerAct) (f s n : ℕ) (a : Answer) (o : ControllerOrder) (os : List ControllerOrder)
    (ps : List Peer) (d : Way) → IsControllerPast p h → PlainAnswers h → Has d (directions h) → (d.sender == d.receiver) ≡ false
    → queue f h ≡ o ∷ os → is_own d (left d h) o ≡ false
    → progress_of (Answered f s n a ∷ h) d ≡ front_effect f a (Some (waiting_of ps o)) (direction_of d) (progress_of h d)
answered-other p h f s n a Read os ps d l y i c e t = answered-read p h f s n a os ps d l y i e
answered-other p h f s n a (Policy r) os ps d l y i c e t = answered-policy p h f s n a r os ps d l i e
answered-other p h f s n a (PutIn z) os ps d l y i c e t =
    let k = foreign p h l d i f (PutIn z) (subst (Has (PutIn z)) (sym e) (inl refl)) t in
    other-half h f s n a (PutIn z) os d tasks.PutIn z.serial e (stays p h f s n a (PutIn z) os d l i e t) (awaits p h l d i c) k
    (λ x j. rw (k x j) refl) refl
answered-other p h f s n a (PutOut z) os ps d l y i c e t =
    let k = foreign p h l d i f (PutOut z) (subst (Has (PutOut z)) (sym e) (inl refl)) t in
    other-half h f s n a (PutOut z) os d tasks.PutOut z.serial e (stays p h f s n a (PutOut z) os d l i e t) (awaits p h l d i c) k
    (λ x j. other-put-out h f a d x z (own-way p h l d x i j) t (k x j)) refl
answered-other p h f s n a (RemoveIn m) os ps d l y i c e t =
    let k = foreign p h l d i f (RemoveIn m) (subst (Has (RemoveIn m)) (sym e) (inl refl)) t in
    other-half h f s n a (RemoveIn m) os d tasks.RemoveIn m e (stays p h f s n a (RemoveIn m) os d l i e t) (awaits p h l d i c) k
    (λ x j. refl) refl
answered-other p h f s n a (RemoveOut m) os ps d l y i c e t =
    let k = foreign p h l d i f (RemoveOut m) (subst (Has (RemoveOut m)) (sym e) (inl refl)) t in
    other-half h f s n a (RemoveOut m) os d tasks.RemoveOut m e (stays p h f s n a (RemoveOut m) os d l i e t) (awaits p h l d i c) k
    (λ x j. rw (k x j) refl) refl
