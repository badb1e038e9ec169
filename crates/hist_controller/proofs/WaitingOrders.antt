-- The orders that wait in a transcript of the controller's acts are those of its queue, as they are told.
use Rattle.std.proofs.Common.{◌≡◌, ℕ, ◌+◌, ◌<◌, ◌≤◌, Bool, true, false, ◌==◌, not, ◌&&◌, ◌||◌, List, [], ◌∷◌, ◌++◌, drop, map, take, length, refl, sym, subst, ◌∙◌, ap, arith, if◌then◌else◌}
use Rattle.std.proofs.lemmas.List.{drop-append-le, drop-drop, map-append, take-append-drop}
use Rattle.ikeless_tree.specs.declared.command.Peer.{Peer}
use Rattle.ikeless_tree.specs.declared.order.Order.{Order}
use Rattle.hist_acts.specs.Sessions as sessions
use Rattle.hist_controller.specs.Acts.{ControllerOrder, ControllerAct, Opened, Cut, Answered, Heard, Ordered, Accepted, Refused}
use Rattle.hist_controller.specs.Past.{is_open, openings, orders, rest, queue}
use Rattle.hist_controller.specs.Clauses.{IsControllerPast}
use Rattle.hist_controller.specs.Table.{AllFit}
use Rattle.hist_controller.specs.Told.{peer_name, order_told, past_told, Named}
use Rattle.hist_controller.proofs.Lists.{length-more}
use Rattle.hist_controller.proofs.Readings.{queued}
use Rattle.hist_controller.proofs.Transcript.{none-later, answered-told}

-- nothing was given in a later session, and it wasn't cut
record Unknown (ps : List Peer) (h : List ControllerAct) (g s : ℕ) : Type 0 where
  pub given : sessions.orders_given (peer_name ps g) s (past_told ps h) ≡ []
  pub uncut : sessions.was_cut (peer_name ps g) s (past_told ps h) ≡ false

other-session : (h : List ControllerAct) (g k t s : ℕ) (b : Bool) → (g == k) ≡ b → t ≡ openings k h → openings g h < s
    → (b && (t == s)) ≡ false
other-session h g k t s true c u e = let w : g ≡ k = grind arith in let v : openings k h ≡ openings g h = ap (λ z. openings z h) (sym w) in
    grind arith
other-session h g k t s false c u e = refl

smaller : (h : List ControllerAct) (g s : ℕ) (b : Bool) → (if b then openings g h + 1 else openings g h) < s → openings g h < s
smaller h g s true e = omega arith
smaller h g s false e = e

unknown : (ps : List Peer) (p : ℕ) (h : List ControllerAct) → IsControllerPast p h → Named ps → AllFit (length ps) h → (g : ℕ)
    → g < length ps → (s : ℕ) → openings g h < s → Unknown ps h g s
unknown ps p [] l n f g i s e = record { given = refl; uncut = refl }
unknown ps p (Opened k t ∷ h) l n f g i s e = let q = unknown ps p h l.1 n f.1 g i s (smaller h g s (g == k) e) in
    record { given = q.given; uncut = q.uncut }
unknown ps p (Cut k t ∷ h) l n f g i s e =
    let q = unknown ps p h l.1 n f.1 g i s e in
    let c = n k g f.0 i in
    let u = other-session h g k t s (g == k) refl l.0.1 e in
    record { given = q.given; uncut = rw (c, u) q.uncut }
unknown ps p (Answered k t m a ∷ h) l n f g i s e = let q = unknown ps p h l.1 n f.1 g i s e in record { given = q.given; uncut = q.uncut }
unknown ps p (Heard k t x ∷ h) l n f g i s e = let q = unknown ps p h l.1 n f.1 g i s e in record { given = q.given; uncut = q.uncut }
unknown ps p (Ordered k t m o ∷ h) l n f g i s e =
    let q = unknown ps p h l.1 n f.1 g i s e in
    let c = n k g f.0 i in
    let u = other-session h g k t s (g == k) refl l.0.0 e in
    record { given = rw (c, u) q.given; uncut = q.uncut }
unknown ps p (Accepted c ∷ h) l n f g i s e = let q = unknown ps p h l.1 n f.1 g i s e in record { given = q.given; uncut = q.uncut }
unknown ps p (Refused w ∷ h) l n f g i s e = let q = unknown ps p h l.1 n f.1 g i s e in record { given = q.given; uncut = q.uncut }

-- ## one act

record Waiting (ps : List Peer) (h : List ControllerAct) (g : ℕ) : Type 0 where
  pub same : sessions.orders_waiting (peer_name ps g) (openings g h) (past_told ps h) ≡ map (order_told ps) (queue g h)
  pub uncut : is_open g h ≡ true → sessions.was_cut (peer_name ps g) (openings g h) (past_told ps h) ≡ false
  pub count : length (sessions.orders_given (peer_name ps g) (openings g h) (past_told ps h)) ≡ orders g h

rest-map : (ps : List Peer) (q : List ControllerOrder) → drop 1 (map (order_told ps) q) ≡ map (order_told ps) (rest q)
rest-map ps [] = refl
rest-map ps (o ∷ q) = refl

none-rest : (ps : List Peer) (q : List ControllerOrder) → [] ≡ map (order_told ps) q → [] ≡ map (order_told ps) (rest q)
none-rest ps [] e = e
none-rest ps (o ∷ q) e = cc

one-less : (ps : List Peer) (b w : Bool) (n : ℕ) (xs : List Order) (q : List ControllerOrder)
    → (if w then [] else drop n xs) ≡ map (order_told ps) q → (if w then [] else drop (if b then n + 1 else n) xs) ≡ map (order_told ps)
    (if b then rest q else q)
one-less ps true true n xs q e = none-rest ps q e
one-less ps true false n xs q e = sym (drop-drop 1 n xs) ∙ (ap (drop 1) e ∙ rest-map ps q)
one-less ps false w n xs q e = e

one-more : (ps : List Peer) (b w : Bool) (n : ℕ) (xs : List Order) (o : ControllerOrder) (q : List ControllerOrder)
    → (b ≡ true → (w ≡ false) × (n ≤ length xs)) → (if w then [] else drop n xs) ≡ map (order_told ps) q
    → (if w then [] else drop n (if b then xs ++ order_told ps o ∷ [] else xs)) ≡ map (order_told ps) (if b then q ++ o ∷ [] else q)
one-more ps true w n xs o q f e =
    let u = f refl in
    let e' : drop n xs ≡ map (order_told ps) q = subst (λ z. (if z then [] else drop n xs) ≡ map (order_told ps) q) u.0 e in
    subst (λ z. (if z then [] else drop n (xs ++ order_told ps o ∷ [])) ≡ map (order_told ps) (q ++ o ∷ [])) (sym u.0)
    (drop-append-le n xs (order_told ps o ∷ []) u.1
    ∙ (ap (λ z. z ++ order_told ps o ∷ []) e' ∙ sym (map-append (order_told ps) q (o ∷ []))))
one-more ps false w n xs o q f e = e

shut-if : (b : Bool) (w : Bool) (xs : List Order) (ps : List Peer) (q : List ControllerOrder)
    → (if w then [] else xs) ≡ map (order_told ps) q → (if b || w then [] else xs) ≡ map (order_told ps) (if b then [] else q)
shut-if true w xs ps q e = refl
shut-if false w xs ps q e = e

uncut-if : (b o w : Bool) → (o ≡ true → w ≡ false) → (not b && o) ≡ true → (b || w) ≡ false
uncut-if true o w f e = cc
uncut-if false o w f e = f e

longer : (b : Bool) (xs : List Order) (o : Order) (n : ℕ) → length xs ≡ n
    → length (if b then xs ++ o ∷ [] else xs) ≡ (if b then n + 1 else n)
longer true xs o n e = let q = length-more xs o in rw (q, e) refl
longer false xs o n e = e

in-newest : (h : List ControllerAct) (g k t : ℕ) (b : Bool) → (g == k) ≡ b → t ≡ openings k h → (b && (t == openings g h)) ≡ b
in-newest h g k t true e u = let w : g ≡ k = grind arith in let v : openings k h ≡ openings g h = ap (λ z. openings z h) (sym w) in
    grind arith
in-newest h g k t false e u = refl

waiting-opened : (ps : List Peer) (p : ℕ) (h : List ControllerAct) → IsControllerPast p h → Named ps → AllFit (length ps) h → (g k s : ℕ)
    → g < length ps → (b : Bool) → (g == k) ≡ b → Waiting ps h g → Waiting ps (Opened k s ∷ h) g
waiting-opened ps p h l n f g k s i true e q =
    let z = unknown ps p h l n f g i (openings g h + 1) (omega arith) in
    let a = none-later ps p h l n f g i (openings g h + 1) (omega arith) in
    let none : sessions.orders_waiting (peer_name ps g) (openings g h + 1) (past_told ps h) ≡ [] = rw (z.uncut, a.1, z.given) refl in
    record {
      same = subst (λ b. sessions.orders_waiting (peer_name ps g) (if b then openings g h + 1 else openings g h) (past_told ps h) ≡ map
          (order_told ps) (if b then [] else queue g h)) (sym e) none;
      uncut = λ t. subst (λ b. sessions.was_cut (peer_name ps g) (if b then openings g h + 1 else openings g h) (past_told ps h) ≡ false)
          (sym e) z.uncut;
      count = subst (λ b. length (sessions.orders_given (peer_name ps g) (if b then openings g h + 1 else openings g h) (past_told ps h)) ≡
          (if b then 0 else orders g h)) (sym e) (ap length z.given);
    }
waiting-opened ps p h l n f g k s i false e q = record {
  same = subst (λ b. sessions.orders_waiting (peer_name ps g) (if b then openings g h + 1 else openings g h) (past_told ps h) ≡ map
      (order_told ps) (if b then [] else queue g h)) (sym e) q.same;
  uncut = λ t. subst (λ b. sessions.was_cut (peer_name ps g) (if b then openings g h + 1 else openings g h) (past_told ps h) ≡ false)
      (sym e) (q.uncut (let t' : (false || is_open g h) ≡ true = rw e at t in t'));
  count = subst (λ b. length (sessions.orders_given (peer_name ps g) (if b then openings g h + 1 else openings g h) (past_told ps h)) ≡
      (if b then 0 else orders g h)) (sym e) q.count;
}

-- an order is given where the session is open, and no more were answered than given
room : (ps : List Peer) (p : ℕ) (h : List ControllerAct) → IsControllerPast p h → Named ps → AllFit (length ps) h → (g k : ℕ)
    → g < length ps → is_open k h ≡ true → Waiting ps h g → (g == k) ≡ true
    → (sessions.was_cut (peer_name ps g) (openings g h) (past_told ps h) ≡ false)
    × (sessions.answered (peer_name ps g) (openings g h) (past_told ps h) ≤ length (sessions.orders_given (peer_name ps g) (openings g h)
    (past_told ps h)))
room ps p h l n f g k i o q e =
    let w : g ≡ k = grind arith in
    let o' : is_open g h ≡ true = rw w o in
    let c = (queued p g h l).count o' in
    let a = answered-told ps p h l n f g i in
    let d = q.count in
    (q.uncut o', omega arith)

waiting : (ps : List Peer) (p : ℕ) (h : List ControllerAct) → IsControllerPast p h → Named ps → AllFit (length ps) h → (g : ℕ)
    → g < length ps → Waiting ps h g
waiting ps p [] l n f g i = record { same = refl; uncut = λ e. refl; count = refl }
waiting ps p (Opened k s ∷ h) l n f g i = waiting-opened ps p h l.1 n f.1 g k s i (g == k) refl (waiting ps p h l.1 n f.1 g i)
waiting ps p (Cut k t ∷ h) l n f g i =
    let q = waiting ps p h l.1 n f.1 g i in
    let c = n k g f.0 i in
    let u = in-newest h g k t (g == k) refl l.0.1 in
    record {
      same = rw (c, u) (shut-if (g == k) _ _ ps (queue g h) q.same);
      uncut =
          λ e. rw (c, u) (uncut-if (g == k) (is_open g h) _ q.uncut e);
      count = q.count;
    }
waiting ps p (Answered k t m a ∷ h) l n f g i =
    let q = waiting ps p h l.1 n f.1 g i in
    let c = n k g f.0 i in
    let u = in-newest h g k t (g == k) refl l.0.2 in
    record { same = rw (c, u) (one-less ps (g == k) _ _ _ (queue g h) q.same); uncut = q.uncut; count = q.count }
waiting ps p (Heard k t x ∷ h) l n f g i = let q = waiting ps p h l.1 n f.1 g i in
    record { same = q.same; uncut = q.uncut; count = q.count }
waiting ps p (Ordered k t m o ∷ h) l n f g i =
    let q = waiting ps p h l.1 n f.1 g i in
    let c = n k g f.0 i in
    let u = in-newest h g k t (g == k) refl l.0.0 in
    record {
      same = rw (c, u) (one-more ps (g == k) _ _ _ o (queue g h) (room ps p h l.1 n f.1 g k i l.0.2 q) q.same);
      uncut = q.uncut;
      count = rw (c, u) (longer (g == k) _ (order_told ps o) (orders g h) q.count);
    }
waiting ps p (Accepted c ∷ h) l n f g i = let q = waiting ps p h l.1 n f.1 g i in record { same = q.same; uncut = q.uncut; count = q.count }
waiting ps p (Refused w ∷ h) l n f g i = let q = waiting ps p h l.1 n f.1 g i in record { same = q.same; uncut = q.uncut; count = q.count }

pub waiting-told : (ps : List Peer) (p : ℕ) (h : List ControllerAct) → IsControllerPast p h → Named ps → AllFit (length ps) h → (g : ℕ)
    → g < length ps → sessions.orders_waiting (peer_name ps g) (openings g h) (past_told ps h) ≡ map (order_told ps) (queue g h)
waiting-told ps p h l n f g i = (waiting ps p h l n f g i).same

-- what was given in an open session was answered, or waits
pub given-told : (ps : List Peer) (p : ℕ) (h : List ControllerAct) → IsControllerPast p h → Named ps → AllFit (length ps) h → (g : ℕ)
    → g < length ps → is_open g h ≡ true →
    sessions.orders_given (peer_name ps g) (openings g h) (past_told ps h) ≡ sessions.orders_answered (peer_name ps g) (openings g h)
    (past_told ps h) ++ map (order_told ps) (queue g h)
given-told ps p h l n f g i o =
    let q = waiting ps p h l n f g i in
    let given : List Order = sessions.orders_given (peer_name ps g) (openings g h) (past_told ps h) in
    let count : ℕ = sessions.answered (peer_name ps g) (openings g h) (past_told ps h) in
    let rest : drop count given ≡ map (order_told ps) (queue g h) =
    subst (λ z. (if z then [] else drop count given) ≡ map (order_told ps) (queue g h)) (q.uncut o) q.same in
    sym (take-append-drop count given) ∙ ap (λ z. take count given ++ z) rest

-- what a cut loses is what waited
pub lost-told : (ps : List Peer) (p : ℕ) (h : List ControllerAct) (g s : ℕ) → IsControllerPast p (Cut g s ∷ h) → Named ps
    → AllFit (length ps) h → g < length ps → sessions.orders_lost (peer_name ps g) s (past_told ps (Cut g s ∷ h)) ≡ map (order_told ps)
    (queue g h)
lost-told ps p h g s l n f i =
    let q = waiting ps p h l.1 n f g i in
    let e : s ≡ openings g h = l.0.1 in
    let c = n g g i i in
    let r : (g == g) ≡ true = grind arith in
    let w : drop (sessions.answered (peer_name ps g) (openings g h) (past_told ps h)) (sessions.orders_given (peer_name ps g) (openings g h)
    (past_told ps h)) ≡ map (order_told ps) (queue g h)
    = subst (λ z. (if z then [] else drop (sessions.answered (peer_name ps g) (openings g h) (past_told ps h))
    (sessions.orders_given (peer_name ps g) (openings g h) (past_told ps h))) ≡ map (order_told ps) (queue g h)) (q.uncut l.0.0) q.same
    in
    let t : (s == openings g h) ≡ true = grind arith in
    subst (λ z. sessions.orders_lost (peer_name ps g) z (past_told ps (Cut g z ∷ h)) ≡ map (order_told ps) (queue g h)) (sym e)
    (let t' : (openings g h == openings g h) ≡ true = grind arith in rw (c, r, t') w)
