-- A half is ordered removed once at most in a session, so not more often than sessions were opened.
use Rattle.std.proofs.Common.{◌≡◌, ℕ, ◌+◌, ◌<◌, ◌≤◌, Bool, true, false, ◌==◌, not, ◌&&◌, ◌||◌, List, [], ◌∷◌, ◌++◌, ◌⊎◌, inl, inr, refl, subst, ◌∙◌, ap, arith, if◌then◌else◌}
use Rattle.std.specs.List.{filter, list_any}
use Rattle.ikeless_tree.specs.declared.order.Answer.{Answer}
use Rattle.hist_controller.specs.Acts.{Way, Association, ControllerOrder, Read, Policy, PutIn, PutOut, RemoveIn, RemoveOut, ControllerAct, Opened, Cut, Answered, Heard, Ordered, Accepted, Refused}
use Rattle.hist_controller.specs.Past.{is_open, openings, oldest, rest, queue, is_read, is_inbound_put, serials, Kind, PuttingIn, RemovingIn, RemovingOut, is_kind, is_own, is_answer_to, is_out_ordered, has_answer, is_ended, inbound_put, left}
use Rattle.hist_controller.specs.Clauses.{Has, MayOrder, IsControllerPast}
use Rattle.hist_controller.specs.Counts.{times_at, times_now}
use Rattle.hist_controller.proofs.Lists.{any-if}
use Rattle.hist_controller.proofs.Bools.{or-right, and-no}
use Rattle.hist_controller.proofs.KeptState.{eq-own}
use Rattle.hist_controller.proofs.Serials.{has-more, has-filter, has-if, put-one, low}
use Rattle.hist_controller.proofs.Turns.{any-has, any-last}

-- ## what is left was not removed

passes-if : {A : Type 0} (q : A → Bool) (x z : A) (ys : List A) (b : Bool) → q z ≡ b → (Has x ys → q x ≡ true)
    → Has x (if b then z ∷ ys else ys) → q x ≡ true
passes-if q x z ys true e f (inl s) = ap q s ∙ e
passes-if q x z ys true e f (inr j) = f j
passes-if q x z ys false e f j = f j

has-passes : {A : Type 0} (q : A → Bool) (x : A) (xs : List A) → Has x (filter q xs) → q x ≡ true
has-passes q x [] i = absurd i
has-passes q x (z ∷ xs) i = passes-if q x z (filter q xs) (q z) refl (has-passes q x xs) i

both-no : (a b : Bool) → not a ≡ true → b ≡ false → (a || b) ≡ false
both-no true b e f = cc
both-no false b e f = f

pub stays-left : (h : List ControllerAct) (d : Way) (x : Association) → Has x (left d h) → has_answer RemovingIn x.serial h ≡ false
stays-left [] d x i = refl
stays-left (Opened g s ∷ h) d x i = stays-left h d x i
stays-left (Cut g s ∷ h) d x i = stays-left h d x i
stays-left (Answered g s n a ∷ h) d x i =
    let q : Association → Bool = λ y. not (is_answer_to RemovingIn y.serial (oldest (queue g h))) in
    both-no (is_answer_to RemovingIn x.serial (oldest (queue g h))) (has_answer RemovingIn x.serial h)
    (has-passes (λ (y : Association). not (is_answer_to RemovingIn y.serial (oldest (queue g h)))) x (left d h) i)
    (stays-left h d x (has-filter (λ (y : Association). not (is_answer_to RemovingIn y.serial (oldest (queue g h)))) x (left d h) i))
stays-left (Heard g s t ∷ h) d x i = stays-left h d x i
stays-left (Ordered g s n o ∷ h) d x i = elim (has-more x (left d h) (inbound_put d o) i) as
    (λ z. (not (is_kind PuttingIn x.serial o) && has_answer RemovingIn x.serial h) ≡ false) [
      | inl j ↦ and-no (not (is_kind PuttingIn x.serial o)) (has_answer RemovingIn x.serial h) (stays-left h d x j)
      | inr j ↦ rw ((put-one d x o j).0, eq-own x.serial) refl
    ]
stays-left (Accepted c ∷ h) d x i = stays-left h d x (has-if x _ (left d h) i).1
stays-left (Refused w ∷ h) d x i = stays-left h d x i

-- ## no such order waits where the direction is free

pub any-not : {A : Type 0} (p q : A → Bool) (xs : List A) → ((x : A) → p x ≡ true → q x ≡ true) → list_any q xs ≡ false
    → list_any p xs ≡ false
any-not p q [] f e = refl
any-not p q (x ∷ xs) f e = let ih = any-not p q xs f in let w = f x in grind (arith, ih, w)

own-out : (d : Way) (x : Association) (xs : List Association) → Has x xs → (o : ControllerOrder) → is_kind RemovingOut x.serial o ≡ true
    → is_own d xs o ≡ true
own-out d x xs i Read e = cc
own-out d x xs i (Policy l) e = cc
own-out d x xs i (PutIn y) e = cc
own-out d x xs i (PutOut y) e = cc
own-out d x xs i (RemoveIn n) e = cc
own-out d x xs i (RemoveOut n) e = any-has (λ (y : Association). y.serial == n) x xs i e

own-in : (d : Way) (x : Association) (xs : List Association) → Has x xs → (o : ControllerOrder) → is_kind RemovingIn x.serial o ≡ true
    → is_own d xs o ≡ true
own-in d x xs i Read e = cc
own-in d x xs i (Policy l) e = cc
own-in d x xs i (PutIn y) e = cc
own-in d x xs i (PutOut y) e = cc
own-in d x xs i (RemoveIn n) e = any-has (λ (y : Association). y.serial == n) x xs i e
own-in d x xs i (RemoveOut n) e = cc

pub neither : (a b : Bool) → (a || b) ≡ false → (a ≡ false) × (b ≡ false)
neither true b e = cc
neither false b e = (refl, e)

-- ## the counts

record Sparing (k : Kind) (n g : ℕ) (h : List ControllerAct) : Type 0 where
  pub now : times_now k n g h ≤ 1
  pub within : times_now k n g h ≤ times_at k n g h
  pub fresh : serials h < n → times_at k n g h ≡ 0
  pub live : is_open g h ≡ true → (times_now k n g h ≡ 0) ⊎ ((list_any (is_kind k n) (queue g h) ≡ true) ⊎ (has_answer k n h ≡ true))
  pub all : times_at k n g h ≤ openings g h
  pub less : is_open g h ≡ true → times_now k n g h ≡ 0 → times_at k n g h + 1 ≤ openings g h

abbrev Live : ℕ → Bool → Bool → Type 0
Live n a b = (n ≡ 0) ⊎ ((a ≡ true) ⊎ (b ≡ true))

live-map : (n : ℕ) (a b a' b' : Bool) → (a ≡ true → a' ≡ true) → (b ≡ true → b' ≡ true) → Live n a b → Live n a' b'
live-map n a b a' b' f g (inl z) = inl z
live-map n a b a' b' f g (inr (inl x)) = inr (inl (f x))
live-map n a b a' b' f g (inr (inr y)) = inr (inr (g y))

-- an order that is no such order
sparing-plain : (k : Kind) (n g : ℕ) (h : List ControllerAct) (f s i : ℕ) (o : ControllerOrder) → is_kind k n o ≡ false
    → is_kind PuttingIn n o ≡ false → serials h ≤ serials (Ordered f s i o ∷ h) → Sparing k n g h → Sparing k n g (Ordered f s i o ∷ h)
sparing-plain k n g h f s i o e r u c =
    let z = and-no (g == f) (is_kind k n o) e in
    record {
      now = rw z c.now;
      within = rw z c.within;
      fresh = λ w. rw z (c.fresh (omega arith));
      live = λ w. rw (z, r) (live-map (times_now k n g h) (list_any (is_kind k n) (queue g h)) (has_answer k n h)
          (list_any (is_kind k n) (if g == f then queue g h ++ o ∷ [] else queue g h)) (has_answer k n h)
          (any-if (is_kind k n) (g == f) (queue g h) o) (λ q. q) (c.live w));
      all = rw z c.all;
      less = λ w v. rw z (c.less w (rw z at v));
    }

-- an inbound put, of a fresh serial or another one
sparing-put : (k : Kind) (n g : ℕ) (h : List ControllerAct) (f s i : ℕ) (x : Association) → is_kind k n (PutIn x) ≡ false
    → x.serial ≡ serials h + 1 → (b : Bool) → (n == x.serial) ≡ b → Sparing k n g h → Sparing k n g (Ordered f s i (PutIn x) ∷ h)
sparing-put k n g h f s i x e q true r c =
    let z = and-no (g == f) (is_kind k n (PutIn x)) e in
    let w : serials h < n = grind arith in
    let a = c.fresh w in
    let b = c.within in
    let d : times_now k n g h ≡ 0 = omega arith in
    record {
      now = rw z c.now;
      within = rw z c.within;
      fresh = λ y. rw z a;
      live = λ y. inl (rw z d);
      all = rw z c.all;
      less = λ y v. rw z (c.less y d);
    }
sparing-put k n g h f s i x e q false r c = sparing-plain k n g h f s i (PutIn x) e r (omega arith) c

-- such an order, where none waits and none was answered
sparing-such : (k : Kind) (n g : ℕ) (h : List ControllerAct) (f s i : ℕ) (o : ControllerOrder) → is_kind k n o ≡ true
    → is_kind PuttingIn n o ≡ false → n ≤ serials h → is_inbound_put o ≡ false → is_open f h ≡ true
    → list_any (is_kind k n) (queue f h) ≡ false → has_answer k n h ≡ false → (b : Bool) → (g == f) ≡ b → Sparing k n g h
    → Sparing k n g (Ordered f s i o ∷ h)
sparing-such k n g h f s i o e r u y v a d true b c =
    let q : g ≡ f = grind arith in
    let v' : is_open g h ≡ true = rw q v in
    let a' : list_any (is_kind k n) (queue g h) ≡ false = rw q a in
    let zero : times_now k n g h ≡ 0 = none (times_now k n g h) (list_any (is_kind k n) (queue g h)) (has_answer k n h) a' d (c.live v') in
    let t : ((g == f) && is_kind k n o) ≡ true = rw (b, e) refl in
    let l = c.less v' zero in
    let m = c.all in
    record {
      now = rw t (omega arith);
      within = rw t (let w = c.within in omega arith);
      fresh = λ w. absurd (let w' : serials h < n = rw y at w in omega arith);
      live = λ w. inr (inl (rw b (any-last (is_kind k n) (queue g h) o e)));
      all = rw t l;
      less = λ w x. absurd (let x' : times_now k n g h + 1 ≡ 0 = rw t at x in omega arith);
    }
  where
    none : (m : ℕ) (a b : Bool) → a ≡ false → b ≡ false → Live m a b → m ≡ 0
    none m a b p q (inl z) = z
    none m a b p q (inr (inl x)) = cc
    none m a b p q (inr (inr x)) = cc
sparing-such k n g h f s i o e r u y v a d false b c =
    let z : ((g == f) && is_kind k n o) ≡ false = rw b refl in
    record {
      now = rw z c.now;
      within = rw z c.within;
      fresh = λ w. absurd (let w' : serials h < n = rw y at w in omega arith);
      live = λ w. rw (z, b, r) (c.live w);
      all = rw z c.all;
      less = λ w x. rw z (c.less w (rw z at x));
    }

-- the other acts

any-rest : (k : Kind) (n : ℕ) (q : List ControllerOrder) (b : Bool) → list_any (is_kind k n) q ≡ true
    → (list_any (is_kind k n) (rest q) ≡ true) ⊎ ((is_answer_to k n (oldest q) || b) ≡ true)
any-rest k n [] b e = cc
any-rest k n (o ∷ os) b e = split (is_kind k n o) (list_any (is_kind k n) os) b e
  where
    split : (x y b : Bool) → (x || y) ≡ true → (y ≡ true) ⊎ ((x || b) ≡ true)
    split true y b e = inr refl
    split false y b e = inl e

live-answered : (k : Kind) (n g f : ℕ) (h : List ControllerAct) (m : ℕ) (b : Bool) → (g == f) ≡ b
    → Live m (list_any (is_kind k n) (queue g h)) (has_answer k n h)
    → Live m (list_any (is_kind k n) (if b then rest (queue g h) else queue g h)) (is_answer_to k n (oldest (queue f h))
    || has_answer k n h)
live-answered k n g f h m b e (inl z) = inl z
live-answered k n g f h m true e (inr (inl x)) =
    let q : g ≡ f = grind arith in
    inr (subst (λ c. (list_any (is_kind k n) (rest (queue g h)) ≡ true)
    ⊎ ((is_answer_to k n (oldest (queue c h)) || has_answer k n h) ≡ true)) q (any-rest k n (queue g h) (has_answer k n h) x))
live-answered k n g f h m false e (inr (inl x)) = inr (inl x)
live-answered k n g f h m b e (inr (inr y)) = inr (inr (or-right (is_answer_to k n (oldest (queue f h))) (has_answer k n h) y))

sparing-answered : (k : Kind) (n g : ℕ) (h : List ControllerAct) (f s i : ℕ) (a : Answer) → Sparing k n g h
    → Sparing k n g (Answered f s i a ∷ h)
sparing-answered k n g h f s i a c =
    record {
      now = c.now;
      within = c.within;
      fresh = c.fresh;
      live = λ w. live-answered k n g f h (times_now k n g h) (g == f) refl (c.live w);
      all = c.all;
      less = c.less;
    }

sparing-cut : (k : Kind) (n g : ℕ) (h : List ControllerAct) (f s : ℕ) (b : Bool) → (g == f) ≡ b → Sparing k n g h
    → Sparing k n g (Cut f s ∷ h)
sparing-cut k n g h f s true b c =
    record {
      now = c.now;
      within = c.within;
      fresh = c.fresh;
      live = λ w. absurd (let w' : false ≡ true = rw b at w in cc);
      all = c.all;
      less = λ w v. absurd (let w' : false ≡ true = rw b at w in cc);
    }
sparing-cut k n g h f s false b c =
    record {
      now = c.now;
      within = c.within;
      fresh = c.fresh;
      live = λ w. rw b (c.live (rw b at w));
      all = c.all;
      less = λ w v. c.less (rw b at w) v;
    }

sparing-opened : (k : Kind) (n g : ℕ) (h : List ControllerAct) (f s : ℕ) (b : Bool) → (g == f) ≡ b → Sparing k n g h
    → Sparing k n g (Opened f s ∷ h)
sparing-opened k n g h f s true b c =
    let a = c.all in
    record {
      now = rw b (omega arith);
      within = rw b (omega arith);
      fresh = c.fresh;
      live = λ w. inl (rw b refl);
      all = rw b (omega arith);
      less = λ w v. rw b (omega arith);
    }
sparing-opened k n g h f s false b c =
    record {
      now = rw b c.now;
      within = rw b c.within;
      fresh = c.fresh;
      live = λ w. rw b (c.live (rw b at w));
      all = rw b c.all;
      less = λ w v. rw b (c.less (rw b at w) (rw b at v));
    }

-- ## the two removals

not-gone : (a b c d : Bool) → (a && b && not c && d) ≡ true → c ≡ false
not-gone a b c d e = grind arith

sparing-out : (p n g : ℕ) (h : List ControllerAct) (f s i : ℕ) (o : ControllerOrder) → IsControllerPast p h → is_open f h ≡ true
    → MayOrder h f o → Sparing RemovingOut n g h → Sparing RemovingOut n g (Ordered f s i o ∷ h)
sparing-out p n g h f s i Read l v m c = sparing-plain RemovingOut n g h f s i Read refl refl (omega arith) c
sparing-out p n g h f s i (Policy q) l v m c = sparing-plain RemovingOut n g h f s i (Policy q) refl refl (omega arith) c
sparing-out p n g h f s i (PutIn x) l v m c = sparing-put RemovingOut n g h f s i x refl m.serial (n == x.serial) refl c
sparing-out p n g h f s i (PutOut x) l v m c = sparing-plain RemovingOut n g h f s i (PutOut x) refl refl (omega arith) c
sparing-out p n g h f s i (RemoveIn q) l v m c = sparing-plain RemovingOut n g h f s i (RemoveIn q) refl refl (omega arith) c
sparing-out p n g h f s i (RemoveOut q) l v m c = either (n == q) refl
  where
    either : (b : Bool) → (n == q) ≡ b → Sparing RemovingOut n g (Ordered f s i (RemoveOut q) ∷ h)
    either false e = sparing-plain RemovingOut n g h f s i (RemoveOut q) e refl (omega arith) c
    either true e =
        let nq : n ≡ q = grind arith in
        let w : n ≡ m.association.serial = nq ∙ m.name in
        let b = low p h l m.way m.association m.left in
        let d = not-gone (is_ended m.association h) (is_out_ordered m.association.serial h) (has_answer RemovingOut m.association.serial h)
        (is_read m.way.sender h) m.may in
        let t = neither (list_any (is_own m.way (left m.way h)) (queue m.way.sender h))
        (list_any (is_own m.way (left m.way h)) (queue m.way.receiver h)) m.free in
        let y = any-not (is_kind RemovingOut m.association.serial) (is_own m.way (left m.way h)) (queue m.way.sender h)
        (own-out m.way m.association (left m.way h) m.left) t.0 in
        sparing-such RemovingOut n g h f s i (RemoveOut q) e refl (omega arith) refl v (rw (w, m.at) y) (rw w d) (g == f) refl c

sparing-in : (p n g : ℕ) (h : List ControllerAct) (f s i : ℕ) (o : ControllerOrder) → IsControllerPast p h → is_open f h ≡ true
    → MayOrder h f o → Sparing RemovingIn n g h → Sparing RemovingIn n g (Ordered f s i o ∷ h)
sparing-in p n g h f s i Read l v m c = sparing-plain RemovingIn n g h f s i Read refl refl (omega arith) c
sparing-in p n g h f s i (Policy q) l v m c = sparing-plain RemovingIn n g h f s i (Policy q) refl refl (omega arith) c
sparing-in p n g h f s i (PutIn x) l v m c = sparing-put RemovingIn n g h f s i x refl m.serial (n == x.serial) refl c
sparing-in p n g h f s i (PutOut x) l v m c = sparing-plain RemovingIn n g h f s i (PutOut x) refl refl (omega arith) c
sparing-in p n g h f s i (RemoveOut q) l v m c = sparing-plain RemovingIn n g h f s i (RemoveOut q) refl refl (omega arith) c
sparing-in p n g h f s i (RemoveIn q) l v m c = either (n == q) refl
  where
    either : (b : Bool) → (n == q) ≡ b → Sparing RemovingIn n g (Ordered f s i (RemoveIn q) ∷ h)
    either false e = sparing-plain RemovingIn n g h f s i (RemoveIn q) e refl (omega arith) c
    either true e =
        let nq : n ≡ q = grind arith in
        let w : n ≡ m.association.serial = nq ∙ m.name in
        let b = low p h l m.way m.association m.left in
        let d = stays-left h m.way m.association m.left in
        let t = neither (list_any (is_own m.way (left m.way h)) (queue m.way.sender h))
        (list_any (is_own m.way (left m.way h)) (queue m.way.receiver h)) m.free in
        let y = any-not (is_kind RemovingIn m.association.serial) (is_own m.way (left m.way h)) (queue m.way.receiver h)
        (own-in m.way m.association (left m.way h) m.left) t.1 in
        sparing-such RemovingIn n g h f s i (RemoveIn q) e refl (omega arith) refl v (rw (w, m.at) y) (rw w d) (g == f) refl c

-- the order given, for each of the two
abbrev Step : Kind → ℕ → Type 0
Step k p = (n g : ℕ) (h : List ControllerAct) (f s i : ℕ) (o : ControllerOrder) → IsControllerPast p h → is_open f h ≡ true → MayOrder h f o
    → Sparing k n g h → Sparing k n g (Ordered f s i o ∷ h)

sparing : (k : Kind) (p n g : ℕ) → Step k p → (h : List ControllerAct) → IsControllerPast p h → Sparing k n g h
sparing k p n g t [] l = record {
  now = omega arith;
  within = omega arith;
  fresh = λ w. refl;
  live = λ w. inl refl;
  all = omega arith;
  less = λ w v. cc;
}
sparing k p n g t (Opened f s ∷ h) l = sparing-opened k n g h f s (g == f) refl (sparing k p n g t h l.1)
sparing k p n g t (Cut f s ∷ h) l = sparing-cut k n g h f s (g == f) refl (sparing k p n g t h l.1)
sparing k p n g t (Answered f s i a ∷ h) l = sparing-answered k n g h f s i a (sparing k p n g t h l.1)
sparing k p n g t (Heard f s x ∷ h) l = let c = sparing k p n g t h l.1 in
    record { now = c.now; within = c.within; fresh = c.fresh; live = c.live; all = c.all; less = c.less }
sparing k p n g t (Ordered f s i o ∷ h) l = t n g h f s i o l.1 l.0.2 l.0.3 (sparing k p n g t h l.1)
sparing k p n g t (Accepted x ∷ h) l = let c = sparing k p n g t h l.1 in
    record { now = c.now; within = c.within; fresh = c.fresh; live = c.live; all = c.all; less = c.less }
sparing k p n g t (Refused w ∷ h) l = let c = sparing k p n g t h l.1 in
    record { now = c.now; within = c.within; fresh = c.fresh; live = c.live; all = c.all; less = c.less }

abbrev Spared : Kind → ℕ → ℕ → List ControllerAct → Type 0
Spared k n g h = (times_now k n g h ≤ 1) × (times_at k n g h ≤ openings g h)

-- in each session a half is ordered removed once at most, and at a gateway not more often than sessions were opened
pub removed-once : (p : ℕ) (h : List ControllerAct) → IsControllerPast p h → (n g : ℕ) → Spared RemovingOut n g h × Spared RemovingIn n g h
removed-once p h l n g =
    let a = sparing RemovingOut p n g (sparing-out p) h l in
    let b = sparing RemovingIn p n g (sparing-in p) h l in
    ((a.now, a.all), (b.now, b.all))
