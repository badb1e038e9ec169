-- What is no longer left was ended and needs no order, so the words over what is left are those over all.
use Rattle.std.proofs.Common.{◌≡◌, ℕ, ◌≤◌, Bool, true, false, ◌==◌, not, ◌&&◌, ◌||◌, List, [], ◌∷◌, ◌++◌, length, ◌⊎◌, inl, inr, refl, sym, subst, ◌∙◌, ap, arith, if◌then◌else◌}
use Rattle.std.specs.List.{filter, list_any}
use Rattle.ikeless_tree.specs.declared.order.Answer.{Answer}
use Rattle.hist_controller.specs.Acts.{Way, Association, ControllerOrder, Read, Policy, PutIn, PutOut, RemoveIn, RemoveOut, PlacedCommand, ControllerAct, Opened, Cut, Answered, Heard, Ordered, Accepted, Refused}
use Rattle.hist_controller.specs.Past.{oldest, queue, is_read, serials, is_inbound_put, directions, is_made_by, PuttingIn, PuttingOut, RemovingIn, RemovingOut, is_kind, is_answer_to, is_out_ordered, has_answer, is_ended, is_in_progress, inbound_put, left, is_unseen}
use Rattle.hist_controller.specs.Law.{may_out_remove, may_in_remove, may_out_put}
use Rattle.hist_controller.specs.Clauses.{Has, MayOrder, IsControllerPast, MayOrderInRemove, Quiet, NotIdle}
use Rattle.hist_controller.specs.Ever.{made, AllQuiet, AllNotIdle}
use Rattle.hist_controller.proofs.Lists.{has-left, right-in}
use Rattle.hist_controller.proofs.Bools.{or-right, split-or}
use Rattle.hist_controller.proofs.Serials.{has-more, has-filter, has-if, put-one, put-serial, more-if}
use Rattle.hist_controller.proofs.Turns.{any-has}
use Rattle.hist_controller.proofs.Befores.{has-queue, has-rest, has-none, is-not, not-ended}

abbrev pub Spent : Association → List ControllerAct → Type 0
Spent x h = (is_ended x h ≡ true) × ((is_out_ordered x.serial h ≡ false) ⊎ (has_answer RemovingOut x.serial h ≡ true))

pub record Whole (h : List ControllerAct) : Type 0 where
  pub low : (d : Way) (x : Association) → Has x (made d h) → x.serial ≤ serials h
  pub one : (d e : Way) (x y : Association) → Has x (made d h) → Has y (made e h) → x.serial ≡ y.serial → x ≡ y
  pub sub : (d : Way) (x : Association) → Has x (left d h) → Has x (made d h)
  pub early : (g n : ℕ) → Has (RemoveIn n) (queue g h) → n ≤ serials h
  pub waits : (g n : ℕ) → Has (RemoveIn n) (queue g h) → (d : Way) (x : Association) → Has x (made d h) → x.serial ≡ n → Spent x h
  pub gone : (d : Way) (x : Association) → Has x (made d h) → Has x (left d h) ⊎ ((has_answer RemovingIn x.serial h ≡ true) × Spent x h)

-- ## it stays spent

spent-or : (x : Association) (h : List ControllerAct) (a b : Bool) → Spent x h → ((a || is_ended x h) ≡ true)
    × ((is_out_ordered x.serial h ≡ false) ⊎ ((b || has_answer RemovingOut x.serial h) ≡ true))
spent-or x h a b s = (or-right a (is_ended x h) s.0, later s.1)
  where
    later : (is_out_ordered x.serial h ≡ false) ⊎ (has_answer RemovingOut x.serial h ≡ true) → (is_out_ordered x.serial h ≡ false)
        ⊎ ((b || has_answer RemovingOut x.serial h) ≡ true)
    later (inl e) = inl e
    later (inr e) = inr (or-right b (has_answer RemovingOut x.serial h) e)

spent-order : (x : Association) (h : List ControllerAct) (g s n : ℕ) (o : ControllerOrder) → is_kind PuttingIn x.serial o ≡ false
    → is_kind PuttingOut x.serial o ≡ false → Spent x h → Spent x (Ordered g s n o ∷ h)
spent-order x h g s n o e f p = rw (e, f) p

pub no-in : (h : List ControllerAct) (g : ℕ) (o : ControllerOrder) (x : Association) → MayOrder h g o → x.serial ≤ serials h
    → is_kind PuttingIn x.serial o ≡ false
no-in h g Read x m e = refl
no-in h g (Policy l) x m e = refl
no-in h g (PutIn z) x m e = let q = m.serial in grind arith
no-in h g (PutOut z) x m e = refl
no-in h g (RemoveIn n) x m e = refl
no-in h g (RemoveOut n) x m e = refl

no-out : (h : List ControllerAct) (g : ℕ) (o : ControllerOrder) (x : Association) (d : Way) → Whole h → Has x (made d h) → MayOrder h g o
    → is_ended x h ≡ true → is_kind PuttingOut x.serial o ≡ false
no-out h g Read x d k i m e = refl
no-out h g (Policy l) x d k i m e = refl
no-out h g (PutIn z) x d k i m e = refl
no-out h g (PutOut z) x d k i m e = is-not (x.serial == z.serial) (λ t.
    let q : x.serial ≡ z.serial = grind arith in
    let s : x ≡ z = k.one d m.way x z i (k.sub m.way z m.left) q in
    let n = not-ended (is_ended z h) (not (has_answer PuttingOut z.serial h)) (not (is_out_ordered z.serial h))
    (has_answer PuttingIn z.serial h) (is_read m.way.sender h) (is_read m.way.receiver h) m.may in
    let f : is_ended x h ≡ false = rw s n in
    let u : true ≡ false = sym e ∙ f in
    cc)
no-out h g (RemoveIn n) x d k i m e = refl
no-out h g (RemoveOut n) x d k i m e = refl

spent-on : (h : List ControllerAct) (g s n : ℕ) (o : ControllerOrder) (d : Way) (x : Association) → Whole h → MayOrder h g o
    → Has x (made d h) → Spent x h → Spent x (Ordered g s n o ∷ h)
spent-on h g s n o d x k m i p = spent-order x h g s n o (no-in h g o x m (k.low d x i)) (no-out h g o x d k i m p.0) p

-- ## orders

whole-low : (h : List ControllerAct) (g s n : ℕ) (o : ControllerOrder) → MayOrder h g o → Whole h → (d : Way) (x : Association)
    → Has x (made d h) ⊎ Has x (inbound_put d o) → x.serial ≤ serials (Ordered g s n o ∷ h)
whole-low h g s n o m k d x (inl j) = more-if (is_inbound_put o) x.serial (serials h) (k.low d x j)
whole-low h g s n o m k d x (inr j) = let e = (put-one d x o j).0 in let q = put-serial h g o x m e in rw e (omega arith)

whole-one : (h : List ControllerAct) (g : ℕ) (o : ControllerOrder) → MayOrder h g o → Whole h → (d e : Way) (x y : Association)
    → Has x (made d h) ⊎ Has x (inbound_put d o) → Has y (made e h) ⊎ Has y (inbound_put e o) → x.serial ≡ y.serial → x ≡ y
whole-one h g o m k d e x y (inl i) (inl j) q = k.one d e x y i j q
whole-one h g o m k d e x y (inl i) (inr j) q = let a = k.low d x i in let b = put-serial h g o y m (put-one e y o j).0 in
    absurd (omega arith)
whole-one h g o m k d e x y (inr i) (inl j) q = let a = k.low e y j in let b = put-serial h g o x m (put-one d x o i).0 in
    absurd (omega arith)
whole-one h g o m k d e x y (inr i) (inr j) q = let a = (put-one d x o i).0 in let b = (put-one e y o j).0 in cc

whole-sub : (h : List ControllerAct) (o : ControllerOrder) → Whole h → (d : Way) (x : Association) → Has x (left d h)
    ⊎ Has x (inbound_put d o) → Has x (made d h ++ inbound_put d o)
whole-sub h o k d x (inl j) = has-left x (made d h) (inbound_put d o) (k.sub d x j)
whole-sub h o k d x (inr j) = right-in x (made d h) (inbound_put d o) j

first-of : (a b c : Bool) → (a && b && c) ≡ true → (a ≡ true) × (b ≡ true)
first-of true true c e = (refl, refl)
first-of true false c e = cc
first-of false b c e = cc

-- what is ordered removed inbound is spent
spent-now : (h : List ControllerAct) (g n : ℕ) → MayOrderInRemove h g n → Whole h → (d : Way) (x : Association) → Has x (made d h)
    → x.serial ≡ n → Spent x h
spent-now h g n m k d x i e =
    let s : x ≡ m.association = k.one d m.way x m.association i (k.sub m.way m.association m.left) (e ∙ m.name) in
    let t = first-of (is_ended m.association h) (not (is_out_ordered m.association.serial h)
    || has_answer RemovingOut m.association.serial h) (is_read m.way.receiver h) m.may in
    rw s (t.0, split-or (is_out_ordered m.association.serial h) (has_answer RemovingOut m.association.serial h) t.1)

whole-waits : (h : List ControllerAct) (f s i : ℕ) (o : ControllerOrder) → MayOrder h f o → Whole h → (g n : ℕ)
    → Has (RemoveIn n) (queue g h) ⊎ ((RemoveIn n ≡ o) × ((g == f) ≡ true)) → (d : Way) (x : Association) → Has x (made d h)
    ⊎ Has x (inbound_put d o) → x.serial ≡ n → Spent x (Ordered f s i o ∷ h)
whole-waits h f s i o m k g n (inl j) d x (inl a) e = spent-on h f s i o d x k m a (k.waits g n j d x a e)
whole-waits h f s i o m k g n (inr j) d x (inl a) e = spent-on h f s i o d x k m a (let m' : MayOrderInRemove h f n =
    subst (MayOrder h f) (sym j.0) m in spent-now h f n m' k d x a e)
whole-waits h f s i o m k g n (inr j) d x (inr b) e = let q = (put-one d x o b).0 in let r : RemoveIn n ≡ PutIn x = j.0 ∙ q in cc
whole-waits h f s i o m k g n (inl j) d x (inr b) e = let q = put-serial h f o x m (put-one d x o b).0 in let w = k.early g n j in
    absurd (omega arith)

whole-gone : (h : List ControllerAct) (g s n : ℕ) (o : ControllerOrder) → MayOrder h g o → Whole h → (d : Way) (x : Association)
    → Has x (made d h) ⊎ Has x (inbound_put d o) → Has x (left d h ++ inbound_put d o)
    ⊎ (((not (is_kind PuttingIn x.serial o) && has_answer RemovingIn x.serial h) ≡ true) × Spent x (Ordered g s n o ∷ h))
whole-gone h g s n o m k d x (inr j) = inl (right-in x (left d h) (inbound_put d o) j)
whole-gone h g s n o m k d x (inl j) = elim (k.gone d x j) as (λ z. Has x (left d h ++ inbound_put d o)
    ⊎ (((not (is_kind PuttingIn x.serial o) && has_answer RemovingIn x.serial h) ≡ true) × Spent x (Ordered g s n o ∷ h))) [
      | inl a ↦ inl (has-left x (left d h) (inbound_put d o) a)
      | inr b ↦ inr (rw (no-in h g o x m (k.low d x j), b.0) refl, spent-on h g s n o d x k m j b.1)
    ]

whole-early : (h : List ControllerAct) (f s i : ℕ) (o : ControllerOrder) → MayOrder h f o → Whole h → (g n : ℕ)
    → Has (RemoveIn n) (queue g h) ⊎ ((RemoveIn n ≡ o) × ((g == f) ≡ true)) → n ≤ serials (Ordered f s i o ∷ h)
whole-early h f s i o m k g n (inl j) = more-if (is_inbound_put o) n (serials h) (k.early g n j)
whole-early h f s i o m k g n (inr j) =
    let m' : MayOrderInRemove h f n = subst (MayOrder h f) (sym j.0) m in
    let b = k.low m'.way m'.association (k.sub m'.way m'.association m'.left) in
    let e = m'.name in
    more-if (is_inbound_put o) n (serials h) (omega arith)

whole-order : (h : List ControllerAct) (f s i : ℕ) (o : ControllerOrder) → MayOrder h f o → Whole h → Whole (Ordered f s i o ∷ h)
whole-order h f s i o m k =
    record {
      low = λ d x j. whole-low h f s i o m k d x (has-more x (made d h) (inbound_put d o) j);
      one = λ d e x y j l q. whole-one h f o m k d e x y (has-more x (made d h) (inbound_put d o) j)
          (has-more y (made e h) (inbound_put e o) l) q;
      sub = λ d x j. whole-sub h o k d x (has-more x (left d h) (inbound_put d o) j);
      early = λ g n j. whole-early h f s i o m k g n (has-queue (g == f) (queue g h) o (RemoveIn n) j);
      waits = λ g n j d x l e. whole-waits h f s i o m k g n (has-queue (g == f) (queue g h) o (RemoveIn n) j) d x
          (has-more x (made d h) (inbound_put d o) l) e;
      gone = λ d x j. whole-gone h f s i o m k d x (has-more x (made d h) (inbound_put d o) j);
    }

-- ## answers

by-oldest : (n : ℕ) (q : List ControllerOrder) → is_answer_to RemovingIn n (oldest q) ≡ true → Has (RemoveIn n) q
by-oldest n [] e = cc
by-oldest n (Read ∷ q) e = cc
by-oldest n (Policy l ∷ q) e = cc
by-oldest n (PutIn x ∷ q) e = cc
by-oldest n (PutOut x ∷ q) e = cc
by-oldest n (RemoveIn m ∷ q) e = let w : n ≡ m = grind arith in inl (ap RemoveIn w)
by-oldest n (RemoveOut m ∷ q) e = cc

pub filter-in : {A : Type 0} (p : A → Bool) (x : A) (xs : List A) → Has x xs → p x ≡ true → Has x (filter p xs)
filter-in p x [] i e = i
filter-in p x (z ∷ xs) (inl q) e = let w : p z ≡ true = ap p (sym q) ∙ e in rw w (inl q)
filter-in p x (z ∷ xs) (inr i) e = keep (p z) (filter-in p x xs i e)
  where
    keep : (b : Bool) → Has x (filter p xs) → Has x (if b then z ∷ filter p xs else filter p xs)
    keep true j = inr j
    keep false j = j

abbrev OrGone : List ControllerAct → ℕ → ℕ → ℕ → Answer → Way → Association → Type 0
OrGone h g s n a d x = Has x (left d (Answered g s n a ∷ h)) ⊎ ((has_answer RemovingIn x.serial (Answered g s n a ∷ h) ≡ true)
    × Spent x (Answered g s n a ∷ h))

gone-left : (h : List ControllerAct) (g s n : ℕ) (a : Answer) (d : Way) (x : Association) → Whole h → Has x (made d h) → Has x (left d h)
    → (b : Bool) → is_answer_to RemovingIn x.serial (oldest (queue g h)) ≡ b → OrGone h g s n a d x
gone-left h g s n a d x k i j true e = inr (rw e refl, spent-or x h _ _ (k.waits g x.serial (by-oldest x.serial (queue g h) e) d x i refl))
gone-left h g s n a d x k i j false e =
    inl (filter-in (λ (y : Association). not (is_answer_to RemovingIn y.serial (oldest (queue g h)))) x (left d h) j (rw e refl))

gone-answered : (h : List ControllerAct) (g s n : ℕ) (a : Answer) (d : Way) (x : Association) → Whole h → Has x (made d h)
    → Has x (left d h) ⊎ ((has_answer RemovingIn x.serial h ≡ true) × Spent x h) → OrGone h g s n a d x
gone-answered h g s n a d x k i (inl j) = gone-left h g s n a d x k i j (is_answer_to RemovingIn x.serial (oldest (queue g h))) refl
gone-answered h g s n a d x k i (inr p) = inr (or-right _ _ p.0, spent-or x h _ _ p.1)

whole-answered : (h : List ControllerAct) (g s n : ℕ) (a : Answer) → Whole h → Whole (Answered g s n a ∷ h)
whole-answered h g s n a k =
    record {
      low = k.low;
      one = k.one;
      sub = λ d x i. k.sub d x (has-filter (λ (y : Association). not (is_answer_to RemovingIn y.serial (oldest (queue g h)))) x (left d h)
          i);
      early = λ f m i. k.early f m (has-rest (f == g) (queue f h) (RemoveIn m) i);
      waits = λ f m i d x j e. spent-or x h _ _ (k.waits f m (has-rest (f == g) (queue f h) (RemoveIn m) i) d x j e);
      gone = λ d x i. gone-answered h g s n a d x k i (k.gone d x i);
    }

-- ## the other acts

whole-cut : (h : List ControllerAct) (g s : ℕ) → Whole h → Whole (Cut g s ∷ h)
whole-cut h g s k =
    record {
      low = k.low;
      one = k.one;
      sub = k.sub;
      early = λ f m i. k.early f m (has-none (f == g) (queue f h) (RemoveIn m) i);
      waits = λ f m i d x j e. let p = k.waits f m (has-none (f == g) (queue f h) (RemoveIn m) i) d x j e in (or-right _ _ p.0, p.1);
      gone = λ d x i. cut-gone d x (k.gone d x i);
    }
  where
    cut-gone : (d : Way) (x : Association) → Has x (left d h) ⊎ ((has_answer RemovingIn x.serial h ≡ true) × Spent x h) → Has x (left d h)
        ⊎ ((has_answer RemovingIn x.serial h ≡ true) × Spent x (Cut g s ∷ h))
    cut-gone d x (inl j) = inl j
    cut-gone d x (inr p) = inr (p.0, (or-right _ _ p.1.0, p.1.1))

if-not : {A : Type 0} (x : A) (b : Bool) (xs : List A) → b ≡ false → Has x xs → Has x (if b then [] else xs)
if-not x b xs e i = rw e i

whole-told : (h : List ControllerAct) (c : PlacedCommand) → Whole h → Whole (Accepted c ∷ h)
whole-told h c k =
    record {
      low = λ d x i. k.low d x (has-if x _ (made d h) i).1;
      one = λ d e x y i j q. k.one d e x y (has-if x _ (made d h) i).1 (has-if y _ (made e h) j).1 q;
      sub = λ d x i. let p = has-if x _ (left d h) i in if-not x _ (made d h) p.0 (k.sub d x p.1);
      early = k.early;
      waits = λ f m i d x j e. let p = k.waits f m i d x (has-if x _ (made d h) j).1 e in (or-right _ _ p.0, p.1);
      gone = λ d x i. let p = has-if x _ (made d h) i in told-gone d x p.0 (k.gone d x p.1);
    }
  where
    told-gone : (d : Way) (x : Association) → is_made_by c (length (directions h)) d ≡ false → Has x (left d h)
        ⊎ ((has_answer RemovingIn x.serial h ≡ true) × Spent x h) → Has x (left d (Accepted c ∷ h))
        ⊎ ((has_answer RemovingIn x.serial h ≡ true) × Spent x (Accepted c ∷ h))
    told-gone d x e (inl j) = inl (if-not x _ (left d h) e j)
    told-gone d x e (inr p) = inr (p.0, (or-right _ _ p.1.0, p.1.1))

whole-opened : (h : List ControllerAct) (g s : ℕ) → Whole h → Whole (Opened g s ∷ h)
whole-opened h g s k =
    record {
      low = k.low;
      one = k.one;
      sub = k.sub;
      early = λ f m i. k.early f m (has-none (f == g) (queue f h) (RemoveIn m) i);
      waits = λ f m i. k.waits f m (has-none (f == g) (queue f h) (RemoveIn m) i);
      gone = k.gone;
    }

pub whole : (p : ℕ) (h : List ControllerAct) → IsControllerPast p h → Whole h
whole p [] l = record {
  low = λ d x i. absurd i;
  one = λ d e x y i. absurd i;
  sub = λ d x i. i;
  early = λ g n i. absurd i;
  waits =
      λ g n i. absurd i;
  gone = λ d x i. inl i;
}
whole p (Opened g s ∷ h) l = whole-opened h g s (whole p h l.1)
whole p (Cut g s ∷ h) l = whole-cut h g s (whole p h l.1)
whole p (Answered g s n a ∷ h) l = whole-answered h g s n a (whole p h l.1)
whole p (Heard g s t ∷ h) l = let k = whole p h l.1 in
    record { low = k.low; one = k.one; sub = k.sub; early = k.early; waits = k.waits; gone = k.gone }
whole p (Ordered g s n o ∷ h) l = whole-order h g s n o l.0.3 (whole p h l.1)
whole p (Accepted c ∷ h) l = whole-told h c (whole p h l.1)
whole p (Refused w ∷ h) l = let k = whole p h l.1 in
    record { low = k.low; one = k.one; sub = k.sub; early = k.early; waits = k.waits; gone = k.gone }

-- ## the words over what is left are those over all

ended-no : (a b : Bool) → a ≡ true → (not a && b) ≡ false
ended-no true b e = refl
ended-no false b e = cc

spent-out : (a b c d : Bool) → (b ≡ false) ⊎ (c ≡ true) → (a && b && not c && d) ≡ false
spent-out a b c d (inl e) = grind arith
spent-out a b c d (inr e) = grind arith

put-no : (a b c d e f : Bool) → a ≡ true → ((not a && b) && c && d && e && f) ≡ false
put-no true b c d e f q = refl
put-no false b c d e f q = cc

all-quiet : (h : List ControllerAct) (d : Way) → Whole h → Quiet h d → AllQuiet h d
all-quiet h d k q =
    record {
      no_out_remove = λ x i. elim (k.gone d x i) as (λ z. may_out_remove h d x ≡ false) [
        | inl j ↦ q.no_out_remove x j
        | inr p ↦ spent-out (is_ended x h) (is_out_ordered x.serial h) (has_answer RemovingOut x.serial h) (is_read d.sender h) p.1.1
      ];
      no_in_remove = λ x i e. elim (k.gone d x i) as (λ z. may_in_remove h d x ≡ false) [
        | inl j ↦ q.no_in_remove x j
        | inr p ↦ absurd (let u : true ≡ false = sym p.0 ∙ e in cc)
      ];
      no_out_put = λ x i. elim (k.gone d x i) as (λ z. may_out_put h d x ≡ false) [
        | inl j ↦ q.no_out_put x j
        | inr p ↦ put-no (is_ended x h) (not (has_answer PuttingOut x.serial h)) (not (is_out_ordered x.serial h))
            (has_answer PuttingIn x.serial h) (is_read d.sender h) (is_read d.receiver h) p.1.0
      ];
      no_in_put = q.no_in_put;
    }

pub all-not-idle : (p : ℕ) (h : List ControllerAct) → IsControllerPast p h → NotIdle h → AllNotIdle h
all-not-idle p h l q d i f = all-quiet h d (whole p h l) (q d i f)

-- a test that no ended association passes is passed by one of all exactly where by one left
any-all : (q : Association → Bool) (xs ys : List Association) → ((x : Association) → Has x ys → Has x xs)
    → ((x : Association) → Has x xs → q x ≡ true → Has x ys) → list_any q xs ≡ list_any q ys
any-all q xs ys f g = same (list_any q xs) (list_any q ys) (λ e. let w = found xs e in any-has q w.0 ys (g w.0 w.1 w.2) w.2) (λ e. let w =
    found ys e in any-has q w.0 xs (f w.0 w.1) w.2)
  where
    same : (a b : Bool) → (a ≡ true → b ≡ true) → (b ≡ true → a ≡ true) → a ≡ b
    same true b f g = sym (f refl)
    same false true f g = g refl
    same false false f g = refl

    found-if : (x : Association) (xs : List Association) (b : Bool) → q x ≡ b → (list_any q xs ≡ true → (y : Association) × Has y xs
        × (q y ≡ true)) → (b || list_any q xs) ≡ true → (y : Association) × Has y (x ∷ xs) × (q y ≡ true)
    found-if x xs true e f w = (x, inl refl, e)
    found-if x xs false e f w = let r = f w in (r.0, inr r.1, r.2)

    found : (xs : List Association) → list_any q xs ≡ true → (x : Association) × Has x xs × (q x ≡ true)
    found [] e = cc
    found (x ∷ xs) e = found-if x xs (q x) refl (found xs) e

not-gone : (h : List ControllerAct) (d : Way) (k : Whole h) (b : Bool) (x : Association) → Has x (made d h)
    → (not (is_ended x h) && b) ≡ true → Has x (left d h)
not-gone h d k b x i e = elim (k.gone d x i) as (λ z. Has x (left d h)) [
  | inl j ↦ j
  | inr p ↦ absurd (let u : true ≡ false = sym e ∙ ended-no (is_ended x h) b p.1.0 in cc)
]

-- causes 3 and 5 over all associations of the direction
pub progress-all : (p : ℕ) (h : List ControllerAct) → IsControllerPast p h → (d : Way) → list_any (is_in_progress h) (made d h) ≡ list_any
    (is_in_progress h) (left d h)
progress-all p h l d = let k = whole p h l in
    any-all (is_in_progress h) (made d h) (left d h) (k.sub d) (λ x i e. not-gone h d k (not (has_answer PuttingOut x.serial h)) x i e)

pub lacks-all : (p : ℕ) (h : List ControllerAct) → IsControllerPast p h → (d : Way) (g : ℕ) (names : List (List ℕ))
    → list_any (is_unseen h d g names) (made d h) ≡ list_any (is_unseen h d g names) (left d h)
lacks-all p h l d g names = let k = whole p h l in
    any-all (is_unseen h d g names) (made d h) (left d h) (k.sub d) (λ x i e. not-gone h d k _ x i e)
