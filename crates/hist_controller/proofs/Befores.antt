-- Each order of a history stands after what the world's safety needs.
use Rattle.std.proofs.Common.{◌≡◌, ℕ, ◌+◌, ◌<◌, ◌≤◌, Bool, true, false, ◌==◌, not, ◌&&◌, ◌||◌, List, [], ◌∷◌, ◌++◌, Option, Some, None, ◌⊎◌, inl, inr, refl, sym, subst, ◌∙◌, ap, arith, if◌then◌else◌, append-nil}
use Rattle.std.specs.List.{list_any}
use Rattle.ikeless_tree.specs.declared.order.Answer.{Answer}
use Rattle.hist_controller.specs.Acts.{Way, Association, ControllerOrder, Read, Policy, PutIn, PutOut, RemoveIn, RemoveOut, ControllerAct, Opened, Cut, Answered, Heard, Ordered, Accepted, Refused}
use Rattle.hist_controller.specs.Past.{oldest, rest, queue, is_read, serials, is_inbound_put, directions, Kind, PuttingIn, PuttingOut, RemovingIn, RemovingOut, is_kind, is_own, is_answer_to, is_out_ordered, has_answer, is_spoiled, is_ended, is_in_progress, inbound_put, left}
use Rattle.hist_controller.specs.Clauses.{Has, MayOrder, IsControllerPast, MayOrderInPut, MayOrderOutPut, MayOrderInRemove, MayOrderOutRemove}
use Rattle.hist_controller.specs.Counts.{times}
use Rattle.hist_controller.specs.Orders.{was_ordered, is_not_shown, was_missed, Before, AllBefore}
use Rattle.hist_controller.proofs.Lists.{has-left}
use Rattle.hist_controller.proofs.Bools.{or-right, second-of-4, split-or}
use Rattle.hist_controller.proofs.Serials.{has-more, has-filter, has-if, put-one, of-way, low, one, one-way}
use Rattle.hist_controller.proofs.Often.{once, not-sent}
use Rattle.hist_controller.proofs.Removed.{neither}

none-given : (k : Kind) (n : ℕ) (h : List ControllerAct) → times k n h ≡ 0 → was_ordered k n h ≡ false
none-given k n [] e = refl
none-given k n (Opened g s ∷ h) e = none-given k n h e
none-given k n (Cut g s ∷ h) e = none-given k n h e
none-given k n (Answered g s i a ∷ h) e = none-given k n h e
none-given k n (Heard g s t ∷ h) e = none-given k n h e
none-given k n (Ordered g s i o ∷ h) e = let ih = none-given k n h in grind (arith, ih)
none-given k n (Accepted c ∷ h) e = none-given k n h e
none-given k n (Refused w ∷ h) e = none-given k n h e

sent-given : (n : ℕ) (h : List ControllerAct) → is_out_ordered n h ≡ true → was_ordered PuttingOut n h ≡ true
sent-given n [] e = e
sent-given n (Opened g s ∷ h) e = sent-given n h e
sent-given n (Cut g s ∷ h) e = sent-given n h e
sent-given n (Answered g s i a ∷ h) e = sent-given n h e
sent-given n (Heard g s t ∷ h) e = sent-given n h e
sent-given n (Ordered g s i o ∷ h) e = let ih = sent-given n h in grind (arith, ih)
sent-given n (Accepted c ∷ h) e = sent-given n h e
sent-given n (Refused w ∷ h) e = sent-given n h e

-- ## what an inbound removal says for good

record Marked (h : List ControllerAct) : Type 0 where
  pub new : (n : ℕ) → serials h < n → was_ordered RemovingIn n h ≡ false
  pub gone : (d : Way) (x : Association) → Has x (left d h) → was_ordered RemovingIn x.serial h ≡ true → is_ended x h ≡ true

first-of-4 : (a b c : Bool) → (a && b && c) ≡ true → a ≡ true
first-of-4 a b c e = grind arith

pub old-left : (h : List ControllerAct) (d : Way) (x : Association) → Has x (left d h ++ []) → Has x (left d h)
old-left h d x i = subst (Has x) (append-nil (left d h)) i

gone-remove : (p : ℕ) (h : List ControllerAct) → IsControllerPast p h → Marked h → (g q : ℕ) → MayOrderInRemove h g q
    → (d : Way) (x : Association) → Has x (left d h) → (b : Bool) → (x.serial == q) ≡ b → (b || was_ordered RemovingIn x.serial h) ≡ true
    → is_ended x h ≡ true
gone-remove p h l k g q m d x i true e w =
    let s : x.serial ≡ q = grind arith in
    let t = one p h l d m.way x m.association i m.left (s ∙ m.name) in
    rw t (first-of-4 (is_ended m.association h) (not (is_out_ordered m.association.serial h)
    || has_answer RemovingOut m.association.serial h) (is_read m.way.receiver h) m.may)
gone-remove p h l k g q m d x i false e w = k.gone d x i w

gone-put : (p : ℕ) (h : List ControllerAct) → IsControllerPast p h → Marked h → (z : Association) → z.serial ≡ serials h + 1
    → (d : Way) (x : Association) → Has x (left d h) ⊎ Has x (inbound_put d (PutIn z)) → was_ordered RemovingIn x.serial h ≡ true
    → (not (x.serial == z.serial) && is_ended x h) ≡ true
gone-put p h l k z e d x (inl i) w =
    let b = low p h l d x i in
    let r : (x.serial == z.serial) ≡ false = grind arith in
    rw (r, k.gone d x i w) refl
gone-put p h l k z e d x (inr i) w =
    let q = put-one d x (PutIn z) i in
    let s : z ≡ x = cc in
    let t : serials h < x.serial = rw (← s) (omega arith) in
    let n = k.new x.serial t in
    cc

pub not-either : (a b : Bool) → a ≡ false → b ≡ false → (a || b) ≡ false
not-either a b e f = rw (e, f) refl

marked-order : (p : ℕ) (h : List ControllerAct) (g s i : ℕ) (o : ControllerOrder) → IsControllerPast p h → MayOrder h g o → Marked h
    → Marked (Ordered g s i o ∷ h)
marked-order p h g s i Read l m k = record { new = k.new; gone = λ d x j w. k.gone d x (old-left h d x j) w }
marked-order p h g s i (Policy q) l m k = record { new = k.new; gone = λ d x j w. k.gone d x (old-left h d x j) w }
marked-order p h g s i (PutIn z) l m k =
    record {
      new = λ n w. k.new n (omega arith);
      gone = λ d x j w. gone-put p h l k z m.serial d x (has-more x (left d h) (inbound_put d (PutIn z)) j) w;
    }
marked-order p h g s i (PutOut z) l m k = record { new = k.new; gone = λ d x j w. k.gone d x (old-left h d x j) w }
marked-order p h g s i (RemoveIn q) l m k =
    let b = low p h l m.way m.association m.left in
    let e = m.name in
    record {
      new = λ n w. not-either (n == q) (was_ordered RemovingIn n h) (grind arith) (k.new n w);
      gone = λ d x j w. gone-remove p h l k g q m d x (old-left h d x j) (x.serial == q) refl w;
    }
marked-order p h g s i (RemoveOut q) l m k = record { new = k.new; gone = λ d x j w. k.gone d x (old-left h d x j) w }

marked : (p : ℕ) (h : List ControllerAct) → IsControllerPast p h → Marked h
marked p [] l = record { new = λ n w. refl; gone = λ d x i. absurd i }
marked p (Opened g s ∷ h) l = let k = marked p h l.1 in record { new = k.new; gone = k.gone }
marked p (Cut g s ∷ h) l = let k = marked p h l.1 in record { new = k.new; gone = λ d x i w. or-right _ _ (k.gone d x i w) }
marked p (Answered g s n a ∷ h) l =
    let k = marked p h l.1 in
    record {
      new = k.new;
      gone =
          λ d x i w. or-right _ _ (k.gone d x (has-filter (λ y. not (is_answer_to RemovingIn y.serial (oldest (queue g h)))) x (left d h) i)
          w);
    }
marked p (Heard g s t ∷ h) l = let k = marked p h l.1 in record { new = k.new; gone = k.gone }
marked p (Ordered g s n o ∷ h) l = marked-order p h g s n o l.1 l.0.3 (marked p h l.1)
marked p (Accepted c ∷ h) l = let k = marked p h l.1 in
    record { new = k.new; gone = λ d x i w. or-right _ _ (k.gone d x (has-if x _ (left d h) i).1 w) }
marked p (Refused w ∷ h) l = let k = marked p h l.1 in record { new = k.new; gone = k.gone }

-- ## where an outbound put waits

pub record Home (h : List ControllerAct) (g : ℕ) (y : Association) : Type 0 where
  pub way : Way
  pub of : Has way (directions h)
  pub own : (way.id == y.way.id) ≡ true
  pub at : g ≡ way.sender
  pub low : y.serial ≤ serials h
  pub alone : (d : Way) (x : Association) → Has x (left d h) → x.serial ≡ y.serial → x ≡ y

abbrev Homes : List ControllerAct → Type 0
Homes h = (g : ℕ) (y : Association) → Has (PutOut y) (queue g h) → Home h g y

pub has-queue : (b : Bool) (q : List ControllerOrder) (o z : ControllerOrder) → Has z (if b then q ++ o ∷ [] else q) → Has z q
    ⊎ ((z ≡ o) × (b ≡ true))
has-queue true q o z i = elim (has-more z q (o ∷ []) i) as (λ w. Has z q ⊎ ((z ≡ o) × (true ≡ true)))
    [ inl j ↦ inl j | inr j ↦ inr (last z o j, refl) ]
  where
    last : (z o : ControllerOrder) → Has z (o ∷ []) → z ≡ o
    last z o (inl e) = e
    last z o (inr e) = absurd e
has-queue false q o z i = inl i

pub has-rest : (b : Bool) (q : List ControllerOrder) (z : ControllerOrder) → Has z (if b then rest q else q) → Has z q
has-rest true [] z i = i
has-rest true (o ∷ os) z i = inr i
has-rest false q z i = i

pub has-none : (b : Bool) (q : List ControllerOrder) (z : ControllerOrder) → Has z (if b then [] else q) → Has z q
has-none true q z i = absurd i
has-none false q z i = i

grown : (b : Bool) (n : ℕ) → n ≤ (if b then n + 1 else n)
grown true n = omega arith
grown false n = omega arith

pub home-order : (p : ℕ) (h : List ControllerAct) (f s i : ℕ) (o : ControllerOrder) → IsControllerPast p h → MayOrder h f o
    → (g : ℕ) (y : Association) → Home h g y → Home (Ordered f s i o ∷ h) g y
home-order p h f s i o l m g y k =
    let b = k.low in
    let r = grown (is_inbound_put o) (serials h) in
    record {
      way = k.way;
      of = k.of;
      own = k.own;
      at = k.at;
      low = omega arith;
      alone = λ d x j e. alone d x (has-more x (left d h) (inbound_put d o) j) e;
    }
  where
    alone : (d : Way) (x : Association) → Has x (left d h) ⊎ Has x (inbound_put d o) → x.serial ≡ y.serial → x ≡ y
    alone d x (inl j) e = k.alone d x j e
    alone d x (inr j) e =
        let m' : MayOrderInPut h f x = subst (MayOrder h f) (put-one d x o j).0 m in
        let q = m'.serial in
        let b = k.low in
        absurd (omega arith)

pub new-home : (p : ℕ) (h : List ControllerAct) (f s i : ℕ) (g : ℕ) (y : Association) → IsControllerPast p h → MayOrderOutPut h f y → g ≡ f
    → Home (Ordered f s i (PutOut y) ∷ h) g y
new-home p h f s i g y l m e =
    record {
      way = m.way;
      of = m.of;
      own = of-way h m.way y m.left;
      at = e ∙ m.at;
      low = low p h l m.way y m.left;
      alone = λ d x j q. one p h l d m.way x y (old-left h d x j) m.left q;
    }

homes-order : (p : ℕ) (h : List ControllerAct) (f s i : ℕ) (o : ControllerOrder) → IsControllerPast p h → MayOrder h f o → Homes h
    → (g : ℕ) (y : Association) → Has (PutOut y) (queue g h) ⊎ ((PutOut y ≡ o) × ((g == f) ≡ true)) → Home (Ordered f s i o ∷ h) g y
homes-order p h f s i o l m k g y (inl j) = home-order p h f s i o l m g y (k g y j)
homes-order p h f s i o l m k g y (inr j) =
    let e : g ≡ f = let t = j.1 in grind arith in
    let m' : MayOrderOutPut h f y = subst (MayOrder h f) (sym j.0) m in
    subst (λ z. Home (Ordered f s i z ∷ h) g y) j.0 (new-home p h f s i g y l m' e)

homes : (p : ℕ) (h : List ControllerAct) → IsControllerPast p h → Homes h
homes p [] l g y i = absurd i
homes p (Opened f s ∷ h) l g y i = let k = homes p h l.1 g y (has-none (g == f) (queue g h) (PutOut y) i) in
    record { way = k.way; of = k.of; own = k.own; at = k.at; low = k.low; alone = k.alone }
homes p (Cut f s ∷ h) l g y i = let k = homes p h l.1 g y (has-none (g == f) (queue g h) (PutOut y) i) in
    record { way = k.way; of = k.of; own = k.own; at = k.at; low = k.low; alone = k.alone }
homes p (Answered f s n a ∷ h) l g y i =
    let k = homes p h l.1 g y (has-rest (g == f) (queue g h) (PutOut y) i) in
    record {
      way = k.way;
      of = k.of;
      own = k.own;
      at = k.at;
      low = k.low;
      alone =
          λ d x j e. k.alone d x (has-filter (λ z. not (is_answer_to RemovingIn z.serial (oldest (queue f h)))) x (left d h) j) e;
    }
homes p (Heard f s t ∷ h) l g y i = let k = homes p h l.1 g y i in
    record { way = k.way; of = k.of; own = k.own; at = k.at; low = k.low; alone = k.alone }
homes p (Ordered f s n o ∷ h) l g y i = homes-order p h f s n o l.1 l.0.3 (homes p h l.1) g y
    (has-queue (g == f) (queue g h) o (PutOut y) i)
homes p (Accepted c ∷ h) l g y i =
    let k = homes p h l.1 g y i in
    record {
      way = k.way;
      of = has-left k.way (directions h) _ k.of;
      own = k.own;
      at = k.at;
      low = k.low;
      alone =
          λ d x j e. k.alone d x (has-if x _ (left d h) j).1 e;
    }
homes p (Refused w ∷ h) l g y i = let k = homes p h l.1 g y i in
    record { way = k.way; of = k.of; own = k.own; at = k.at; low = k.low; alone = k.alone }

-- no outbound put of the association waits anywhere, where its direction is free
pub no-put-in : (q : List ControllerOrder) (n : ℕ) → ((y : Association) → Has (PutOut y) q → (n == y.serial) ≡ false)
    → list_any (is_kind PuttingOut n) q ≡ false
no-put-in [] n f = refl
no-put-in (o ∷ os) n f = not-either (is_kind PuttingOut n o) (list_any (is_kind PuttingOut n) os) (here o (λ y e. f y (inl e)))
    (no-put-in os n (λ y j. f y (inr j)))
  where
    here : (o : ControllerOrder) → ((y : Association) → PutOut y ≡ o → (n == y.serial) ≡ false) → is_kind PuttingOut n o ≡ false
    here Read g = refl
    here (Policy l) g = refl
    here (PutIn x) g = refl
    here (PutOut x) g = g x refl
    here (RemoveIn m) g = refl
    here (RemoveOut m) g = refl

pub is-not : (b : Bool) → (b ≡ true → ⊥) → b ≡ false
is-not true f = absurd (f refl)
is-not false f = refl

pub any-yes : {A : Type 0} (p : A → Bool) (xs : List A) (x : A) → Has x xs → p x ≡ true → list_any p xs ≡ false → ⊥
any-yes p [] x i e f = absurd i
any-yes p (y ∷ ys) x (inl q) e f = let w : p y ≡ true = ap p (sym q) ∙ e in let t = neither (p y) (list_any p ys) f in
    let u : true ≡ false = sym w ∙ t.0 in cc
any-yes p (y ∷ ys) x (inr i) e f = any-yes p ys x i e (neither (p y) (list_any p ys) f).1

no-put : (p : ℕ) (h : List ControllerAct) (f n : ℕ) → IsControllerPast p h → MayOrderOutRemove h f n → (g : ℕ)
    → list_any (is_kind PuttingOut n) (queue g h) ≡ false
no-put p h f n l m g = no-put-in (queue g h) n (λ y j. is-not (n == y.serial) (λ e.
    let k = homes p h l g y j in
    let s : m.association.serial ≡ y.serial = let q = m.name in grind arith in
    let t = k.alone m.way m.association m.left s in
    let a = of-way h m.way m.association m.left in
    let a' : (m.way.id == y.way.id) ≡ true = rw t at a in
    let b = k.own in
    let c : k.way ≡ m.way = one-way h k.way m.way k.of m.of (grind arith) in
    let v : g ≡ m.way.sender = k.at ∙ ap (λ (z : Way). z.sender) c in
    let w = neither (list_any (is_own m.way (left m.way h)) (queue m.way.sender h))
    (list_any (is_own m.way (left m.way h)) (queue m.way.receiver h)) m.free in
    any-yes (is_own m.way (left m.way h)) (queue m.way.sender h) (PutOut y) (subst (λ z. Has (PutOut y) (queue z h)) v j) a' w.0))

-- ## each order

second-of-3 : (a b c : Bool) → (a && b && c) ≡ true → b ≡ true
second-of-3 a b c e = grind arith

pub third-of-5 : (a b c d e : Bool) → (a && b && c && d && e) ≡ true → c ≡ true
third-of-5 a b c d e q = grind arith

pub not-ended : (a b c d e f : Bool) → ((not a && b) && c && d && e && f) ≡ true → a ≡ false
not-ended a b c d e f q = grind arith

spoiled : (x : Association) (g : ℕ) (o : Option ControllerOrder) (a : Answer) (done sent : Bool) → sent ≡ false
    → is_not_shown x g o a done ≡ true → is_spoiled x g o a done sent ≡ true
spoiled x g None a done sent e t = cc
spoiled x g (Some Read) a done sent e t = grind arith
spoiled x g (Some (Policy l)) a done sent e t = cc
spoiled x g (Some (PutIn y)) a done sent e t = cc
spoiled x g (Some (PutOut y)) a done sent e t = cc
spoiled x g (Some (RemoveIn n)) a done sent e t = cc
spoiled x g (Some (RemoveOut n)) a done sent e t = cc

missed-put : (r q m s e : Bool) → (m ≡ true → s ≡ false → e ≡ true) → (not r && m) ≡ true → (not r && (q || s)) ≡ false
    → (not r && e) ≡ true
missed-put true q m s e f t u = cc
missed-put false true m s e f t u = cc
missed-put false false m s e f t u = f t u

missed-or : (a b c d : Bool) → (a ≡ true → c ≡ true) → (b ≡ true → d ≡ true) → (a || b) ≡ true → (c || d) ≡ true
missed-or true b c d f g e = rw (f refl) refl
missed-or false b c d f g e = or-right c d (g e)

missed-ended : (x : Association) (h : List ControllerAct) → was_missed x h ≡ true → is_out_ordered x.serial h ≡ false → is_ended x h ≡ true
missed-ended x [] t e = cc
missed-ended x (Opened g s ∷ h) t e = missed-ended x h t e
missed-ended x (Cut g s ∷ h) t e = or-right _ _ (missed-ended x h t e)
missed-ended x (Answered g s n a ∷ h) t e =
    missed-or _ _ _ _ (spoiled x g (oldest (queue g h)) a (has_answer PuttingIn x.serial h) (is_out_ordered x.serial h) e)
    (λ u. missed-ended x h u e) t
missed-ended x (Heard g s n ∷ h) t e = missed-ended x h t e
missed-ended x (Ordered g s n o ∷ h) t e = missed-put (is_kind PuttingIn x.serial o) (is_kind PuttingOut x.serial o) (was_missed x h)
    (is_out_ordered x.serial h) (is_ended x h) (missed-ended x h) t e
missed-ended x (Accepted c ∷ h) t e = or-right _ _ (missed-ended x h t e)
missed-ended x (Refused w ∷ h) t e = missed-ended x h t e

pub before : (p : ℕ) (h : List ControllerAct) (g : ℕ) (o : ControllerOrder) → IsControllerPast p h → MayOrder h g o → Before h o
before p h g Read l m = tt
before p h g (Policy q) l m = tt
before p h g (PutIn x) l m = let k = once p x.serial h l in let e = m.serial in none-given PuttingIn x.serial h (k.new_in (omega arith))
before p h g (PutOut x) l m =
    let k = once p x.serial h l in
    let w = marked p h l in
    let e = not-ended (is_ended x h) (not (has_answer PuttingOut x.serial h)) (not (is_out_ordered x.serial h))
    (has_answer PuttingIn x.serial h) (is_read m.way.sender h) (is_read m.way.receiver h) m.may in (
      third-of-5 (is_in_progress h x) (not (is_out_ordered x.serial h)) (has_answer PuttingIn x.serial h) (is_read m.way.sender h)
          (is_read m.way.receiver h) m.may,
      none-given PuttingOut x.serial h
          (k.sent_out (not-sent (is_in_progress h x) (is_out_ordered x.serial h) (has_answer PuttingIn x.serial h) (is_read m.way.sender h)
          (is_read m.way.receiver h) m.may)),
      is-not (was_ordered RemovingIn x.serial h) (λ t. let u = w.gone m.way x m.left t in cc),
      is-not (was_missed x h) (λ t. let u =
          missed-ended x h t (not-sent (is_in_progress h x) (is_out_ordered x.serial h) (has_answer PuttingIn x.serial h)
          (is_read m.way.sender h) (is_read m.way.receiver h) m.may) in cc),
    )
before p h g (RemoveOut n) l m = (
  rw m.name (sent-given m.association.serial h (second-of-4 (is_ended m.association h) (is_out_ordered m.association.serial h)
      (not (has_answer RemovingOut m.association.serial h)) (is_read m.way.sender h) m.may)),
  no-put p h g n l m,
)
before p h g (RemoveIn n) l m =
    let k = once p m.association.serial h l in
    elim (split-or (is_out_ordered m.association.serial h) (has_answer RemovingOut m.association.serial h)
    (second-of-3 (is_ended m.association h) (not (is_out_ordered m.association.serial h)
    || has_answer RemovingOut m.association.serial h) (is_read m.way.receiver h) m.may)) as (λ q. (was_ordered PuttingOut n h ≡ false)
    ⊎ (has_answer RemovingOut n h ≡ true)) [
      | inl e ↦ inl (rw m.name (none-given PuttingOut m.association.serial h (k.sent_out e)))
      | inr e ↦ inr (rw m.name e)
    ]

pub all-before : (p : ℕ) (h : List ControllerAct) → IsControllerPast p h → AllBefore h
all-before p [] l = tt
all-before p (Opened g s ∷ h) l = all-before p h l.1
all-before p (Cut g s ∷ h) l = all-before p h l.1
all-before p (Answered g s n a ∷ h) l = all-before p h l.1
all-before p (Heard g s t ∷ h) l = all-before p h l.1
all-before p (Ordered g s n o ∷ h) l = (before p h g o l.1 l.0.3, all-before p h l.1)
all-before p (Accepted c ∷ h) l = all-before p h l.1
all-before p (Refused w ∷ h) l = all-before p h l.1
