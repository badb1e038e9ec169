-- The puts of a direction are two per cause of it at most.
use Rattle.std.proofs.Common.{◌≡◌, ℕ, ◌+◌, ◌≤◌, Bool, true, false, ◌==◌, not, ◌&&◌, ◌||◌, List, [], ◌∷◌, ◌++◌, ◌⊎◌, inl, inr, length, refl, sym, subst, ◌∙◌, ap, arith, if◌then◌else◌, append-nil}
use Rattle.std.proofs.lemmas.Grind.{common_steps}
use Rattle.std.specs.List.{list_any}
use Rattle.hist_controller.specs.Acts.{Way, Association, ControllerOrder, Read, Policy, PutIn, PutOut, RemoveIn, RemoveOut, PlacedCommand, SetPolicy, Tunnel, End, Rekey, Keys, ControllerAct, Opened, Cut, Answered, Heard, Ordered, Accepted, Refused}
use Rattle.hist_controller.specs.Past.{oldest, queue, is_read, serials, directions, new_ways, is_made_by, is_over, is_owed, is_end_of, is_start, is_renewal, PuttingIn, is_out_ordered, has_answer, is_in_progress, inbound_put, left, RemovingIn, is_answer_to, is_inbound_put_of, is_cause, is_wanted}
use Rattle.hist_controller.specs.Clauses.{Has, MayOrder, IsControllerPast}
use Rattle.hist_controller.specs.Counts.{in_puts, out_puts, cause_count}
use Rattle.hist_controller.proofs.Lists.{has-left, length-both}
use Rattle.hist_controller.proofs.Serials.{has-more, has-filter, has-if, put-one, of-way, low, one-way, upto}
use Rattle.hist_controller.proofs.KeptState.{rising, eq-own}
use Rattle.hist_controller.proofs.Often.{not-sent}

abbrev one-of : Bool → ℕ
one-of b = if b then 1 else 0

abbrev Only : Way → List ControllerAct → Type 0
Only d h = (e : Way) → Has e (directions h) → (d.id == e.id) ≡ true → e ≡ d

few-or : (c w o : Bool) (n m : ℕ) → n + one-of (w && not o) ≤ m → n + one-of ((c || w) && not o) ≤ (if c && not o then m + 1 else m)
few-or true true true n m e = e
few-or true true false n m e = grind arith
few-or true false o n m e = plus o
  where
    plus : (o : Bool) → n + one-of (not o) ≤ (if not o then m + 1 else m)
    plus true = e
    plus false = grind arith
few-or false w o n m e = e

few-told : (b s r w z o : Bool) (n m : ℕ) → (b ≡ true → n ≡ 0) → n + one-of (w && not o) ≤ m
    → n + one-of ((if b then s else (r || w)) && not (not b && (z || o))) ≤ (if b then (if s then 1 else 0) else if r
    && not o then m + 1 else m)
few-told true true r w z o n m f e = let q : n ≡ 0 = f refl in omega arith
few-told true false r w z o n m f e = let q : n ≡ 0 = f refl in omega arith
few-told false s r w true o n m f e = let a = few-or r w o n m e in never (r || w) (r && not o) (w && not o) n m e
  where
    never : (x y v : Bool) (n m : ℕ) → n + one-of v ≤ m → n + one-of (x && false) ≤ (if y then m + 1 else m)
    never true true v n m e = omega arith
    never true false v n m e = omega arith
    never false true v n m e = omega arith
    never false false v n m e = omega arith
few-told false s r w false o n m f e = few-or r w o n m e

-- before its own command a direction has no put
no-put-yet : (h : List ControllerAct) (g : ℕ) (d : Way) (o : ControllerOrder) → MayOrder h g o → length (directions h) ≤ d.id
    → in_puts d h ≡ 0 → (if is_inbound_put_of d o then in_puts d h + 1 else in_puts d h) ≡ 0
no-put-yet h g d Read m e q = q
no-put-yet h g d (Policy l) m e q = q
no-put-yet h g d (PutIn x) m e q =
    let u = upto 0 (directions h) x.way (rising h) m.of in
    let n : (d.id == x.way.id) ≡ false = grind arith in
    rw n q
no-put-yet h g d (PutOut x) m e q = q
no-put-yet h g d (RemoveIn n) m e q = q
no-put-yet h g d (RemoveOut n) m e q = q

no-puts : (p : ℕ) (h : List ControllerAct) (d : Way) → IsControllerPast p h → length (directions h) ≤ d.id → in_puts d h ≡ 0
no-puts p [] d l e = refl
no-puts p (Opened g s ∷ h) d l e = no-puts p h d l.1 e
no-puts p (Cut g s ∷ h) d l e = no-puts p h d l.1 e
no-puts p (Answered g s n a ∷ h) d l e = no-puts p h d l.1 e
no-puts p (Heard g s t ∷ h) d l e = no-puts p h d l.1 e
no-puts p (Ordered g s n o ∷ h) d l e = no-put-yet h g d o l.0.3 e (no-puts p h d l.1 e)
no-puts p (Accepted c ∷ h) d l e = let q = length-both (directions h) (new_ways (length (directions h)) c) in
    no-puts p h d l.1 (omega arith)
no-puts p (Refused w ∷ h) d l e = no-puts p h d l.1 e

made-above : (c : PlacedCommand) (n : ℕ) (d : Way) → is_made_by c n d ≡ true → n ≤ d.id
made-above (SetPolicy g l) n d e = cc
made-above (Tunnel t) n d e = grind (arith, common_steps)
made-above (End r) n d e = cc
made-above (Rekey r) n d e = cc
made-above (Keys k) n d e = cc

few-put : (b w o : Bool) (n m : ℕ) → (b ≡ true → (w && not o) ≡ true) → n + one-of (w && not o) ≤ m
    → (if b then n + 1 else n) + one-of ((not b && w) && not o) ≤ m
few-put true w o n m f e = let t : (w && not o) ≡ true = f refl in let e' : n + one-of true ≤ m = subst (λ z. n + one-of z ≤ m) t e in
    omega arith
few-put false w o n m f e = e

is-owed : (w a b : Bool) → (w && a && b) ≡ true → w ≡ true
is-owed w a b e = grind arith

few-order : (d : Way) (h : List ControllerAct) (g s i : ℕ) (o : ControllerOrder) → Only d h → MayOrder h g o
    → in_puts d h + one-of (is_owed d h) ≤ cause_count d h → in_puts d (Ordered g s i o ∷ h) + one-of (is_owed d (Ordered g s i o ∷ h)) ≤
    cause_count d h
few-order d h g s i Read u m e = e
few-order d h g s i (Policy l) u m e = e
few-order d h g s i (PutIn x) u m e =
    few-put (d.id == x.way.id) (is_wanted d h) (is_over d h) (in_puts d h) (cause_count d h)
    (λ q. ap (λ z. is_owed z h) (sym (u x.way m.of q)) ∙ is-owed (is_owed x.way h) (is_read x.way.sender h) (is_read x.way.receiver h)
    m.may)
    e
few-order d h g s i (PutOut x) u m e = e
few-order d h g s i (RemoveIn n) u m e = e
few-order d h g s i (RemoveOut n) u m e = e

few : (p : ℕ) (d : Way) (h : List ControllerAct) → IsControllerPast p h → Only d h → in_puts d h + one-of (is_owed d h) ≤ cause_count d h
few p d [] l u = omega arith
few p d (Opened g s ∷ h) l u = few p d h l.1 u
few p d (Cut g s ∷ h) l u = few-or (is_cause d (Cut g s) h) (is_wanted d h) (is_over d h) (in_puts d h) (cause_count d h) (few p d h l.1 u)
few p d (Answered g s n a ∷ h) l u = few-or (is_cause d (Answered g s n a) h) (is_wanted d h) (is_over d h) (in_puts d h) (cause_count d h)
    (few p d h l.1 u)
few p d (Heard g s t ∷ h) l u = few-or (is_cause d (Heard g s t) h) (is_wanted d h) (is_over d h) (in_puts d h) (cause_count d h)
    (few p d h l.1 u)
few p d (Ordered g s i o ∷ h) l u = few-order d h g s i o u l.0.3 (few p d h l.1 u)
few p d (Accepted c ∷ h) l u = few-told (is_made_by c (length (directions h)) d) (is_start c) (is_renewal d c) (is_wanted d h)
    (is_end_of d.tunnel.reqid c) (is_over d h) (in_puts d h) (cause_count d h)
    (λ b. no-puts p h d l.1 (made-above c (length (directions h)) d b))
    (few p d h l.1 (λ e i. u e (has-left e (directions h) (new_ways (length (directions h)) c) i)))
few p d (Refused w ∷ h) l u = few p d h l.1 u

-- ## an outbound put has its own inbound one

abbrev without_one : ℕ → List ℕ → List ℕ
without_one n [] = []
without_one n (x ∷ xs) = if n == x then xs else x ∷ without_one n xs

abbrev single_after : Way → ControllerOrder → List ℕ → List ℕ
single_after d (PutIn x) ns = if d.id == x.way.id then x.serial ∷ ns else ns
single_after d (PutOut x) ns = if d.id == x.way.id then without_one x.serial ns else ns
single_after d (_) ns = ns

-- the serials of the direction that were put inbound and not yet outbound
abbrev single : Way → List ControllerAct → List ℕ
single d [] = []
single d (Ordered g s n o ∷ h) = single_after d o (single d h)
single d (_ ∷ h) = single d h

abbrev member : ℕ → List ℕ → Bool
member n xs = list_any (λ x. n == x) xs

less-one : (n : ℕ) (xs : List ℕ) → member n xs ≡ true → length (without_one n xs) + 1 ≡ length xs
less-one n [] e = cc
less-one n (x ∷ xs) e = let ih = less-one n xs in grind (arith, ih)

still : (n m : ℕ) (xs : List ℕ) → (n == m) ≡ false → member n xs ≡ true → member n (without_one m xs) ≡ true
still n m [] e i = i
still n m (x ∷ xs) e i = let ih = still n m xs e in grind (arith, ih)

record Paired (d : Way) (h : List ControllerAct) : Type 0 where
  pub count : out_puts d h + length (single d h) ≡ in_puts d h
  pub here : (x : Association) → Has x (left d h) → is_out_ordered x.serial h ≡ false → member x.serial (single d h) ≡ true

member-if : (b : Bool) (n m : ℕ) (xs : List ℕ) → member n xs ≡ true → member n (if b then m ∷ xs else xs) ≡ true
member-if true n m xs e = grind arith
member-if false n m xs e = e

count-in : (b : Bool) (n : ℕ) (a : ℕ) (c : ℕ) (xs : List ℕ) → a + length xs ≡ c
    → a + length (if b then n ∷ xs else xs) ≡ (if b then c + 1 else c)
count-in true n a c xs e = grind arith
count-in false n a c xs e = e

count-out : (b : Bool) (n : ℕ) (a : ℕ) (c : ℕ) (xs : List ℕ) → (b ≡ true → member n xs ≡ true) → a + length xs ≡ c
    → (if b then a + 1 else a) + length (if b then without_one n xs else xs) ≡ c
count-out true n a c xs f e = let q = less-one n xs (f refl) in omega arith
count-out false n a c xs f e = e

unsent : (a b : Bool) → (not false && (a || b)) ≡ false → (a ≡ false) × (b ≡ false)
unsent true b e = cc
unsent false b e = (refl, e)

unsent-put : (a b : Bool) → a ≡ false → (not a && (false || b)) ≡ false → b ≡ false
unsent-put true b q e = cc
unsent-put false b q e = e

still-if : (b : Bool) (n m : ℕ) (xs : List ℕ) → (n == m) ≡ false → member n xs ≡ true → member n (if b then without_one m xs else xs) ≡ true
still-if true n m xs e i = still n m xs e i
still-if false n m xs e i = i

here-in : (p : ℕ) (d : Way) (h : List ControllerAct) (z x : Association) → IsControllerPast p h → z.serial ≡ serials h + 1 → Paired d h
    → Has x (left d h) ⊎ Has x (inbound_put d (PutIn z)) → (not (x.serial == z.serial) && (false || is_out_ordered x.serial h)) ≡ false
    → member x.serial (if d.id == z.way.id then z.serial ∷ single d h else single d h) ≡ true
here-in p d h z x l m k (inl i) e =
    let b = low p h l d x i in
    let q : (x.serial == z.serial) ≡ false = grind arith in
    member-if (d.id == z.way.id) x.serial z.serial (single d h)
    (k.here x i (unsent-put (x.serial == z.serial) (is_out_ordered x.serial h) q e))
here-in p d h z x l m k (inr i) e =
    let q = put-one d x (PutIn z) i in
    let s : z ≡ x = cc in
    let t : (d.id == z.way.id) ≡ true = rw s q.1 in
    let v : (x.serial == z.serial) ≡ true = rw s (eq-own x.serial) in
    rw t (rw v refl)

here-out : (d : Way) (h : List ControllerAct) (z x : Association) → Paired d h → Has x (left d h ++ [])
    → (not false && ((x.serial == z.serial) || is_out_ordered x.serial h)) ≡ false
    → member x.serial (if d.id == z.way.id then without_one z.serial (single d h) else single d h) ≡ true
here-out d h z x k i e =
    let j : Has x (left d h) = subst (Has x) (append-nil (left d h)) i in
    let u = unsent (x.serial == z.serial) (is_out_ordered x.serial h) e in
    still-if (d.id == z.way.id) x.serial z.serial (single d h) u.0 (k.here x j u.1)

here-same : (d : Way) (h : List ControllerAct) (x : Association) → Paired d h → Has x (left d h ++ [])
    → (not false && (false || is_out_ordered x.serial h)) ≡ false → member x.serial (single d h) ≡ true
here-same d h x k i e = k.here x (subst (Has x) (append-nil (left d h)) i) e

paired-order : (p : ℕ) (d : Way) (h : List ControllerAct) (g s i : ℕ) (o : ControllerOrder) → IsControllerPast p h → Only d h
    → MayOrder h g o → Paired d h → Paired d (Ordered g s i o ∷ h)
paired-order p d h g s i Read l u m k = record { count = k.count; here = λ x. here-same d h x k }
paired-order p d h g s i (Policy q) l u m k = record { count = k.count; here = λ x. here-same d h x k }
paired-order p d h g s i (PutIn z) l u m k =
    record {
      count = count-in (d.id == z.way.id) z.serial (out_puts d h) (in_puts d h) (single d h) k.count;
      here = λ x j e. here-in p d h z x l m.serial k (has-more x (left d h) (inbound_put d (PutIn z)) j) e;
    }
paired-order p d h g s i (PutOut z) l u m k =
    record {
      count = count-out (d.id == z.way.id) z.serial (out_puts d h) (in_puts d h) (single d h) (λ q.
          let w = of-way h m.way z m.left in
          let t : (d.id == m.way.id) ≡ true = grind arith in
          let r = u m.way m.of t in
          k.here z (subst (λ c. Has z (left c h)) r m.left) (not-sent (is_in_progress h z) (is_out_ordered z.serial h)
          (has_answer PuttingIn z.serial h) (is_read m.way.sender h) (is_read m.way.receiver h) m.may)) k.count;
      here = λ x j e. here-out d h z x k j e;
    }
paired-order p d h g s i (RemoveIn n) l u m k = record { count = k.count; here = λ x. here-same d h x k }
paired-order p d h g s i (RemoveOut n) l u m k = record { count = k.count; here = λ x. here-same d h x k }

paired : (p : ℕ) (d : Way) (h : List ControllerAct) → IsControllerPast p h → Only d h → Paired d h
paired p d [] l u = record { count = refl; here = λ x i. absurd i }
paired p d (Opened g s ∷ h) l u = let k = paired p d h l.1 u in record { count = k.count; here = k.here }
paired p d (Cut g s ∷ h) l u = let k = paired p d h l.1 u in record { count = k.count; here = k.here }
paired p d (Answered g s n a ∷ h) l u = let k = paired p d h l.1 u in
    record {
      count = k.count;
      here =
          λ x i. k.here x (has-filter (λ y. not (is_answer_to RemovingIn y.serial (oldest (queue g h)))) x (left d h) i);
    }
paired p d (Heard g s t ∷ h) l u = let k = paired p d h l.1 u in record { count = k.count; here = k.here }
paired p d (Ordered g s i o ∷ h) l u = paired-order p d h g s i o l.1 u l.0.3 (paired p d h l.1 u)
paired p d (Accepted c ∷ h) l u =
    let k = paired p d h l.1 (λ e i. u e (has-left e (directions h) (new_ways (length (directions h)) c) i)) in
    record { count = k.count; here = λ x i. k.here x (has-if x _ (left d h) i).1 }
paired p d (Refused w ∷ h) l u = let k = paired p d h l.1 u in record { count = k.count; here = k.here }

only : (d : Way) (h : List ControllerAct) → Has d (directions h) → Only d h
only d h i e j q = one-way h e d j i (grind arith)

-- the puts of a direction: its inbound ones are no more than its causes, and its outbound ones no more than these
pub caused : (p : ℕ) (h : List ControllerAct) → IsControllerPast p h → (d : Way) → Has d (directions h) → (in_puts d h ≤ cause_count d h)
    × (out_puts d h ≤ in_puts d h)
caused p h l d i =
    let f = few p d h l (only d h i) in
    let c = (paired p d h l (only d h i)).count in
    (at-most _ _ _ f, part _ _ _ c)
  where
    at-most : (a b c : ℕ) → a + b ≤ c → a ≤ c
    at-most a b c e = omega arith

    part : (a b c : ℕ) → a + b ≡ c → a ≤ c
    part a b c e = omega arith
