-- A direction has two associations left at most, and a gateway 4,096 halves.
use Rattle.std.proofs.Common.{◌≡◌, ℕ, ◌+◌, ◌*◌, ◌<◌, ◌≤◌, Bool, true, false, ◌==◌, not, ◌&&◌, ◌||◌, nat_le, nat_lt, List, [], ◌∷◌, ◌++◌, ◌⊎◌, inl, inr, length, refl, sym, subst, ◌∙◌, ap, arith, if◌then◌else◌, append-nil}
use Rattle.std.proofs.lemmas.Grind.{common_steps}
use Rattle.std.specs.List.{filter, list_any}
use Rattle.hist_controller.specs.Acts.{Way, Association, ControllerOrder, Read, Policy, PutIn, PutOut, RemoveIn, RemoveOut, PlacedCommand, SetPolicy, Tunnel, End, Rekey, Keys, ControllerAct, Opened, Cut, Answered, Heard, Ordered, Accepted, Refused}
use Rattle.hist_controller.specs.Past.{oldest, queue, is_read, directions, new_ways, both_ways, is_made_by, is_end_of, is_over, is_owed, is_wanted, PuttingIn, PuttingOut, RemovingIn, RemovingOut, is_answer_to, is_out_ordered, has_answer, is_ended, inbound_put, left, is_own, is_busy}
use Rattle.hist_controller.specs.Law.{has_tunnel, is_none, is_counted, tunnels}
use Rattle.hist_controller.specs.Clauses.{Has, MayOrder, IsControllerPast, MayOrderInPut}
use Rattle.hist_controller.specs.Halves.{PlainAnswers, is_at_gateway, half_count}
use Rattle.hist_controller.specs.Left.{Ascend}
use Rattle.hist_controller.proofs.Lists.{length-more}
use Rattle.hist_controller.proofs.KeptState.{rising, made-no}
use Rattle.hist_controller.proofs.Serials.{has-more, has-filter, put-one, put-serial, of-way, low, one-way, upto}
use Rattle.hist_controller.proofs.Befores.{any-yes}
use Rattle.hist_controller.proofs.Removed.{neither}
use Rattle.hist_controller.proofs.Accepts.{tunnel-passes}
use Rattle.hist_controller.proofs.Homes.{own-way}
use Rattle.hist_controller.proofs.Waits.{Awaited, awaited, Waits, waits}

-- ## serials ascend

ascend-keep : (q : Association → Bool) (x : Association) (xs : List Association) (b : Bool)
    → ((y : Association) → Has y xs → x.serial < y.serial) → Ascend (filter q xs) → Ascend (if b then x ∷ filter q xs else filter q xs)
ascend-keep q x xs true f c = (λ y i. f y (has-filter q y xs i), c)
ascend-keep q x xs false f c = c

ascend-filter : (q : Association → Bool) (xs : List Association) → Ascend xs → Ascend (filter q xs)
ascend-filter q [] c = c
ascend-filter q (x ∷ xs) c = ascend-keep q x xs (q x) c.0 (ascend-filter q xs c.1)

ascend-more : (xs ys : List Association) → Ascend xs → Ascend ys → ((x y : Association) → Has x xs → Has y ys → x.serial < y.serial)
    → Ascend (xs ++ ys)
ascend-more [] ys c d f = d
ascend-more (x ∷ xs) ys c d f = (λ y i. both y (has-more y xs ys i), ascend-more xs ys c.1 d (λ z y i j. f z y (inr i) j))
  where
    both : (y : Association) → Has y xs ⊎ Has y ys → x.serial < y.serial
    both y (inl i) = c.0 y i
    both y (inr j) = f x y (inl refl) j

ascend-if : (b : Bool) (xs : List Association) → Ascend xs → Ascend (if b then [] else xs)
ascend-if true xs c = tt
ascend-if false xs c = c

ascend-one : (b : Bool) (x : Association) → Ascend (if b then x ∷ [] else [])
ascend-one true x = (λ y i. absurd i, tt)
ascend-one false x = tt

ascend-put : (d : Way) (o : ControllerOrder) → Ascend (inbound_put d o)
ascend-put d Read = tt
ascend-put d (Policy l) = tt
ascend-put d (PutIn x) = ascend-one (d.id == x.way.id) x
ascend-put d (PutOut x) = tt
ascend-put d (RemoveIn n) = tt
ascend-put d (RemoveOut n) = tt

pub ascend : (p : ℕ) (h : List ControllerAct) → IsControllerPast p h → (d : Way) → Ascend (left d h)
ascend p [] l d = tt
ascend p (Opened g s ∷ h) l d = ascend p h l.1 d
ascend p (Cut g s ∷ h) l d = ascend p h l.1 d
ascend p (Answered g s n a ∷ h) l d = ascend-filter (λ x. not (is_answer_to RemovingIn x.serial (oldest (queue g h)))) (left d h)
    (ascend p h l.1 d)
ascend p (Heard g s t ∷ h) l d = ascend p h l.1 d
ascend p (Ordered g s n o ∷ h) l d = ascend-more (left d h) (inbound_put d o) (ascend p h l.1 d) (ascend-put d o) (λ x y i j.
    let a = low p h l.1 d x i in
    let b = put-serial h g o y l.0.3 (put-one d y o j).0 in
    omega arith)
ascend p (Accepted c ∷ h) l d = ascend-if (is_made_by c (length (directions h)) d) (left d h) (ascend p h l.1 d)
ascend p (Refused w ∷ h) l d = ascend p h l.1 d

-- ## one at most where a new one is put

ready-both : (a b c : Bool) → (a && b && c) ≡ true → (b ≡ true) × (c ≡ true)
ready-both true true true e = (refl, refl)
ready-both true true false e = cc
ready-both true false c e = cc
ready-both false b c e = cc

-- an ended one would be removed first
not-over : (e t r b c : Bool) → b ≡ true → c ≡ true → (e && t && not r && b) ≡ false → (e && (not t || r) && c) ≡ false → e ≡ false
not-over false t r b c p q u v = refl
not-over true true true b c p q u v = absurd (let w : true ≡ false = sym q ∙ v in cc)
not-over true true false b c p q u v = absurd (let w : true ≡ false = sym p ∙ u in cc)
not-over true false r b c p q u v = absurd (let w : true ≡ false = sym q ∙ v in cc)

-- and one whose inbound put was answered would be put outbound first
goes-on : (e o t i b c : Bool) → e ≡ false → b ≡ true → c ≡ true → o ≡ false → ((not e && not o) && not t && i && b && c) ≡ false
    → (t ≡ true) ⊎ (i ≡ false)
goes-on e o true i b c p q r s u = inl refl
goes-on e o false false b c p q r s u = inr refl
goes-on e o false true b c p q r s u = absurd (let w : ((not false && not false) && not false && true && true && true) ≡ false =
    rw (p, q, r, s) at u in let v : true ≡ false = w in cc)

pub busy-there : (h : List ControllerAct) (d : Way) (x : Association) (g : ℕ) (o : ControllerOrder) → is_own d (left d h) o ≡ true
    → Has o (queue g h) → (g ≡ d.sender) ⊎ (g ≡ d.receiver) → is_busy d h ≡ false → ⊥
busy-there h d x g o y i (inl e) f = any-yes (is_own d (left d h)) (queue d.sender h) o (subst (λ z. Has o (queue z h)) e i) y
    (neither (list_any (is_own d (left d h)) (queue d.sender h)) (list_any (is_own d (left d h)) (queue d.receiver h)) f).0
busy-there h d x g o y i (inr e) f = any-yes (is_own d (left d h)) (queue d.receiver h) o (subst (λ z. Has o (queue z h)) e i) y
    (neither (list_any (is_own d (left d h)) (queue d.sender h)) (list_any (is_own d (left d h)) (queue d.receiver h)) f).1

-- where a new one is put, each that is left is not ended and was put whole
pub settled : (p : ℕ) (h : List ControllerAct) → IsControllerPast p h → (g : ℕ) (z : Association) → MayOrderInPut h g z → (x : Association)
    → Has x (left z.way h) → (is_ended x h ≡ false) × (has_answer PuttingOut x.serial h ≡ true)
settled p h l g z m x i =
    let r = ready-both (is_owed z.way h) (is_read z.way.sender h) (is_read z.way.receiver h) m.may in
    let e = not-over (is_ended x h) (is_out_ordered x.serial h) (has_answer RemovingOut x.serial h) (is_read z.way.sender h)
    (is_read z.way.receiver h) r.0 r.1 (m.no_out_remove x i) (m.no_in_remove x i) in
    (e, answered (has_answer PuttingOut x.serial h) refl r e)
  where
    k : Awaited h
    k = awaited p h l

    own : z.way ≡ x.way
    own = own-way p h l z.way x m.of i

    waits-in : is_ended x h ≡ false → has_answer PuttingIn x.serial h ≡ false → ⊥
    waits-in e v = busy-there h z.way x x.way.receiver (PutIn x) (of-way h z.way x i) (k.inbound z.way x i e v)
        (inr (ap (λ (d : Way). d.receiver) (sym own))) m.free

    waits-out : is_ended x h ≡ false → is_out_ordered x.serial h ≡ true → has_answer PuttingOut x.serial h ≡ false → ⊥
    waits-out e t v = busy-there h z.way x x.way.sender (PutOut x) (of-way h z.way x i) (k.outbound z.way x i e t v)
        (inl (ap (λ (d : Way). d.sender) (sym own))) m.free

    answered : (b : Bool) → has_answer PuttingOut x.serial h ≡ b → (is_read z.way.sender h ≡ true) × (is_read z.way.receiver h ≡ true)
        → is_ended x h ≡ false → b ≡ true
    answered true v r e = refl
    answered false v r e =
        absurd (elim (goes-on (is_ended x h) (has_answer PuttingOut x.serial h) (is_out_ordered x.serial h)
        (has_answer PuttingIn x.serial h) (is_read z.way.sender h) (is_read z.way.receiver h) e r.0 r.1 v (m.no_out_put x i)) as (λ q. ⊥) [
          | inl t ↦ waits-out e t v
          | inr t ↦ waits-in e t
        ])

single : (xs : List Association) → Ascend xs → ((x y : Association) → Has x xs → Has y xs → x.serial < y.serial → ⊥) → length xs ≤ 1
single [] c f = omega arith
single (x ∷ []) c f = omega arith
single (x ∷ y ∷ xs) c f = absurd (f x y (inl refl) (inr (inl refl)) (c.0 y (inl refl)))

pub one-left : (p : ℕ) (h : List ControllerAct) → IsControllerPast p h → Waits h → (g : ℕ) (z : Association) → MayOrderInPut h g z
    → length (left z.way h) ≤ 1
one-left p h l k g z m = single (left z.way h) (ascend p h l z.way) (λ x y i j e.
    let a = settled p h l g z m x i in
    let b = settled p h l g z m y j in
    let r = k.replaced z.way x y i j e b.1 b.0 in
    let u : true ≡ false = sym r ∙ a.0 in
    cc)

-- ## two at most

filter-length : (q : Association → Bool) (xs : List Association) → length (filter q xs) ≤ length xs
filter-length q [] = omega arith
filter-length q (x ∷ xs) = kept (q x) (filter-length q xs)
  where
    kept : (b : Bool) → length (filter q xs) ≤ length xs → length (if b then x ∷ filter q xs else filter q xs) ≤ length (x ∷ xs)
    kept true e = grind arith
    kept false e = grind arith

-- what is left hangs on the id alone
pub left-by-id : (h : List ControllerAct) (d e : Way) → d.id ≡ e.id → left d h ≡ left e h
left-by-id [] d e q = refl
left-by-id (Opened g s ∷ h) d e q = left-by-id h d e q
left-by-id (Cut g s ∷ h) d e q = left-by-id h d e q
left-by-id (Answered g s n a ∷ h) d e q = ap (filter (λ x. not (is_answer_to RemovingIn x.serial (oldest (queue g h)))))
    (left-by-id h d e q)
left-by-id (Heard g s t ∷ h) d e q = left-by-id h d e q
left-by-id (Ordered g s n o ∷ h) d e q = ap (λ t. t ++ inbound_put d o) (left-by-id h d e q) ∙ ap (λ t. left e h ++ t) (same-put o)
  where
    same-put : (o : ControllerOrder) → inbound_put d o ≡ inbound_put e o
    same-put Read = refl
    same-put (Policy l) = refl
    same-put (PutIn x) = ap (λ n. if n == x.way.id then x ∷ [] else []) q
    same-put (PutOut x) = refl
    same-put (RemoveIn n) = refl
    same-put (RemoveOut n) = refl
left-by-id (Accepted c ∷ h) d e q = ap (λ t. if is_made_by c (length (directions h)) d then [] else t) (left-by-id h d e q)
    ∙ ap (λ b. if b then [] else left e h) (same-made c)
  where
    same-made : (c : PlacedCommand) → is_made_by c (length (directions h)) d ≡ is_made_by c (length (directions h)) e
    same-made (SetPolicy g l) = refl
    same-made (Tunnel t) = ap (λ n. nat_le (length (directions h)) n) q
    same-made (End r) = refl
    same-made (Rekey r) = refl
    same-made (Keys k) = refl
left-by-id (Refused w ∷ h) d e q = left-by-id h d e q

none-if : (b : Bool) (xs : List Association) → length xs ≤ 2 → length (if b then [] else xs) ≤ 2
none-if true xs e = omega arith
none-if false xs e = e

few-ordered : (p : ℕ) (h : List ControllerAct) → IsControllerPast p h → Waits h → (g : ℕ) (o : ControllerOrder) → MayOrder h g o → (d : Way)
    → length (left d h) ≤ 2 → length (left d h ++ inbound_put d o) ≤ 2
few-ordered p h l k g Read m d e = rw (append-nil (left d h)) e
few-ordered p h l k g (Policy q) m d e = rw (append-nil (left d h)) e
few-ordered p h l k g (PutIn x) m d e = by-way (d.id == x.way.id) refl
  where
    by-way : (b : Bool) → (d.id == x.way.id) ≡ b → length (left d h ++ (if b then x ∷ [] else [])) ≤ 2
    by-way true t =
        let q : d.id ≡ x.way.id = grind arith in
        let a = one-left p h l k g x m in
        let b = ap length (left-by-id h d x.way q) in
        let c = length-more (left d h) x in
        omega arith
    by-way false t = rw (append-nil (left d h)) e
few-ordered p h l k g (PutOut x) m d e = rw (append-nil (left d h)) e
few-ordered p h l k g (RemoveIn n) m d e = rw (append-nil (left d h)) e
few-ordered p h l k g (RemoveOut n) m d e = rw (append-nil (left d h)) e

pub few-left : (p : ℕ) (h : List ControllerAct) → IsControllerPast p h → PlainAnswers h → (d : Way) → length (left d h) ≤ 2
few-left p [] l a d = omega arith
few-left p (Opened g s ∷ h) l a d = few-left p h l.1 a d
few-left p (Cut g s ∷ h) l a d = few-left p h l.1 a d
few-left p (Answered g s n z ∷ h) l a d =
    let e = few-left p h l.1 a.1 d in
    let f = filter-length (λ x. not (is_answer_to RemovingIn x.serial (oldest (queue g h)))) (left d h) in
    omega arith
few-left p (Heard g s t ∷ h) l a d = few-left p h l.1 a d
few-left p (Ordered g s n o ∷ h) l a d = few-ordered p h l.1 (waits p h l.1 a) g o l.0.3 d (few-left p h l.1 a d)
few-left p (Accepted c ∷ h) l a d = none-if (is_made_by c (length (directions h)) d) (left d h) (few-left p h l.1 a d)
few-left p (Refused w ∷ h) l a d = few-left p h l.1 a d

-- ## tunnels

abbrev pub Pairs : List Way → Type 0
Pairs [] = Unit {0}
Pairs (d ∷ []) = ⊥
Pairs (d ∷ e ∷ ds) = Pairs ds

pairs-more : (xs ys : List Way) → Pairs xs → Pairs ys → Pairs (xs ++ ys)
pairs-more [] ys a b = b
pairs-more (d ∷ []) ys a b = absurd a
pairs-more (d ∷ e ∷ ds) ys a b = pairs-more ds ys a b

pairs-born : (n : ℕ) (c : PlacedCommand) → Pairs (new_ways n c)
pairs-born n (SetPolicy g l) = tt
pairs-born n (Tunnel t) = tt
pairs-born n (End r) = tt
pairs-born n (Rekey r) = tt
pairs-born n (Keys k) = tt

pub pairs : (h : List ControllerAct) → Pairs (directions h)
pairs [] = tt
pairs (Opened g s ∷ h) = pairs h
pairs (Cut g s ∷ h) = pairs h
pairs (Answered g s n a ∷ h) = pairs h
pairs (Heard g s t ∷ h) = pairs h
pairs (Ordered g s n o ∷ h) = pairs h
pairs (Accepted c ∷ h) = pairs-more (directions h) (new_ways (length (directions h)) c) (pairs h) (pairs-born (length (directions h)) c)
pairs (Refused w ∷ h) = pairs h

less-step : (a b c d : Bool) (n m : ℕ) → n ≤ m → (a ≡ true → c ≡ true) → (b ≡ true → d ≡ true)
    → (if a || b then n + 1 else n) ≤ (if c || d then m + 1 else m)
less-step true b c d n m e f g = let q = f refl in rw q (omega arith)
less-step false true true d n m e f g = omega arith
less-step false true false d n m e f g = let q = g refl in rw q (omega arith)
less-step false false c d n m e f g = at-least (c || d)
  where
    at-least : (b : Bool) → n ≤ (if b then m + 1 else m)
    at-least true = omega arith
    at-least false = e

tunnels-less : (k h : List ControllerAct) (ds : List Way) → ((d : Way) → Has d ds → is_counted k d ≡ true → is_counted h d ≡ true)
    → tunnels k ds ≤ tunnels h ds
tunnels-less k h [] f = omega arith
tunnels-less k h (d ∷ []) f = omega arith
tunnels-less k h (d ∷ e ∷ ds) f = less-step (is_counted k d) (is_counted k e) (is_counted h d) (is_counted h e) (tunnels k ds)
    (tunnels h ds) (tunnels-less k h ds (λ c i. f c (inr (inr i)))) (f d (inl refl)) (f e (inr (inl refl)))

add-if : (b : Bool) (n m k : ℕ) → n ≡ m + k → (if b then n + 1 else n) ≡ (if b then m + 1 else m) + k
add-if true n m k e = omega arith
add-if false n m k e = e

tunnels-both : (h : List ControllerAct) (xs ys : List Way) → Pairs xs → tunnels h (xs ++ ys) ≡ tunnels h xs + tunnels h ys
tunnels-both h [] ys a = omega arith
tunnels-both h (d ∷ []) ys a = absurd a
tunnels-both h (d ∷ e ∷ ds) ys a = add-if (is_counted h d || is_counted h e) (tunnels h (ds ++ ys)) (tunnels h ds) (tunnels h ys)
    (tunnels-both h ds ys a)

one-more : (b : Bool) → (if b then 0 + 1 else 0) ≤ 1
one-more true = omega arith
one-more false = omega arith

none-filter : (q : Association → Bool) (xs : List Association) → not (is_none (filter q xs)) ≡ true → not (is_none xs) ≡ true
none-filter q [] e = e
none-filter q (x ∷ xs) e = refl

or-step : (a b c : Bool) → (b ≡ true → c ≡ true) → (a || b) ≡ true → (a || c) ≡ true
or-step true b c f e = refl
or-step false b c f e = f e

not-wanted : (a b : Bool) → (a && not b) ≡ true → not b ≡ true
not-wanted true b e = e
not-wanted false b e = cc

first-and : (a b c : Bool) → (a && b && c) ≡ true → a ≡ true
first-and true b c e = refl
first-and false b c e = cc

counts-put : (h : List ControllerAct) (g : ℕ) (x : Association) (d : Way) → Has d (directions h) → MayOrderInPut h g x → (b : Bool)
    → (d.id == x.way.id) ≡ b → (not (is_over d h) || not (is_none (left d h ++ (if b then x ∷ [] else [])))) ≡ true → is_counted h d ≡ true
counts-put h g x d i m true t e =
    let w : d ≡ x.way = one-way h d x.way i m.of (grind arith) in
    let q = not-wanted (is_wanted x.way h) (is_over x.way h) (first-and (is_owed x.way h) (is_read x.way.sender h)
    (is_read x.way.receiver h) m.may) in
    let r : not (is_over d h) ≡ true = ap (λ z. not (is_over z h)) w ∙ q in
    rw r refl
counts-put h g x d i m false t e = rw (append-nil (left d h)) at e

counts-order : (h : List ControllerAct) (g s n : ℕ) (o : ControllerOrder) (d : Way) → Has d (directions h) → MayOrder h g o
    → is_counted (Ordered g s n o ∷ h) d ≡ true → is_counted h d ≡ true
counts-order h g s n Read d i m e = rw (append-nil (left d h)) at e
counts-order h g s n (Policy l) d i m e = rw (append-nil (left d h)) at e
counts-order h g s n (PutIn x) d i m e = counts-put h g x d i m (d.id == x.way.id) refl e
counts-order h g s n (PutOut x) d i m e = rw (append-nil (left d h)) at e
counts-order h g s n (RemoveIn k) d i m e = rw (append-nil (left d h)) at e
counts-order h g s n (RemoveOut k) d i m e = rw (append-nil (left d h)) at e

counts-old : (a b c : Bool) → (not (a || b) || c) ≡ true → (not b || c) ≡ true
counts-old true true c e = e
counts-old true false c e = refl
counts-old false b c e = e

counts-accepted : (h : List ControllerAct) (c : PlacedCommand) (d : Way) → Has d (directions h) → is_counted (Accepted c ∷ h) d ≡ true
    → is_counted h d ≡ true
counts-accepted h c d i e =
    let u = upto 0 (directions h) d (rising h) i in
    let q = made-no c (length (directions h)) d (omega arith) in
    counts-old (is_end_of d.tunnel.reqid c) (is_over d h) (not (is_none (left d h))) (rw q at e)

limit-passes : (n m k : ℕ) → nat_le 1024 n ≡ false → m ≤ n → k ≤ 1 → m + k ≤ 1024
limit-passes n m k e f g = let q : n + 1 ≤ 1024 = grind (arith, common_steps) in omega arith

none-new : (h : List ControllerAct) (c : PlacedCommand) (ds : List Way) → ((d : Way) → Has d ds → Has d (directions h))
    → tunnels h ds ≤ 1024 → tunnels (Accepted c ∷ h) (ds ++ []) ≤ 1024
none-new h c ds f e =
    let q = tunnels-less (Accepted c ∷ h) h ds (λ d i. counts-accepted h c d (f d i)) in
    rw (append-nil ds) (omega arith)

-- no more tunnels count than the limit says
pub few-tunnels : (p : ℕ) (h : List ControllerAct) → IsControllerPast p h → tunnels h (directions h) ≤ 1024
few-tunnels p [] l = omega arith
few-tunnels p (Opened g s ∷ h) l = let e = few-tunnels p h l.1 in let q = tunnels-less (Opened g s ∷ h) h (directions h) (λ d i v. v) in
    omega arith
few-tunnels p (Cut g s ∷ h) l = let e = few-tunnels p h l.1 in let q = tunnels-less (Cut g s ∷ h) h (directions h) (λ d i v. v) in
    omega arith
few-tunnels p (Answered g s n a ∷ h) l =
    let e = few-tunnels p h l.1 in
    let q = tunnels-less (Answered g s n a ∷ h) h (directions h) (λ d i v. or-step (not (is_over d h)) _ (not (is_none (left d h)))
    (none-filter (λ x. not (is_answer_to RemovingIn x.serial (oldest (queue g h)))) (left d h)) v) in
    omega arith
few-tunnels p (Heard g s t ∷ h) l = let e = few-tunnels p h l.1 in let q = tunnels-less (Heard g s t ∷ h) h (directions h) (λ d i v. v) in
    omega arith
few-tunnels p (Ordered g s n o ∷ h) l = let e = few-tunnels p h l.1 in
    let q = tunnels-less (Ordered g s n o ∷ h) h (directions h) (λ d i v. counts-order h g s n o d i l.0.3 v) in omega arith
few-tunnels p (Accepted (SetPolicy g w) ∷ h) l = none-new h (SetPolicy g w) (directions h) (λ d i. i) (few-tunnels p h l.1)
few-tunnels p (Accepted (Tunnel t) ∷ h) l =
    let n = tunnel-passes (nat_lt t.first p) (nat_lt t.second p) (t.first == t.second) (has_tunnel t.spec.reqid h)
    (nat_le 1024 (tunnels h (directions h))) l.0 in
    let q = tunnels-less (Accepted (Tunnel t) ∷ h) h (directions h) (λ d i. counts-accepted h (Tunnel t) d i) in
    let b = tunnels-both (Accepted (Tunnel t) ∷ h) (directions h) (both_ways (length (directions h)) t) (pairs h) in
    rw b (limit-passes (tunnels h (directions h)) (tunnels (Accepted (Tunnel t) ∷ h) (directions h))
    (tunnels (Accepted (Tunnel t) ∷ h) (both_ways (length (directions h)) t)) n.4 q (one-more _))
few-tunnels p (Accepted (End r) ∷ h) l = none-new h (End r) (directions h) (λ d i. i) (few-tunnels p h l.1)
few-tunnels p (Accepted (Rekey r) ∷ h) l = none-new h (Rekey r) (directions h) (λ d i. i) (few-tunnels p h l.1)
few-tunnels p (Accepted (Keys k) ∷ h) l = none-new h (Keys k) (directions h) (λ d i. i) (few-tunnels p h l.1)
few-tunnels p (Refused w ∷ h) l = let e = few-tunnels p h l.1 in let q = tunnels-less (Refused w ∷ h) h (directions h) (λ d i v. v) in
    omega arith

-- ## halves

none-left : (h : List ControllerAct) (d : Way) → is_counted h d ≡ false → length (left d h) ≡ 0
none-left h d e = empty (left d h) (neither (not (is_over d h)) (not (is_none (left d h))) e).1
  where
    empty : (xs : List Association) → not (is_none xs) ≡ false → length xs ≡ 0
    empty [] e = refl
    empty (x ∷ xs) e = cc

four-step : (h : List ControllerAct) (a b : Bool) (d e : Way) (n m : ℕ) → length (left d h) ≤ 2 → length (left e h) ≤ 2 → m ≤ 4 * n
    → (c k : Bool) → is_counted h d ≡ c → is_counted h e ≡ k
    → (if a then length (left d h) + (if b then length (left e h) + m else m) else if b then length (left e h) + m else m) ≤ 4 * (if c
    || k then n + 1 else n)
four-step h a b d e n m u v w true k t z = most a b
  where
    most : (a b : Bool) → (if a then length (left d h) + (if b then length (left e h) + m else m) else if b then length (left e h) + m
        else m) ≤ 4 * (n + 1)
    most true true = omega arith
    most true false = omega arith
    most false true = omega arith
    most false false = omega arith
four-step h a b d e n m u v w false true t z = most a b
  where
    most : (a b : Bool) → (if a then length (left d h) + (if b then length (left e h) + m else m) else if b then length (left e h) + m
        else m) ≤ 4 * (n + 1)
    most true true = omega arith
    most true false = omega arith
    most false true = omega arith
    most false false = omega arith
four-step h a b d e n m u v w false false t z = least a b (none-left h d t) (none-left h e z)
  where
    least : (a b : Bool) → length (left d h) ≡ 0 → length (left e h) ≡ 0
        → (if a then length (left d h) + (if b then length (left e h) + m else m) else if b then length (left e h) + m else m) ≤ 4 * n
    least true true q r = omega arith
    least true false q r = omega arith
    least false true q r = omega arith
    least false false q r = omega arith

four-each : (p : ℕ) (h : List ControllerAct) → IsControllerPast p h → PlainAnswers h → (g : ℕ) (ds : List Way) → Pairs ds
    → half_count g h ds ≤ 4 * tunnels h ds
four-each p h l a g [] q = omega arith
four-each p h l a g (d ∷ []) q = absurd q
four-each p h l a g (d ∷ e ∷ ds) q = four-step h (is_at_gateway g d) (is_at_gateway g e) d e (tunnels h ds) (half_count g h ds)
    (few-left p h l a d) (few-left p h l a e) (four-each p h l a g ds q) (is_counted h d) (is_counted h e) refl refl

-- a gateway never has more halves than its database holds
pub few-halves : (p : ℕ) (h : List ControllerAct) → IsControllerPast p h → PlainAnswers h → (g : ℕ) → half_count g h (directions h) ≤ 4096
few-halves p h l a g =
    let e = four-each p h l a g (directions h) (pairs h) in
    let q = few-tunnels p h l in
    omega arith
