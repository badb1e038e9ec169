-- Words that gather a list say what their plain readings say.
use Rattle.std.proofs.Common.{◌≡◌, ℕ, Bool, true, false, not, ◌&&◌, ◌||◌, nat_le, ◌+◌, List, [], ◌∷◌, ◌++◌, refl, sym, ◌∙◌, ap, arith, if◌then◌else◌, ◌==◌, Option, Some, None}
use Rattle.std.proofs.lemmas.Grind.{common_steps}
use Rattle.std.specs.List.{list_any}
use Rattle.std.specs.Str.{bytes_eq}
use Rattle.ikeless_tree.specs.declared.entry.SpdEntry.{SpdEntry}
use Rattle.ikeless_tree.specs.declared.sad.SadEntry.{SadEntry}
use Rattle.ikeless_tree.specs.declared.order.Notice.{Notice}
use Rattle.ikeless_tree.specs.declared.order.Notice.TheVariants as notices
use Rattle.ikeless_tree.specs.Half.{is_inbound}
use Rattle.hist_acts.specs.declared.act.Act.{Act}
use Rattle.hist_acts.specs.declared.act.Act.TheVariants as acts
use Rattle.hist_acts.specs.Past.{force}
use Rattle.hist_halves.specs.Sealed.{is_opened}
use Rattle.replay_win.specs.Marks.{is_among}
use Rattle.hist_gateway.specs.Uses.{is_number, was_number_sent, was_taken}
use Rattle.hist_halves.specs.Halves.{is_half, live, is_live, arrival_number, numbers_taken, sent, with_number, without}
use Rattle.hist_gateway.specs.Stands.{has_reqid, is_acquire_of, does_acquire_stand, was_soft_given, does_soft_stand, was_overflow_given, does_overflow_stand}
use Rattle.hist_gateway.specs.State.{acquires, unwanted, with_acquire}
use Rattle.hist_gateway.specs.May.{GatewayMayAct, IsGatewayPast, has_half}
use Rattle.hist_gateway.specs.Block.{Gateway}
use Rattle.hist_gateway.proofs.KeepsLemmas.{same-is}

pub any-end : {A : Type 0} (p : A → Bool) (xs : List A) (x : A) → list_any p (xs ++ x ∷ []) ≡ (p x || list_any p xs)
any-end p [] x = grind arith
any-end p (y ∷ xs) x = let ih = any-end p xs x in grind (arith, ih)

-- ---- live halves

and-same : (a b c : Bool) → a ≡ b → (not a && c) ≡ (not a && (b || c))
and-same true b c e = refl
and-same false true c e = cc
and-same false false c e = refl

other-split : (y x : List ℕ) (e : SadEntry) (b : Bool) → bytes_eq y x ≡ b → bytes_eq e.name y ≡ false → bytes_eq e.name x ≡ true
    → true ≡ (not (bytes_eq y x) && true)
other-split y x e true t own found =
    let same : y ≡ x = same-is y x t in
    let clash : true ≡ false = sym found ∙ (ap (λ n. bytes_eq e.name n) (sym same) ∙ own) in
    cc
other-split y x e false t own found = rw t refl

-- a name that one half has, and another that it doesn't have
other-name : (y x : List ℕ) (e : SadEntry) → bytes_eq e.name y ≡ false → bytes_eq e.name x ≡ true → true ≡ (not (bytes_eq y x) && true)
other-name y x e own found = other-split y x e (bytes_eq y x) refl own found

without-found : (x y : List ℕ) (e : SadEntry) (es : List SadEntry) (b c : Bool) → bytes_eq e.name y ≡ b → bytes_eq e.name x ≡ c →
    (bytes_eq e.name y ≡ true → bytes_eq y x ≡ bytes_eq e.name x) →
    has_half x (without y es) ≡ (not (bytes_eq y x) && has_half x es) → has_half x (without y (e ∷ es)) ≡ (not (bytes_eq y x)
    && has_half x (e ∷ es))
without-found x y e es true c own found same ih = let s = same own in
    rw own (ih ∙ and-same (bytes_eq y x) (bytes_eq e.name x) (has_half x es) s)
without-found x y e es false true own found same ih = rw (own, found) (other-name y x e own found)
without-found x y e es false false own found same ih = rw (own, found) ih

pub without-half : (x y : List ℕ) (es : List SadEntry) → has_half x (without y es) ≡ (not (bytes_eq y x) && has_half x es)
without-half x y [] = grind arith
without-half x y (e ∷ es) =
    without-found x y e es (bytes_eq e.name y) (bytes_eq e.name x) refl refl (λ own. ap (λ n. bytes_eq n x) (sym (same-is e.name y own)))
    (without-half x y es)

live-put : (g x f : List ℕ) (e : SadEntry) (h : List Act) (b : Bool) → bytes_eq f g ≡ b → has_half x (live g h) ≡ is_live g x h →
    has_half x (live g (acts.Put f e ∷ h)) ≡ is_live g x (acts.Put f e ∷ h)
live-put g x f e h true at ih = rw (at, sym ih) (any-end (λ z. bytes_eq z.name x) (live g h) e)
live-put g x f e h false at ih = rw at ih

live-gone : (g x f y : List ℕ) (h : List Act) (b : Bool) → bytes_eq f g ≡ b → has_half x (live g h) ≡ is_live g x h →
    has_half x (if bytes_eq f g then without y (live g h) else live g h) ≡ (not (is_half f y g x) && is_live g x h)
live-gone g x f y h true at ih = rw (at, sym ih) (without-half x y (live g h))
live-gone g x f y h false at ih = rw at ih

live-boot : (g x f : List ℕ) (h : List Act) (b : Bool) → bytes_eq f g ≡ b → has_half x (live g h) ≡ is_live g x h →
    has_half x (if bytes_eq f g then [] else live g h) ≡ (not (bytes_eq f g) && is_live g x h)
live-boot g x f h true at ih = rw at refl
live-boot g x f h false at ih = rw at ih

pub live-is : (g x : List ℕ) (h : List Act) → has_half x (live g h) ≡ is_live g x h
live-is g x [] = refl
live-is g x (acts.Put f e ∷ h) = live-put g x f e h (bytes_eq f g) refl (live-is g x h)
live-is g x (acts.Gone f y w ∷ h) = live-gone g x f y h (bytes_eq f g) refl (live-is g x h)
live-is g x (acts.Boot f ∷ h) = live-boot g x f h (bytes_eq f g) refl (live-is g x h)
live-is g x (a ∷ h) = live-is g x h

-- ---- standing acquires

abbrev among : List ℕ → List (List ℕ) → Bool
among name names = list_any (λ p. bytes_eq p name) names

ended : (a c b : Bool) → a ≡ b → (not a && c) ≡ (not b && c)
ended a c b e = rw e refl

unwanted-step : (name p : List ℕ) (r : ℕ) (list : List SpdEntry) (ps : List (List ℕ)) (b c : Bool) → bytes_eq p name ≡ b
    → has_reqid p r list ≡ c →
    (bytes_eq p name ≡ true → has_reqid name r list ≡ has_reqid p r list) →
    among name (unwanted r list ps) ≡ (not (has_reqid name r list) && among name ps) →
    among name (unwanted r list (p ∷ ps)) ≡ (not (has_reqid name r list) && among name (p ∷ ps))
unwanted-step name p r list ps true true own has same ih =
    let q : has_reqid name r list ≡ true = same own ∙ has in
    rw (own, has, q) (ih ∙ ended (has_reqid name r list) (among name ps) true q)
unwanted-step name p r list ps true false own has same ih =
    let q : has_reqid name r list ≡ false = same own ∙ has in
    rw (own, has, q) (rw own refl)
unwanted-step name p r list ps false true own has same ih = rw (own, has) ih
unwanted-step name p r list ps false false own has same ih = rw (own, has) (rw own ih)

unwanted-is : (name : List ℕ) (r : ℕ) (list : List SpdEntry) (ps : List (List ℕ)) →
    among name (unwanted r list ps) ≡ (not (has_reqid name r list) && among name ps)
unwanted-is name r list [] = grind arith
unwanted-is name r list (p ∷ ps) =
    unwanted-step name p r list ps (bytes_eq p name) (has_reqid p r list) refl refl
    (λ own. ap (λ n. has_reqid n r list) (sym (same-is p name own))) (unwanted-is name r list ps)

notice-is : (name : List ℕ) (n : Notice) (ps : List (List ℕ)) → among name (with_acquire n ps) ≡ (is_acquire_of name n || among name ps)
notice-is name (notices.Acquire p s) ps = any-end (λ q. bytes_eq q name) ps p
notice-is name (notices.Expire x b c) ps = refl
notice-is name (notices.SeqOverflow x) ps = refl
notice-is name (notices.BadSpi k) ps = refl

acquires-notice : (g name f : List ℕ) (n : Notice) (h : List Act) (b : Bool) → bytes_eq f g ≡ b
    → among name (acquires g h) ≡ does_acquire_stand g name h →
    among name (if bytes_eq f g then with_acquire n (acquires g h) else acquires g h) ≡ ((bytes_eq f g && is_acquire_of name n)
    || does_acquire_stand g name h)
acquires-notice g name f n h true at ih = rw (at, sym ih) (notice-is name n (acquires g h))
acquires-notice g name f n h false at ih = rw at ih

acquires-clear : (g name f : List ℕ) (h : List Act) (b : Bool) → bytes_eq f g ≡ b → among name (acquires g h) ≡ does_acquire_stand g name h
    →
    among name (if bytes_eq f g then [] else acquires g h) ≡ (not (bytes_eq f g) && does_acquire_stand g name h)
acquires-clear g name f h true at ih = rw at refl
acquires-clear g name f h false at ih = rw at ih

acquires-put : (g name : List ℕ) (r : ℕ) (h : List Act) (b : Bool) (c : Bool) → b ≡ c → among name (acquires g h) ≡ does_acquire_stand g
    name h →
    among name (if b then unwanted r (force g h) (acquires g h) else acquires g h) ≡ (not (b && has_reqid name r (force g h))
    && does_acquire_stand g name h)
acquires-put g name r h true c at ih = rw (sym ih) (unwanted-is name r (force g h) (acquires g h))
acquires-put g name r h false c at ih = ih

pub acquires-is : (g name : List ℕ) (h : List Act) → among name (acquires g h) ≡ does_acquire_stand g name h
acquires-is g name [] = refl
acquires-is g name (acts.Notice f s n ∷ h) = acquires-notice g name f n h (bytes_eq f g) refl (acquires-is g name h)
acquires-is g name (acts.Policy f list ∷ h) = acquires-clear g name f h (bytes_eq f g) refl (acquires-is g name h)
acquires-is g name (acts.Put f e ∷ h) =
    acquires-put g name e.reqid h (bytes_eq f g && not (is_inbound e.name)) (bytes_eq f g && not (is_inbound e.name)) refl
    (acquires-is g name h)
acquires-is g name (acts.Opened f s ∷ h) = acquires-clear g name f h (bytes_eq f g) refl (acquires-is g name h)
acquires-is g name (acts.Boot f ∷ h) = acquires-clear g name f h (bytes_eq f g) refl (acquires-is g name h)
acquires-is g name (a ∷ h) = acquires-is g name h

-- ---- numbers taken

among-end : (s n : ℕ) (ns : List ℕ) → is_among s (ns ++ n ∷ []) ≡ ((s == n) || is_among s ns)
among-end s n ns = any-end (λ k. s == k) ns n

taken-put : (b : Bool) (s : ℕ) (ns : List ℕ) → is_among s (if b then [] else ns) ≡ (not b && is_among s ns)
taken-put true s ns = refl
taken-put false s ns = refl

taken-gave : (b : Bool) (s n : ℕ) (ns : List ℕ) → is_among s (if b then ns ++ n ∷ [] else ns) ≡ ((b && (s == n)) || is_among s ns)
taken-gave true s n ns = among-end s n ns
taken-gave false s n ns = refl

taken-drop : (b : Bool) (s : ℕ) (n : Option ℕ) (ns : List ℕ) → is_among s (if b then with_number ns n else ns) ≡ ((b && is_number s n)
    || is_among s ns)
taken-drop true s (Some n) ns = among-end s n ns
taken-drop true s None ns = refl
taken-drop false s n ns = refl

pub taken-is : (g x : List ℕ) (s : ℕ) (h : List Act) → is_among s (numbers_taken g x h) ≡ was_taken g x s h
taken-is g x s [] = refl
taken-is g x s (acts.Put f e ∷ h) = rw (sym (taken-is g x s h)) (taken-put (is_half f e.name g x) s (numbers_taken g x h))
taken-is g x s (acts.Gave f y n o ∷ h) = rw (sym (taken-is g x s h)) (taken-gave (is_half f y g x) s n (numbers_taken g x h))
taken-is g x s (acts.Drop f w ∷ h) =
    rw (sym (taken-is g x s h)) (taken-drop (bytes_eq f g && is_opened w) s (arrival_number g x (numbers_taken g x h) h)
    (numbers_taken g x h))
taken-is g x s (a ∷ h) = taken-is g x s h

-- ---- notices of a live half

pub soft-is : (g x : List ℕ) (h : List Act) → is_live g x h ≡ true → does_soft_stand g x h ≡ was_soft_given g x h
soft-is g x h l = rw l refl

pub overflow-is : (g x : List ℕ) (h : List Act) → is_live g x h ≡ true → does_overflow_stand g x h ≡ was_overflow_given g x h
overflow-is g x h l = rw l refl

-- ---- the numbers sent are those from one to the count

none-sent : (s : ℕ) (b : Bool) → nat_le 1 s ≡ b → false ≡ (b && nat_le s 0)
none-sent s false e = refl
none-sent s true e = grind (arith, common_steps)

more-sent : (s k : ℕ) (w : Bool) → w ≡ (nat_le 1 s && nat_le s k) → (b : Bool) → (s == k + 1) ≡ b
    → (b || w) ≡ (nat_le 1 s && nat_le s (k + 1))
more-sent s k w e true q = let n : s ≡ k + 1 = grind arith in let a : nat_le 1 s ≡ true = grind (arith, common_steps) in
    let c : nat_le s (k + 1) ≡ true = grind (arith, common_steps) in rw (a, c) refl
more-sent s k w e false q = let c : nat_le s k ≡ nat_le s (k + 1) = same-below (nat_le s k) (nat_le s (k + 1)) refl refl in
    e ∙ ap (λ z. nat_le 1 s && z) c
  where
    same-below : (x y : Bool) → nat_le s k ≡ x → nat_le s (k + 1) ≡ y → x ≡ y
    same-below true true p r = refl
    same-below false false p r = refl
    same-below true false p r = absurd (let v : true ≡ false = grind (arith, common_steps) in cc)
    same-below false true p r = absurd (let v : true ≡ false = grind (arith, common_steps) in cc)

put-sent : (b : Bool) (s k : ℕ) (w : Bool) → w ≡ (nat_le 1 s && nat_le s k) → (not b && w) ≡ (nat_le 1 s && nat_le s (if b then 0 else k))
put-sent true s k w e = none-sent s (nat_le 1 s) refl
put-sent false s k w e = e

half-is : (f y g x : List ℕ) → is_half f y g x ≡ true → (f ≡ g) × (y ≡ x)
half-is f y g x e = by-parts (bytes_eq f g) (bytes_eq y x) refl refl e
  where
    by-parts : (a b : Bool) → bytes_eq f g ≡ a → bytes_eq y x ≡ b → (a && b) ≡ true → (f ≡ g) × (y ≡ x)
    by-parts true true p q t = (same-is f g p, same-is y x q)
    by-parts true false p q t = cc
    by-parts false b p q t = cc

sent-more : (h : List Act) (f y g x : List ℕ) (n s : ℕ) (w : Bool) → n ≡ sent f y h + 1 → w ≡ (nat_le 1 s && nat_le s (sent g x h))
    → (b : Bool) → is_half f y g x ≡ b
    → ((b && (s == n)) || w) ≡ (nat_le 1 s && nat_le s (if b then sent g x h + 1 else sent g x h))
sent-more h f y g x n s w e t false p = t
sent-more h f y g x n s w e t true p =
    let k = half-is f y g x p in
    let same : sent f y h ≡ sent g x h = ap (λ z. sent z y h) k.0 ∙ ap (λ z. sent g z h) k.1 in
    let m : n ≡ sent g x h + 1 = omega (arith, e, same) in
    rw m (more-sent s (sent g x h) w t (s == sent g x h + 1) refl)

pub sent-is : (c : Gateway) (h : List Act) → IsGatewayPast c h → (g x : List ℕ) (s : ℕ)
    → was_number_sent g x s h ≡ (nat_le 1 s && nat_le s (sent g x h))
sent-is c [] l g x s = none-sent s (nat_le 1 s) refl
sent-is c (acts.Put f e ∷ h) l g x s = put-sent (is_half f e.name g x) s (sent g x h) (was_number_sent g x s h) (sent-is c h l.1 g x s)
sent-is c (acts.Sent f y n o ∷ h) l g x s = sent-more h f y g x n s (was_number_sent g x s h) (sent-number c h f y n o l.0)
    (sent-is c h l.1 g x s) (is_half f y g x) refl
  where
    sent-number : (c : Gateway) (h : List Act) (f y : List ℕ) (n : ℕ) (o : List ℕ) → GatewayMayAct c h (acts.Sent f y n o)
        → n ≡ sent f y h + 1
    sent-number c h f y n o m = m.number
sent-is c (a ∷ h) l g x s = sent-is c h l.1 g x s
