-- What an accepted command has passed: keys that differ and are few, and gateways that are known and differ.
use Rattle.std.proofs.Common.{◌≡◌, ℕ, ◌+◌, ◌-◌, ◌<◌, ◌≤◌, Bool, true, false, ◌==◌, not, ◌&&◌, nat_le, nat_lt, List, [], ◌∷◌, ◌++◌, Some, None, ◌⊎◌, inl, inr, length, refl, sym, subst, ◌∙◌, ap, arith, if◌then◌else◌, append-nil}
use Rattle.std.proofs.lemmas.Bool.{ltb-true}
use Rattle.std.proofs.lemmas.Grind.{common_steps}
use Rattle.std.proofs.lemmas.Slice.Eq.{bytes_eq-Decides}
use Rattle.std.specs.List.{list_all}
use Rattle.std.specs.Str.{bytes_eq}
use Rattle.ikeless_tree.specs.Check.{is_key_length}
use Rattle.ikeless_tree.specs.declared.command.Refusal.TheVariants as refusals
use Rattle.ikeless_tree.specs.Half.{aes_part}
use Rattle.hist_controller.specs.Acts.{Way, PlacedCommand, SetPolicy, Tunnel, End, Rekey, Keys, ControllerAct, Opened, Cut, Answered, Heard, Ordered, Accepted, Refused}
use Rattle.hist_controller.specs.Past.{keys, spare, serials, directions, new_ways}
use Rattle.hist_controller.specs.Law.{is_seen, has_tunnel, tunnels, refusal}
use Rattle.hist_controller.specs.Machine.{place}
use Rattle.hist_controller.specs.Clauses.{Has, IsControllerPast}
use Rattle.hist_controller.proofs.Lists.{length-more, place-old, length-both}
use Rattle.hist_controller.proofs.Serials.{has-more}
use Rattle.hist_controller.proofs.Often.{keyed}

-- ## keys

key-passes : (a b c : Bool) → (if not a then Some refusals.KeyLength else if b then Some refusals.KeySeen else if c
    then Some refusals.KeyLimit else None) ≡ None → (a ≡ true) × (b ≡ false) × (c ≡ false)
key-passes true false false e = (refl, refl, refl)
key-passes true false true e = cc
key-passes true true c e = cc
key-passes false b c e = cc

pub same-bytes : (xs ys : List ℕ) → xs ≡ ys → bytes_eq xs ys ≡ true
same-bytes xs ys e = (bytes_eq-Decides xs ys).1 e

-- a key that stands has its AES key
seen-at : (k : List ℕ) (i : ℕ) (ks : List (List ℕ)) (a : List ℕ) → place i ks ≡ Some a → aes_part a ≡ aes_part k → is_seen k ks ≡ true
seen-at k i [] a e s = cc
seen-at k i (x ∷ ks) a e s = case (i == 0) refl e (seen-at k (i - 1) ks a)
  where
    case : (b : Bool) → (i == 0) ≡ b → (if b then Some x else place (i - 1) ks) ≡ Some a
        → (place (i - 1) ks ≡ Some a → aes_part a ≡ aes_part k → is_seen k ks ≡ true) → is_seen k (x ∷ ks) ≡ true
    case true t e f =
        let w : x ≡ a = cc in
        let q = same-bytes (aes_part x) (aes_part k) (ap aes_part w ∙ s) in
        rw q refl
    case false t e f = let q = f e s in grind (arith, q)

abbrev Apart : List (List ℕ) → Type 0
Apart ks = (i j : ℕ) (a b : List ℕ) → place i ks ≡ Some a → place j ks ≡ Some b → aes_part a ≡ aes_part b → i ≡ j

apart-more : (ks : List (List ℕ)) (k : List ℕ) → is_seen k ks ≡ false → Apart ks → Apart (ks ++ k ∷ [])
apart-more ks k n f i j a b p q e = both (place-old i ks k a p) (place-old j ks k b q)
  where
    both : ((i < length ks) × (place i ks ≡ Some a)) ⊎ ((i ≡ length ks) × (k ≡ a)) → ((j < length ks) × (place j ks ≡ Some b))
        ⊎ ((j ≡ length ks) × (k ≡ b)) → i ≡ j
    both (inl u) (inl v) = f i j a b u.1 v.1 e
    both (inl u) (inr v) = let w = seen-at k i ks a u.1 (e ∙ ap aes_part (sym v.1)) in absurd (let z : true ≡ false = sym w ∙ n in cc)
    both (inr u) (inl v) = let w = seen-at k j ks b v.1 (sym e ∙ ap aes_part (sym u.1)) in absurd (let z : true ≡ false = sym w ∙ n in cc)
    both (inr u) (inr v) = u.0 ∙ sym v.0

same-apart : (ks : List (List ℕ)) → Apart ks → Apart (ks ++ [])
same-apart ks f = subst Apart (sym (append-nil ks)) f

-- no two accepted keys have one AES key
pub apart : (p : ℕ) (h : List ControllerAct) → IsControllerPast p h → Apart (keys h)
apart p [] l = λ i j a b x y e. cc
apart p (Opened g s ∷ h) l = apart p h l.1
apart p (Cut g s ∷ h) l = apart p h l.1
apart p (Answered g s n z ∷ h) l = apart p h l.1
apart p (Heard g s t ∷ h) l = apart p h l.1
apart p (Ordered g s n o ∷ h) l = apart p h l.1
apart p (Accepted (Keys k) ∷ h) l =
    let q = key-passes (is_key_length (length k)) (is_seen k (keys h)) (nat_le 1048576 (length (keys h))) l.0 in
    apart-more (keys h) k q.1 (apart p h l.1)
apart p (Accepted (SetPolicy g w) ∷ h) l = same-apart (keys h) (apart p h l.1)
apart p (Accepted (Tunnel t) ∷ h) l = same-apart (keys h) (apart p h l.1)
apart p (Accepted (End r) ∷ h) l = same-apart (keys h) (apart p h l.1)
apart p (Accepted (Rekey r) ∷ h) l = same-apart (keys h) (apart p h l.1)
apart p (Refused w ∷ h) l = apart p h l.1

-- ## their number and length

under : (n : ℕ) → nat_le 1048576 n ≡ false → n + 1 ≤ 1048576
under n e = grind (arith, common_steps)

-- no more keys are accepted than the limit says
pub few-keys : (p : ℕ) (h : List ControllerAct) → IsControllerPast p h → length (keys h) ≤ 1048576
few-keys p [] l = omega arith
few-keys p (Opened g s ∷ h) l = few-keys p h l.1
few-keys p (Cut g s ∷ h) l = few-keys p h l.1
few-keys p (Answered g s n z ∷ h) l = few-keys p h l.1
few-keys p (Heard g s t ∷ h) l = few-keys p h l.1
few-keys p (Ordered g s n o ∷ h) l = few-keys p h l.1
few-keys p (Accepted (Keys k) ∷ h) l =
    let q = key-passes (is_key_length (length k)) (is_seen k (keys h)) (nat_le 1048576 (length (keys h))) l.0 in
    let e = length-more (keys h) k in
    let u = under (length (keys h)) q.2 in
    omega arith
few-keys p (Accepted (SetPolicy g w) ∷ h) l = let f = few-keys p h l.1 in rw (append-nil (keys h)) f
few-keys p (Accepted (Tunnel t) ∷ h) l = let f = few-keys p h l.1 in rw (append-nil (keys h)) f
few-keys p (Accepted (End r) ∷ h) l = let f = few-keys p h l.1 in rw (append-nil (keys h)) f
few-keys p (Accepted (Rekey r) ∷ h) l = let f = few-keys p h l.1 in rw (append-nil (keys h)) f
few-keys p (Refused w ∷ h) l = few-keys p h l.1

-- and no more serials are given out than keys are accepted
pub few-serials : (p : ℕ) (h : List ControllerAct) → IsControllerPast p h → serials h ≤ length (keys h)
few-serials p h l =
    let k = keyed p h l in
    let e = ap length k.split ∙ length-both k.gone (spare h) in
    let m = k.many in
    omega arith

all-more : (ks : List (List ℕ)) (k : List ℕ) → is_key_length (length k) ≡ true → list_all (λ x. is_key_length (length x)) ks ≡ true
    → list_all (λ x. is_key_length (length x)) (ks ++ k ∷ []) ≡ true
all-more [] k e f = rw e refl
all-more (x ∷ ks) k e f = let ih = all-more ks k e in grind (arith, ih)

-- each of them is an AES key and a salt
pub long-keys : (p : ℕ) (h : List ControllerAct) → IsControllerPast p h → list_all (λ k. is_key_length (length k)) (keys h) ≡ true
long-keys p [] l = refl
long-keys p (Opened g s ∷ h) l = long-keys p h l.1
long-keys p (Cut g s ∷ h) l = long-keys p h l.1
long-keys p (Answered g s n z ∷ h) l = long-keys p h l.1
long-keys p (Heard g s t ∷ h) l = long-keys p h l.1
long-keys p (Ordered g s n o ∷ h) l = long-keys p h l.1
long-keys p (Accepted (Keys k) ∷ h) l =
    let q = key-passes (is_key_length (length k)) (is_seen k (keys h)) (nat_le 1048576 (length (keys h))) l.0 in
    all-more (keys h) k q.0 (long-keys p h l.1)
long-keys p (Accepted (SetPolicy g w) ∷ h) l = let f = long-keys p h l.1 in rw (append-nil (keys h)) f
long-keys p (Accepted (Tunnel t) ∷ h) l = let f = long-keys p h l.1 in rw (append-nil (keys h)) f
long-keys p (Accepted (End r) ∷ h) l = let f = long-keys p h l.1 in rw (append-nil (keys h)) f
long-keys p (Accepted (Rekey r) ∷ h) l = let f = long-keys p h l.1 in rw (append-nil (keys h)) f
long-keys p (Refused w ∷ h) l = long-keys p h l.1

-- ## tunnels

pub record Placing (p : ℕ) (d : Way) : Type 0 where
  pub sender : d.sender < p
  pub receiver : d.receiver < p
  pub apart : (d.sender == d.receiver) ≡ false

pub tunnel-passes : (a b c d e : Bool) → (if not (a && b) then Some refusals.UnknownGateway else if c then Some refusals.SameGateway
    else if d then Some refusals.TunnelExists else if e then Some refusals.TunnelLimit else None) ≡ None → (a ≡ true) × (b ≡ true)
    × (c ≡ false) × (d ≡ false) × (e ≡ false)
tunnel-passes true true false false false q = (refl, refl, refl, refl, refl)
tunnel-passes true true false false true q = cc
tunnel-passes true true false true e q = cc
tunnel-passes true true true d e q = cc
tunnel-passes true false c d e q = cc
tunnel-passes false b c d e q = cc

turned : (n m : ℕ) → (n == m) ≡ false → (m == n) ≡ false
turned n m e = grind arith

placed-new : (p n : ℕ) (h : List ControllerAct) (c : PlacedCommand) (d : Way) → refusal p h c ≡ None → Has d (new_ways n c) → Placing p d
placed-new p n h (SetPolicy g l) d e i = absurd i
placed-new p n h (Tunnel t) d e (inl i) =
    let q = tunnel-passes (nat_lt t.first p) (nat_lt t.second p) (t.first == t.second) (has_tunnel t.spec.reqid h)
    (nat_le 1024 (tunnels h (directions h))) e in
    rw i (record { sender = ltb-true t.first p q.0; receiver = ltb-true t.second p q.1; apart = q.2 })
placed-new p n h (Tunnel t) d e (inr (inl i)) =
    let q = tunnel-passes (nat_lt t.first p) (nat_lt t.second p) (t.first == t.second) (has_tunnel t.spec.reqid h)
    (nat_le 1024 (tunnels h (directions h))) e in
    rw i (record { sender = ltb-true t.second p q.1; receiver = ltb-true t.first p q.0; apart = turned t.first t.second q.2 })
placed-new p n h (Tunnel t) d e (inr (inr i)) = absurd i
placed-new p n h (End r) d e i = absurd i
placed-new p n h (Rekey r) d e i = absurd i
placed-new p n h (Keys k) d e i = absurd i

-- the two gateways of a direction are known and differ
pub placings : (p : ℕ) (h : List ControllerAct) → IsControllerPast p h → (d : Way) → Has d (directions h) → Placing p d
placings p [] l d i = absurd i
placings p (Opened g s ∷ h) l d i = placings p h l.1 d i
placings p (Cut g s ∷ h) l d i = placings p h l.1 d i
placings p (Answered g s n z ∷ h) l d i = placings p h l.1 d i
placings p (Heard g s t ∷ h) l d i = placings p h l.1 d i
placings p (Ordered g s n o ∷ h) l d i = placings p h l.1 d i
placings p (Accepted c ∷ h) l d i = elim (has-more d (directions h) (new_ways (length (directions h)) c) i) as (λ q. Placing p d) [
  | inl j ↦ placings p h l.1 d j
  | inr j ↦ placed-new p (length (directions h)) h c d l.0 j
]
placings p (Refused w ∷ h) l d i = placings p h l.1 d i
