-- The gateways of a header by their names and by their numbers, and the nodes of a world that stand for them.
use Rattle.std.proofs.Common.{◌≡◌, ℕ, zero, suc, ◌+◌, ◌-◌, ◌<◌, Bool, true, false, cond, ◌==◌, ◌||◌, not, List, [], ◌∷◌, map, length, Option, Some, None, slice_get, refl, sym, ◌∙◌, ap, arith, if◌then◌else◌}
use Rattle.std.specs.Prelude.{find}
use Rattle.std.specs.List.{position_or_len}
use Rattle.std.specs.Option.{option_map}
use Rattle.std.specs.Str.{bytes_eq}
use Rattle.ikeless_tree.specs.declared.command.Peer.{Peer}
use Rattle.hist_acts.specs.Gateways.{is_named}
use Rattle.hist_controller.specs.Law.{peer_number}
use Rattle.hist_controller.specs.Told.{Named, peer_name}
use Rattle.hist_safety.proofs.Basics.{if-new, if-old, name-is, no}
use Rattle.world_steps.specs.Nodes.{Node}
use Rattle.world_steps.specs.Worlds.{placed}

-- ---- by name

-- the peer of this name, with its number
pub record IsPeer (ps : List Peer) (g : List ℕ) (p : Peer) : Type 0 where
  pub place : slice_get ps (peer_number g ps) ≡ Some p
  pub found : find (λ q. bytes_eq q.name g) ps ≡ Some p
  pub name : p.name ≡ g

peer-found : (ps : List Peer) (g : List ℕ) → is_named ps g ≡ true
    → (p : Peer) × (slice_get ps (peer_number g ps) ≡ Some p) × (find (λ q. bytes_eq q.name g) ps ≡ Some p) × (p.name ≡ g)
peer-found [] g e = absurd (no e)
peer-found (q ∷ ps) g e = by-name (bytes_eq q.name g) refl e (peer-found ps g) where
  by-name : (b : Bool) → bytes_eq q.name g ≡ b → (b || is_named ps g) ≡ true
      → (is_named ps g ≡ true → (p : Peer) × (slice_get ps (peer_number g ps) ≡ Some p) × (find (λ q. bytes_eq q.name g) ps ≡ Some p) ×
      (p.name ≡ g))
      → (p : Peer) × (slice_get (q ∷ ps) (if b then 0 else peer_number g ps + 1) ≡ Some p) ×
      (cond b (Some q) (find (λ q. bytes_eq q.name g) ps) ≡ Some p) × (p.name ≡ g)
  by-name true s e ih = (q, refl, refl, name-is q.name g s)
  by-name false s e ih =
      let r = ih e in
      let next : peer_number g ps + 1 ≡ suc (peer_number g ps) = omega arith in
      (r.0, ap (slice_get (q ∷ ps)) next ∙ r.1, r.2, r.3)

pub peer-named : (ps : List Peer) (g : List ℕ) → is_named ps g ≡ true → (p : Peer) × IsPeer ps g p
peer-named ps g e = let r = peer-found ps g e in (r.0, record { place = r.1; found = r.2; name = r.3 })

known-case : (b : Bool) (n m : ℕ) → (b ≡ false → n < m) → (if b then 0 else n + 1) < suc m
known-case true n m i = omega arith
known-case false n m i = let j = i refl in omega (arith, j)

pub number-low : (ps : List Peer) (g : List ℕ) → is_named ps g ≡ true → peer_number g ps < length ps
number-low [] g e = absurd (no e)
number-low (q ∷ ps) g e = known-case (bytes_eq q.name g) (peer_number g ps) (length ps)
    (λ s. number-low ps g (rest (bytes_eq q.name g) s e)) where
      rest : (b : Bool) → b ≡ false → (b || is_named ps g) ≡ true → is_named ps g ≡ true
      rest true s e = absurd (no (sym s))
      rest false s e = e

-- ---- by number

pub peer-at : (ps : List Peer) (i : ℕ) → i < length ps → (p : Peer) × (slice_get ps i ≡ Some p)
peer-at [] i l = absurd (omega arith)
peer-at (p ∷ ps) zero l = (p, refl)
peer-at (p ∷ ps) (suc i) l = peer-at ps i (omega arith)

some-is : (p q : Peer) → Some p ≡ Some q → p ≡ q
some-is p q e = cc

none-is : (p : Peer) → None ≡ Some p → ⊥
none-is p e = cc

next-name : (b : Bool) (q : Peer) (ps : List Peer) (i : ℕ) (p : Peer) → (suc i == 0) ≡ b → peer_name ps i ≡ p.name
    → (if b then q.name else peer_name ps (suc i - 1)) ≡ p.name
next-name true q ps i p z ih = absurd (grind (arith, z))
next-name false q ps i p z ih = let m : suc i - 1 ≡ i = omega arith in ap (peer_name ps) m ∙ ih

pub place-name : (ps : List Peer) (i : ℕ) (p : Peer) → slice_get ps i ≡ Some p → peer_name ps i ≡ p.name
place-name [] i p e = absurd (none-is p e)
place-name (q ∷ ps) zero p e = ap (λ (z : Peer). z.name) (some-is q p e)
place-name (q ∷ ps) (suc i) p e = next-name (suc i == 0) q ps i p refl (place-name ps i p e)

-- no other peer has its name
pub names-apart : (ps : List Peer) (i j : ℕ) (p q : Peer) → Named ps → i < length ps → j < length ps → slice_get ps i ≡ Some p
    → slice_get ps j ≡ Some q
    → bytes_eq q.name p.name ≡ (i == j)
names-apart ps i j p q names l m e f =
    ap (λ z. bytes_eq z p.name) (sym (place-name ps j q f)) ∙ ap (bytes_eq (peer_name ps j)) (sym (place-name ps i p e)) ∙ names j i m l

-- ---- nodes

pub map-there : (f k : Peer → Node) (ps : List Peer) → ((j : ℕ) (q : Peer) → slice_get ps j ≡ Some q → f q ≡ k q) → map f ps ≡ map k ps
map-there f k [] e = refl
map-there f k (q ∷ ps) e =
    let one : f q ≡ k q = e 0 q refl in
    let more : map f ps ≡ map k ps = map-there f k ps (λ j r s. e (suc j) r s) in
    ap (λ z. z ∷ map f ps) one ∙ ap (λ z. k q ∷ z) more

next-same : (b : Bool) (i j : ℕ) → (suc i == suc j) ≡ b → b ≡ (i == j)
next-same true i j e = grind (arith, e)
next-same false i j e = grind (arith, e)

-- a node in the place of that of its peer
pub placed-there : (f k : Peer → Node) (p : Peer) (n : Node) (ps : List Peer) (i : ℕ) → slice_get ps i ≡ Some p
    → ((j : ℕ) (q : Peer) → slice_get ps j ≡ Some q → bytes_eq q.name p.name ≡ (i == j)) → ((q : Peer) → (f q).name ≡ q.name)
    → n.name ≡ p.name → n ≡ k p
    → ((q : Peer) → bytes_eq q.name p.name ≡ false → f q ≡ k q) → placed n (map f ps) ≡ map k ps
placed-there f k p n [] i e once names name own other = absurd (none-is p e)
placed-there f k p n (q ∷ ps) zero e once names name own other =
    let same : q ≡ p = some-is q p e in
    let test : bytes_eq (f q).name n.name ≡ true = ap (λ z. bytes_eq z n.name) (names q) ∙ ap (bytes_eq q.name) name ∙ once 0 q refl in
    let far : (j : ℕ) (r : Peer) → slice_get ps j ≡ Some r → f r ≡ k r = λ j r s. other r (once (suc j) r s ∙ apart j) in
    if-new (bytes_eq (f q).name n.name) (n ∷ map f ps) (f q ∷ placed n (map f ps)) test
    ∙ ap (λ z. z ∷ map f ps) (own ∙ ap k (sym same)) ∙ ap (λ z. k q ∷ z) (map-there f k ps far)
  where
    apart : (j : ℕ) → (0 == suc j) ≡ false
    apart j = grind arith
placed-there f k p n (q ∷ ps) (suc i) e once names name own other =
    let away : bytes_eq q.name p.name ≡ false = once 0 q refl ∙ apart in
    let test : bytes_eq (f q).name n.name ≡ false = ap (λ z. bytes_eq z n.name) (names q) ∙ ap (bytes_eq q.name) name ∙ away in
    let ih = placed-there f k p n ps i e (λ j r s. once (suc j) r s ∙ next-same (suc i == suc j) i j refl) names name own other in
    if-old (bytes_eq (f q).name n.name) (n ∷ map f ps) (f q ∷ placed n (map f ps)) test
    ∙ ap (λ z. z ∷ placed n (map f ps)) (other q away) ∙ ap (λ z. k q ∷ z) ih
  where
    apart : (suc i == 0) ≡ false
    apart = grind arith

option-case : (f : Peer → Node) (b : Bool) (q : Peer) (x : Option Node) (y : Option Peer) → x ≡ option_map f y
    → cond b (Some (f q)) x ≡ option_map f (cond b (Some q) y)
option-case f true q x y e = refl
option-case f false q x y e = e

found-node : (f : Peer → Node) (g : List ℕ) (ps : List Peer) → ((q : Peer) → (f q).name ≡ q.name)
    → find (λ n. bytes_eq n.name g) (map f ps) ≡ option_map f (find (λ q. bytes_eq q.name g) ps)
found-node f g [] names = refl
found-node f g (q ∷ ps) names =
    ap (λ z. cond (bytes_eq z g) (Some (f q)) (find (λ n. bytes_eq n.name g) (map f ps))) (names q)
    ∙ option-case f (bytes_eq q.name g) q (find (λ n. bytes_eq n.name g) (map f ps)) (find (λ r. bytes_eq r.name g) ps)
    (found-node f g ps names)

-- the node of this name
pub node-named : (f : Peer → Node) (g : List ℕ) (ps : List Peer) (p : Peer) → ((q : Peer) → (f q).name ≡ q.name) → IsPeer ps g p
    → find (λ n. bytes_eq n.name g) (map f ps) ≡ Some (f p)
node-named f g ps p names is = found-node f g ps names ∙ ap (option_map f) is.found

number-case : (b : Bool) (n m : ℕ) → n ≡ m → cond (not b) (1 + n) 0 ≡ (if b then 0 else m + 1)
number-case true n m e = refl
number-case false n m e = omega (arith, e)

pub number-named : (f : Peer → Node) (g : List ℕ) (ps : List Peer) → ((q : Peer) → (f q).name ≡ q.name)
    → position_or_len (λ n. bytes_eq n.name g) (map f ps) ≡ peer_number g ps
number-named f g [] names = refl
number-named f g (q ∷ ps) names =
    ap (λ z. cond (not (bytes_eq z g)) (1 + position_or_len (λ n. bytes_eq n.name g) (map f ps)) 0) (names q)
    ∙ number-case (bytes_eq q.name g) (position_or_len (λ n. bytes_eq n.name g) (map f ps)) (peer_number g ps) (number-named f g ps names)
