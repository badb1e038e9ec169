-- Lists with one for each peer, by their numbers.
use Rattle.std.proofs.Common.{◌≡◌, ℕ, zero, suc, ◌+◌, ◌-◌, ◌<◌, ◌≤◌, Bool, true, false, cond, ◌==◌, not, nat_lt, List, [], ◌∷◌, ◌++◌, Some, None, length, map, slice_get, refl, subst, ap, arith, if◌then◌else◌}
use Rattle.std.proofs.lemmas.Grind.{common_steps}
use Rattle.std.specs.List.{position_or_len}
use Rattle.std.specs.Option.{option_map}
use Rattle.std.specs.Str.{bytes_eq}
use Rattle.ikeless_tree.specs.declared.command.Peer.{Peer}
use Rattle.hist_controller.specs.Law.{peer_number}
use Rattle.hist_controller.specs.Told.{peer_address}
use Rattle.ctl_core.specs.declared.peer.Station.{Station}
use Rattle.ctl_core.specs.declared.peer.Waiting.{Waiting}
use Rattle.ctl_core.specs.Core.{at, number_of, place_or, address_of}
use Rattle.ctl_core.specs.Drafts.{queued}
use Rattle.ctl_core.specs.Pass as passes
use Rattle.ctl_core.specs.Step.{set_ready}
use Rattle.ctl_law.specs.Stands.{numbered}

pub numbered-length : {A : Type 0} (f : ℕ → Peer → A) (i : ℕ) (ps : List Peer) → length (numbered f i ps) ≡ length ps
numbered-length f i [] = refl
numbered-length f i (p ∷ ps) = let ih = numbered-length f (i + 1) ps in grind (arith, ih)

pub numbered-same : {A : Type 0} (f g : ℕ → Peer → A) (i : ℕ) (ps : List Peer) → ((j : ℕ) (p : Peer) → i ≤ j → f j p ≡ g j p)
    → numbered f i ps ≡ numbered g i ps
numbered-same f g i [] e = refl
numbered-same f g i (p ∷ ps) e =
    let ih : numbered f (i + 1) ps ≡ numbered g (i + 1) ps = numbered-same f g (i + 1) ps (λ j q l. e j q (omega arith)) in
    let h : f i p ≡ g i p = e i p (omega arith) in
    rw (h, ih) refl

pub numbered-map : {A B : Type 0} (v : A → B) (f : ℕ → Peer → A) (i : ℕ) (ps : List Peer)
    → map v (numbered f i ps) ≡ numbered (λ j p. v (f j p)) i ps
numbered-map v f i [] = refl
numbered-map v f i (p ∷ ps) = ap (λ xs. v (f i p) ∷ xs) (numbered-map v f (i + 1) ps)

pub numbered-get : {A : Type 0} (f : ℕ → Peer → A) (n i k : ℕ) (ps : List Peer) → n ≡ i + k
    → slice_get (numbered f i ps) k ≡ option_map (f n) (slice_get ps k)
numbered-get f n i k [] e = refl
numbered-get f n i zero (p ∷ ps) e = let w : i ≡ n = omega arith in ap (λ j. Some (f j p)) w
numbered-get f n i (suc k) (p ∷ ps) e = numbered-get f n (i + 1) k ps (omega arith)

-- one of them changed
pub numbered-at : (u : Station → Station) (f g : ℕ → Peer → Station) (n i k : ℕ) (ps : List Peer) → n ≡ i + k
    → ((p : Peer) → u (f n p) ≡ g n p) → ((j : ℕ) (p : Peer) → (j == n) ≡ false → f j p ≡ g j p)
    → at k u (numbered f i ps) ≡ numbered g i ps
numbered-at u f g n i k [] e a b = refl
numbered-at u f g n i k (p ∷ ps) e a b = case (k == 0) refl (numbered-at u f g n (i + 1) (k - 1) ps)
  where
    case : (z : Bool) → (k == 0) ≡ z → (n ≡ i + 1 + (k - 1) → ((q : Peer) → u (f n q) ≡ g n q)
        → ((j : ℕ) (q : Peer) → (j == n) ≡ false → f j q ≡ g j q) → at (k - 1) u (numbered f (i + 1) ps) ≡ numbered g (i + 1) ps)
        → (if z then u (f i p) ∷ numbered f (i + 1) ps else f i p ∷ at (k - 1) u (numbered f (i + 1) ps)) ≡ g i p ∷ numbered g (i + 1) ps
    case true t ih =
        let w : n ≡ i = grind arith in
        let h : u (f i p) ≡ g i p = subst (λ m. u (f m p) ≡ g m p) w (a p) in
        let r : numbered f (i + 1) ps ≡ numbered g (i + 1) ps = numbered-same f g (i + 1) ps (λ j q l. b j q (grind arith)) in
        rw (h, r) refl
    case false t ih =
        let h : f i p ≡ g i p = b i p (grind arith) in
        let r : at (k - 1) u (numbered f (i + 1) ps) ≡ numbered g (i + 1) ps = ih (grind arith) a b in
        rw (h, r) refl

pub numbered-queued : (w : Waiting) (f g : ℕ → Peer → List Waiting) (n i k : ℕ) (ps : List Peer) → n ≡ i + k
    → ((p : Peer) → f n p ++ w ∷ [] ≡ g n p) → ((j : ℕ) (p : Peer) → (j == n) ≡ false → f j p ≡ g j p)
    → queued k w (numbered f i ps) ≡ numbered g i ps
numbered-queued w f g n i k [] e a b = refl
numbered-queued w f g n i k (p ∷ ps) e a b = case (k == 0) refl (numbered-queued w f g n (i + 1) (k - 1) ps)
  where
    case : (z : Bool) → (k == 0) ≡ z → (n ≡ i + 1 + (k - 1) → ((q : Peer) → f n q ++ w ∷ [] ≡ g n q)
        → ((j : ℕ) (q : Peer) → (j == n) ≡ false → f j q ≡ g j q) → queued (k - 1) w (numbered f (i + 1) ps) ≡ numbered g (i + 1) ps)
        → (if z then (f i p ++ w ∷ []) ∷ numbered f (i + 1) ps else f i p ∷ queued (k - 1) w (numbered f (i + 1) ps)) ≡ g i p
        ∷ numbered g (i + 1) ps
    case true t ih =
        let m : n ≡ i = grind arith in
        let h : f i p ++ w ∷ [] ≡ g i p = subst (λ z. f z p ++ w ∷ [] ≡ g z p) m (a p) in
        let r : numbered f (i + 1) ps ≡ numbered g (i + 1) ps = numbered-same f g (i + 1) ps (λ j q l. b j q (grind arith)) in
        rw (h, r) refl
    case false t ih =
        let h : f i p ≡ g i p = b i p (grind arith) in
        let r : queued (k - 1) w (numbered f (i + 1) ps) ≡ numbered g (i + 1) ps = ih (grind arith) a b in
        rw (h, r) refl

pub numbered-queues : (f : ℕ → Peer → Station) (q : ℕ → Peer → List Waiting) (i : ℕ) (ps : List Peer)
    → passes.with_queues (numbered f i ps) (numbered q i ps) ≡ numbered (λ j p. record (f j p) { queue = (f j p).queue ++ q j p }) i ps
numbered-queues f q i [] = refl
numbered-queues f q i (p ∷ ps) = ap (λ xs. record (f i p) { queue = (f i p).queue ++ q i p } ∷ xs) (numbered-queues f q (i + 1) ps)

-- ## names and addresses

pub numbered-address : (f : ℕ → Peer → Station) (i g : ℕ) (ps : List Peer) → ((j : ℕ) (p : Peer) → (f j p).address ≡ p.address)
    → address_of (numbered f i ps) g ≡ peer_address ps g
numbered-address f i g [] e = refl
numbered-address f i zero (p ∷ ps) e = e i p
numbered-address f i (suc g) (p ∷ ps) e =
    let z : (suc g == 0) ≡ false = grind arith in
    let n : suc g - 1 ≡ g = omega arith in
    rw (z, n) (numbered-address f (i + 1) g ps e)

number-low : (name : List ℕ) (ps : List Peer) → peer_number name ps ≤ length ps
number-low name [] = omega arith
number-low name (p ∷ ps) = let ih = number-low name ps in grind (arith, common_steps, ih)

first-place : (name : List ℕ) (f : ℕ → Peer → Station) (i : ℕ) (ps : List Peer) → ((j : ℕ) (p : Peer) → (f j p).name ≡ p.name)
    → position_or_len (λ s. bytes_eq s.name name) (numbered f i ps) ≡ peer_number name ps
first-place name f i [] e = refl
first-place name f i (p ∷ ps) e =
    let ih : position_or_len (λ (s : Station). bytes_eq s.name name) (numbered f (i + 1) ps) ≡ peer_number name ps =
    first-place name f (i + 1) ps e in
    let h : (f i p).name ≡ p.name = e i p in
    rw (h, ih) (case (bytes_eq p.name name))
  where
    case : (b : Bool) → cond (not b) (1 + peer_number name ps) 0 ≡ (if b then 0 else peer_number name ps + 1)
    case true = refl
    case false = omega arith

place-by : (k n : ℕ) → k ≤ n → place_or n (cond (nat_lt k n) (Some k) None) ≡ k
place-by k n l = case (nat_lt k n) refl
  where
    case : (b : Bool) → nat_lt k n ≡ b → place_or n (cond b (Some k) None) ≡ k
    case true t = refl
    case false t = grind arith

pub numbered-number : (name : List ℕ) (f : ℕ → Peer → Station) (ps : List Peer) → ((j : ℕ) (p : Peer) → (f j p).name ≡ p.name)
    → number_of name (numbered f 0 ps) ≡ peer_number name ps
numbered-number name f ps e =
    let a : position_or_len (λ (s : Station). bytes_eq s.name name) (numbered f 0 ps) ≡ peer_number name ps = first-place name f 0 ps e in
    let b : length (numbered f 0 ps) ≡ length ps = numbered-length f 0 ps in
    rw (a, b) (place-by (peer_number name ps) (length ps) (number-low name ps))

-- ## readiness

same-suc : (j g : ℕ) → (suc j == suc g) ≡ (j == g)
same-suc j g = case (j == g) refl
  where
    case : (b : Bool) → (j == g) ≡ b → (suc j == suc g) ≡ b
    case true t = grind arith
    case false t = grind arith

pub set-get : (g j : ℕ) (b : Bool) (xs : List Bool) → g < length xs
    → passes.is_read (set_ready g b xs) j ≡ (if j == g then b else passes.is_read xs j)
set-get g j b [] l = absurd (omega arith)
set-get zero zero b (x ∷ xs) l = refl
set-get zero (suc j) b (x ∷ xs) l = let z : (suc j == 0) ≡ false = grind arith in rw z refl
set-get (suc g) zero b (x ∷ xs) l =
    let z : (suc g == 0) ≡ false = grind arith in
    let y : (0 == suc g) ≡ false = grind arith in
    rw (z, y) refl
set-get (suc g) (suc j) b (x ∷ xs) l =
    let z : (suc g == 0) ≡ false = grind arith in
    let n : suc g - 1 ≡ g = omega arith in
    let q : (suc j == suc g) ≡ (j == g) = same-suc j g in
    let ih : passes.is_read (set_ready g b xs) j ≡ (if j == g then b else passes.is_read xs j) = set-get g j b xs (omega arith) in
    rw (z, n, q) ih
