-- Lists from which a front or an end has been dealt with.
use Rattle.std.proofs.Common.{◌≡◌, ◌<◌, ◌+◌, ℕ, zero, suc, Bool, true, false, List, [], ◌∷◌, ◌++◌, map, take, drop, length, slice_get, Option, Some, None, IfSome, refl, ap, sym, if◌then◌else◌, arith}
use Rattle.ip_packet.specs.View.{Packet}
use Rattle.sad_store.specs.declared.half.Half.{Half}
use Rattle.sad_store.specs.Halves.{changed, later_place, may_seal, newest_place}

-- one more is dealt with, by its place
pub mapped-next : {X Y : Type 0} → (f : X → Y) (xs : List X) (i : ℕ) (x : X) → slice_get xs i ≡ Some x → map f (take i xs) ++ f x
    ∷ [] ≡ map f (take (i + 1) xs)
mapped-next f [] zero x e = cc
mapped-next f [] (suc i) x e = cc
mapped-next f (y ∷ ys) zero x e = let same : y ≡ x = cc in ap (λ z. f z ∷ []) (sym same)
mapped-next f (y ∷ ys) (suc i) x e = let next : suc i + 1 ≡ suc (i + 1) = omega arith in
    rw next (ap (λ zs. f y ∷ zs) (mapped-next f ys i x e))

-- changed twice at one place
pub changed-twice : (f g h : Half → Half) → ((x : Half) → g (f x) ≡ h x) → (i : ℕ) (xs : List Half)
    → changed g i (changed f i xs) ≡ changed h i xs
changed-twice f g h one i [] = refl
changed-twice f g h one zero (x ∷ xs) = ap (λ y. y ∷ xs) (one x)
changed-twice f g h one (suc i) (x ∷ xs) = ap (λ ys. x ∷ ys) (changed-twice f g h one i xs)

pub changed-length : (f : Half → Half) (i : ℕ) (xs : List Half) → length (changed f i xs) ≡ length xs
changed-length f i [] = refl
changed-length f zero (x ∷ xs) = refl
changed-length f (suc i) (x ∷ xs) = ap suc (changed-length f i xs)

-- one more is changed, by its place
pub changed-next : (f : Half → Half) (i : ℕ) (xs : List Half) → i < length xs → changed f i (map f (take i xs) ++ drop i xs) ≡ map f
    (take (i + 1) xs) ++ drop (i + 1) xs
changed-next f i [] e = absurd (omega arith)
changed-next f zero (x ∷ xs) e = refl
changed-next f (suc i) (x ∷ xs) e = let next : suc i + 1 ≡ suc (i + 1) = omega arith in
    rw next (ap (λ ys. f x ∷ ys) (changed-next f i xs (omega arith)))

-- ---- places

later : (b : Bool) (i n : ℕ) → (if b then Some 0 else None) ≡ Some i → i < suc n
later true i n e = let zero-is : 0 ≡ i = cc in omega arith
later false i n e = cc

newest-by : (reqid : ℕ) (v : Packet) (x : Half) (n i : ℕ) (place : Option ℕ) → ((j : ℕ) → place ≡ Some j → j < n)
    → later_place reqid v x place ≡ Some i → i < suc n
newest-by reqid v x n i None within e = later (may_seal reqid v x.entry) i n e
newest-by reqid v x n i (Some j) within e = let below = within j refl in let next : j + 1 ≡ i = cc in omega arith

pub newest-within : (reqid : ℕ) (v : Packet) (xs : List Half) (i : ℕ) → newest_place reqid v xs ≡ Some i → i < length xs
newest-within reqid v [] i e = cc
newest-within reqid v (x ∷ xs) i e = newest-by reqid v x (length xs) i (newest_place reqid v xs) (λ j at. newest-within reqid v xs j at) e

pub if-some : (place : Option ℕ) (n : ℕ) → ((i : ℕ) → place ≡ Some i → i < n) → IfSome place (λ i. i < n)
if-some None n within = tt
if-some (Some i) n within = within i refl
