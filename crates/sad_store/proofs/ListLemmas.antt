-- Lists of halves.
use Rattle.std.proofs.Common.{◌≡◌, ℕ, zero, suc, ◌+◌, ◌<◌, List, [], ◌∷◌, ◌++◌, length, map, take, drop, get_or, refl, ap, ◌∙◌, slice_set, arith}
use Rattle.sad_store.specs.declared.half.Half.{Half}
use Rattle.sad_store.specs.Halves.{changed, entries_of}

-- changes that keep the entry keep all entries
pub changed-entries : (f : Half → Half) → ((x : Half) → (f x).entry ≡ x.entry) → (i : ℕ) (xs : List Half)
    → entries_of (changed f i xs) ≡ entries_of xs
changed-entries f keeps i [] = refl
changed-entries f keeps zero (x ∷ xs) = ap (λ e. e ∷ entries_of xs) (keeps x)
changed-entries f keeps (suc i) (x ∷ xs) = ap (λ es. x.entry ∷ es) (changed-entries f keeps i xs)

-- a half that is written at its place, as code writes it
pub changed-at : (f : Half → Half) (xs : List Half) (i : ℕ) (d : Half) → slice_set xs i (f (get_or xs i d)) ≡ changed f i xs
changed-at f [] i d = refl
changed-at f (x ∷ xs) zero d = refl
changed-at f (x ∷ xs) (suc i) d = ap (λ zs. x ∷ zs) (changed-at f xs i d)

-- one half more of those that are changed from the front on
pub mapped-more : (f : Half → Half) (xs : List Half) (i : ℕ) (d : Half) → i < length xs →
    slice_set (map f (take i xs) ++ drop i xs) i (f (get_or (map f (take i xs) ++ drop i xs) i d)) ≡ map f (take (i + 1) xs)
    ++ drop (i + 1) xs
mapped-more f [] i d e = absurd (omega arith)
mapped-more f (x ∷ xs) zero d e = refl
mapped-more f (x ∷ xs) (suc i) d e = let next : suc i + 1 ≡ suc (i + 1) = omega arith in
    rw next (ap (λ zs. f x ∷ zs) (mapped-more f xs i d (omega arith)))

pub mapped-entries : (f : Half → Half) → ((x : Half) → (f x).entry ≡ x.entry) → (xs : List Half) → entries_of (map f xs) ≡ entries_of xs
mapped-entries f keeps [] = refl
mapped-entries f keeps (x ∷ xs) = ap (λ e. e ∷ entries_of (map f xs)) (keeps x) ∙ ap (λ es. x.entry ∷ es) (mapped-entries f keeps xs)
