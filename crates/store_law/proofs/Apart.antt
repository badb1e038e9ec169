-- No two halves of the store have one name, after any calls.
use Rattle.std.proofs.Common.{◌≡◌, ℕ, Bool, true, false, List, [], ◌∷◌, Option, Some, None, map, position, refl, ap, ◌∙◌}
use Rattle.ikeless_tree.specs.declared.sad.SadEntry.{SadEntry}
use Rattle.sad_store.specs.declared.half.Half.{Half}
use Rattle.sad_store.specs.Halves.{changed, entries_of, has_half_named, is_half_named, halves_without, hushed, look_at, mark_number, names_of, number_next, use_half, with_overflow, is_spi_taken, is_full}
use Rattle.sad_store.specs.Install.{install_fault}
use Rattle.sad_store.specs.Kept.{are_names_apart, IsKept, reqid_key, spi_key}
use Rattle.sad_store.proofs.ListLemmas.{changed-entries, mapped-entries}
use Rattle.sad_store.proofs.PlaceLemmas.{kept-end, kept-same, kept-without, none-there, removed-there, without-absent}
use Rattle.store_law.specs.Calls.{Call, Install, Remove, Next_number, Mark, Use, Look, Overflow, Session, installed, did, did_all}

-- the halves with the columns that are theirs
abbrev Kept : List Half → Type 0
Kept xs = IsKept xs (map spi_key (entries_of xs)) (map reqid_key (entries_of xs))

kept-of : (xs : List Half) → are_names_apart (names_of xs) ≡ true → Kept xs
kept-of xs apart = record { apart = apart; spis = refl; reqids = refl }

-- ---- one call

apart-installed : (e : SadEntry) (now : ℕ) (xs : List Half) (a b c : Bool) → has_half_named e.name xs ≡ a → is_spi_taken e xs ≡ b
    → is_full xs ≡ c →
    are_names_apart (names_of xs) ≡ true → are_names_apart (names_of (installed e now xs (install_fault e xs))) ≡ true
apart-installed e now xs true b c p q r apart = rw p apart
apart-installed e now xs false true c p q r apart = rw (p, q) apart
apart-installed e now xs false false true p q r apart = rw (p, q, r) apart
apart-installed e now xs false false false p q r apart =
    let kept = kept-end xs (map spi_key (entries_of xs)) (map reqid_key (entries_of xs)) now e (kept-of xs apart) p in
    rw (p, q, r) kept.apart

apart-removed : (name : List ℕ) (xs : List Half) (place : Option ℕ) → position (is_half_named name) xs ≡ place →
    are_names_apart (names_of xs) ≡ true → are_names_apart (names_of (halves_without name xs)) ≡ true
apart-removed name xs None p apart =
    ap (λ ys. are_names_apart (names_of ys)) (without-absent name xs (none-there (is_half_named name) xs p)) ∙ apart
apart-removed name xs (Some i) p apart =
    let kept = kept-without name xs (map spi_key (entries_of xs)) (map reqid_key (entries_of xs)) i (kept-of xs apart)
    (removed-there name xs i apart p) in
    kept.apart

apart-same : (xs ys : List Half) → entries_of ys ≡ entries_of xs → are_names_apart (names_of xs) ≡ true
    → are_names_apart (names_of ys) ≡ true
apart-same xs ys same apart = let kept = kept-same xs ys (map spi_key (entries_of xs)) (map reqid_key (entries_of xs)) same
    (kept-of xs apart) in kept.apart

apart-changed : (f : Half → Half) → ((x : Half) → (f x).entry ≡ x.entry) → (i : ℕ) (xs : List Half) → are_names_apart (names_of xs) ≡ true →
    are_names_apart (names_of (changed f i xs)) ≡ true
apart-changed f keeps i xs apart = apart-same xs (changed f i xs) (changed-entries f keeps i xs) apart

apart-after : (xs : List Half) (c : Call) → are_names_apart (names_of xs) ≡ true → are_names_apart (names_of (did xs c)) ≡ true
apart-after xs (Install e now) apart = apart-installed e now xs (has_half_named e.name xs) (is_spi_taken e xs) (is_full xs) refl refl refl
    apart
apart-after xs (Remove name) apart = apart-removed name xs (position (is_half_named name) xs) refl apart
apart-after xs (Next_number i) apart = apart-changed number_next (λ x. refl) i xs apart
apart-after xs (Mark i n) apart = apart-changed (mark_number n) (λ x. refl) i xs apart
apart-after xs (Use i size now) apart = apart-changed (use_half size now) (λ x. refl) i xs apart
apart-after xs (Look i now) apart = apart-changed (look_at now) (λ x. refl) i xs apart
apart-after xs (Overflow i) apart = apart-changed (with_overflow true) (λ x. refl) i xs apart
apart-after xs Session apart = apart-same xs (map hushed xs) (mapped-entries hushed (λ x. refl) xs) apart

-- ---- all calls

pub names-apart : (h : List Call) → are_names_apart (names_of (did_all h)) ≡ true
names-apart [] = refl
names-apart (c ∷ h) = apart-after (did_all h) c (names-apart h)
