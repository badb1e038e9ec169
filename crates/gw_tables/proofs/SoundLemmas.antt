-- What a gateway keeps stays sound.
use Rattle.std.proofs.Common.{◌≡◌, ◌≤◌, ◌<◌, ◌+◌, ℕ, zero, suc, Bool, true, false, List, [], ◌∷◌, ◌++◌, map, length, nat_lt, Option, Some, None, slice_get, option_map, position, refl, ap, sym, length-append, ◌∙◌, subst, arith, if◌then◌else◌}
use Rattle.std.specs.Str.{bytes_eq}
use Rattle.std.proofs.lemmas.Bool.Decides.{nat_tests}
use Rattle.ikeless_tree.specs.declared.sad.SadEntry.{SadEntry}
use Rattle.ikeless_tree.specs.Check.{sad_fault, spd_fault}
use Rattle.sad_store.specs.declared.half.Half.{Half}
use Rattle.sad_store.specs.declared.fault.InstallFault.{InstallFault}
use Rattle.sad_store.specs.declared.fault.InstallFault.TheVariants as faults
use Rattle.sad_store.specs.Halves.{changed, entries_of, names_of, fresh, halves_without, has_half_named, is_half_named, hushed, look_at, send, take_number, with_overflow, is_name_taken, is_spi_taken, is_full}
use Rattle.sad_store.specs.Install.{install_fault}
use Rattle.sad_store.specs.Kept.{IsKept, are_names_apart, reqid_key, spi_key}
use Rattle.sad_store.proofs.PlaceLemmas.{kept-end, kept-same, kept-without, none-there, removed-there, without-absent}
use Rattle.sad_store.proofs.ListLemmas.{changed-entries, mapped-entries}
use Rattle.hist_gateway.specs.Places.{without_all}
use Rattle.gw_tables.specs.Kept.{Kept, with_halves}
use Rattle.gw_tables.specs.Sound.{AreHalves, IsHalf, IsSound}

-- ---- names apart

columns : (xs : List Half) → are_names_apart (names_of xs) ≡ true → IsKept xs (map spi_key (entries_of xs)) (map reqid_key (entries_of xs))
columns xs apart = record { apart = apart; spis = refl; reqids = refl }

pub apart-same : (xs ys : List Half) → entries_of ys ≡ entries_of xs → are_names_apart (names_of xs) ≡ true
    → are_names_apart (names_of ys) ≡ true
apart-same xs ys same apart = (kept-same xs ys (map spi_key (entries_of xs)) (map reqid_key (entries_of xs)) same (columns xs apart)).apart

pub apart-end : (xs : List Half) (now : ℕ) (e : SadEntry) → has_half_named e.name xs ≡ false → are_names_apart (names_of xs) ≡ true
    → are_names_apart (names_of (xs ++ fresh now e ∷ [])) ≡ true
apart-end xs now e new apart =
    (kept-end xs (map spi_key (entries_of xs)) (map reqid_key (entries_of xs)) now e (columns xs apart) new).apart

-- ---- how many

pub as-many : (xs ys : List Half) → entries_of ys ≡ entries_of xs → length ys ≡ length xs
as-many xs ys same = sym (entries-length ys) ∙ (ap length same ∙ entries-length xs)
  where
    entries-length : (xs : List Half) → length (entries_of xs) ≡ length xs
    entries-length [] = refl
    entries-length (x ∷ xs) = ap suc (entries-length xs)

pub fewer : (name : List ℕ) (xs : List Half) → length (halves_without name xs) ≤ length xs
fewer name [] = omega arith
fewer name (x ∷ xs) = by (bytes_eq x.entry.name name) refl (fewer name xs)
  where
    by : (b : Bool) → bytes_eq x.entry.name name ≡ b → length (halves_without name xs) ≤ length xs
        → length (halves_without name (x ∷ xs)) ≤ length (x ∷ xs)
    by true is ih = rw is (omega arith)
    by false is ih = rw is (omega arith)

-- ---- each half

pub halves-end : (xs : List Half) (x : Half) → AreHalves xs → IsHalf x → AreHalves (xs ++ x ∷ [])
halves-end [] x all one = (one, tt)
halves-end (y ∷ ys) x all one = (all.0, halves-end ys x all.1 one)

pub halves-mapped : (f : Half → Half) → ((x : Half) → IsHalf x → IsHalf (f x)) → (xs : List Half) → AreHalves xs → AreHalves (map f xs)
halves-mapped f keeps [] all = tt
halves-mapped f keeps (x ∷ xs) all = (keeps x all.0, halves-mapped f keeps xs all.1)

pub halves-changed : (f : Half → Half) (i : ℕ) (xs : List Half) → ((x : Half) → slice_get xs i ≡ Some x → IsHalf x → IsHalf (f x))
    → AreHalves xs → AreHalves (changed f i xs)
halves-changed f i [] keeps all = tt
halves-changed f zero (x ∷ xs) keeps all = (keeps x refl all.0, all.1)
halves-changed f (suc i) (x ∷ xs) keeps all = (all.0, halves-changed f i xs keeps all.1)

pub halves-left : (name : List ℕ) (xs : List Half) → AreHalves xs → AreHalves (halves_without name xs)
halves-left name [] all = tt
halves-left name (x ∷ xs) all = by (bytes_eq x.entry.name name) refl (halves-left name xs all.1)
  where
    by : (b : Bool) → bytes_eq x.entry.name name ≡ b → AreHalves (halves_without name xs) → AreHalves (halves_without name (x ∷ xs))
    by true is ih = rw is ih
    by false is ih = rw is (all.0, ih)

pub apart-left : (name : List ℕ) (xs : List Half) → are_names_apart (names_of xs) ≡ true
    → are_names_apart (names_of (halves_without name xs)) ≡ true
apart-left name xs apart = by (position (is_half_named name) xs) refl
  where
    by : (place : Option ℕ) → position (is_half_named name) xs ≡ place → are_names_apart (names_of (halves_without name xs)) ≡ true
    by None is = ap (λ ys. are_names_apart (names_of ys)) (without-absent name xs (none-there (is_half_named name) xs is)) ∙ apart
    by (Some i) is = (kept-without name xs (map spi_key (entries_of xs)) (map reqid_key (entries_of xs)) i (columns xs apart)
        (removed-there name xs i apart is)).apart

pub half-at : (xs : List Half) (i : ℕ) (x : Half) → slice_get xs i ≡ Some x → AreHalves xs → IsHalf x
half-at [] zero x is all = cc
half-at [] (suc i) x is all = cc
half-at (y ∷ ys) zero x is all = let same : y ≡ x = cc in subst IsHalf same all.0
half-at (y ∷ ys) (suc i) x is all = half-at ys i x is all.1

-- ---- a half that is installed

passed : (b : Bool) (fault : InstallFault) (rest : Option InstallFault) → (if b then Some fault else rest) ≡ None → (b ≡ false)
    × (rest ≡ None)
passed true fault rest e = cc
passed false fault rest e = (refl, e)

pub free-name : (e : SadEntry) (xs : List Half) → install_fault e xs ≡ None → has_half_named e.name xs ≡ false
free-name e xs none = (passed (is_name_taken e xs) (faults.NameTaken e) _ none).0

pub free-room : (e : SadEntry) (xs : List Half) → install_fault e xs ≡ None → length xs < 4096
free-room e xs none =
    let a = passed (is_name_taken e xs) (faults.NameTaken e) _ none in
    let b = passed (is_spi_taken e xs) (faults.SpiTaken e) _ a.1 in
    let c = (passed (is_full xs) (faults.Full e) _ b.1).0 in
    grind (arith, nat_tests)

-- ---- the whole

-- other halves with the same entries
sound-by : {k : Kept} → (ys : List Half) → entries_of ys ≡ entries_of k.halves → AreHalves ys → IsSound k → IsSound (with_halves ys k)
sound-by {k} ys same all sound =
    let many = as-many k.halves ys same in
    let few = sound.few in
    record {
      policies = sound.policies;
      halves = all;
      apart = apart-same k.halves ys same sound.apart;
      few = omega arith;
      bad_spis = sound.bad_spis;
    }

pub sound-told : {k : Kept} → (i : ℕ) (ys : List Half) → ys ≡ changed (with_overflow true) i k.halves → IsSound k
    → IsSound (with_halves ys k)
sound-told {k} i ys is sound =
    sound-by ys (ap entries_of is ∙ changed-entries (with_overflow true) (λ x. refl) i k.halves)
    (subst AreHalves (sym is) (halves-changed (with_overflow true) i k.halves (λ x at one. record {
      entry = one.entry;
      window = one.window;
      sent = one.sent;
    }) sound.halves)) sound

pub sound-sent : {k : Kept} → (now size i : ℕ) (ys : List Half) → ys ≡ changed (λ y. look_at now (send now size y)) i k.halves →
    option_map (λ x. nat_lt x.sent 4294967295) (slice_get k.halves i) ≡ Some true → IsSound k → IsSound (with_halves ys k)
sound-sent {k} now size i ys is last sound =
    let f : Half → Half = λ y. look_at now (send now size y) in
    sound-by ys (ap entries_of is ∙ changed-entries f (λ x. refl) i k.halves)
    (subst AreHalves (sym is)
    (halves-changed f i k.halves (λ x at one. record {
      entry = one.entry;
      window = one.window;
      sent =
          below x (ap (option_map (λ x. nat_lt x.sent 4294967295)) (sym at) ∙ last);
    }) sound.halves)) sound
  where
    below : (x : Half) → Some (nat_lt x.sent 4294967295) ≡ Some true → x.sent + 1 < 4294967296
    below x e = let f : nat_lt x.sent 4294967295 ≡ true = cc in grind (arith, nat_tests)

pub sound-taken : {k : Kept} → (now size n i : ℕ) (ys : List Half) → ys ≡ changed (λ y. look_at now (take_number now size n y)) i k.halves
    → IsSound k → IsSound (with_halves ys k)
sound-taken {k} now size n i ys is sound =
    let f : Half → Half = λ y. look_at now (take_number now size n y) in
    sound-by ys (ap entries_of is ∙ changed-entries f (λ x. refl) i k.halves)
    (subst AreHalves (sym is) (halves-changed f i k.halves (λ x at one. record { entry = one.entry; window = one.window; sent = one.sent })
    sound.halves)) sound

pub sound-looked : {k : Kept} → (now : ℕ) (ys : List Half) → ys ≡ map (look_at now) k.halves → IsSound k → IsSound (with_halves ys k)
sound-looked {k} now ys is sound =
    sound-by ys (ap entries_of is ∙ mapped-entries (look_at now) (λ x. refl) k.halves)
    (subst AreHalves (sym is) (halves-mapped (look_at now) (λ x one. record { entry = one.entry; window = one.window; sent = one.sent })
    k.halves sound.halves)) sound

pub sound-hushed : {k : Kept} → (ys : List Half) → ys ≡ map hushed k.halves → IsSound k → IsSound (with_halves ys k)
sound-hushed {k} ys is sound =
    sound-by ys (ap entries_of is ∙ mapped-entries hushed (λ x. refl) k.halves)
    (subst AreHalves (sym is) (halves-mapped hushed (λ x one. record { entry = one.entry; window = one.window; sent = one.sent }) k.halves
    sound.halves)) sound

pub sound-removed : {k : Kept} → (name : List ℕ) (ys : List Half) → ys ≡ halves_without name k.halves → IsSound k
    → IsSound (with_halves ys k)
sound-removed {k} name ys is sound =
    let less = fewer name k.halves in
    let many = ap length is in
    let few = sound.few in
    record {
      policies = sound.policies;
      halves = subst AreHalves (sym is) (halves-left name k.halves sound.halves);
      apart = ap (λ zs. are_names_apart (names_of zs)) is ∙ apart-left name k.halves sound.apart;
      few = omega arith;
      bad_spis = sound.bad_spis;
    }

pub sound-removed-all : {k : Kept} → (names : List (List ℕ)) (ys : List Half) → ys ≡ without_all names k.halves → IsSound k
    → IsSound (with_halves ys k)
sound-removed-all {k} [] ys is sound = subst (λ zs. IsSound (with_halves zs k)) (sym is) sound
sound-removed-all {k} (name ∷ names) ys is sound = sound-removed-all {k = with_halves (halves_without name k.halves) k} names ys is
    (sound-removed name (halves_without name k.halves) refl sound)

pub sound-installed : {k : Kept} → (now : ℕ) (e : SadEntry) (ys : List Half) → ys ≡ k.halves ++ fresh now e ∷ [] → sad_fault e ≡ None
    → install_fault e k.halves ≡ None → IsSound k →
    IsSound (with_halves ys k)
sound-installed {k} now e ys is sane free sound =
    let room = free-room e k.halves free in
    let many = ap length is ∙ length-append k.halves (fresh now e ∷ []) in
    record {
      policies = sound.policies;
      halves = subst AreHalves (sym is)
          (halves-end k.halves (fresh now e) sound.halves (record { entry = sane; window = refl; sent = omega arith }));
      apart = ap (λ zs. are_names_apart (names_of zs)) is ∙ apart-end k.halves now e (free-name e k.halves free) sound.apart;
      few = omega arith;
      bad_spis = sound.bad_spis;
    }

-- what no fact is about may change
pub sound-else : {k : Kept} → (acquires : List (List ℕ)) (clock : ℕ) → IsSound k → IsSound (record k { acquires = acquires; clock = clock })
sound-else acquires clock sound = record {
  policies = sound.policies;
  halves = sound.halves;
  apart = sound.apart;
  few = sound.few;
  bad_spis = sound.bad_spis;
}

pub sound-spis : {k : Kept} → (spis : List ℕ) → spis ≡ [] → IsSound k → IsSound (record k { bad_spis = spis })
sound-spis spis none sound = record {
  policies = sound.policies;
  halves = sound.halves;
  apart = sound.apart;
  few = sound.few;
  bad_spis =
      subst (λ (xs : List ℕ). length xs ≤ 64) (sym none) (omega arith);
}

no-policies : spd_fault [] ≡ None
unfolding spd_fault
no-policies = refl

pub sound-empty : (k : Kept) → k.spd ≡ [] → k.halves ≡ [] → k.bad_spis ≡ [] → IsSound k
sound-empty k spd halves spis = record {
  policies = ap spd_fault spd ∙ no-policies;
  halves = subst AreHalves (sym halves) tt;
  apart = ap (λ xs. are_names_apart (names_of xs)) halves;
  few = subst (λ (xs : List Half). length xs ≤ 4096) (sym halves) (omega arith);
  bad_spis = subst (λ (xs : List ℕ). length xs ≤ 64) (sym spis) (omega arith);
}
