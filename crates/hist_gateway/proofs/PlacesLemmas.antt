-- What acts make of halves, by their places: no two halves have one name.
use Rattle.std.proofs.Common.{◌≡◌, ℕ, zero, suc, Bool, true, false, not, ◌&&◌, ◌||◌, List, [], ◌∷◌, Option, Some, None, map, refl, sym, ap, ◌∙◌, subst, if◌then◌else◌}
use Rattle.std.proofs.lemmas.Bool.{or_parts}
use Rattle.std.specs.Prelude.{slice_get}
use Rattle.std.specs.List.{list_any}
use Rattle.std.specs.Str.{bytes_eq}
use Rattle.ikeless_tree.specs.declared.sad.Limits.{Limits}
use Rattle.ikeless_tree.specs.declared.sad.SadEntry.{SadEntry}
use Rattle.ikeless_tree.specs.declared.entry.Selector.{Selector}
use Rattle.ikeless_tree.specs.declared.order.Notice.TheVariants as notices
use Rattle.esp_frame.specs.Esp.{spi_of}
use Rattle.life_count.specs.Lifetime.{with_told}
use Rattle.sad_store.specs.declared.half.Half.{Half}
use Rattle.sad_store.specs.Halves.{changed, entries_of, names_of, send, take_number, with_life, with_overflow}
use Rattle.sad_store.specs.Kept.{are_names_apart}
use Rattle.hist_halves.specs.Sealed.{by_spi, esp_of, number_from}
use Rattle.hist_halves.specs.Halves.{number_if}
use Rattle.hist_gateway.specs.Uses.{octets_in}
use Rattle.hist_gateway.specs.State.{note, sent_under, given_under, opened_under, take_if}
use Rattle.hist_gateway.specs.Places.{under, softly_told}
use Rattle.hist_gateway.proofs.KeepsLemmas.{same-refl, same-sym}

pub map-as : (f g : Half → Half) → ((x : Half) → f x ≡ g x) → (xs : List Half) → map f xs ≡ map g xs
map-as f g same [] = refl
map-as f g same (x ∷ xs) = let ih = map-as f g same xs in let s = same x in cc

pub map-own : (f : Half → Half) → ((x : Half) → f x ≡ x) → (xs : List Half) → map f xs ≡ xs
map-own f same [] = refl
map-own f same (x ∷ xs) = let ih = map-own f same xs in let s = same x in cc

pub apart-parts : (a b : Bool) → (not a && b) ≡ true → (a ≡ false) × (b ≡ true)
apart-parts true b p = let c : false ≡ true = p in (cc, cc)
apart-parts false true p = (refl, refl)
apart-parts false false p = let c : false ≡ true = p in (cc, cc)

pub away : (name : List ℕ) (f : Half → Half) (ys : List Half) → list_any (λ z. bytes_eq z name) (names_of ys) ≡ false
    → map (under name f) ys ≡ ys
away name f [] p = refl
away name f (y ∷ ys) p =
    let r = or_parts (bytes_eq y.entry.name name) (list_any (λ z. bytes_eq z name) (names_of ys)) p in
    let s : bytes_eq name y.entry.name ≡ false = same-sym name y.entry.name ∙ r.0 in
    let ih = away name f ys r.1 in
    rw (s, ih) refl

other : (name : List ℕ) (ys : List Half) (i : ℕ) (x : Half) → list_any (λ z. bytes_eq z name) (names_of ys) ≡ false
    → slice_get ys i ≡ Some x → bytes_eq x.entry.name name ≡ false
other name [] i x p q = let c : None ≡ Some x = q in cc
other name (y ∷ ys) zero x p q =
    let r = or_parts (bytes_eq y.entry.name name) (list_any (λ z. bytes_eq z name) (names_of ys)) p in
    let s : Some y ≡ Some x = q in
    let e : y ≡ x = cc in
    subst (λ z. bytes_eq z.entry.name name ≡ false) e r.0
other name (y ∷ ys) (suc i) x p q =
    let r = or_parts (bytes_eq y.entry.name name) (list_any (λ z. bytes_eq z name) (names_of ys)) p in
    other name ys i x r.1 q

pub placed : (f : Half → Half) (xs : List Half) (i : ℕ) (x : Half) → are_names_apart (names_of xs) ≡ true → slice_get xs i ≡ Some x
    → map (under x.entry.name f) xs ≡ changed f i xs
placed f [] i x a q = refl
placed f (y ∷ ys) zero x a q =
    let r = apart-parts (list_any (λ z. bytes_eq z y.entry.name) (names_of ys)) (are_names_apart (names_of ys)) a in
    let s : Some y ≡ Some x = q in
    let e : y ≡ x = cc in
    subst (λ z. map (under z.entry.name f) (y ∷ ys) ≡ f y ∷ ys) e (rw (same-refl y.entry.name, away y.entry.name f ys r.0) refl)
placed f (y ∷ ys) (suc i) x a q =
    let r = apart-parts (list_any (λ z. bytes_eq z y.entry.name) (names_of ys)) (are_names_apart (names_of ys)) a in
    let n = other y.entry.name ys i x r.0 q in
    let ih = placed f ys i x r.1 q in
    rw (n, ih) refl

-- ---- uses

pub sent-at : (now size i : ℕ) (x : Half) (xs : List Half) → are_names_apart (names_of xs) ≡ true → slice_get xs i ≡ Some x →
    map (sent_under x.entry.name now size) xs ≡ changed (send now size) i xs
sent-at now size i x xs a q = placed (send now size) xs i x a q

pub given-at : (now size n i : ℕ) (x : Half) (xs : List Half) → are_names_apart (names_of xs) ≡ true → slice_get xs i ≡ Some x →
    map (given_under x.entry.name now size n) xs ≡ changed (take_number now size n) i xs
given-at now size n i x xs a q = placed (take_number now size n) xs i x a q

pub changed-as : (f k : Half → Half) (xs : List Half) (i : ℕ) (x : Half) → slice_get xs i ≡ Some x → f x ≡ k x
    → changed f i xs ≡ changed k i xs
changed-as f k [] i x q e = refl
changed-as f k (y ∷ ys) zero x q e =
    let s : Some y ≡ Some x = q in
    let t : y ≡ x = cc in
    ap (λ z. z ∷ ys) (ap f t ∙ (e ∙ ap k (sym t)))
changed-as f k (y ∷ ys) (suc i) x q e = ap (λ z. y ∷ z) (changed-as f k ys i x q e)

-- the half takes the number that this entry finds, after the numbers that it took
abbrev took : List ℕ → ℕ → SadEntry → Half → Half
took o now e x = take_number now (octets_in (Some o)) (number_from e x.window.top (esp_of o)) x

opened-by-name : (o : List ℕ) (now : ℕ) (e : SadEntry) (x : Half) (b : Bool) → bytes_eq e.name x.entry.name ≡ b →
    take_if now (octets_in (Some o)) (number_if x.entry.name x.window.top (esp_of o) (Some e)) x ≡ under e.name (took o now e) x
opened-by-name o now e x true p = rw p refl
opened-by-name o now e x false p = rw p refl

opened-as : (o : List ℕ) (now : ℕ) (e : SadEntry) (found : Option SadEntry) (x : Half) → found ≡ Some e →
    take_if now (octets_in (Some o)) (number_if x.entry.name x.window.top (esp_of o) found) x ≡ under e.name (took o now e) x
opened-as o now e found x p = rw p (opened-by-name o now e x (bytes_eq e.name x.entry.name) refl)

pub opened-at : (o : List ℕ) (now i : ℕ) (x : Half) (xs : List Half) → are_names_apart (names_of xs) ≡ true → slice_get xs i ≡ Some x →
    by_spi (spi_of (esp_of o)) (entries_of xs) ≡ Some x.entry →
    map (opened_under (entries_of xs) (Some o) now) xs ≡ changed
    (take_number now (octets_in (Some o)) (number_from x.entry x.window.top (esp_of o))) i xs
opened-at o now i x xs a q found =
    map-as (opened_under (entries_of xs) (Some o) now) (under x.entry.name (took o now x.entry))
    (λ z. opened-as o now x.entry (by_spi (spi_of (esp_of o)) (entries_of xs)) z found) xs
    ∙ (placed (took o now x.entry) xs i x a q
    ∙ changed-as (took o now x.entry) (take_number now (octets_in (Some o)) (number_from x.entry x.window.top (esp_of o))) xs i x q refl)

-- ---- notices

overflow-as : (x : Half) (b : Bool) → with_overflow (b || x.overflow) (with_life (with_told x.life.is_told x.life) x) ≡
    (if b then with_overflow true x else x)
overflow-as x true = refl
overflow-as x false = refl

pub overflow-at : (i : ℕ) (x : Half) (xs : List Half) → are_names_apart (names_of xs) ≡ true → slice_get xs i ≡ Some x →
    map (note (notices.SeqOverflow x.entry.name)) xs ≡ changed (with_overflow true) i xs
overflow-at i x xs a q =
    map-as (note (notices.SeqOverflow x.entry.name)) (under x.entry.name (with_overflow true))
    (λ z. overflow-as z (bytes_eq x.entry.name z.entry.name)) xs
    ∙ placed (with_overflow true) xs i x a q

pub soft-as : (x : Half) (b : Bool) → with_overflow x.overflow (with_life (with_told (b || x.life.is_told) x.life) x) ≡
    (if b then softly_told x else x)
soft-as x true = refl
soft-as x false = refl

pub soft-at : (counts : Limits) (i : ℕ) (x : Half) (xs : List Half) → are_names_apart (names_of xs) ≡ true → slice_get xs i ≡ Some x →
    map (note (notices.Expire x.entry.name true counts)) xs ≡ changed softly_told i xs
soft-at counts i x xs a q =
    map-as (note (notices.Expire x.entry.name true counts)) (under x.entry.name softly_told)
    (λ z. soft-as z (bytes_eq x.entry.name z.entry.name)) xs
    ∙ placed softly_told xs i x a q

pub hard-at : (name : List ℕ) (counts : Limits) (xs : List Half) → map (note (notices.Expire name false counts)) xs ≡ xs
hard-at name counts xs = map-own (note (notices.Expire name false counts)) (λ z. refl) xs

pub acquire-at : (name : List ℕ) (flow : Selector) (xs : List Half) → map (note (notices.Acquire name flow)) xs ≡ xs
acquire-at name flow xs = map-own (note (notices.Acquire name flow)) (λ z. refl) xs

pub bad-spi-at : (spi : ℕ) (xs : List Half) → map (note (notices.BadSpi spi)) xs ≡ xs
bad-spi-at spi xs = map-own (note (notices.BadSpi spi)) (λ z. refl) xs
