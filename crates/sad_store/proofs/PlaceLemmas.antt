-- Where halves are found, and lists without one.
use Rattle.std.proofs.Common.{◌≡◌, ℕ, zero, suc, ◌+◌, ◌<◌, ◌≤◌, ◌==◌, map, take, get_or, not, ◌&&◌, ◌||◌, Bool, true, false, List, [], ◌∷◌, ◌++◌, length, cond, nat_lt, Option, Some, None, option_and_then, position, find, slice_get, is_some, refl, sym, ap, ◌∙◌, if◌then◌else◌, arith}
use Rattle.std.specs.List.{list_any, remove, position_or_len}
use Rattle.std.specs.Str.{bytes_eq}
use Rattle.std.specs.Option.{option_map}
use Rattle.ikeless_tree.specs.declared.entry.Direction.TheVariants.{Out}
use Rattle.spd_match.specs.Match.{holds_packet}
use Rattle.std.proofs.lemmas.Bool.Decides.{nat_tests}
use Rattle.std.proofs.lemmas.Grind.{common_steps}
use Rattle.std.proofs.lemmas.List.Folds.{find_at}
use Rattle.std.proofs.lemmas.Slice.Eq.{bytes_eq-Decides}
use Rattle.ip_packet.specs.View.{Packet}
use Rattle.ikeless_tree.specs.Half.{is_inbound}
use Rattle.ikeless_tree.specs.declared.sad.SadEntry.{SadEntry}
use Rattle.sad_store.specs.declared.half.Half.{Half}
use Rattle.sad_store.specs.Halves.{fresh, entries_of, has_half_named, is_half_named, is_half_of_spi, is_spi_taken, halves_without, names_of, may_seal, newer_half, later_place, newest_half, newest_place}
use Rattle.sad_store.specs.Kept.{are_names_apart, IsKept, reqid_key, spi_key}
use Rattle.sad_store.specs.Columns.{are_keys_apart, is_among, is_key, last_place, later}
use Rattle.sad_store.proofs.ColumnLemmas.{last-any, last-first}

-- ---- names

name-refl : (x : List ℕ) → bytes_eq x x ≡ true
name-refl x = (bytes_eq-Decides x x).1 refl

name-same : (x y : List ℕ) → bytes_eq x y ≡ true → x ≡ y
name-same x y e = (bytes_eq-Decides x y).0 e

-- ---- the first place

past : (xs : List Half) (i : ℕ) → length xs ≤ i → None ≡ slice_get xs i
past [] zero e = refl
past [] (suc i) e = refl
past (x ∷ xs) zero e = absurd (omega arith)
past (x ∷ xs) (suc i) e = past xs i (omega arith)

at_place : (xs : List Half) (n : ℕ) (b : Bool) → nat_lt n (length xs) ≡ b → option_and_then (slice_get xs) (cond b (Some n) None) ≡
    slice_get xs n
at_place xs n true e = refl
at_place xs n false e = past xs n (grind (arith, common_steps))

-- the element at the first place is the first one
pub found-there : (p : Half → Bool) (xs : List Half) → option_and_then (slice_get xs) (position p xs) ≡ find p xs
found-there p xs = at_place xs (position_or_len p xs) (nat_lt (position_or_len p xs) (length xs)) refl ∙ sym (find_at p xs)

any-at : (p : Half → Bool) (xs : List Half) → list_any p xs ≡ nat_lt (position_or_len p xs) (length xs)
any-at p [] = refl
any-at p (x ∷ xs) = let ih = any-at p xs in grind (arith, ih)

none-by : (b : Bool) (n : ℕ) → cond b (Some n) None ≡ None → b ≡ false
none-by true n e = cc
none-by false n e = refl

some-by : (b : Bool) (n i : ℕ) → cond b (Some n) None ≡ Some i → (b ≡ true) × (n ≡ i)
some-by true n i e = (refl, cc)
some-by false n i e = cc

pub none-there : (p : Half → Bool) (xs : List Half) → position p xs ≡ None → list_any p xs ≡ false
none-there p xs e = any-at p xs ∙ none-by (nat_lt (position_or_len p xs) (length xs)) (position_or_len p xs) e

pub some-within : (p : Half → Bool) (xs : List Half) (i : ℕ) → position p xs ≡ Some i → i < length xs
some-within p xs i e = let s = some-by (nat_lt (position_or_len p xs) (length xs)) (position_or_len p xs) i e in let t = s.0 in
    let is = s.1 in grind (arith, common_steps)

pub some-there : (p : Half → Bool) (xs : List Half) (i : ℕ) → position p xs ≡ Some i → (list_any p xs ≡ true) × (position_or_len p xs ≡ i)
some-there p xs i e = let s = some-by (nat_lt (position_or_len p xs) (length xs)) (position_or_len p xs) i e in (any-at p xs ∙ s.0, s.1)

-- ---- halves but one

or-parts : (a b : Bool) → (a || b) ≡ false → (a ≡ false) × (b ≡ false)
or-parts true b e = cc
or-parts false b e = (refl, e)

and-parts : (a b : Bool) → (a && b) ≡ true → (a ≡ true) × (b ≡ true)
and-parts true b e = (refl, e)
and-parts false b e = cc

not-true : (b : Bool) → not b ≡ true → b ≡ false
not-true true e = cc
not-true false e = refl

without-by : (name : List ℕ) (x : Half) (xs : List Half) (b : Bool) → bytes_eq x.entry.name name ≡ b → b ≡ false
    → halves_without name xs ≡ xs → halves_without name (x ∷ xs) ≡ x ∷ xs
without-by name x xs true own away ih = cc
without-by name x xs false own away ih = rw own (ap (λ ys. x ∷ ys) ih)

pub without-absent : (name : List ℕ) (xs : List Half) → has_half_named name xs ≡ false → halves_without name xs ≡ xs
without-absent name [] e = refl
without-absent name (x ∷ xs) e =
    let parts = or-parts (bytes_eq x.entry.name name) (has_half_named name xs) e in
    without-by name x xs (bytes_eq x.entry.name name) refl parts.0 (without-absent name xs parts.1)

-- the names of halves stand in a list of names as halves of these names do
names-any : (name : List ℕ) (xs : List Half) → list_any (λ y. bytes_eq y name) (names_of xs) ≡ has_half_named name xs
names-any name [] = refl
names-any name (x ∷ xs) = ap (λ b. bytes_eq x.entry.name name || b) (names-any name xs)

remove-next : (x : Half) (xs : List Half) (k : ℕ) → remove (x ∷ xs) (1 + k) ≡ x ∷ remove xs k
remove-next x xs k = let next : 1 + k ≡ suc k = omega arith in rw next refl

removed-by : (name : List ℕ) (x : Half) (xs : List Half) (b : Bool) → bytes_eq x.entry.name name ≡ b
    → list_any (λ y. bytes_eq y x.entry.name) (names_of xs) ≡ false →
    remove xs (position_or_len (is_half_named name) xs) ≡ halves_without name xs
    → remove (x ∷ xs) (position_or_len (is_half_named name) (x ∷ xs)) ≡ halves_without name (x ∷ xs)
removed-by name x xs true own away ih =
    let same : x.entry.name ≡ name = name-same x.entry.name name own in
    let gone : has_half_named name xs ≡ false = ap (λ n. has_half_named n xs) (sym same) ∙ (sym (names-any x.entry.name xs) ∙ away) in
    rw own (sym (without-absent name xs gone))
removed-by name x xs false own away ih = rw own (remove-next x xs (position_or_len (is_half_named name) xs) ∙ ap (λ ys. x ∷ ys) ih)

removed-first : (name : List ℕ) (xs : List Half) → are_names_apart (names_of xs) ≡ true
    → remove xs (position_or_len (is_half_named name) xs) ≡ halves_without name xs
removed-first name [] e = refl
removed-first name (x ∷ xs) e =
    let parts = and-parts (not (list_any (λ y. bytes_eq y x.entry.name) (names_of xs))) (are_names_apart (names_of xs)) e in
    removed-by name x xs (bytes_eq x.entry.name name) refl (not-true (list_any (λ y. bytes_eq y x.entry.name) (names_of xs)) parts.0)
    (removed-first name xs parts.1)

pub removed-there : (name : List ℕ) (xs : List Half) (i : ℕ) → are_names_apart (names_of xs) ≡ true
    → position (is_half_named name) xs ≡ Some i → remove xs i ≡ halves_without name xs
removed-there name xs i apart e = ap (remove xs) (sym (some-there (is_half_named name) xs i e).1) ∙ removed-first name xs apart

-- ---- what is kept

any-end : (p : List ℕ → Bool) (ns : List (List ℕ)) (n : List ℕ) → list_any p (ns ++ n ∷ []) ≡ (p n || list_any p ns)
any-end p [] n = refl
any-end p (m ∷ ns) n = let ih = any-end p ns n in grind (arith, ih)

name-back : (x y : List ℕ) (b c : Bool) → bytes_eq x y ≡ b → bytes_eq y x ≡ c → b ≡ c
name-back x y true c p q = let e : y ≡ x = sym (name-same x y p) in sym ((bytes_eq-Decides y x).1 e) ∙ q
name-back x y false true p q = let e : x ≡ y = sym (name-same y x q) in sym p ∙ (bytes_eq-Decides x y).1 e
name-back x y false false p q = refl

name-sym : (x y : List ℕ) → bytes_eq x y ≡ bytes_eq y x
name-sym x y = name-back x y (bytes_eq x y) (bytes_eq y x) refl refl

apart-end : (n : List ℕ) (ns : List (List ℕ)) → list_any (λ y. bytes_eq y n) ns ≡ false → are_names_apart ns ≡ true
    → are_names_apart (ns ++ n ∷ []) ≡ true
apart-end n [] new e = refl
apart-end n (m ∷ ns) new e =
    let fresh = or-parts (bytes_eq m n) (list_any (λ y. bytes_eq y n) ns) new in
    let parts = and-parts (not (list_any (λ y. bytes_eq y m) ns)) (are_names_apart ns) e in
    let end = any-end (λ y. bytes_eq y m) ns n in
    let ih = apart-end n ns fresh.1 parts.1 in
    let turned = name-sym n m in
    let own = fresh.0 in
    let away = not-true (list_any (λ y. bytes_eq y m) ns) parts.0 in
    let gone : list_any (λ y. bytes_eq y m) (ns ++ n ∷ []) ≡ false = end ∙ rw (turned, own, away) refl in
    rw gone ih

names-end : (xs : List Half) (x : Half) → names_of (xs ++ x ∷ []) ≡ names_of xs ++ x.entry.name ∷ []
names-end [] x = refl
names-end (y ∷ xs) x = ap (λ ns. y.entry.name ∷ ns) (names-end xs x)

keys-end : (f : SadEntry → Option ℕ) (xs : List Half) (x : Half) → map f (entries_of (xs ++ x ∷ [])) ≡ map f (entries_of xs) ++ f x.entry
    ∷ []
keys-end f [] x = refl
keys-end f (y ∷ xs) x = ap (λ ks. f y.entry ∷ ks) (keys-end f xs x)

pub kept-end : (xs : List Half) (spis reqids : List (Option ℕ)) (now : ℕ) (e : SadEntry) → IsKept xs spis reqids
    → has_half_named e.name xs ≡ false →
    IsKept (xs ++ fresh now e ∷ []) (spis ++ spi_key e ∷ []) (reqids ++ reqid_key e ∷ [])
kept-end xs spis reqids now e kept new = record {
  apart = ap are_names_apart (names-end xs (fresh now e)) ∙ apart-end e.name (names_of xs) (names-any e.name xs ∙ new) kept.apart;
  spis = ap (λ ks. ks ++ spi_key e ∷ []) kept.spis ∙ sym (keys-end spi_key xs (fresh now e));
  reqids = ap (λ ks. ks ++ reqid_key e ∷ []) kept.reqids ∙ sym (keys-end reqid_key xs (fresh now e));
}

names-entries : (xs : List Half) → names_of xs ≡ map (λ e. e.name) (entries_of xs)
names-entries [] = refl
names-entries (x ∷ xs) = ap (λ ns. x.entry.name ∷ ns) (names-entries xs)

pub kept-same : (xs ys : List Half) (spis reqids : List (Option ℕ)) → entries_of ys ≡ entries_of xs → IsKept xs spis reqids
    → IsKept ys spis reqids
kept-same xs ys spis reqids same kept = record {
  apart = ap are_names_apart (names-entries ys ∙ (ap (map (λ (e : SadEntry). e.name)) same ∙ sym (names-entries xs))) ∙ kept.apart;
  spis = kept.spis ∙ ap (map spi_key) (sym same);
  reqids = kept.reqids ∙ ap (map reqid_key) (sym same);
}

any-without : (n name : List ℕ) (xs : List Half) → has_half_named n xs ≡ false → has_half_named n (halves_without name xs) ≡ false
any-without n name [] e = refl
any-without n name (x ∷ xs) e =
    let parts = or-parts (bytes_eq x.entry.name n) (has_half_named n xs) e in
    any-by n name x xs (bytes_eq x.entry.name name) refl parts.0 (any-without n name xs parts.1)
  where
    any-by : (n name : List ℕ) (x : Half) (xs : List Half) (b : Bool) → bytes_eq x.entry.name name ≡ b → bytes_eq x.entry.name n ≡ false →
        has_half_named n (halves_without name xs) ≡ false → has_half_named n (halves_without name (x ∷ xs)) ≡ false
    any-by n name x xs true own away ih = rw own ih
    any-by n name x xs false own away ih = rw (own, away) ih

apart-without : (name : List ℕ) (xs : List Half) → are_names_apart (names_of xs) ≡ true
    → are_names_apart (names_of (halves_without name xs)) ≡ true
apart-without name [] e = refl
apart-without name (x ∷ xs) e =
    let parts = and-parts (not (list_any (λ y. bytes_eq y x.entry.name) (names_of xs))) (are_names_apart (names_of xs)) e in
    let away = not-true (list_any (λ y. bytes_eq y x.entry.name) (names_of xs)) parts.0 in
    let gone = any-without x.entry.name name xs (sym (names-any x.entry.name xs) ∙ away) in
    apart-by (bytes_eq x.entry.name name) refl (names-any x.entry.name (halves_without name xs) ∙ gone) (apart-without name xs parts.1)
  where
    apart-by : (b : Bool) → bytes_eq x.entry.name name ≡ b → list_any (λ y. bytes_eq y x.entry.name) (names_of (halves_without name xs)) ≡
        false →
        are_names_apart (names_of (halves_without name xs)) ≡ true → are_names_apart (names_of (halves_without name (x ∷ xs))) ≡ true
    apart-by true own away ih = rw own ih
    apart-by false own away ih = rw (own, away) ih

keys-without : (f : SadEntry → Option ℕ) (xs : List Half) (i : ℕ) → remove (map f (entries_of xs)) i ≡ map f (entries_of (remove xs i))
keys-without f [] zero = refl
keys-without f [] (suc i) = refl
keys-without f (x ∷ xs) zero = refl
keys-without f (x ∷ xs) (suc i) = ap (λ ks. f x.entry ∷ ks) (keys-without f xs i)

pub kept-without : (name : List ℕ) (xs : List Half) (spis reqids : List (Option ℕ)) (i : ℕ) → IsKept xs spis reqids
    → remove xs i ≡ halves_without name xs →
    IsKept (halves_without name xs) (remove spis i) (remove reqids i)
kept-without name xs spis reqids i kept e = record {
  apart = apart-without name xs kept.apart;
  spis = ap (λ ks. remove ks i) kept.spis ∙ (keys-without spi_key xs i ∙ ap (λ ys. map spi_key (entries_of ys)) e);
  reqids = ap (λ ks. remove ks i) kept.reqids ∙ (keys-without reqid_key xs i ∙ ap (λ ys. map reqid_key (entries_of ys)) e);
}

-- ---- the column of SPIs

key-is : (k spi : ℕ) (b : Bool) → is_key k (if b then Some spi else None) ≡ (b && (spi == k))
key-is k spi true = refl
key-is k spi false = refl

spi-prefix : (spi : ℕ) (xs : List Half) → position_or_len (is_key spi) (map spi_key (entries_of xs)) ≡ position_or_len (is_half_of_spi spi)
    xs
spi-prefix spi [] = refl
spi-prefix spi (x ∷ xs) =
    ap (λ b. cond (not b) (1 + position_or_len (is_key spi) (map spi_key (entries_of xs))) 0)
    (key-is spi x.entry.spi (is_inbound x.entry.name))
    ∙ ap (λ n. cond (not (is_half_of_spi spi x)) (1 + n) 0) (spi-prefix spi xs)

keys-length : (f : SadEntry → Option ℕ) (xs : List Half) → length (map f (entries_of xs)) ≡ length xs
keys-length f [] = refl
keys-length f (x ∷ xs) = let ih = keys-length f xs in omega (arith, ih)

spi-place : (spi : ℕ) (xs : List Half) → position (is_key spi) (map spi_key (entries_of xs)) ≡ position (is_half_of_spi spi) xs
spi-place spi xs =
    ap (λ n. cond (nat_lt n (length (map spi_key (entries_of xs)))) (Some n) None) (spi-prefix spi xs)
    ∙ ap (λ l. cond (nat_lt (position_or_len (is_half_of_spi spi) xs) l) (Some (position_or_len (is_half_of_spi spi) xs)) None)
    (keys-length spi_key xs)

spi-any : (spi : ℕ) (xs : List Half) → list_any (is_key spi) (map spi_key (entries_of xs)) ≡ list_any (is_half_of_spi spi) xs
spi-any spi [] = refl
spi-any spi (x ∷ xs) =
    ap (λ b. b || list_any (is_key spi) (map spi_key (entries_of xs))) (key-is spi x.entry.spi (is_inbound x.entry.name))
    ∙ ap (λ b. is_half_of_spi spi x || b) (spi-any spi xs)

-- where the half of an SPI is, and whether there is one, by the column
pub spi-there : (spi : ℕ) (xs : List Half) (keys : List (Option ℕ)) → keys ≡ map spi_key (entries_of xs) → are_keys_apart keys ≡ true →
    last_place spi keys ≡ position (is_half_of_spi spi) xs
spi-there spi xs keys is apart = last-first spi keys apart ∙ (ap (position (is_key spi)) is ∙ spi-place spi xs)

pub spi-taken : (spi : ℕ) (xs : List Half) (keys : List (Option ℕ)) → keys ≡ map spi_key (entries_of xs)
    → is_some (last_place spi keys) ≡ list_any (is_half_of_spi spi) xs
spi-taken spi xs keys is = last-any spi keys ∙ (ap (list_any (is_key spi)) is ∙ spi-any spi xs)

-- an SPI that no inbound half has stands nowhere in the column
pub spi-new : (e : SadEntry) (xs : List Half) (keys : List (Option ℕ)) → keys ≡ map spi_key (entries_of xs) → is_spi_taken e xs ≡ false
    → is_among (spi_key e) keys ≡ false
spi-new e xs keys is free = by (is_inbound e.name) free
  where
    by : (b : Bool) → (b && list_any (is_half_of_spi e.spi) xs) ≡ false → is_among (if b then Some e.spi else None) keys ≡ false
    by true free = ap (list_any (is_key e.spi)) is ∙ (spi-any e.spi xs ∙ free)
    by false free = refl

-- ---- the column of reqids

-- a half with another reqid doesn't seal
seal-by : (r own : ℕ) (b c : Bool) → is_key r (if b then None else Some own) ≡ false → (not b && ((own == r) && c)) ≡ false
seal-by r own true c e = refl
seal-by r own false c e = rw e refl

pub seal-other : (r : ℕ) (v : Packet) (xs : List Half) (i : ℕ) → i < length xs
    → option_map (is_key r) (slice_get (map reqid_key (entries_of xs)) i) ≡ Some false →
    option_map (λ x. may_seal r v x.entry) (slice_get xs i) ≡ Some false
seal-other r v [] i e other = absurd (omega arith)
seal-other r v (x ∷ xs) zero e other =
    ap Some (seal-by r x.entry.reqid (is_inbound x.entry.name) (holds_packet x.entry.selector Out v)
    (some-same (is_key r (reqid_key x.entry)) false other))
  where
    some-same : (a b : Bool) → Some a ≡ Some b → a ≡ b
    some-same a b e = cc
seal-other r v (x ∷ xs) (suc i) e other = seal-other r v xs i (omega arith) other

-- where no half has the reqid, none seals
seal-none : (r : ℕ) (v : Packet) (x : Half) → is_key r (reqid_key x.entry) ≡ false → may_seal r v x.entry ≡ false
seal-none r v x e = seal-by r x.entry.reqid (is_inbound x.entry.name) (holds_packet x.entry.selector Out v) e

none-then : (n : ℕ) (b : Bool) → cond b (Some n) None ≡ None → b ≡ false
none-then n true e = cc
none-then n false e = refl

none-later : (k : ℕ) (x place : Option ℕ) → later k x place ≡ None → (place ≡ None) × (is_key k x ≡ false)
none-later k x (Some i) e = cc
none-later k x None e = (refl, none-then 0 (is_key k x) e)

pub newest-none : (r : ℕ) (v : Packet) (xs : List Half) → last_place r (map reqid_key (entries_of xs)) ≡ None → newest_place r v xs ≡ None
newest-none r v [] e = refl
newest-none r v (x ∷ xs) e =
    let parts = none-later r (reqid_key x.entry) (last_place r (map reqid_key (entries_of xs))) e in
    let ih = newest-none r v xs parts.0 in
    let no = seal-none r v x parts.1 in
    rw (ih, no) refl

-- a last place is one later than among the rest, or the front where the rest has none
data Later (k : ℕ) (x place : Option ℕ) (p : ℕ) : Type 0 where
  Rest : (i : ℕ) → place ≡ Some i → p ≡ suc i → Later k x place p
  Front : place ≡ None → p ≡ 0 → Later k x place p

which-later : (k : ℕ) (x place : Option ℕ) (p : ℕ) → later k x place ≡ Some p → Later k x place p
which-later k x (Some i) p e = let q : i + 1 ≡ p = cc in Rest i refl (omega (arith, q))
which-later k x None p e = by (is_key k x) e
  where
    by : (b : Bool) → cond b (Some 0) None ≡ Some p → Later k x None p
    by true e = let q : 0 ≡ p = cc in Front refl (omega (arith, q))
    by false e = cc

within-rest : (r : ℕ) (v : Packet) (x : Half) (xs : List Half) (p i : ℕ) → p ≡ suc i → (i < length xs)
    × (newest_place r v xs ≡ newest_place r v (take (i + 1) xs)) →
    (p < length (x ∷ xs)) × (newest_place r v (x ∷ xs) ≡ newest_place r v (take (p + 1) (x ∷ xs)))
within-rest r v x xs p i next ih =
    let within = ih.0 in
    let one : p + 1 ≡ suc (i + 1) = omega (arith, next) in
    (omega (arith, next, within), rw one (ap (later_place r v x) ih.1))

within-front : (r : ℕ) (v : Packet) (x : Half) (xs : List Half) (p : ℕ) → p ≡ 0 → newest_place r v xs ≡ None →
    (p < length (x ∷ xs)) × (newest_place r v (x ∷ xs) ≡ newest_place r v (take (p + 1) (x ∷ xs)))
within-front r v x xs p front none =
    let one : p + 1 ≡ suc 0 = omega (arith, front) in
    (omega (arith, front), rw one (ap (later_place r v x) none))

-- no half after the last one with the reqid seals
newest-by : (r : ℕ) (v : Packet) (x : Half) (xs : List Half) (p : ℕ)
    → Later r (reqid_key x.entry) (last_place r (map reqid_key (entries_of xs))) p →
    ((i : ℕ) → last_place r (map reqid_key (entries_of xs)) ≡ Some i → (i < length xs)
    × (newest_place r v xs ≡ newest_place r v (take (i + 1) xs))) →
    (p < length (x ∷ xs)) × (newest_place r v (x ∷ xs) ≡ newest_place r v (take (p + 1) (x ∷ xs)))
newest-by r v x xs p (Rest i rest next) ih = within-rest r v x xs p i next (ih i rest)
newest-by r v x xs p (Front none front) ih = within-front r v x xs p front (newest-none r v xs none)

pub newest-within : (r : ℕ) (v : Packet) (xs : List Half) (p : ℕ) → last_place r (map reqid_key (entries_of xs)) ≡ Some p →
    (p < length xs) × (newest_place r v xs ≡ newest_place r v (take (p + 1) xs))
newest-within r v [] p e = cc
newest-within r v (x ∷ xs) p e =
    newest-by r v x xs p (which-later r (reqid_key x.entry) (last_place r (map reqid_key (entries_of xs))) p e)
    (λ i rest. newest-within r v xs i rest)

take-last : (xs : List Half) (i : ℕ) (d : Half) → i < length xs → take (suc i) xs ≡ take i xs ++ get_or xs i d ∷ []
take-last [] i d e = absurd (omega arith)
take-last (x ∷ xs) zero d e = refl
take-last (x ∷ xs) (suc i) d e = ap (λ ys. x ∷ ys) (take-last xs i d (omega arith))

seal-later : (r : ℕ) (v : Packet) (y : Half) (b : Bool) (place : Option ℕ) (n : ℕ) →
    later_place r v y (if b then Some n else place) ≡ (if b then Some (n + 1) else later_place r v y place)
seal-later r v y true place n = refl
seal-later r v y false place n = refl

newest-end : (r : ℕ) (v : Packet) (xs : List Half) (x : Half)
    → newest_place r v (xs ++ x ∷ []) ≡ (if may_seal r v x.entry then Some (length xs) else newest_place r v xs)
newest-end r v [] x = refl
newest-end r v (y ∷ xs) x =
    ap (later_place r v y) (newest-end r v xs x) ∙ (seal-later r v y (may_seal r v x.entry) (newest_place r v xs) (length xs)
    ∙ ap (λ n. if may_seal r v x.entry then Some n else later_place r v y (newest_place r v xs)) (omega arith))

length-take : (xs : List Half) (i : ℕ) → i < length xs → length (take i xs) ≡ i
length-take [] i e = absurd (omega arith)
length-take (x ∷ xs) zero e = refl
length-take (x ∷ xs) (suc i) e = let ih = length-take xs i (omega arith) in omega (arith, ih)

seals-there : (r : ℕ) (v : Packet) (xs : List Half) (i : ℕ) (d : Half) (b : Bool) → i < length xs
    → option_map (λ x. may_seal r v x.entry) (slice_get xs i) ≡ Some b →
    may_seal r v (get_or xs i d).entry ≡ b
seals-there r v [] i d b e is = absurd (omega arith)
seals-there r v (x ∷ xs) zero d b e is = cc
seals-there r v (x ∷ xs) (suc i) d b e is = seals-there r v xs i d b (omega arith) is

-- the newest place among the first halves, one more of which is looked at
newest-more : (r : ℕ) (v : Packet) (xs : List Half) (i : ℕ) (d : Half) (b : Bool) → i < length xs
    → option_map (λ x. may_seal r v x.entry) (slice_get xs i) ≡ Some b →
    newest_place r v (take (i + 1) xs) ≡ (if b then Some i else newest_place r v (take i xs))
newest-more r v xs i d b e is =
    let next : i + 1 ≡ suc i = omega arith in
    ap (λ n. newest_place r v (take n xs)) next
    ∙ (ap (newest_place r v) (take-last xs i d e)
    ∙ (newest-end r v (take i xs) (get_or xs i d)
    ∙ (ap (λ n. if may_seal r v (get_or xs i d).entry then Some n else newest_place r v (take i xs)) (length-take xs i e)
    ∙ ap (λ c. if c then Some i else newest_place r v (take i xs)) (seals-there r v xs i d b e is))))

first-of : (xs : List Half) (i : ℕ) → i < length xs → Half
first-of [] i e = absurd (omega arith)
first-of (x ∷ xs) i e = x

pub newest-back : (r : ℕ) (v : Packet) (xs : List Half) (i j : ℕ) (b : Bool) → j + 1 ≡ i → j < length xs
    → newest_place r v xs ≡ newest_place r v (take i xs) →
    option_map (λ x. may_seal r v x.entry) (slice_get xs j) ≡ Some b
    → newest_place r v xs ≡ (if b then Some j else newest_place r v (take j xs))
newest-back r v xs i j b next e rest is =
    rest ∙ (ap (λ n. newest_place r v (take n xs)) (sym next) ∙ newest-more r v xs j (first-of xs j e) b e is)

-- ---- the newest half

-- a place and what stands there
abbrev Agree : List Half → Option ℕ → Option Half → Type 0
Agree xs None None = Unit {0}
Agree xs None (Some y) = ⊥
Agree xs (Some i) None = ⊥
Agree xs (Some i) (Some y) = slice_get xs i ≡ Some y

agree-seal : (x : Half) (xs : List Half) (b : Bool) → Agree (x ∷ xs) (if b then Some 0 else None) (if b then Some x else None)
agree-seal x xs true = refl
agree-seal x xs false = tt

agree-step : (r : ℕ) (v : Packet) (x : Half) (xs : List Half) (place : Option ℕ) (half : Option Half) → Agree xs place half →
    Agree (x ∷ xs) (later_place r v x place) (newer_half r v x half)
agree-step r v x xs None None a = agree-seal x xs (may_seal r v x.entry)
agree-step r v x xs None (Some y) a = absurd a
agree-step r v x xs (Some i) None a = absurd a
agree-step r v x xs (Some i) (Some y) a = let next : i + 1 ≡ suc i = omega arith in ap (slice_get (x ∷ xs)) next ∙ a

agree : (r : ℕ) (v : Packet) (xs : List Half) → Agree xs (newest_place r v xs) (newest_half r v xs)
agree r v [] = tt
agree r v (x ∷ xs) = agree-step r v x xs (newest_place r v xs) (newest_half r v xs) (agree r v xs)

agree-there : (xs : List Half) (place : Option ℕ) (half : Option Half) → Agree xs place half → option_and_then (slice_get xs) place ≡ half
agree-there xs None None a = refl
agree-there xs None (Some y) a = absurd a
agree-there xs (Some i) None a = absurd a
agree-there xs (Some i) (Some y) a = a

-- the half at the newest place is the newest one
pub newest-there : (r : ℕ) (v : Packet) (xs : List Half) → option_and_then (slice_get xs) (newest_place r v xs) ≡ newest_half r v xs
newest-there r v xs = agree-there xs (newest_place r v xs) (newest_half r v xs) (agree r v xs)
