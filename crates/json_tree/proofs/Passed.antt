-- What is known of policies and halves in which no fault was found.
use Rattle.std.proofs.Common.{◌≡◌, ℕ, Bool, true, false, ◌&&◌, ◌++◌, if◌then◌else◌, nat_le, List, [], ◌∷◌, length, Option, Some, None, refl}
use Rattle.std.specs.List.{list_all}
use Rattle.std.proofs.lemmas.Bool.{and_from, and_parts, not-false, or_left, or_cases}
use Rattle.std.proofs.lemmas.List.Folds.{list_all-append}
use Rattle.std.proofs.lemmas.List.{take-append-drop}
use Rattle.std.proofs.lemmas.Slice.Eq.{bytes_eq-Decides}
use Rattle.std.specs.Str.{bytes_eq}
use Rattle.std.proofs.Common.{codes, ◌==◌, ◌∙◌, take, drop, inl, inr}
use Rattle.ikeless_tree.specs.declared.sad.SadEntry.{SadEntry}
use Rattle.ikeless_tree.specs.declared.sad.SadRow.{SadRow}
use Rattle.json_tree.specs.SadEntryWritten.{is_row_named, ArePassed}
use Rattle.ikeless_tree.specs.Check.{is_sad_name, is_serial, has_front, is_word_octet, sad_fault, is_path_octet, is_spd_name, entry_fault, entries_fault, first_of, spd_fault}
use Rattle.ikeless_tree.specs.declared.fault.TreeFault.{TreeFault}
use Rattle.ikeless_tree.specs.declared.entry.SpdEntry.{SpdEntry}
use Rattle.json_values.specs.Written.{is_named_well}

pub no_fault : (b : Bool) (x : TreeFault) (rest : Option TreeFault) → (if b then Some x else rest) ≡ None → (b ≡ false) × (rest ≡ None)
no_fault true x rest h = absurd (let e : ⊥ = cc in e)
no_fault false x rest h = (refl, h)

pub first_none : (a b : Option TreeFault) → first_of a b ≡ None → (a ≡ None) × (b ≡ None)
first_none None b h = (refl, h)
first_none (Some x) b h = absurd (let e : ⊥ = cc in e)

third : (a b c : Bool) → (a && b && c) ≡ true → c ≡ true
third true true c h = h
third true false c h = cc
third false b c h = cc

pub path_octets : (name : List ℕ) → is_spd_name name ≡ true → list_all is_path_octet name ≡ true
path_octets name h = third (nat_le 1 (length name)) (nat_le (length name) 64) (list_all is_path_octet name) h

named : (before : List SpdEntry) (e : SpdEntry) → entry_fault before e ≡ None → is_spd_name e.name ≡ true
unfolding entry_fault
named before e h = not-false _ (no_fault _ _ _ (no_fault _ _ _ h).1).0

all_named : (before es : List SpdEntry) → entries_fault before es ≡ None → list_all is_named_well es ≡ true
all_named before [] h = refl
all_named before (e ∷ es) h =
    let parts = first_none (entry_fault before e) (entries_fault (before ++ e ∷ []) es) h in
    and_from _ _ (named before e parts.0) (all_named (before ++ e ∷ []) es parts.1)

pub passed_names : (es : List SpdEntry) → spd_fault es ≡ None → list_all is_named_well es ≡ true
unfolding spd_fault
passed_names es h = all_named [] es (no_fault _ _ _ h).1

pub passed_name : (e : SpdEntry) → spd_fault (e ∷ []) ≡ None → is_spd_name e.name ≡ true
passed_name e h = (and_parts (is_spd_name e.name) true (passed_names (e ∷ []) h)).0

pub passed_half : (e : SadEntry) → sad_fault e ≡ None → is_sad_name e.name ≡ true
unfolding sad_fault
passed_half e h = not-false _ (no_fault _ _ _ h).0

pub passed_rows : (rs : List SadRow) → ArePassed rs → list_all is_row_named rs ≡ true
passed_rows [] h = refl
passed_rows (r ∷ rs) h = and_from _ _ (passed_half r.entry h.0) (passed_rows rs h.1)

words_paths : (t : List ℕ) → list_all is_word_octet t ≡ true → list_all is_path_octet t ≡ true
words_paths [] h = refl
words_paths (b ∷ bs) h =
    let parts = and_parts (is_word_octet b) (list_all is_word_octet bs) h in
    and_from _ _ (or_left (is_word_octet b) (b == 47) parts.0) (words_paths bs parts.1)

-- a front of path octets, and words behind it
front_octets : (front name : List ℕ) → list_all is_path_octet front ≡ true → has_front front name ≡ true
    → list_all is_path_octet name ≡ true
front_octets front name plain h =
    let n : ℕ = length front in
    let long = and_parts (nat_le n (length name)) (bytes_eq (take n name) front && is_serial (drop n name)) h in
    let parts = and_parts (bytes_eq (take n name) front) (is_serial (drop n name)) long.1 in
    let same : take n name ≡ front = (bytes_eq-Decides (take n name) front).0 parts.0 in
    let before : list_all is_path_octet (take n name) ≡ true = rw same plain in
    let serial : list_all is_word_octet (drop n name) ≡ true = third (nat_le 1 (length (drop n name))) (nat_le (length (drop n name)) 60)
    (list_all is_word_octet (drop n name)) parts.1 in
    let behind : list_all is_path_octet (drop n name) ≡ true = words_paths (drop n name) serial in
    let whole : list_all is_path_octet (take n name ++ drop n name) ≡ true = list_all-append is_path_octet (take n name) (drop n name)
    ∙ and_from _ _ before behind in
    rw (take-append-drop n name) at whole

pub half_octets : (name : List ℕ) → is_sad_name name ≡ true → list_all is_path_octet name ≡ true
half_octets name h = elim (or_cases (has_front (codes "in/") name) (has_front (codes "out/") name) h) [
  | inl here ↦ front_octets (codes "in/") name refl here
  | inr here ↦ front_octets (codes "out/") name refl here
]
