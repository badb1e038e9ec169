-- The names of halves are words.
use Rattle.std.proofs.Common.{◌≡◌, ℕ, zero, suc, ◌≤◌, Bool, true, List, [], ◌∷◌, length, take, drop, inl, inr, refl, ap, ◌∙◌, arith}
use Rattle.std.specs.Prelude.{codes}
use Rattle.std.specs.List.{list_all}
use Rattle.std.proofs.lemmas.Bool.{and_parts, and_from, or_cases, leb-true}
use Rattle.std.proofs.lemmas.Slice.Eq.{bytes_eq-Decides}
use Rattle.ikeless_tree.specs.Check.{is_sad_name, has_front, is_word_octet}
use Rattle.yang_values.proofs.QuadText.{also}
use Rattle.line_words.proofs.PartText.{is_part, is_graph, word_part, as_graph}

taken_all : (q : ℕ → Bool) (n : ℕ) (t : List ℕ) → list_all q (take n t) ≡ true → list_all q (drop n t) ≡ true → list_all q t ≡ true
taken_all q zero t front back = back
taken_all q (suc n) [] front back = refl
taken_all q (suc n) (c ∷ cs) front back = let p = and_parts _ _ front in and_from _ _ p.0 (taken_all q n cs p.1 back)

front_part : (front name : List ℕ) → list_all is_part front ≡ true → has_front front name ≡ true → list_all is_part name ≡ true
front_part front name good has =
    let p = and_parts _ _ (and_parts _ _ has).1 in
    let serial : list_all is_word_octet (drop (length front) name) ≡ true = (and_parts _ _ p.1).1 in
    let same : take (length front) name ≡ front = (bytes_eq-Decides (take (length front) name) front).0 p.0 in
    taken_all is_part (length front) name (ap (list_all is_part) same ∙ good)
    (also is_word_octet is_part word_part (drop (length front) name) serial)

-- the name of a half has neither a space nor a comma
pub half_name_part : (name : List ℕ) → is_sad_name name ≡ true → list_all is_part name ≡ true
half_name_part name is = elim (or_cases (has_front (codes "in/") name) (has_front (codes "out/") name) is) [
  | inl x ↦ front_part (codes "in/") name refl x
  | inr y ↦ front_part (codes "out/") name refl y
]

pub half_name_word : (name : List ℕ) → is_sad_name name ≡ true → list_all is_graph name ≡ true
half_name_word name is = as_graph name (half_name_part name is)

pub half_name_long : (name : List ℕ) → is_sad_name name ≡ true → 3 ≤ length name
half_name_long name is = elim (or_cases (has_front (codes "in/") name) (has_front (codes "out/") name) is) [
  | inl x ↦ leb-true 3 (length name) (and_parts _ _ x).0
  | inr y ↦ let four = leb-true 4 (length name) (and_parts _ _ y).0 in omega (arith, four)
]
