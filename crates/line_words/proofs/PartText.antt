-- What stands in words and in their parts, and texts cut at the marks between them.
use Rattle.std.proofs.Common.{◌≡◌, ℕ, ◌≤◌, ◌==◌, ◌&&◌, ◌||◌, nat_le, Bool, true, false, List, [], ◌∷◌, ◌++◌, map, inl, inr, refl, sym, ap, ◌∙◌, arith, append-nil}
use Rattle.std.specs.List.{All, AllByRecursion, list_all, slice_split, flat_map}
use Rattle.std.specs.Str.{bytes_eq}
use Rattle.std.specs.Char.{is_ascii_hexdigit}
use Rattle.std.proofs.lemmas.Bool.{and_parts, and_from, or_right, or_cases, leb-true, le-leb, eqb-true, false≢true, false_from_ne_true}
use Rattle.std.proofs.lemmas.List.Folds.{list_all-append}
use Rattle.std.proofs.lemmas.List.Splits.{slice_split_none, slice_split_at}
use Rattle.std.proofs.lemmas.Slice.Eq.{bytes_eq-Decides}
use Rattle.ikeless_tree.specs.Check.{is_path_octet, is_word_octet}
use Rattle.yang_values.proofs.QuadText.{also}
use Rattle.yang_values.specs.Prefixes.{is_value_octet}
use Rattle.line_words.specs.Words.{is_printable}
use Rattle.ikeless_tree.specs.Check.{is_gateway_octet}

-- what stands in a part of an entry: neither a space nor a comma
abbrev pub is_part : ℕ → Bool
is_part c = (c == 43) || (nat_le 45 c && nat_le c 126)

-- what stands in a word: no space
abbrev pub is_graph : ℕ → Bool
is_graph c = nat_le 33 c && nat_le c 126

-- what stands in a range of ports
abbrev pub is_range_octet : ℕ → Bool
is_range_octet c = is_value_octet c || (c == 45)

-- what stands in ranges joined by a plus
abbrev pub is_ports_octet : ℕ → Bool
is_ports_octet c = is_range_octet c || (c == 43)

-- ---- octets

either : (a b q : Bool) → (a ≡ true → q ≡ true) → (b ≡ true → q ≡ true) → (a || b) ≡ true → q ≡ true
either a b q f g h = elim (or_cases a b h) [
  | inl x ↦ f x
  | inr y ↦ g y
]

between : (low high c : ℕ) → 45 ≤ low → high ≤ 126 → (nat_le low c && nat_le c high) ≡ true → is_part c ≡ true
between low high c h k e =
    let p = and_parts (nat_le low c) (nat_le c high) e in
    let l : low ≤ c = leb-true low c p.0 in
    let u : c ≤ high = leb-true c high p.1 in
    or_right (c == 43) _ (and_from _ _ (le-leb 45 c (omega arith)) (le-leb c 126 (omega arith)))

one : (q : ℕ → Bool) (mark c : ℕ) → q mark ≡ true → (c == mark) ≡ true → q c ≡ true
one q mark c passes e = ap q (eqb-true c mark e) ∙ passes

pub hexdigit_part : (c : ℕ) → is_ascii_hexdigit c ≡ true → is_part c ≡ true
hexdigit_part c h =
    either _ _ (is_part c)
    (λ x. either _ _ (is_part c) (between 48 57 c (omega arith) (omega arith)) (between 65 70 c (omega arith) (omega arith)) x)
    (between 97 102 c (omega arith) (omega arith)) h

pub value_part : (c : ℕ) → is_value_octet c ≡ true → is_part c ≡ true
value_part c h =
    either _ _ (is_part c)
    (λ x. either _ _ (is_part c)
    (λ y. either _ _ (is_part c) (hexdigit_part c) (one is_part 46 c refl) y)
    (one is_part 58 c refl) x)
    (one is_part 47 c refl) h

pub ports_part : (c : ℕ) → is_ports_octet c ≡ true → is_part c ≡ true
ports_part c h =
    either _ _ (is_part c)
    (λ x. either _ _ (is_part c) (value_part c) (one is_part 45 c refl) x)
    (one is_part 43 c refl) h

pub word_part : (c : ℕ) → is_word_octet c ≡ true → is_part c ≡ true
word_part c h =
    either _ _ (is_part c)
    (λ a. either _ _ (is_part c)
    (λ b. either _ _ (is_part c)
    (λ d. either _ _ (is_part c)
    (λ e. either _ _ (is_part c) (between 65 90 c (omega arith) (omega arith)) (between 97 122 c (omega arith) (omega arith)) e)
    (between 48 57 c (omega arith) (omega arith)) d)
    (one is_part 46 c refl) b)
    (one is_part 95 c refl) a)
    (one is_part 45 c refl) h

pub path_part : (c : ℕ) → is_path_octet c ≡ true → is_part c ≡ true
path_part c h = either (is_word_octet c) (c == 47) (is_part c) (word_part c) (one is_part 47 c refl) h

part_graph : (c : ℕ) → is_part c ≡ true → is_graph c ≡ true
part_graph c h =
    either _ _ (is_graph c) (one is_graph 43 c refl)
    (λ x. let p = and_parts (nat_le 45 c) (nat_le c 126) x in
    let l : 45 ≤ c = leb-true 45 c p.0 in
    and_from _ _ (le-leb 33 c (omega arith)) p.1) h

gateway_graph : (c : ℕ) → is_gateway_octet c ≡ true → is_graph c ≡ true
gateway_graph c h =
    part_graph c (either _ _ (is_part c) (between 97 122 c (omega arith) (omega arith)) (between 48 57 c (omega arith) (omega arith)) h)

pub graph_printable : (c : ℕ) → is_graph c ≡ true → is_printable c ≡ true
graph_printable c h =
    let p = and_parts (nat_le 33 c) (nat_le c 126) h in
    let l : 33 ≤ c = leb-true 33 c p.0 in
    and_from _ _ (le-leb 32 c (omega arith)) p.1

-- ---- texts

pub as_graph : (t : List ℕ) → list_all is_part t ≡ true → list_all is_graph t ≡ true
as_graph t all = also is_part is_graph part_graph t all

pub value_graph : (t : List ℕ) → list_all is_value_octet t ≡ true → list_all is_graph t ≡ true
value_graph t all = as_graph t (also is_value_octet is_part value_part t all)

pub hexdigits_graph : (t : List ℕ) → list_all is_ascii_hexdigit t ≡ true → list_all is_graph t ≡ true
hexdigits_graph t all = as_graph t (also is_ascii_hexdigit is_part hexdigit_part t all)

pub name_graph : (t : List ℕ) → list_all is_gateway_octet t ≡ true → list_all is_graph t ≡ true
name_graph t all = also is_gateway_octet is_graph gateway_graph t all

-- two texts with a mark between them
pub marked : (q : ℕ → Bool) (mark : ℕ) → q mark ≡ true → (front back : List ℕ) → list_all q front ≡ true → list_all q back ≡ true
    → list_all q (front ++ mark ∷ back) ≡ true
marked q mark m front back f b = list_all-append q front (mark ∷ back) ∙ and_from _ _ f (and_from _ _ m b)

-- texts that each stand behind a mark
pub all_behind : (q : ℕ → Bool) (mark : ℕ) → q mark ≡ true → (ts : List (List ℕ)) → AllByRecursion (λ t. list_all q t ≡ true) ts
    → list_all q (flat_map (λ t. mark ∷ t) ts) ≡ true
all_behind q mark m [] all = refl
all_behind q mark m (t ∷ ts) all =
    let ih = all_behind q mark m ts all.1 in
    and_from _ _ m (list_all-append q t (flat_map (λ u. mark ∷ u) ts) ∙ and_from _ _ all.0 ih)

-- a text whose octets pass a test isn't a word in which one fails it
pub not_word : (q : ℕ → Bool) (t word : List ℕ) → list_all q t ≡ true → list_all q word ≡ false → bytes_eq t word ≡ false
not_word q t word all fails =
    false_from_ne_true (bytes_eq t word) (λ same. false≢true (sym fails ∙ ap (list_all q) (sym ((bytes_eq-Decides t word).0 same)) ∙ all))

-- ---- lists

-- what holds of each element, and another fact with it
pub each_holds : {A : Type 0} → (P Q : A → Type 0) → ((x : A) → P x → Q x) → (xs : List A) → AllByRecursion P xs → AllByRecursion Q xs
each_holds P Q f [] all = tt
each_holds P Q f (x ∷ xs) all = (f x all.0, each_holds P Q f xs all.1)

pub each_mapped : {A B : Type 0} → (P : B → Type 0) (f : A → B) (xs : List A) → AllByRecursion (λ x. P (f x)) xs
    → AllByRecursion P (map f xs)
each_mapped P f [] all = tt
each_mapped P f (x ∷ xs) all = (all.0, each_mapped P f xs all.1)

-- the texts of elements, each behind a mark
pub behind_mapped : {A : Type 0} → (mark : ℕ) (f : A → List ℕ) (xs : List A) → flat_map (λ x. mark ∷ f x) xs ≡ flat_map (λ t. mark ∷ t)
    (map f xs)
behind_mapped mark f [] = refl
behind_mapped mark f (x ∷ xs) = ap (λ rest. mark ∷ (f x ++ rest)) (behind_mapped mark f xs)

-- texts that lack the mark, cut at the mark between them
pub split_behind : (p : ℕ → Bool) (mark : ℕ) → p mark ≡ true → (t : List ℕ) (ts : List (List ℕ))
    → AllByRecursion (λ u. All (λ c. p c ≡ false) u) (t ∷ ts)
    → slice_split p (t ++ flat_map (λ u. mark ∷ u) ts) ≡ t ∷ ts
split_behind p mark m t [] lack = ap (slice_split p) (append-nil t) ∙ slice_split_none p t lack.0
split_behind p mark m t (u ∷ us) lack =
    slice_split_at p t mark (u ++ flat_map (λ v. mark ∷ v) us) lack.0 m ∙ ap (λ parts. t ∷ parts) (split_behind p mark m u us lack.1)
