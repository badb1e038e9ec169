-- Lines of words, and the words that stand in them.
use Rattle.std.proofs.Common.{◌≡◌, ℕ, ◌+◌, ◌-◌, ◌^◌, ◌<◌, ◌≤◌, not, nat_lt, nat_le, Bool, true, false, List, [], ◌∷◌, ◌++◌, length, map, Option, Some, None, Ok, cond, inl, inr, refl, sym, ap, ◌∙◌, arith}
use Rattle.std.specs.Prelude.{codes}
use Rattle.std.specs.List.{All, AllByRecursion, list_all, list_any}
use Rattle.std.specs.Str.{bytes_eq}
use Rattle.std.specs.Char.{is_ascii_hexdigit}
use Rattle.std.specs.Fmt.{decimal}
use Rattle.std.proofs.lemmas.Bool.{and_parts, and_from, or_cases, ltb-false, le-leb}
use Rattle.std.proofs.lemmas.List.{length-map}
use Rattle.std.proofs.lemmas.List.Elements.{recursion_from_All}
use Rattle.std.proofs.lemmas.List.Folds.{list_all-append}
use Rattle.std.proofs.lemmas.Slice.Eq.{bytes_eq-Decides}
use Rattle.ikl_base.specs.declared.status.LineFault.TheVariants as faults
use Rattle.ikl_base.specs.declared.address.Prefix.{Prefix}
use Rattle.ikeless_tree.proofs.WordLemmas.{lane_again}
use Rattle.ikeless_tree.specs.Check.{is_named, is_spd_name, is_window, has_empty_range, has_many_ranges, entry_fault, first_of, entries_fault, spd_fault, is_gateway}
use Rattle.ikeless_tree.specs.declared.command.Peer.{Peer}
use Rattle.ikeless_tree.specs.declared.entry.SpdEntry.{SpdEntry}
use Rattle.ikeless_tree.specs.declared.order.Lane.{Lane}
use Rattle.ikeless_tree.specs.declared.order.Lane.TheVariants as lanes
use Rattle.ikeless_tree.specs.declared.fault.TreeFault.{TreeFault}
use Rattle.ikeless_tree.specs.declared.fault.TreeFault.TheVariants as tree_faults
use Rattle.ikeless_tree.specs.declared.fault.Feature.TheVariants as features
use Rattle.hist_acts.specs.Gateways.{is_named as is_gateway_of}
use Rattle.hex.specs.Hex.{encode_with}
use Rattle.yang_values.proofs.QuadText.{also}
use Rattle.yang_values.specs.Addresses.{IsAddress}
use Rattle.yang_values.specs.HexText.{digits_of, digits_text, pair_text}
use Rattle.yang_values.specs.Prefixes.{prefix_text}
use Rattle.yang_values.proofs.JoinedText.{lacks_mark}
use Rattle.yang_values.proofs.ValueText.{apart, pair_digits}
use Rattle.yang_values.proofs.PrefixText.{decimal_octets, prefix_plain}
use Rattle.line_words.specs.Words.{one_of, is_space, words, is_printable, octets_of, lane_of}
use Rattle.line_words.specs.Entry.{entry_of, entries_of}
use Rattle.line_words.specs.Text.{hex_text, entry_text, spaced, line_text}
use Rattle.line_words.specs.Spelling.{are_spelled, HasWindow, IsListed}
use Rattle.line_words.proofs.PartText.{is_graph, graph_printable, value_graph, hexdigits_graph, name_graph, all_behind, not_word, each_holds, each_mapped, split_behind}
use Rattle.line_words.proofs.EntryText.{each_of, entry_read, entry_graph}
use Rattle.ikeless_tree.specs.Typed.{AreOctets, IsTypedPolicy}
use Rattle.ikeless_tree.specs.Words.{lane_text}

-- ---- a line and its words

unfoldable pub AreWords : List (List ℕ) → Type 0
AreWords ws = AllByRecursion (λ w. list_all is_graph w ≡ true) ws

no_space : (w : List ℕ) → list_all is_graph w ≡ true → All (λ c. is_space c ≡ false) w
no_space w all = lacks_mark is_graph is_space (λ c. apart is_graph c 32 refl) w all

pub line_words : (w : List ℕ) (ws : List (List ℕ)) → AreWords (w ∷ ws) → words (line_text (w ∷ ws)) ≡ w ∷ ws
unfolding AreWords
line_words w ws are =
    split_behind is_space 32 refl w ws
    (each_holds (λ t. list_all is_graph t ≡ true) (λ t. All (λ c. is_space c ≡ false) t) no_space (w ∷ ws) are)

printable : (w : List ℕ) → list_all is_graph w ≡ true → list_all is_printable w ≡ true
printable w all = also is_graph is_printable graph_printable w all

pub line_printable : (w : List ℕ) (ws : List (List ℕ)) → AreWords (w ∷ ws) → list_all is_printable (line_text (w ∷ ws)) ≡ true
unfolding AreWords
line_printable w ws are =
    list_all-append is_printable w (spaced ws)
    ∙ and_from _ _ (printable w are.0)
    (all_behind is_printable 32 refl ws
    (each_holds (λ t. list_all is_graph t ≡ true) (λ t. list_all is_printable t ≡ true) printable ws are.1))

-- ---- numbers, prefixes and lanes

pub number_word : (n : ℕ) → n < 2 ^ 64 → list_all is_graph (decimal n) ≡ true
number_word n small = value_graph (decimal n) (decimal_octets n small)

pub prefix_word : (p : Prefix) → IsAddress p.addr → list_all is_graph (prefix_text p) ≡ true
prefix_word p is = value_graph (prefix_text p) (prefix_plain p is)

pub lane_read : (l : Lane) → lane_of (lane_text l) ≡ Ok l
lane_read l = ap (one_of faults.Mode) (lane_again l)

pub lane_word : (l : Lane) → list_all is_graph (lane_text l) ≡ true
lane_word lanes.Down = refl
lane_word lanes.Up = refl
lane_word lanes.Note = refl

-- ---- gateways and octets

-- the name of a gateway can be spelled
pub named_spelled : (gateways : List Peer) (g : List ℕ) → are_spelled gateways ≡ true → is_gateway_of gateways g ≡ true
    → is_gateway g ≡ true
named_spelled [] g all named = cc
named_spelled (p ∷ ps) g all named =
    let both = and_parts (is_gateway p.name) (are_spelled ps) all in
    elim (or_cases (bytes_eq p.name g) (is_gateway_of ps g) named) [
      | inl same ↦ ap is_gateway (sym ((bytes_eq-Decides p.name g).0 same)) ∙ both.0
      | inr rest ↦ named_spelled ps g both.1 rest
    ]

pub name_word : (g : List ℕ) → is_gateway g ≡ true → list_all is_graph g ≡ true
name_word g is = name_graph g (and_parts _ _ is).1

digit_pairs : (octets : List ℕ) → AllByRecursion (λ o. o < 256) octets → list_all is_ascii_hexdigit (digits_text octets) ≡ true
unfolding encode_with
digit_pairs [] all = refl
digit_pairs (o ∷ os) all =
    let one = pair_digits o all.0 in
    let rest = digit_pairs os all.1 in
    list_all-append is_ascii_hexdigit (pair_text o) (digits_text os) ∙ and_from _ _ one rest

abbrev pub ReadsDigits : Type 0
ReadsDigits = (first : ℕ) (rest : List ℕ) → All (λ o. o < 256) (first ∷ rest) → digits_of (digits_text (first ∷ rest)) ≡ Ok (first ∷ rest)

pub hex_digits : (first : ℕ) (rest : List ℕ) → AreOctets (first ∷ rest) → list_all is_ascii_hexdigit (hex_text (first ∷ rest)) ≡ true
hex_digits first rest are = digit_pairs (first ∷ rest) (recursion_from_All (λ x. x < 256) (first ∷ rest) are)

pub hex_word : (octets : List ℕ) → AreOctets octets → list_all is_graph (hex_text octets) ≡ true
hex_word [] are = refl
hex_word (o ∷ os) are = hexdigits_graph (digits_text (o ∷ os)) (digit_pairs (o ∷ os) (recursion_from_All (λ x. x < 256) (o ∷ os) are))

pub hex_read : ReadsDigits → (octets : List ℕ) → AreOctets octets → octets_of (hex_text octets) ≡ Ok octets
hex_read digits [] are = refl
hex_read digits (o ∷ os) are =
    let dash = not_word is_ascii_hexdigit (digits_text (o ∷ os)) (codes "-")
    (digit_pairs (o ∷ os) (recursion_from_All (λ x. x < 256) (o ∷ os) are)) refl in
    let read = digits o os are in
    rw (dash, read) refl

-- ---- lists that can be in force

-- what a good entry's name and ranges are
GoodEntry : SpdEntry → Type 0
GoodEntry e = (is_spd_name e.name ≡ true) × (has_many_ranges e.selector ≡ false)

good_entry : (before : List SpdEntry) (e : SpdEntry) → entry_fault before e ≡ None → GoodEntry e
unfolding entry_fault GoodEntry
good_entry before e none =
    by_tests (list_any (is_named e.name) before) (is_spd_name e.name) (is_window e.window) (has_empty_range e.selector)
    (has_many_ranges e.selector) none
  where
    by_tests : (twice named window empty many : Bool)
        → cond twice (Some tree_faults.DuplicateName)
        (cond (not named) (Some tree_faults.BadName) (cond (not window) (Some tree_faults.BadWindow)
        (cond empty (Some tree_faults.EmptyRange) (cond many (Some (tree_faults.Unsupported features.Ports)) None)))) ≡ None
        → (named ≡ true) × (many ≡ false)
    by_tests false true true false false h = (refl, refl)
    by_tests false true true false true h = cc
    by_tests false true true true many h = cc
    by_tests false true false empty many h = cc
    by_tests false false window empty many h = cc
    by_tests true named window empty many h = cc

first_none : (o rest : Option TreeFault) → first_of o rest ≡ None → (o ≡ None) × (rest ≡ None)
first_none None rest h = (refl, h)
first_none (Some fault) rest h = cc

good_entries : (before list : List SpdEntry) → entries_fault before list ≡ None → AllByRecursion GoodEntry list
good_entries before [] none = tt
good_entries before (e ∷ es) none =
    let both = first_none (entry_fault before e) (entries_fault (before ++ e ∷ []) es) none in
    (good_entry before e both.0, good_entries (before ++ e ∷ []) es both.1)

spd_parts : (list : List SpdEntry) → spd_fault list ≡ None → (length list ≤ 256) × AllByRecursion GoodEntry list
unfolding spd_fault
spd_parts list none = by_length (nat_lt 256 (length list)) refl none
  where
    by_length : (b : Bool) → nat_lt 256 (length list) ≡ b → cond b (Some tree_faults.TooMany) (entries_fault [] list) ≡ None
        → (length list ≤ 256) × AllByRecursion GoodEntry list
    by_length false few h = (ltb-false 256 (length list) few, good_entries [] list h)
    by_length true many h = cc

all_read : (list : List SpdEntry) → AllByRecursion IsTypedPolicy list → AllByRecursion HasWindow list → AllByRecursion GoodEntry list
    → AllByRecursion (λ e. entry_of (entry_text e) ≡ Ok e) list
unfolding GoodEntry
all_read [] are windows good = tt
all_read (e ∷ es) are windows good = (entry_read e are.0 windows.0 good.0.0 good.0.1, all_read es are.1 windows.1 good.1)

all_words : (list : List SpdEntry) → AllByRecursion IsTypedPolicy list → AllByRecursion GoodEntry list
    → AllByRecursion (λ e. list_all is_graph (entry_text e) ≡ true) list
unfolding GoodEntry
all_words [] are good = tt
all_words (e ∷ es) are good = (entry_graph e are.0 good.0.0, all_words es are.1 good.1)

pub list_read : (list : List SpdEntry) → IsListed list → All IsTypedPolicy list → entries_of (map entry_text list) ≡ Ok list
list_read list is are =
    each_of entry_of entry_text list
    (all_read list (recursion_from_All IsTypedPolicy list are) (recursion_from_All HasWindow list is.windows) (spd_parts list is.fits).1)

pub list_words : (list : List SpdEntry) → IsListed list → All IsTypedPolicy list → AreWords (map entry_text list)
unfolding AreWords
list_words list is are =
    each_mapped (λ t. list_all is_graph t ≡ true) entry_text list (all_words list (recursion_from_All IsTypedPolicy list are)
    (spd_parts list is.fits).1)

pub few_words : (list : List SpdEntry) → IsListed list → nat_le (length (map entry_text list)) 256 ≡ true
few_words list is =
    let few = (spd_parts list is.fits).0 in
    le-leb _ 256 (let e = length-map list entry_text in omega (arith, e, few))
