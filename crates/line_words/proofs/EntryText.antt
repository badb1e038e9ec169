-- The word of an entry is read as that entry.
use Rattle.std.proofs.Common.{◌≡◌, ℕ, ◌+◌, ◌-◌, ◌^◌, ◌<◌, ◌≤◌, ◌==◌, ◌||◌, nat_lt, nat_le, Bool, true, false, List, [], ◌∷◌, ◌++◌, length, map, Option, Some, None, Result, Ok, refl, ap, ◌∙◌, arith, append-nil, append_assoc}
use Rattle.std.specs.List.{All, AllByRecursion, list_all, slice_split, flat_map}
use Rattle.std.specs.Fmt.{decimal}
use Rattle.std.specs.Prelude.{codes}
use Rattle.std.proofs.lemmas.Bool.{and_parts, and_from, or_left, ltb-false, le-leb}
use Rattle.std.proofs.lemmas.List.{length-map}
use Rattle.std.proofs.lemmas.List.Elements.{recursion_from_All}
use Rattle.std.proofs.lemmas.List.Folds.{list_all-append}
use Rattle.std.proofs.lemmas.List.Splits.{slice_split_none, slice_split_at}
use Rattle.ikl_base.specs.declared.status.LineFault.{LineFault}
use Rattle.ikl_base.specs.declared.status.LineFault.TheVariants as faults
use Rattle.ikl_base.specs.declared.address.Prefix.{Prefix}
use Rattle.ikeless_tree.proofs.WordLemmas.{direction_again, action_again}
use Rattle.ikeless_tree.specs.Check.{is_path_octet, is_spd_name, has_many_ranges}
use Rattle.ikeless_tree.specs.declared.entry.Action.{Action}
use Rattle.ikeless_tree.specs.declared.entry.Action.TheVariants as actions
use Rattle.ikeless_tree.specs.declared.entry.Direction.{Direction}
use Rattle.ikeless_tree.specs.declared.entry.Direction.TheVariants as directions
use Rattle.ikeless_tree.specs.declared.entry.Range.{Range}
use Rattle.ikeless_tree.specs.declared.entry.Selector.{Selector}
use Rattle.ikeless_tree.specs.declared.entry.SpdEntry.{SpdEntry}
use Rattle.yang_values.proofs.QuadText.{also}
use Rattle.yang_values.specs.Addresses.{IsAddress}
use Rattle.yang_values.specs.Prefixes.{is_value_octet, prefix_text}
use Rattle.yang_values.proofs.JoinedText.{lacks_mark}
use Rattle.yang_values.proofs.ValueText.{apart, number_of-decimal}
use Rattle.yang_values.proofs.PrefixText.{decimal_octets, prefix_plain, prefix_again}
use Rattle.yang_values.proofs.AddressText.{address_again}
use Rattle.line_words.specs.Words.{one_of, or_fault, each, number_in, prefix_in}
use Rattle.line_words.specs.Entry.{is_comma, is_plus, is_dash, direction_of, action_of, proto_of, range_in, range_of, ports_of, selector_of, use_of, selector_in, entry_in, entry_of}
use Rattle.line_words.specs.Text.{proto_text, range_text, ports_text, selector_text, entry_text}
use Rattle.line_words.proofs.PartText.{is_part, is_graph, is_range_octet, is_ports_octet, value_part, ports_part, path_part, as_graph, marked, all_behind, not_word, each_holds, each_mapped, behind_mapped, split_behind}
use Rattle.ikeless_tree.specs.Typed.{IsTypedPolicy, IsTypedProtocol, IsTypedRange, IsTypedSelector}
use Rattle.ikeless_tree.specs.Words.{action_text, direction_text}

-- the words of values that are each read
pub each_of : {A : Type 0} → (f : List ℕ → Result A LineFault) (text : A → List ℕ) (xs : List A)
    → AllByRecursion (λ x. f (text x) ≡ Ok x) xs → each f (map text xs) ≡ Ok xs
each_of f text [] all = refl
each_of f text (x ∷ xs) all = let ih = each_of f text xs all.1 in rw (all.0, ih) refl

pub number_again : (fault : LineFault) (n most : ℕ) → n < 2 ^ 64 → n ≤ most → number_in fault most (decimal n) ≡ Ok n
number_again fault n most small fits = ap (or_fault fault) (number_of-decimal n most small fits)

pub prefix_reads : (fault : LineFault) (p : Prefix) → IsAddress p.addr → prefix_in fault (prefix_text p) ≡ Ok p
prefix_reads fault p is = ap (or_fault fault) (prefix_again p is (address_again p.addr is))

-- ---- ports

value_range : (c : ℕ) → is_value_octet c ≡ true → is_range_octet c ≡ true
value_range c h = or_left (is_value_octet c) (c == 45) h

range_octets : (r : Range) → IsTypedRange r → list_all is_range_octet (range_text r) ≡ true
range_octets r is =
    let a : r.start < 65536 = is.0 in
    let b : r.end < 65536 = is.1 in
    marked is_range_octet 45 refl (decimal r.start) (decimal r.end)
    (also is_value_octet is_range_octet value_range (decimal r.start) (decimal_octets r.start (omega arith)))
    (also is_value_octet is_range_octet value_range (decimal r.end) (decimal_octets r.end (omega arith)))

no_dash : (n : ℕ) → n < 2 ^ 64 → All (λ c. is_dash c ≡ false) (decimal n)
no_dash n small = lacks_mark is_value_octet is_dash (λ c. apart is_value_octet c 45 refl) (decimal n) (decimal_octets n small)

range_split : (a b : ℕ) → a < 65536 → b < 65536 → slice_split is_dash (decimal a ++ 45 ∷ decimal b) ≡ decimal a ∷ decimal b ∷ []
range_split a b ha hb =
    slice_split_at is_dash (decimal a) 45 (decimal b) (no_dash a (omega arith)) refl
    ∙ ap (λ parts. decimal a ∷ parts) (slice_split_none is_dash (decimal b) (no_dash b (omega arith)))

range_read : (r : Range) → IsTypedRange r → range_of (range_text r) ≡ Ok r
unfolding range_in
range_read r is =
    let a : r.start < 65536 = is.0 in
    let b : r.end < 65536 = is.1 in
    let s = range_split r.start r.end a b in
    let x = number_again faults.Entry r.start 65535 (omega arith) (omega arith) in
    let y = number_again faults.Entry r.end 65535 (omega arith) (omega arith) in
    rw (s, x, y) refl

ports_from : (r : Range) (rs : List Range) → ports_text (r ∷ rs) ≡ range_text r ++ flat_map (λ t. 43 ∷ t) (map range_text rs)
ports_from r rs = ap (λ rest. range_text r ++ rest) (behind_mapped 43 range_text rs)

range_ports : (c : ℕ) → is_range_octet c ≡ true → is_ports_octet c ≡ true
range_ports c h = or_left (is_range_octet c) (c == 43) h

some_octets : (r : Range) (rs : List Range) → AllByRecursion IsTypedRange (r ∷ rs) → list_all is_ports_octet (ports_text (r ∷ rs)) ≡ true
some_octets r rs are =
    ap (list_all is_ports_octet) (ports_from r rs)
    ∙ list_all-append is_ports_octet (range_text r) (flat_map (λ t. 43 ∷ t) (map range_text rs))
    ∙ and_from _ _ (octets r are.0)
    (all_behind is_ports_octet 43 refl (map range_text rs)
    (each_mapped (λ t. list_all is_ports_octet t ≡ true) range_text rs
    (each_holds IsTypedRange (λ x. list_all is_ports_octet (range_text x) ≡ true) octets rs are.1)))
  where
    octets : (x : Range) → IsTypedRange x → list_all is_ports_octet (range_text x) ≡ true
    octets x is = also is_range_octet is_ports_octet range_ports (range_text x) (range_octets x is)

no_plus : (r : Range) → IsTypedRange r → All (λ c. is_plus c ≡ false) (range_text r)
no_plus r is = lacks_mark is_range_octet is_plus (λ c. apart is_range_octet c 43 refl) (range_text r) (range_octets r is)

ports_split : (r : Range) (rs : List Range) → AllByRecursion IsTypedRange (r ∷ rs)
    → slice_split is_plus (ports_text (r ∷ rs)) ≡ map range_text (r ∷ rs)
ports_split r rs are =
    ap (slice_split is_plus) (ports_from r rs)
    ∙ split_behind is_plus 43 refl (range_text r) (map range_text rs)
    (each_mapped (λ t. All (λ c. is_plus c ≡ false) t) range_text (r ∷ rs)
    (each_holds IsTypedRange (λ x. All (λ c. is_plus c ≡ false) (range_text x)) no_plus (r ∷ rs) are))

ports_read : (rs : List Range) → AllByRecursion IsTypedRange rs → length rs ≤ 8 → ports_of (ports_text rs) ≡ Ok rs
unfolding ports_of
ports_read [] are few = refl
ports_read (r ∷ rs) are few =
    let any = not_word is_ports_octet (ports_text (r ∷ rs)) (codes "any") (some_octets r rs are) refl in
    let s = ports_split r rs are in
    let n : nat_le (length (map range_text (r ∷ rs))) 8 ≡ true = le-leb _ 8 (let e = length-map (r ∷ rs) range_text in
    omega (arith, e, few)) in
    let x = each_of range_of range_text (r ∷ rs) (each_holds IsTypedRange (λ y. range_of (range_text y) ≡ Ok y) range_read (r ∷ rs) are) in
    rw (any, s, n, x) refl

pub ports_are_part : (rs : List Range) → AllByRecursion IsTypedRange rs → list_all is_part (ports_text rs) ≡ true
ports_are_part [] are = refl
ports_are_part (r ∷ rs) are = also is_ports_octet is_part ports_part (ports_text (r ∷ rs)) (some_octets r rs are)

-- ---- the other parts

direction_read : (d : Direction) → direction_of (direction_text d) ≡ Ok d
direction_read d = ap (one_of faults.Entry) (direction_again d)

direction_is_part : (d : Direction) → list_all is_part (direction_text d) ≡ true
direction_is_part directions.In = refl
direction_is_part directions.Out = refl

action_read : (a : Action) → action_of (action_text a) ≡ Ok a
action_read a = ap (one_of faults.Entry) (action_again a)

action_is_part : (a : Action) → list_all is_part (action_text a) ≡ true
action_is_part actions.Protect = refl
action_is_part actions.Bypass = refl
action_is_part actions.Discard = refl

proto_read : (o : Option ℕ) → IsTypedProtocol o → proto_of (proto_text o) ≡ Ok o
unfolding proto_of
proto_read None is = refl
proto_read (Some n) is =
    let small : n < 256 = is in
    let any = not_word is_value_octet (decimal n) (codes "any") (decimal_octets n (omega arith)) refl in
    let x = number_again faults.Entry n 255 (omega arith) (omega arith) in
    rw (any, x) refl

pub number_is_part : (n : ℕ) → n < 2 ^ 64 → list_all is_part (decimal n) ≡ true
number_is_part n small = also is_value_octet is_part value_part (decimal n) (decimal_octets n small)

pub proto_is_part : (o : Option ℕ) → IsTypedProtocol o → list_all is_part (proto_text o) ≡ true
proto_is_part None is = refl
proto_is_part (Some n) is = let small : n < 256 = is in number_is_part n (omega arith)

pub prefix_is_part : (p : Prefix) → IsAddress p.addr → list_all is_part (prefix_text p) ≡ true
prefix_is_part p is = also is_value_octet is_part value_part (prefix_text p) (prefix_plain p is)

-- ---- an entry

unfoldable pub selector_parts : Selector → List (List ℕ)
selector_parts s = prefix_text s.local ∷ prefix_text s.remote ∷ proto_text s.proto ∷ ports_text s.local_ports ∷ ports_text s.remote_ports
    ∷ []

pub few_ranges : (s : Selector) → has_many_ranges s ≡ false → (length s.local_ports ≤ 8) × (length s.remote_ports ≤ 8)
few_ranges s few = halves (nat_lt 8 (length s.local_ports)) (nat_lt 8 (length s.remote_ports)) refl refl few
  where
    halves : (a b : Bool) → nat_lt 8 (length s.local_ports) ≡ a → nat_lt 8 (length s.remote_ports) ≡ b → (a || b) ≡ false
        → (length s.local_ports ≤ 8) × (length s.remote_ports ≤ 8)
    halves false false e f h = (ltb-false 8 _ e, ltb-false 8 _ f)
    halves false true e f h = cc
    halves true b e f h = cc

pub selector_read : (s : Selector) → IsTypedSelector s → has_many_ranges s ≡ false → selector_in (selector_parts s) ≡ Ok s
unfolding selector_in selector_of selector_parts
selector_read s is few =
    let counts = few_ranges s few in
    let l = prefix_reads faults.Entry s.local is.local in
    let r = prefix_reads faults.Entry s.remote is.remote in
    let p = proto_read s.proto is.proto in
    let lp = ports_read s.local_ports (recursion_from_All IsTypedRange s.local_ports is.local_ports) counts.0 in
    let rp = ports_read s.remote_ports (recursion_from_All IsTypedRange s.remote_ports is.remote_ports) counts.1 in
    rw (l, r, p, lp, rp) refl

entry_rest : SpdEntry → List (List ℕ)
entry_rest e = direction_text e.direction ∷ decimal e.reqid ∷ action_text e.action ∷ selector_parts e.selector

abbrev at_window : SpdEntry → ℕ → SpdEntry
at_window e w = record e { window = w }

in_parts : (e : SpdEntry) → IsTypedPolicy e → e.window ≡ 64 → has_many_ranges e.selector ≡ false → entry_in (e.name ∷ entry_rest e) ≡ Ok e
unfolding entry_in use_of entry_rest
in_parts e is window few =
    let d = direction_read e.direction in
    let small = is.reqid in
    let n = number_again faults.Entry e.reqid (2 ^ 64 - 1) small (omega arith) in
    let a = action_read e.action in
    let s = selector_read e.selector is.selector few in
    rw (d, n, a, s) (windowed e.window window)
  where
    windowed : (w : ℕ) → w ≡ 64 → ◌≡◌ {A = Result SpdEntry LineFault} (Ok (at_window e 64)) (Ok (at_window e w))
    windowed w is = rw is refl

nine : (a b c d e f g h i : List ℕ)
    → (a ++ 44 ∷ b) ++ 44 ∷ ((c ++ 44 ∷ d) ++ 44 ∷ ((e ++ 44 ∷ f) ++ 44 ∷ (g ++ 44 ∷ (h ++ 44 ∷ i))))
    ≡ a ++ flat_map (λ u. 44 ∷ u) (b ∷ c ∷ d ∷ e ∷ f ∷ g ∷ h ∷ i ∷ [])
nine a b c d e f g h i = simp (append_assoc, append-nil)

entry_from : (e : SpdEntry) → entry_text e ≡ e.name ++ flat_map (λ u. 44 ∷ u) (entry_rest e)
unfolding entry_text selector_text entry_rest selector_parts
entry_from e =
    nine e.name (direction_text e.direction) (decimal e.reqid) (action_text e.action) (prefix_text e.selector.local)
    (prefix_text e.selector.remote)
    (proto_text e.selector.proto) (ports_text e.selector.local_ports) (ports_text e.selector.remote_ports)

are_parts : (e : SpdEntry) → IsTypedPolicy e → is_spd_name e.name ≡ true → AllByRecursion (λ t. list_all is_part t ≡ true) (e.name
    ∷ entry_rest e)
unfolding entry_rest selector_parts
are_parts e is name =
    let s = is.selector in
    let octets : list_all is_path_octet e.name ≡ true = (and_parts _ _ name).1 in (
      also is_path_octet is_part path_part e.name octets,
      (
        direction_is_part e.direction,
        (
          number_is_part e.reqid is.reqid,
          (
            action_is_part e.action,
            (
              prefix_is_part e.selector.local s.local,
              (
                prefix_is_part e.selector.remote s.remote,
                (
                  proto_is_part e.selector.proto s.proto,
                  (
                    ports_are_part e.selector.local_ports (recursion_from_All IsTypedRange e.selector.local_ports s.local_ports),
                    (ports_are_part e.selector.remote_ports (recursion_from_All IsTypedRange e.selector.remote_ports s.remote_ports), tt),
                  ),
                ),
              ),
            ),
          ),
        ),
      ),
    )

pub no_comma : (t : List ℕ) → list_all is_part t ≡ true → All (λ c. is_comma c ≡ false) t
no_comma t all = lacks_mark is_part is_comma (λ c. apart is_part c 44 refl) t all

pub entry_read : (e : SpdEntry) → IsTypedPolicy e → e.window ≡ 64 → is_spd_name e.name ≡ true → has_many_ranges e.selector ≡ false
    → entry_of (entry_text e) ≡ Ok e
entry_read e is window name few =
    ap entry_of (entry_from e)
    ∙ ap entry_in (split_behind is_comma 44 refl e.name (entry_rest e)
    (each_holds (λ t. list_all is_part t ≡ true) (λ t. All (λ c. is_comma c ≡ false) t) no_comma (e.name ∷ entry_rest e)
    (are_parts e is name)))
    ∙ in_parts e is window few

-- a word has no space
pub entry_graph : (e : SpdEntry) → IsTypedPolicy e → is_spd_name e.name ≡ true → list_all is_graph (entry_text e) ≡ true
entry_graph e is name =
    let all = are_parts e is name in
    let rest : AllByRecursion (λ t. list_all is_graph t ≡ true) (entry_rest e) =
    each_holds (λ t. list_all is_part t ≡ true) (λ t. list_all is_graph t ≡ true) as_graph (entry_rest e) all.1 in
    ap (list_all is_graph) (entry_from e)
    ∙ list_all-append is_graph e.name (flat_map (λ u. 44 ∷ u) (entry_rest e))
    ∙ and_from _ _ (as_graph e.name all.0) (all_behind is_graph 44 refl (entry_rest e) rest)
