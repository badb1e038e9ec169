-- The word of a half is read as that half.
use Rattle.std.proofs.Common.{◌≡◌, ℕ, ◌-◌, ◌^◌, not, nat_lt, Bool, true, false, List, [], ◌∷◌, ◌++◌, length, Some, None, Ok, cond, refl, ap, ◌∙◌, arith, append-nil, append_assoc}
use Rattle.std.specs.List.{All, AllByRecursion, list_all, slice_split, flat_map}
use Rattle.std.specs.Fmt.{decimal}
use Rattle.std.proofs.lemmas.Bool.{and_from}
use Rattle.std.proofs.lemmas.List.Elements.{recursion_from_All}
use Rattle.std.proofs.lemmas.List.Folds.{list_all-append}
use Rattle.ikl_base.specs.Address.{is_one_family}
use Rattle.ikl_base.specs.declared.address.Addr.{Addr}
use Rattle.ikl_base.specs.declared.status.LineFault.TheVariants as faults
use Rattle.ikeless_tree.proofs.WordLemmas.{df_again}
use Rattle.ikeless_tree.specs.Check.{is_sad_name, is_key_length, is_window, has_empty_range, has_many_ranges, sad_fault}
use Rattle.ikeless_tree.specs.declared.sad.Df.{Df}
use Rattle.ikeless_tree.specs.declared.sad.Df.TheVariants as dfs
use Rattle.ikeless_tree.specs.declared.sad.SadEntry.{SadEntry}
use Rattle.ikeless_tree.specs.declared.fault.TreeFault.TheVariants as tree_faults
use Rattle.ikeless_tree.specs.declared.fault.Feature.TheVariants as features
use Rattle.yang_values.proofs.QuadText.{also}
use Rattle.yang_values.specs.Addresses.{IsAddress, address_text}
use Rattle.yang_values.specs.HexText.{digits_text}
use Rattle.yang_values.specs.Prefixes.{is_value_octet, prefix_text}
use Rattle.yang_values.proofs.AddressText.{address_again}
use Rattle.yang_values.proofs.PrefixText.{address_plain}
use Rattle.std.specs.Char.{is_ascii_hexdigit}
use Rattle.line_words.specs.Words.{one_of, or_fault}
use Rattle.line_words.specs.Entry.{is_comma, selector_of, selector_in}
use Rattle.line_words.specs.Limits.{lifetimes_of}
use Rattle.line_words.specs.Half.{df_of, end_of, key_of, half_numbers_of, half_tunnel_of, half_keys_of, half_keys_in, half_rest_of, half_rest_in, half_from, half_in, half_of}
use Rattle.line_words.specs.Text.{limits_text, proto_text, ports_text, selector_text, half_text}
use Rattle.line_words.specs.Spelling.{IsInstallable}
use Rattle.line_words.proofs.PartText.{is_part, is_graph, value_part, hexdigit_part, as_graph, all_behind, each_holds, split_behind}
use Rattle.line_words.proofs.EntryText.{prefix_is_part, proto_is_part, ports_are_part, number_is_part, selector_parts, selector_read, no_comma, number_again}
use Rattle.line_words.proofs.LineText.{ReadsDigits, hex_digits}
use Rattle.line_words.proofs.LimitsText.{limits_read, limits_part}
use Rattle.line_words.proofs.HalfNames.{half_name_part}
use Rattle.ikeless_tree.specs.Typed.{AreOctets, IsTypedHalf, IsTypedRange}
use Rattle.ikeless_tree.specs.Words.{df_text}

-- ---- what can be installed

record IsGood (e : SadEntry) : Type 0 where
  name : is_sad_name e.name ≡ true
  key : is_key_length (length e.key) ≡ true
  few : has_many_ranges e.selector ≡ false

good_half : (e : SadEntry) → IsInstallable e → IsGood e
unfolding sad_fault
good_half e none =
    by_tests (is_sad_name e.name) (nat_lt e.spi 256) (is_key_length (length e.key)) (is_window e.window) (has_empty_range e.selector)
    (has_many_ranges e.selector)
    (is_one_family e.local e.remote) refl refl refl none
  where
    by_tests : (named low keyed window empty many family : Bool) → is_sad_name e.name ≡ named → is_key_length (length e.key) ≡ keyed
        → has_many_ranges e.selector ≡ many
        → cond (not named) (Some tree_faults.BadName) (cond low (Some tree_faults.BadSpi) (cond (not keyed) (Some tree_faults.BadKeyLength)
        (cond (not window) (Some tree_faults.BadWindow)
        (cond empty (Some tree_faults.EmptyRange) (cond many (Some (tree_faults.Unsupported features.Ports))
        (cond (not family) (Some (tree_faults.Unsupported features.Tunnel)) None)))))) ≡ None
        → IsGood e
    by_tests true false true true false false true n k m h = record { name = n; key = k; few = m }
    by_tests true false true true false false false n k m h = cc
    by_tests true false true true false true family n k m h = cc
    by_tests true false true true true many family n k m h = cc
    by_tests true false true false empty many family n k m h = cc
    by_tests true false false window empty many family n k m h = cc
    by_tests true true keyed window empty many family n k m h = cc
    by_tests false low keyed window empty many family n k m h = cc

-- ---- its parts

df_read : (d : Df) → df_of (df_text d) ≡ Ok d
df_read d = ap (one_of faults.Entry) (df_again d)

df_is_part : (d : Df) → list_all is_part (df_text d) ≡ true
df_is_part dfs.Clear = refl
df_is_part dfs.Set = refl
df_is_part dfs.Copy = refl

key_read : ReadsDigits → (key : List ℕ) → is_key_length (length key) ≡ true → AreOctets key → key_of (digits_text key) ≡ Ok key
key_read digits [] long are = cc
key_read digits (o ∷ os) long are = ap (or_fault faults.Entry) (digits o os are)

key_is_part : (key : List ℕ) → is_key_length (length key) ≡ true → AreOctets key → list_all is_part (digits_text key) ≡ true
key_is_part [] long are = cc
key_is_part (o ∷ os) long are = also is_ascii_hexdigit is_part hexdigit_part (digits_text (o ∷ os)) (hex_digits o os are)

end_read : (a : Addr) → IsAddress a → end_of (address_text a) ≡ Ok a
end_read a is = ap (or_fault faults.Entry) (address_again a is)

end_is_part : (a : Addr) → IsAddress a → list_all is_part (address_text a) ≡ true
end_is_part a is = also is_value_octet is_part value_part (address_text a) (address_plain a is)

-- ---- a half

key_parts : SadEntry → List (List ℕ)
key_parts e = digits_text e.key ∷ address_text e.local ∷ address_text e.remote ∷ df_text e.df ∷ limits_text e.hard ∷ limits_text e.soft ∷ []

rest_parts : SadEntry → List (List ℕ)
rest_parts e =
    prefix_text e.selector.local ∷ prefix_text e.selector.remote ∷ proto_text e.selector.proto ∷ ports_text e.selector.local_ports
    ∷ ports_text e.selector.remote_ports ∷ key_parts e

half_parts : SadEntry → List (List ℕ)
half_parts e = decimal e.reqid ∷ decimal e.spi ∷ decimal e.window ∷ rest_parts e

fifteen : (a b c d e f g h i j k l m n o : List ℕ)
    → a ++ 44 ∷ ((b ++ 44 ∷ (c ++ 44 ∷ d)) ++ 44 ∷ (((e ++ 44 ∷ f) ++ 44 ∷ (g ++ 44 ∷ (h ++ 44 ∷ i))) ++ 44
    ∷ (j ++ 44 ∷ ((k ++ 44 ∷ (l ++ 44 ∷ m)) ++ 44 ∷ (n ++ 44 ∷ o)))))
    ≡ a ++ flat_map (λ u. 44 ∷ u) (b ∷ c ∷ d ∷ e ∷ f ∷ g ∷ h ∷ i ∷ j ∷ k ∷ l ∷ m ∷ n ∷ o ∷ [])
fifteen a b c d e f g h i j k l m n o = simp (append_assoc, append-nil)

half_joined : (e : SadEntry) → half_text e ≡ e.name ++ flat_map (λ u. 44 ∷ u) (half_parts e)
unfolding half_text selector_text half_parts rest_parts key_parts
half_joined e =
    fifteen e.name (decimal e.reqid) (decimal e.spi) (decimal e.window) (prefix_text e.selector.local) (prefix_text e.selector.remote)
    (proto_text e.selector.proto)
    (ports_text e.selector.local_ports) (ports_text e.selector.remote_ports) (digits_text e.key) (address_text e.local)
    (address_text e.remote) (df_text e.df)
    (limits_text e.hard) (limits_text e.soft)

AreParts : List (List ℕ) → Type 0
AreParts ts = AllByRecursion (λ t. list_all is_part t ≡ true) ts

key_are_parts : (e : SadEntry) → IsTypedHalf e → IsGood e → AreParts (key_parts e)
unfolding key_parts AreParts
key_are_parts e is good = (
  key_is_part e.key good.key is.key,
  (
    end_is_part e.local is.local,
    (
      end_is_part e.remote is.remote,
      (
        df_is_part e.df,
        (limits_part e.hard is.hard, (limits_part e.soft is.soft, tt)),
      ),
    ),
  ),
)

rest_are_parts : (e : SadEntry) → IsTypedHalf e → IsGood e → AreParts (rest_parts e)
unfolding rest_parts AreParts
rest_are_parts e is good =
    let s = is.selector in (
      prefix_is_part e.selector.local s.local,
      (
        prefix_is_part e.selector.remote s.remote,
        (
          proto_is_part e.selector.proto s.proto,
          (
            ports_are_part e.selector.local_ports (recursion_from_All IsTypedRange e.selector.local_ports s.local_ports),
            (
              ports_are_part e.selector.remote_ports (recursion_from_All IsTypedRange e.selector.remote_ports s.remote_ports),
              key_are_parts
                  e is good,
            ),
          ),
        ),
      ),
    )

half_are_parts : (e : SadEntry) → IsTypedHalf e → IsGood e → AreParts (half_parts e)
unfolding half_parts AreParts
half_are_parts e is good =
    let n = is.reqid in
    let s = is.spi in
    let w = is.window in (
      number_is_part e.reqid n,
      (
        number_is_part e.spi (omega (arith, s)),
        (
          number_is_part e.window (omega (arith, w)),
          rest_are_parts e is
              good,
        ),
      ),
    )

numbers_read : (e : SadEntry) → IsTypedHalf e
    → half_numbers_of (decimal e.reqid) (decimal e.spi) (decimal e.window) ≡ Ok (record { reqid = e.reqid; spi = e.spi; window = e.window })
unfolding half_numbers_of
numbers_read e is =
    let n = is.reqid in
    let s = is.spi in
    let w = is.window in
    let x = number_again faults.Entry e.reqid (2 ^ 64 - 1) n (omega (arith, n)) in
    let y = number_again faults.Entry e.spi (2 ^ 32 - 1) (omega (arith, s)) (omega (arith, s)) in
    let z = number_again faults.Entry e.window (2 ^ 32 - 1) (omega (arith, w)) (omega (arith, w)) in
    rw (x, y, z) refl

keys_read : ReadsDigits → (e : SadEntry) → IsTypedHalf e → IsGood e
    → half_keys_in (key_parts e)
    ≡ Ok (record {
      key = e.key;
      tunnel = record { local = e.local; remote = e.remote; df = e.df };
      lifetimes =
          record { hard = e.hard; soft = e.soft };
    })
unfolding half_keys_in half_keys_of half_tunnel_of lifetimes_of key_parts
keys_read digits e is good =
    let k = key_read digits e.key good.key is.key in
    let l = end_read e.local is.local in
    let r = end_read e.remote is.remote in
    let d = df_read e.df in
    let h = limits_read faults.Entry e.hard is.hard in
    let s = limits_read faults.Entry e.soft is.soft in
    rw (k, l, r, d, h, s) refl

rest_read : ReadsDigits → (e : SadEntry) → IsTypedHalf e → IsGood e
    → half_rest_in (rest_parts e)
    ≡ Ok (record {
      selector = e.selector;
      keys = record {
        key = e.key;
        tunnel = record { local = e.local; remote = e.remote; df = e.df };
        lifetimes = record { hard = e.hard; soft = e.soft };
      };
    })
unfolding half_rest_in half_rest_of rest_parts selector_in selector_parts
rest_read digits e is good =
    let s : selector_of (prefix_text e.selector.local) (prefix_text e.selector.remote) (proto_text e.selector.proto)
    (ports_text e.selector.local_ports) (ports_text e.selector.remote_ports) ≡ Ok e.selector =
    selector_read e.selector is.selector good.few in
    let k = keys_read digits e is good in
    rw (s, k) refl

parts_read : ReadsDigits → (e : SadEntry) → IsTypedHalf e → IsGood e → half_in (e.name ∷ half_parts e) ≡ Ok e
unfolding half_in half_from half_parts
parts_read digits e is good =
    let n = numbers_read e is in
    let r = rest_read digits e is good in
    rw (n, r) refl

pub half_read : ReadsDigits → (e : SadEntry) → IsTypedHalf e → IsInstallable e → half_of (half_text e) ≡ Ok e
unfolding half_of AreParts
half_read digits e is fits =
    let good = good_half e fits in
    let parts : AllByRecursion (λ t. list_all is_part t ≡ true) (e.name ∷ half_parts e) =
    (half_name_part e.name good.name, half_are_parts e is good) in
    let s : slice_split is_comma (half_text e) ≡ e.name ∷ half_parts e =
    ap (slice_split is_comma) (half_joined e)
    ∙ split_behind is_comma 44 refl e.name (half_parts e)
    (each_holds (λ t. list_all is_part t ≡ true) (λ t. All (λ c. is_comma c ≡ false) t) no_comma (e.name ∷ half_parts e) parts) in
    let r = parts_read digits e is good in
    rw (s, r, fits) refl

-- a word has no space
pub half_graph : (e : SadEntry) → IsTypedHalf e → IsInstallable e → list_all is_graph (half_text e) ≡ true
unfolding AreParts
half_graph e is fits =
    let good = good_half e fits in
    let rest : AllByRecursion (λ t. list_all is_graph t ≡ true) (half_parts e) =
    each_holds (λ t. list_all is_part t ≡ true) (λ t. list_all is_graph t ≡ true) as_graph (half_parts e) (half_are_parts e is good) in
    ap (list_all is_graph) (half_joined e)
    ∙ list_all-append is_graph e.name (flat_map (λ u. 44 ∷ u) (half_parts e))
    ∙ and_from _ _ (as_graph e.name (half_name_part e.name good.name)) (all_behind is_graph 44 refl (half_parts e) rest)
