-- Texts that stand in JSON as they are, and how long values are there.
use Rattle.std.proofs.Common.{◌≡◌, ◌==◌, ◌+◌, ◌*◌, ◌≤◌, ◌&&◌, not, nat_le, ℕ, Bool, true, false, List, [], ◌∷◌, ◌++◌, length, map, Ordering, Less, Equal, Greater, if◌then◌else◌, refl, ap, ap₂, arith, length-append}
use Rattle.std.specs.List.{list_all, join_with_byte}
use Rattle.std.specs.Ordering.{nat_cmp, match_ordering}
use Rattle.std.specs.Cmp.Lexicographic.{slice_cmp}
use Rattle.std.proofs.lemmas.Bool.{and_parts, and_from}
use Rattle.std.proofs.lemmas.Bool.Decides.{nat_tests}
use Rattle.json.specs.Print.{escape, quoted}
use Rattle.json.proofs.Printed.Strings.{escape_byte_plain}
use Rattle.hex.specs.Hex.{lower_digits}
use Rattle.hex.proofs.HexLemmas.{length-encode_with}
use Rattle.serde_json.specs.Data.{Data, string, Members, no_members, member, put}
use Rattle.serde_json.specs.Written.{compact_text, members_text}
use Rattle.ikeless_tree.specs.Check.{is_path_octet}
use Rattle.yang_values.specs.HexText.{hex_colons, pair_text}
use Rattle.yang_values.specs.Prefixes.{is_value_octet}
use Rattle.notice_lines.proofs.Text.{IsSized, AreSized}

-- ---- octets

-- visible ASCII but the quote and the backslash
abbrev pub is_plain : ℕ → Bool
is_plain c = nat_le 33 c && nat_le c 126 && not (c == 34) && not (c == 92)

-- a test that each octet passes, by another one
pub all_also : (p q : ℕ → Bool) → ((c : ℕ) → p c ≡ true → q c ≡ true) → (t : List ℕ) → list_all p t ≡ true → list_all q t ≡ true
all_also p q f [] all = refl
all_also p q f (c ∷ cs) all =
    let parts = and_parts (p c) (list_all p cs) all in
    and_from (q c) (list_all q cs) (f c parts.0) (all_also p q f cs parts.1)

value_plain : (c : ℕ) → is_value_octet c ≡ true → is_plain c ≡ true
value_plain c h = grind (arith, nat_tests, h)

path_plain : (c : ℕ) → is_path_octet c ≡ true → is_plain c ≡ true
path_plain c h = grind (arith, nat_tests, h)

pub plain_value : (t : List ℕ) → list_all is_value_octet t ≡ true → list_all is_plain t ≡ true
plain_value t all = all_also is_value_octet is_plain value_plain t all

pub plain_path : (t : List ℕ) → list_all is_path_octet t ≡ true → list_all is_plain t ≡ true
plain_path t all = all_also is_path_octet is_plain path_plain t all

-- ---- strings

no_quote : (c : ℕ) → is_plain c ≡ true → c ≡ 34 → ⊥
no_quote c h e = grind (arith, nat_tests, h)

no_backslash : (c : ℕ) → is_plain c ≡ true → c ≡ 92 → ⊥
no_backslash c h e = grind (arith, nat_tests, h)

no_control : (c : ℕ) → is_plain c ≡ true → 32 ≤ c
no_control c h = grind (arith, nat_tests, h)

same_escaped : (s : List ℕ) → list_all is_plain s ≡ true → escape s ≡ s
same_escaped [] all = refl
same_escaped (c ∷ cs) all =
    let parts = and_parts (is_plain c) (list_all is_plain cs) all in
    ap₂ (λ (a b : List ℕ). a ++ b) (escape_byte_plain c (no_quote c parts.0) (no_backslash c parts.0) (no_control c parts.0))
    (same_escaped cs parts.1)

pub quoted_plain : (s : List ℕ) → list_all is_plain s ≡ true → length (quoted s) ≡ length s + 2
quoted_plain s all =
    let inner = ap length (same_escaped s all) in
    let both = length-append (escape s) (34 ∷ []) in
    omega (arith, inner, both)

-- a string of at most k plain octets
pub sized_text : (k : ℕ) (s : List ℕ) → list_all is_plain s ≡ true → length s ≤ k → IsSized (k + 2) (string s)
sized_text k s all short = let q = quoted_plain s all in record { size = omega (arith, short, q) }

-- ---- members

member_size : (k : List ℕ) (d : Data) (ms : Members)
    → length (members_text true (member k d ms)) ≡ length (quoted k) + length (compact_text d) + length (members_text true ms) + 2
member_size k d ms =
    let outer = length-append (quoted k) (58 ∷ (compact_text d ++ members_text true ms)) in
    let inner = length-append (compact_text d) (members_text true ms) in
    omega (arith, outer, inner)

-- the same bound for each of three
order_size : (o : Ordering) (a b c : Members) (n : ℕ) → AreSized n a → AreSized n b → AreSized n c → AreSized n (match_ordering o a b c)
order_size Less a b c n x y z = x
order_size Equal a b c n x y z = y
order_size Greater a b c n x y z = z

put_size : (n : ℕ) (k : List ℕ) (d : Data) (ms : Members)
    → length (quoted k) + length (compact_text d) + length (members_text true ms) + 2 ≤ n → AreSized n (put k d ms)
put_size n k d no_members h = let one = member_size k d no_members in record { size = omega (arith, one, h) }
put_size n k d (member l e ms) h =
    let one = member_size k d (member l e ms) in
    let two = member_size l d ms in
    let three = member_size l e (put k d ms) in
    let old = member_size l e ms in
    let ih = (put_size (length (quoted k) + length (compact_text d) + length (members_text true ms) + 2) k d ms (omega arith)).size in
    order_size (slice_cmp nat_cmp k l) (member k d (member l e ms)) (member l d ms) (member l e (put k d ms)) n
    (record { size = omega (arith, one, h) }) (record { size = omega (arith, two, old, h) }) (record {
      size = omega
          (arith, three, old, ih, h);
    })

-- a member whose name is plain
pub tight_put : (m a n : ℕ) (k : List ℕ) (d : Data) (ms : Members) → list_all is_plain k ≡ true → length k ≤ n → IsSized a d
    → AreSized m ms → AreSized (m + a + n + 4) (put k d ms)
tight_put m a n k d ms all short f g =
    let name = quoted_plain k all in
    let p = f.size in
    let q = g.size in
    put_size (m + a + n + 4) k d ms (omega (arith, name, p, q, short))

pub sized_if : (b : Bool) (n : ℕ) (x y : Members) → AreSized n x → AreSized n y → AreSized n (if b then x else y)
sized_if true n x y p q = p
sized_if false n x y p q = q

pub more_members : (m n : ℕ) (ms : Members) → m ≤ n → AreSized m ms → AreSized n ms
more_members m n ms p f = let q = f.size in record { size = omega (arith, p, q) }

-- ---- octets in hex

pair_size : (o : ℕ) → length (pair_text o) ≡ 2
pair_size o = length-encode_with lower_digits (o ∷ [])

pub hex_size : (os : List ℕ) → length (hex_colons os) ≤ 3 * length os
hex_size [] = omega arith
hex_size (o ∷ []) = let two = pair_size o in omega (arith, two)
hex_size (o ∷ p ∷ os) =
    let two = pair_size o in
    let ih = hex_size (p ∷ os) in
    let both = length-append (pair_text o) (58 ∷ join_with_byte 58 (map pair_text (p ∷ os))) in
    omega (arith, two, ih, both)
