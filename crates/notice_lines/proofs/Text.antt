-- The compact text of a value has no LF, and how long it is.
use Rattle.std.proofs.Common.{◌≡◌, ◌==◌, ◌+◌, ◌*◌, ◌/◌, ◌%◌, ◌^◌, ◌<◌, ◌≤◌, nat_lt, cond, ℕ, Bool, true, false, List, [], ◌∷◌, ◌++◌, length, None, Ordering, Less, Equal, Greater, refl, arith, length-append}
use Rattle.std.specs.List.{list_all}
use Rattle.std.specs.Fmt.{decimal}
use Rattle.std.specs.Ordering.{nat_cmp, match_ordering}
use Rattle.std.specs.Char.{digit_char}
use Rattle.std.specs.Cmp.Lexicographic.{slice_cmp}
use Rattle.std.proofs.lemmas.Bool.{and_parts}
use Rattle.std.proofs.lemmas.Bool.Decides.{nat_tests}
use Rattle.std.proofs.lemmas.Fmt.{length-decimal-le}
use Rattle.json.specs.Print.{escape_letter, escape_byte, escape, quoted}
use Rattle.serde_json.specs.Data.{Num, unsigned, negative, float, Data, null, boolean, number, string, array, object, Items, no_items, item, Members, no_members, member, put}
use Rattle.serde_json.specs.Written.{compact_text, items_text, members_text, comma_if}
use Rattle.yang_values.specs.Prefixes.{is_value_octet}
use Rattle.notice_lines.specs.Reading.{line_end}
use Rattle.notice_lines.proofs.Ends.{end_none}

-- ---- no LF

pub more_none : (c : ℕ) (cs : List ℕ) → (c == 10) ≡ false → line_end cs ≡ None → line_end (c ∷ cs) ≡ None
more_none c cs p q = rw (p, q) refl

letter_none : (x : ℕ) → (escape_letter x == 10) ≡ false
letter_none x = grind (arith, nat_tests)

digit_none : (d : ℕ) → (digit_char d == 10) ≡ false
digit_none d = grind (arith, nat_tests)

self_none : (x : ℕ) → nat_lt x 32 ≡ false → (x == 10) ≡ false
self_none x e = grind (arith, nat_tests)

byte_by : (b s : Bool) (x : ℕ) → nat_lt x 32 ≡ s
    → line_end (cond b (92 ∷ escape_letter x ∷ []) (cond s (92 ∷ 117 ∷ 48 ∷ 48 ∷ digit_char (x / 16) ∷ digit_char (x % 16) ∷ []) (x ∷ [])))
    ≡ None
byte_by true s x e = more_none 92 (escape_letter x ∷ []) refl (more_none (escape_letter x) [] (letter_none x) refl)
byte_by false true x e =
    let digits = digit_char (x / 16) ∷ digit_char (x % 16) ∷ [] in
    let none = more_none (digit_char (x / 16)) (digit_char (x % 16) ∷ []) (digit_none (x / 16))
    (more_none (digit_char (x % 16)) [] (digit_none (x % 16)) refl) in
    more_none 92 (117 ∷ 48 ∷ 48 ∷ digits) refl
    (more_none 117 (48 ∷ 48 ∷ digits) refl (more_none 48 (48 ∷ digits) refl (more_none 48 digits refl none)))
byte_by false false x e = more_none x [] (self_none x e) refl

byte_none : (x : ℕ) → line_end (escape_byte x) ≡ None
unfolding escape_byte
byte_none x = byte_by (nat_lt 0 (escape_letter x)) (nat_lt x 32) x refl

escape_none : (s : List ℕ) → line_end (escape s) ≡ None
escape_none [] = refl
escape_none (x ∷ xs) = end_none (escape_byte x) (escape xs) (byte_none x) (escape_none xs)

quoted_none : (s : List ℕ) → line_end (quoted s) ≡ None
quoted_none s = more_none 34 (escape s ++ 34 ∷ []) refl (end_none (escape s) (34 ∷ []) (escape_none s) refl)

value_none : (c : ℕ) → is_value_octet c ≡ true → (c == 10) ≡ false
value_none c e = grind (arith, nat_tests)

values_none : (t : List ℕ) → list_all is_value_octet t ≡ true → line_end t ≡ None
values_none [] all = refl
values_none (c ∷ cs) all =
    let parts = and_parts (is_value_octet c) (list_all is_value_octet cs) all in
    more_none c cs (value_none c parts.0) (values_none cs parts.1)

abbrev pub PlainNumbers : Type 0
PlainNumbers = (n : ℕ) → n < 2 ^ 64 → list_all is_value_octet (decimal n) ≡ true

-- numbers of 64 bits without a sign, and no others
abbrev pub IsNarrow : Num → Type 0
IsNarrow (unsigned n) = n < 2 ^ 64
IsNarrow (negative z) = ⊥
IsNarrow (float x) = ⊥

abbrev mutual
  pub HasNarrow : Data → Type 0
  HasNarrow null = Unit {0}
  HasNarrow (boolean b) = Unit {0}
  HasNarrow (number n) = IsNarrow n
  HasNarrow (string s) = Unit {0}
  HasNarrow (array ds) = ItemsNarrow ds
  HasNarrow (object ms) = MembersNarrow ms

  pub ItemsNarrow : Items → Type 0
  ItemsNarrow no_items = Unit {0}
  ItemsNarrow (item d ds) = HasNarrow d × ItemsNarrow ds

  pub MembersNarrow : Members → Type 0
  MembersNarrow no_members = Unit {0}
  MembersNarrow (member k d ms) = HasNarrow d × MembersNarrow ms

comma_none : (later : Bool) (x : List ℕ) → line_end x ≡ None → line_end (comma_if later ++ x) ≡ None
comma_none true x e = more_none 44 x refl e
comma_none false x e = e

mutual
  pub text_none : PlainNumbers → (d : Data) → HasNarrow d → line_end (compact_text d) ≡ None
  text_none plain null h = refl
  text_none plain (boolean true) h = refl
  text_none plain (boolean false) h = refl
  text_none plain (number (unsigned n)) h = values_none (decimal n) (plain n h)
  text_none plain (number (negative z)) h = absurd h
  text_none plain (number (float x)) h = absurd h
  text_none plain (string s) h = quoted_none s
  text_none plain (array ds) h = more_none 91 (items_text false ds) refl (items_none plain false ds h)
  text_none plain (object ms) h = more_none 123 (members_text false ms) refl (members_none plain false ms h)

  items_none : PlainNumbers → (later : Bool) (ds : Items) → ItemsNarrow ds → line_end (items_text later ds) ≡ None
  items_none plain later no_items h = refl
  items_none plain later (item d ds) h =
      comma_none later (compact_text d ++ items_text true ds) (end_none (compact_text d) (items_text true ds) (text_none plain d h.0)
      (items_none plain true ds h.1))

  members_none : PlainNumbers → (later : Bool) (ms : Members) → MembersNarrow ms → line_end (members_text later ms) ≡ None
  members_none plain later no_members h = refl
  members_none plain later (member k d ms) h =
      comma_none later (quoted k ++ 58 ∷ (compact_text d ++ members_text true ms))
      (end_none (quoted k) (58 ∷ (compact_text d ++ members_text true ms)) (quoted_none k)
      (more_none 58 (compact_text d ++ members_text true ms) refl
      (end_none (compact_text d) (members_text true ms) (text_none plain d h.0) (members_none plain true ms h.1))))

narrow_order : (o : Ordering) (a b c : Members) → MembersNarrow a → MembersNarrow b → MembersNarrow c
    → MembersNarrow (match_ordering o a b c)
narrow_order Less a b c x y z = x
narrow_order Equal a b c x y z = y
narrow_order Greater a b c x y z = z

narrow_members : (k : List ℕ) (d : Data) (ms : Members) → HasNarrow d → MembersNarrow ms → MembersNarrow (put k d ms)
narrow_members k d no_members f m = (f, m)
narrow_members k d (member l e ms) f m =
    narrow_order (slice_cmp nat_cmp k l) (member k d (member l e ms)) (member l d ms) (member l e (put k d ms))
    (f, m) (f, m.1) (m.0, narrow_members k d ms f m.1)

pub record IsPlain (d : Data) : Type 0 where
  pub is : HasNarrow d

pub record ArePlain (ms : Members) : Type 0 where
  pub are : MembersNarrow ms

pub plain_put : (k : List ℕ) (d : Data) (ms : Members) → IsPlain d → ArePlain ms → ArePlain (put k d ms)
plain_put k d ms f m = record { are = narrow_members k d ms f.is m.are }

pub plain_none : ArePlain no_members
plain_none = record { are = tt }

pub plain_object : (ms : Members) → ArePlain ms → IsPlain (object ms)
plain_object ms m = record { is = m.are }

pub plain_string : (s : List ℕ) → IsPlain (string s)
plain_string s = record { is = tt }

pub plain_boolean : (b : Bool) → IsPlain (boolean b)
plain_boolean b = record { is = tt }

pub plain_number : (n : ℕ) → n < 2 ^ 64 → IsPlain (number (unsigned n))
plain_number n h = record { is = h }

-- ---- lengths

byte_size_by : (b s : Bool) (x : ℕ)
    → length (cond b (92 ∷ escape_letter x ∷ []) (cond s (92 ∷ 117 ∷ 48 ∷ 48 ∷ digit_char (x / 16) ∷ digit_char (x % 16) ∷ []) (x ∷ []))) ≤
    6
byte_size_by true s x = omega arith
byte_size_by false true x = omega arith
byte_size_by false false x = omega arith

byte_size : (x : ℕ) → length (escape_byte x) ≤ 6
unfolding escape_byte
byte_size x = byte_size_by (nat_lt 0 (escape_letter x)) (nat_lt x 32) x

escape_size : (s : List ℕ) → length (escape s) ≤ 6 * length s
escape_size [] = omega arith
escape_size (x ∷ xs) =
    let here = byte_size x in
    let there = escape_size xs in
    let both = length-append (escape_byte x) (escape xs) in
    omega (arith, here, there, both)

pub quoted_size : (s : List ℕ) → length (quoted s) ≤ 6 * length s + 2
quoted_size s =
    let inner = escape_size s in
    let both = length-append (escape s) (34 ∷ []) in
    omega (arith, inner, both)

pub record IsSized (m : ℕ) (d : Data) : Type 0 where
  pub size : length (compact_text d) ≤ m

pub record AreSized (m : ℕ) (ms : Members) : Type 0 where
  pub size : length (members_text true ms) ≤ m

pub record AreSizedItems (m : ℕ) (ds : Items) : Type 0 where
  pub size : length (items_text true ds) ≤ m

member_size : (k : List ℕ) (d : Data) (ms : Members) → length (members_text true (member k d ms)) ≡ length (quoted k) + length
    (compact_text d) + length (members_text true ms) + 2
member_size k d ms =
    let outer = length-append (quoted k) (58 ∷ (compact_text d ++ members_text true ms)) in
    let inner = length-append (compact_text d) (members_text true ms) in
    omega (arith, outer, inner)

order_size : (o : Ordering) (a b c : Members) (n : ℕ) → length (members_text true a) ≤ n → length (members_text true b) ≤ n
    → length (members_text true c) ≤ n → length (members_text true (match_ordering o a b c)) ≤ n
order_size Less a b c n x y z = x
order_size Equal a b c n x y z = y
order_size Greater a b c n x y z = z

put_size : (k : List ℕ) (d : Data) (ms : Members) → length (members_text true (put k d ms)) ≤ length (members_text true ms) + length
    (quoted k) + length (compact_text d) + 2
put_size k d no_members = let one = member_size k d no_members in omega (arith, one)
put_size k d (member l e ms) =
    let one = member_size k d (member l e ms) in
    let two = member_size l d ms in
    let three = member_size l e (put k d ms) in
    let old = member_size l e ms in
    let ih = put_size k d ms in
    order_size (slice_cmp nat_cmp k l) (member k d (member l e ms)) (member l d ms) (member l e (put k d ms)) _
    (omega (arith, one)) (omega (arith, two, old)) (omega (arith, three, old, ih))

pub sized_put : (m a n : ℕ) (k : List ℕ) (d : Data) (ms : Members) → length k ≤ n → IsSized a d → AreSized m ms
    → AreSized (m + a + 6 * n + 4) (put k d ms)
sized_put m a n k d ms short f g =
    let all = put_size k d ms in
    let name = quoted_size k in
    let p = f.size in
    let q = g.size in
    record { size = omega (arith, all, name, p, q, short) }

pub sized_none : AreSized 1 no_members
sized_none = record { size = omega arith }

pub sized_object : (m : ℕ) (ms : Members) → AreSized m ms → IsSized (m + 1) (object ms)
sized_object m no_members f = let p = f.size in record { size = omega (arith, p) }
sized_object m (member k d ms) f = let p = f.size in record { size = omega (arith, p) }

pub sized_array : (m : ℕ) (ds : Items) → AreSizedItems m ds → IsSized (m + 1) (array ds)
sized_array m no_items f = let p = f.size in record { size = omega (arith, p) }
sized_array m (item d ds) f = let p = f.size in record { size = omega (arith, p) }

pub sized_item : (m a : ℕ) (d : Data) (ds : Items) → IsSized a d → AreSizedItems m ds → AreSizedItems (m + a + 1) (item d ds)
sized_item m a d ds f g =
    let both = length-append (compact_text d) (items_text true ds) in
    let p = f.size in
    let q = g.size in
    record { size = omega (arith, both, p, q) }

pub sized_no_items : AreSizedItems 1 no_items
sized_no_items = record { size = omega arith }

pub sized_string : (k : ℕ) (s : List ℕ) → length s ≤ k → IsSized (6 * k + 2) (string s)
sized_string k s p = let q = quoted_size s in record { size = omega (arith, p, q) }

pub sized_number : (k n : ℕ) → 0 < k → n < 10 ^ k → n < 2 ^ 64 → IsSized k (number (unsigned n))
sized_number k n p q r = record { size = length-decimal-le k n p q r }

pub sized_boolean : (b : Bool) → IsSized 5 (boolean b)
sized_boolean true = record { size = omega arith }
sized_boolean false = record { size = omega arith }

pub sized_more : (m n : ℕ) (d : Data) → m ≤ n → IsSized m d → IsSized n d
sized_more m n d p f = let q = f.size in record { size = omega (arith, p, q) }
