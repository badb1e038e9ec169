-- What is written for a value is read as that value, where its numbers fit 64 bits and its texts are UTF-8.
use Rattle.std.proofs.Common.{
  ◌≡◌,
  ℕ,
  ◌≤◌,
  ◌<◌,
  ◌^◌,
  suc,
  Bool,
  true,
  false,
  List,
  [],
  ◌∷◌,
  ◌++◌,
  Option,
  Some,
  IsUtf8,
  Ordering,
  Less,
  Equal,
  Greater,
  option_map,
  option_and_then,
  refl,
  sym,
  ap,
  ◌∙◌,
  append-nil,
}
use Rattle.std.specs.Ordering.{nat_cmp, match_ordering, ordering_reverse}
use Rattle.std.specs.Cmp.Lexicographic.{slice_cmp}
use Rattle.std.proofs.lemmas.Cmp.{nat_list_cmp_total}
use Rattle.std.proofs.lemmas.Str.{IsUtf8-append, IsUtf8-nil}
use Rattle.json.specs.Lex.{tokens}
use Rattle.json.specs.Token.{Token}
use Rattle.json.specs.Json as json
use Rattle.json.specs.Tree as tree
use Rattle.json.specs.Tree.{json_tokens, HasNumbers, ItemsHaveNumbers, MembersHaveNumbers}
use Rattle.json.proofs.Printed.Decimals.{IsNumber-decimal}
use Rattle.json.proofs.Printed.Tokens.{tokens-print}
use Rattle.json.proofs.Printed.Trees.{ArePrintable-json_tokens, value-json_tokens}
use Rattle.json.proofs.Printed.Utf8.{are_ascii, IsUtf8-are_ascii, IsUtf8-quoted, IsUtf8-boolean}
use Rattle.serde_json.specs.Data.{
  Num,
  unsigned,
  negative,
  float,
  Data,
  null,
  boolean,
  number,
  string,
  array,
  object,
  Items,
  no_items,
  item,
  Members,
  no_members,
  member,
  put,
  depth,
  items_depth,
  members_depth,
}
use Rattle.serde_json.specs.Read.{read, max_depth, of_json, of_items, of_members}
use Rattle.serde_json.specs.Written.{outline, items_outline, members_outline, compact_text, items_text, members_text, comma_if}
use Rattle.serde_json.proofs.Numbers.{number_of-decimal}
use Rattle.serde_json.proofs.Texts.{print-outline}
use Rattle.json_values.proofs.Plain.{utf8_number}

-- ---- plain values

-- each of these members comes after this name
abbrev pub AreAfter : List ℕ → Members → Type 0
AreAfter k no_members = Unit {0}
AreAfter k (member l d ms) = (slice_cmp nat_cmp k l ≡ Less) × AreAfter k ms

abbrev pub IsCount : Num → Type 0
IsCount (unsigned n) = n < 2 ^ 64
IsCount (negative z) = ⊥
IsCount (float x) = ⊥

abbrev mutual
  pub IsPlain : Data → Type 0
  IsPlain null = Unit {0}
  IsPlain (boolean b) = Unit {0}
  IsPlain (number n) = IsCount n
  IsPlain (string s) = IsUtf8 s
  IsPlain (array ds) = ArePlain ds
  IsPlain (object ms) = HavePlain ms

  pub ArePlain : Items → Type 0
  ArePlain no_items = Unit {0}
  ArePlain (item d ds) = IsPlain d × ArePlain ds

  pub HavePlain : Members → Type 0
  HavePlain no_members = Unit {0}
  HavePlain (member k d ms) = (are_ascii k ≡ true) × AreAfter k ms × IsPlain d × HavePlain ms

-- ---- members that are put

flipped : (k l : List ℕ) → slice_cmp nat_cmp k l ≡ Greater → slice_cmp nat_cmp l k ≡ Less
flipped k l e = nat_list_cmp_total.antisymm l k ∙ ap ordering_reverse e

after_all : (k l : List ℕ) (ms : Members) → slice_cmp nat_cmp k l ≡ Less → AreAfter l ms → AreAfter k ms
after_all k l no_members h a = tt
after_all k l (member m d ms) h a = (nat_list_cmp_total.trans k l m h a.0, after_all k l ms h a.1)

after_order : (l : List ℕ) (o : Ordering) (a b c : Members) → AreAfter l a → AreAfter l b → AreAfter l c
    → AreAfter l (match_ordering o a b c)
after_order l Less a b c x y z = x
after_order l Equal a b c x y z = y
after_order l Greater a b c x y z = z

pub after_put : (l k : List ℕ) (d : Data) (ms : Members) → slice_cmp nat_cmp l k ≡ Less → AreAfter l ms → AreAfter l (put k d ms)
after_put l k d no_members h a = (h, tt)
after_put l k d (member m e ms) h a = after_order l (slice_cmp nat_cmp k m) _ _ _ (h, a) a (a.0, after_put l k d ms h a.1)

plain_put : (k : List ℕ) (d : Data) (ms : Members) → are_ascii k ≡ true → IsPlain d → HavePlain ms → HavePlain (put k d ms)
plain_put k d no_members u p h = (u, tt, p, tt)
plain_put k d (member l e ms) u p h = by_order (slice_cmp nat_cmp k l) refl h (plain_put k d ms u p h.3)
  where
    by_order : (o : Ordering) → slice_cmp nat_cmp k l ≡ o → HavePlain (member l e ms) → HavePlain (put k d ms)
        → HavePlain (match_ordering o (member k d (member l e ms)) (member l d ms) (member l e (put k d ms)))
    by_order Less c h rest = (u, (c, after_all k l ms c h.1), p, h)
    by_order Equal c h rest = (h.0, h.1, p, h.3)
    by_order Greater c h rest = (h.0, after_put l k d ms (flipped k l c) h.1, h.2, rest)

-- ---- parts of a value that is written

pub record IsWritable (d : Data) : Type 0 where
  pub plain : IsPlain d

pub record AreWritable (ds : Items) : Type 0 where
  pub plain : ArePlain ds

pub record HaveWritable (ms : Members) : Type 0 where
  pub plain : HavePlain ms

pub write_number : (n : ℕ) → n < 2 ^ 64 → IsWritable (number (unsigned n))
write_number n small = record { plain = small }

pub write_boolean : (b : Bool) → IsWritable (boolean b)
write_boolean b = record { plain = tt }

pub write_text : (text : List ℕ) → IsUtf8 text → IsWritable (string text)
write_text text utf8 = record { plain = utf8 }

pub write_word : (word : List ℕ) → are_ascii word ≡ true → IsWritable (string word)
write_word word ascii = record { plain = IsUtf8-are_ascii word ascii }

pub write_array : (ds : Items) → AreWritable ds → IsWritable (array ds)
write_array ds each = record { plain = each.plain }

pub write_object : (ms : Members) → HaveWritable ms → IsWritable (object ms)
write_object ms each = record { plain = each.plain }

pub write_item : (d : Data) (ds : Items) → IsWritable d → AreWritable ds → AreWritable (item d ds)
write_item d ds here there = record { plain = (here.plain, there.plain) }

pub write_no_items : AreWritable no_items
write_no_items = record { plain = tt }

pub write_none : HaveWritable no_members
write_none = record { plain = tt }

pub write_member : (k : List ℕ) (d : Data) (ms : Members) → are_ascii k ≡ true → IsWritable d → HaveWritable ms → HaveWritable (put k d ms)
write_member k d ms ascii here there = record { plain = plain_put k d ms ascii here.plain there.plain }

-- ---- members that are read

abbrev pub joined : Members → Members → Members
joined no_members rest = rest
joined (member k d ms) rest = member k d (joined ms rest)

abbrev AreBefore : Members → List ℕ → Type 0
AreBefore no_members k = Unit {0}
AreBefore (member l d ms) k = (slice_cmp nat_cmp l k ≡ Less) × AreBefore ms k

abbrev AllBefore : Members → Members → Type 0
AllBefore found no_members = Unit {0}
AllBefore found (member k d ms) = AreBefore found k × AllBefore found ms

put_last : (found : Members) (k : List ℕ) (d : Data) → AreBefore found k → put k d found ≡ joined found (member k d no_members)
put_last no_members k d h = refl
put_last (member l e ms) k d h =
    let greater : slice_cmp nat_cmp k l ≡ Greater = nat_list_cmp_total.antisymm k l ∙ ap ordering_reverse h.0 in
    ap (λ o. match_ordering o (member k d (member l e ms)) (member l d ms) (member l e (put k d ms))) greater
    ∙ ap (member l e) (put_last ms k d h.1)

before_last : (found : Members) (k : List ℕ) (d : Data) (l : List ℕ) → AreBefore found l → slice_cmp nat_cmp k l ≡ Less
    → AreBefore (joined found (member k d no_members)) l
before_last no_members k d l b h = (h, tt)
before_last (member m e ms) k d l b h = (b.0, before_last ms k d l b.1 h)

before_more : (found : Members) (k : List ℕ) (d : Data) (ms : Members) → AllBefore found ms → AreAfter k ms
    → AllBefore (joined found (member k d no_members)) ms
before_more found k d no_members b a = tt
before_more found k d (member l e ms) b a = (before_last found k d l b.0 a.0, before_more found k d ms b.1 a.1)

none_before : (ms : Members) → AllBefore no_members ms
none_before no_members = tt
none_before (member k d ms) = (tt, none_before ms)

joined_more : (found : Members) (k : List ℕ) (d : Data) (ms : Members) → joined (joined found (member k d no_members)) ms ≡ joined found
    (member k d ms)
joined_more no_members k d ms = refl
joined_more (member l e found) k d ms = ap (member l e) (joined_more found k d ms)

joined_none : (found : Members) → joined found no_members ≡ found
joined_none no_members = refl
joined_none (member l e found) = ap (member l e) (joined_none found)

mutual
  value_again : (d : Data) → IsPlain d → of_json (outline d) ≡ Some d
  value_again null h = refl
  value_again (boolean b) h = refl
  value_again (number (unsigned n)) h = ap (option_map number) (number_of-decimal n h)
  value_again (number (negative z)) h = absurd h
  value_again (number (float x)) h = absurd h
  value_again (string s) h = refl
  value_again (array ds) h = ap (option_map array) (items_again ds h)
  value_again (object ms) h = ap (option_map object) (members_again ms no_members h (none_before ms))

  items_again : (ds : Items) → ArePlain ds → of_items (items_outline ds) ≡ Some ds
  items_again no_items h = refl
  items_again (item d ds) h = rw (value_again d h.0, items_again ds h.1) refl

  members_again : (ms found : Members) → HavePlain ms → AllBefore found ms → of_members (members_outline ms) found ≡ Some (joined found ms)
  members_again no_members found h b = ap Some (sym (joined_none found))
  members_again (member k d ms) found h b =
      rw (value_again d h.2, put_last found k d b.0)
      (members_again ms (joined found (member k d no_members)) h.3 (before_more found k d ms b.1 h.1) ∙ ap Some (joined_more found k d ms))

-- ---- the text

mutual
  numbers : (d : Data) → IsPlain d → HasNumbers (outline d)
  numbers null h = tt
  numbers (boolean b) h = tt
  numbers (number (unsigned n)) h = IsNumber-decimal n h
  numbers (number (negative z)) h = absurd h
  numbers (number (float x)) h = absurd h
  numbers (string s) h = tt
  numbers (array ds) h = items_numbers ds h
  numbers (object ms) h = members_numbers ms h

  items_numbers : (ds : Items) → ArePlain ds → ItemsHaveNumbers (items_outline ds)
  items_numbers no_items h = tt
  items_numbers (item d ds) h = (numbers d h.0, items_numbers ds h.1)

  members_numbers : (ms : Members) → HavePlain ms → MembersHaveNumbers (members_outline ms)
  members_numbers no_members h = tt
  members_numbers (member k d ms) h = (numbers d h.2, members_numbers ms h.3)

mutual
  depth_same : (d : Data) → tree.depth (outline d) ≡ depth d
  depth_same null = refl
  depth_same (boolean b) = refl
  depth_same (number n) = refl
  depth_same (string s) = refl
  depth_same (array ds) = ap suc (items_depth_same ds)
  depth_same (object ms) = ap suc (members_depth_same ms)

  items_depth_same : (ds : Items) → tree.items_depth (items_outline ds) ≡ items_depth ds
  items_depth_same no_items = refl
  items_depth_same (item d ds) = rw (depth_same d, items_depth_same ds) refl

  members_depth_same : (ms : Members) → tree.members_depth (members_outline ms) ≡ members_depth ms
  members_depth_same no_members = refl
  members_depth_same (member k d ms) = rw (depth_same d, members_depth_same ms) refl

comma_plain : (later : Bool) → IsUtf8 (comma_if later)
comma_plain true = IsUtf8-are_ascii (44 ∷ []) refl
comma_plain false = IsUtf8-nil

mark_plain : (c : ℕ) (text : List ℕ) → are_ascii (c ∷ []) ≡ true → IsUtf8 text → IsUtf8 (c ∷ text)
mark_plain c text h u = IsUtf8-append (c ∷ []) text (IsUtf8-are_ascii (c ∷ []) h) u

mutual
  text_utf8 : (d : Data) → IsPlain d → IsUtf8 (compact_text d)
  text_utf8 null h = IsUtf8-are_ascii (compact_text null) refl
  text_utf8 (boolean b) h = IsUtf8-boolean b
  text_utf8 (number (unsigned n)) h = utf8_number n h
  text_utf8 (number (negative z)) h = absurd h
  text_utf8 (number (float x)) h = absurd h
  text_utf8 (string s) h = IsUtf8-quoted s h
  text_utf8 (array ds) h = mark_plain 91 (items_text false ds) refl (items_plain false ds h)
  text_utf8 (object ms) h = mark_plain 123 (members_text false ms) refl (members_plain false ms h)

  items_plain : (later : Bool) (ds : Items) → ArePlain ds → IsUtf8 (items_text later ds)
  items_plain later no_items h = IsUtf8-are_ascii (93 ∷ []) refl
  items_plain later (item d ds) h =
      IsUtf8-append (comma_if later) _ (comma_plain later) (IsUtf8-append (compact_text d) _ (text_utf8 d h.0) (items_plain true ds h.1))

  members_plain : (later : Bool) (ms : Members) → HavePlain ms → IsUtf8 (members_text later ms)
  members_plain later no_members h = IsUtf8-are_ascii (125 ∷ []) refl
  members_plain later (member k d ms) h =
      let rest : IsUtf8 (compact_text d ++ members_text true ms) = IsUtf8-append (compact_text d) _ (text_utf8 d h.2)
      (members_plain true ms h.3) in
      IsUtf8-append (comma_if later) _ (comma_plain later)
      (IsUtf8-append _ _ (IsUtf8-quoted k (IsUtf8-are_ascii k h.0)) (mark_plain 58 (compact_text d ++ members_text true ms) refl rest))

-- what is read of the value that the tokens begin with
abbrev whole : Option (json.Json × List Token) → Option Data
whole found = option_and_then of_json (option_and_then (λ p. json.if_last p.0 p.1) found)

pub read_again : (d : Data) → IsWritable d → depth d ≤ max_depth → read (compact_text d) ≡ Some d
read_again d h shallow =
    let j : json.Json = outline d in
    let lexed : tokens (compact_text d) ≡ json_tokens j = ap tokens (sym (print-outline d))
    ∙ tokens-print (json_tokens j) (ArePrintable-json_tokens j (numbers d h.plain)) in
    let deep : tree.depth j ≤ max_depth = rw (depth_same d) shallow in
    ap (λ ts. whole (json.value max_depth ts)) (lexed ∙ sym (append-nil (json_tokens j)))
    ∙ ap whole (value-json_tokens j max_depth [] deep)
    ∙ value_again d h.plain

pub utf8_again : (d : Data) → IsWritable d → IsUtf8 (compact_text d)
utf8_again d h = text_utf8 d h.plain
