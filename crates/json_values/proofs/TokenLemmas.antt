-- Tokens that are added one after another, and the text of those of a value.
use Rattle.std.proofs.Common.{
  ◌≡◌,
  ◌≤◌,
  ◌<◌,
  ◌+◌,
  ℕ,
  Bool,
  true,
  false,
  List,
  [],
  ◌∷◌,
  ◌++◌,
  length,
  get_or,
  drop,
  Some,
  Result,
  Less,
  if◌then◌else◌,
  refl,
  sym,
  ap,
  ◌∙◌,
  append_assoc,
  append-nil,
  arith,
  map,
}
use Rattle.std.specs.Prelude.{OnOk}
use Rattle.std.proofs.lemmas.Grind.{common_steps}
use Rattle.std.proofs.lemmas.Result.{on_ok_weaker}
use Rattle.std.specs.Ordering.{nat_cmp, match_ordering}
use Rattle.std.specs.Cmp.Lexicographic.{slice_cmp}
use Rattle.json.specs.Token.{Token, key, begin_object, end_object, begin_array, end_array}
use Rattle.json.specs.Tree.{members_tokens}
use Rattle.json.specs.Print.{print}
use Rattle.serde_json.specs.Data.{Data, array, object, no_items, item, Members, no_members, member, put, depth}
use Rattle.serde_json.specs.View.{items_of}
use Rattle.serde_json.specs.Read.{read, max_depth}
use Rattle.serde_json.specs.Written.{members_outline, compact_text}
use Rattle.serde_json.proofs.Texts.{print-outline}
use Rattle.json_values.specs.Written.{only}
use Rattle.json_values.specs.Tokens.{value_tokens, member_tokens, tokens_of_members, tokens_of_items}
use Rattle.json_values.proofs.ReadAgain.{AreAfter, after_put, joined, IsWritable, read_again}

-- what is added in two steps
pub two_steps : {A : Type 0} → (x a b y z : List A) → y ≡ x ++ a → z ≡ y ++ b → z ≡ x ++ (a ++ b)
two_steps x a b y z first second = second ∙ ap (λ s. s ++ b) first ∙ append_assoc x a b

-- what follows of what holds where a call went well
pub after_ok : {T E P Q : Type 0} (r : Result T E) → OnOk r P → (P → Q) → OnOk r Q
after_ok r h f = on_ok_weaker r f h

-- ---- members

-- a name that comes before all others comes first
put_first : (name : List ℕ) (d : Data) (ms : Members) → AreAfter name ms → put name d ms ≡ member name d ms
put_first name d no_members h = refl
put_first name d (member l e ms) h = ap (λ o. match_ordering o (member name d (member l e ms)) (member l d ms) (member l e (put name d ms)))
    h.0

pub first_tokens : (name : List ℕ) (d : Data) (ms : Members) → AreAfter name ms → tokens_of_members (put name d ms) ≡ member_tokens name d
    ++ tokens_of_members ms
first_tokens name d ms h = ap tokens_of_members (put_first name d ms h)

pub one_member : (name : List ℕ) (d : Data) → tokens_of_members (put name d no_members) ≡ member_tokens name d
one_member name d = append-nil (member_tokens name d)

-- a member that may be left out
pub maybe_first : (name : List ℕ) (d : Data) (left_out : Bool) (ms : Members) → AreAfter name ms
    → tokens_of_members (if left_out then ms else put name d ms) ≡ tokens_of_members
    (if left_out then no_members else put name d no_members) ++ tokens_of_members ms
maybe_first name d true ms h = refl
maybe_first name d false ms h = first_tokens name d ms h ∙ ap (λ s. s ++ tokens_of_members ms) (sym (one_member name d))

pub after_maybe : (k name : List ℕ) (d : Data) (left_out : Bool) (ms : Members) → slice_cmp nat_cmp k name ≡ Less → AreAfter k ms → AreAfter
    k (if left_out then ms else put name d ms)
after_maybe k name d true ms before h = h
after_maybe k name d false ms before h = after_put k name d ms before h

members_end : (ms : Members) → members_tokens (members_outline ms) ≡ tokens_of_members ms ++ end_object ∷ []
members_end no_members = refl
members_end (member name d ms) = ap (λ s. member_tokens name d ++ s) (members_end ms) ∙ sym
    (append_assoc (member_tokens name d) (tokens_of_members ms) (end_object ∷ []))

-- an object is its members between brackets
pub object_tokens : (ms : Members) → value_tokens (object ms) ≡ begin_object ∷ (tokens_of_members ms ++ end_object ∷ [])
object_tokens ms = ap (λ s. begin_object ∷ s) (members_end ms)

joined_tokens : (a b : Members) → tokens_of_members (joined a b) ≡ tokens_of_members a ++ tokens_of_members b
joined_tokens no_members b = refl
joined_tokens (member name d a) b = ap (λ s. member_tokens name d ++ s) (joined_tokens a b) ∙ sym
    (append_assoc (member_tokens name d) (tokens_of_members a) (tokens_of_members b))

-- an object whose members are written in three parts
pub three_parts : (a b c : Members) → begin_object ∷ (tokens_of_members a ++
    (tokens_of_members b ++ (tokens_of_members c ++ end_object ∷ []))) ≡ value_tokens (object (joined a (joined b c)))
three_parts a b c =
    let close : List Token = end_object ∷ [] in
    sym (object_tokens (joined a (joined b c))
    ∙ ap (λ s. begin_object ∷ (s ++ close)) (joined_tokens a (joined b c) ∙ ap (λ s. tokens_of_members a ++ s) (joined_tokens b c))
    ∙ ap (λ s. begin_object ∷ s) (append_assoc (tokens_of_members a) (tokens_of_members b ++ tokens_of_members c) close ∙ ap
    (λ s. tokens_of_members a ++ s) (append_assoc (tokens_of_members b) (tokens_of_members c) close)))

-- ---- items

-- the tokens of one more item stand behind those before it
pub one_more_item : {A : Type 0} → (f : A → Data) (xs : List A) (i : ℕ) (d x : A) (before after whole : List Token) → i < length xs → x ≡
    get_or xs i d
    → before ++ tokens_of_items (items_of (map f (drop i xs))) ≡ whole → after ≡ before ++ value_tokens (f x) → after ++ tokens_of_items
    (items_of (map f (drop (i + 1) xs))) ≡ whole
one_more_item f xs i d x before after whole inside is so_far added =
    let next : drop i xs ≡ x ∷ drop (i + 1) xs = grind (arith, common_steps, is) in
    let rest : List Token = tokens_of_items (items_of (map f (drop (i + 1) xs))) in
    ap (λ s. s ++ rest) added ∙ append_assoc before (value_tokens (f x)) rest ∙ sym
    (ap (λ ys. before ++ tokens_of_items (items_of (map f ys))) next) ∙ so_far

-- the bracket behind the last item closes the array
pub all_items : {A : Type 0} → (f : A → Data) (xs : List A) (i : ℕ) (before after whole : List Token) → length xs ≤ i
    → before ++ tokens_of_items (items_of (map f (drop i xs))) ≡ whole → after ≡ before ++ end_array ∷ [] → after ≡ whole
all_items f xs i before after whole past so_far ended =
    let none : drop i xs ≡ [] = grind (arith, common_steps) in
    ended ∙ sym (ap (λ ys. before ++ tokens_of_items (items_of (map f ys))) none) ∙ so_far

-- ---- bodies

-- an object of one member, an array of one item
pub one_item_added : (name : List ℕ) (d : Data) (all : List Token)
    → all ≡ begin_object ∷ key name ∷ begin_array ∷ (value_tokens d ++ (end_array ∷ end_object ∷ [])) → all ≡ value_tokens
    (only name (array (item d no_items)))
one_item_added name d all is = is ∙ ap (λ s. begin_object ∷ key name ∷ begin_array ∷ s)
    (sym (append_assoc (value_tokens d) (end_array ∷ []) (end_object ∷ [])))

-- an object of one member, an object of one member too
pub inner_added : (name inner : List ℕ) (d : Data) (all : List Token)
    → all ≡ begin_object ∷ key name ∷ begin_object ∷ key inner ∷ (value_tokens d ++ (end_object ∷ end_object ∷ [])) → all ≡ value_tokens
    (only name (only inner d))
inner_added name inner d all is = is ∙ ap (λ s. begin_object ∷ key name ∷ begin_object ∷ key inner ∷ s)
    (sym (append_assoc (value_tokens d) (end_object ∷ []) (end_object ∷ [])))

-- the text of the tokens of a value
pub text_of : (text : List ℕ) (all : List Token) (d : Data) → text ≡ print all → all ≡ value_tokens d → text ≡ compact_text d
text_of text all d printed is = printed ∙ ap print is ∙ print-outline d

pub text_reads : (text : List ℕ) (d : Data) → text ≡ compact_text d → IsWritable d → depth d ≤ max_depth → read text ≡ Some d
text_reads text d is writable shallow = ap read is ∙ read_again d writable shallow
