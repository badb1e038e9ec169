-- What a leaf is read as, and what it stands for.
use Rattle.std.proofs.Common.{◌≡◌, ℕ, ◌≤◌, ◌&&◌, nat_le, if◌then◌else◌, Bool, true, false, List, codes, Option, Some, None, option_and_then, Result, Ok, Err, refl, sym, ap, subst, ◌∙◌}
use Rattle.std.specs.Bool.{⊤}
use Rattle.std.specs.Str.{bytes_eq}
use Rattle.std.proofs.lemmas.Slice.Eq.{bytes_eq-Decides}
use Rattle.std.proofs.lemmas.Bool.{and_parts, leb-true, le-leb}
use Rattle.serde_json.specs.Data.{unsigned, negative, float, Data, null, boolean, number, string, array, object}
use Rattle.serde_json.specs.Find.{as_number, as_u64, as_str, as_bool}
use Rattle.ikl_base.specs.declared.address.Prefix.{Prefix}
use Rattle.ikeless_tree.specs.declared.entry.Direction.{Direction}
use Rattle.ikeless_tree.specs.declared.entry.Action.{Action}
use Rattle.ikeless_tree.specs.declared.entry.Action.TheVariants as actions
use Rattle.ikeless_tree.specs.declared.sad.Df.{Df}
use Rattle.ikeless_tree.specs.declared.sad.Df.TheVariants as bits
use Rattle.ikeless_tree.specs.Words.{direction_word, direction_of_word, action_text, action_of, df_text, df_of, mode_text, mode_of}
use Rattle.ikeless_tree.proofs.WordLemmas.{direction_word_again, direction_word_is, action_again, action_is, df_again, df_is, mode_again, mode_is}
use Rattle.yang_values.specs.declared.value.BadValue.{BadValue}
use Rattle.yang_values.specs.Numbers.{u64_of}
use Rattle.yang_values.specs.Prefixes.{prefix_of}
use Rattle.json_values.specs.declared.fault.Kind.{Kind}
use Rattle.json_values.specs.declared.fault.Kind.TheVariants as kinds
use Rattle.json_values.specs.declared.fault.Fault.{Fault}
use Rattle.json_values.specs.Faults.{◌>>=◌, or_kind, within, at_member}
use Rattle.json_values.specs.Leaves.{or_form, text_in, in_range, number_in, wide_from, wide_in, needed_number, number_or, wide_or, prefix_from, prefix_leaf, protocol_leaf, protocol_from, or_unsupported, direction_from, direction_leaf, action_from, action_leaf, df_from, df_leaf, mode_from, mode_leaf, this_word, fixed_word, not_set, unset_leaf, name_where, name_leaf}
use Rattle.json_values.specs.Json.{Needed, Optional, IsNumber, IsWord, IsFalse, IsWide, IsPrefix, IsName, IsProtocol}

-- ---- steps

pub ok_is : {A E : Type 0} → (x y : A) → (let r : Result A E = Ok x in r) ≡ Ok y → x ≡ y
ok_is x y h = cc h

pub bind_ok : {A B E : Type 0} → (r : Result A E) (f : A → Result B E) (y : B) → (r >>= f) ≡ Ok y → (x : A) × (r ≡ Ok x) × (f x ≡ Ok y)
bind_ok (Ok x) f y h = (x, refl, h)
bind_ok (Err e) f y h = absurd (let no : ⊥ = cc in no)

pub bind_of : {A B E : Type 0} → (r : Result A E) (f : A → Result B E) (x : A) (y : Result B E) → r ≡ Ok x → f x ≡ y → (r >>= f) ≡ y
bind_of r f x y h k = rw h k

pub within_ok : {A : Type 0} → (name : List ℕ) (r : Result A Fault) (x : A) → within name r ≡ Ok x → r ≡ Ok x
within_ok name (Ok y) x h = h
within_ok name (Err e) x h = absurd (let no : ⊥ = cc in no)

pub within_of : {A : Type 0} → (name : List ℕ) (r : Result A Fault) (x : A) → r ≡ Ok x → within name r ≡ Ok x
within_of name r x h = rw h refl

pub member_ok : {A : Type 0} → (name : List ℕ) (r : Result A Kind) (x : A) → at_member name r ≡ Ok x → r ≡ Ok x
member_ok name (Ok y) x h = ap Ok (ok_is y x h)
member_ok name (Err e) x h = absurd (let no : ⊥ = cc in no)

pub member_of : {A : Type 0} → (name : List ℕ) (r : Result A Kind) (x : A) → r ≡ Ok x → at_member name r ≡ Ok x
member_of name r x h = rw h refl

pub kind_ok : {A : Type 0} → (r : Result A BadValue) (x : A) → or_kind r ≡ Ok x → r ≡ Ok x
kind_ok (Ok y) x h = ap Ok (ok_is y x h)
kind_ok (Err e) x h = absurd (let no : ⊥ = cc in no)

pub kind_of : {A : Type 0} → (r : Result A BadValue) (x : A) → r ≡ Ok x → or_kind r ≡ Ok x
kind_of r x h = rw h refl

-- ---- kinds of values

pub text_ok : (d : Data) (t : List ℕ) → text_in d ≡ Ok t → d ≡ string t
text_ok null t h = absurd (let no : ⊥ = cc in no)
text_ok (boolean b) t h = absurd (let no : ⊥ = cc in no)
text_ok (number n) t h = absurd (let no : ⊥ = cc in no)
text_ok (string s) t h = ap string (ok_is s t h)
text_ok (array ds) t h = absurd (let no : ⊥ = cc in no)
text_ok (object ms) t h = absurd (let no : ⊥ = cc in no)

pub u64_ok : (d : Data) (n : ℕ) → or_form (option_and_then as_u64 (as_number d)) ≡ Ok n → d ≡ number (unsigned n)
u64_ok null n h = absurd (let no : ⊥ = cc in no)
u64_ok (boolean b) n h = absurd (let no : ⊥ = cc in no)
u64_ok (number (unsigned m)) n h = ap (λ k. number (unsigned k)) (ok_is m n h)
u64_ok (number (negative z)) n h = absurd (let no : ⊥ = cc in no)
u64_ok (number (float x)) n h = absurd (let no : ⊥ = cc in no)
u64_ok (string s) n h = absurd (let no : ⊥ = cc in no)
u64_ok (array ds) n h = absurd (let no : ⊥ = cc in no)
u64_ok (object ms) n h = absurd (let no : ⊥ = cc in no)

bool_ok : (d : Data) (b : Bool) → or_form (as_bool d) ≡ Ok b → d ≡ boolean b
bool_ok null b h = absurd (let no : ⊥ = cc in no)
bool_ok (boolean c) b h = ap boolean (ok_is c b h)
bool_ok (number n) b h = absurd (let no : ⊥ = cc in no)
bool_ok (string s) b h = absurd (let no : ⊥ = cc in no)
bool_ok (array ds) b h = absurd (let no : ⊥ = cc in no)
bool_ok (object ms) b h = absurd (let no : ⊥ = cc in no)

-- ---- numbers

range_by : (t : Bool) (m n : ℕ) → (let r : Result ℕ Kind = if t then Ok m else Err kinds.Range in r) ≡ Ok n → (t ≡ true) × (m ≡ n)
range_by true m n h = (refl, ok_is m n h)
range_by false m n h = absurd (let no : ⊥ = cc in no)

range_ok : (least most m n : ℕ) → in_range least most m ≡ Ok n → (m ≡ n) × (least ≤ n) × (n ≤ most)
range_ok least most m n h =
    let parts = range_by (nat_le least m && nat_le m most) m n h in
    let both = and_parts (nat_le least m) (nat_le m most) parts.0 in
    (parts.1, subst (λ k. least ≤ k) parts.1 (leb-true least m both.0), subst (λ k. k ≤ most) parts.1 (leb-true m most both.1))

range_of : (least most n : ℕ) → least ≤ n → n ≤ most → in_range least most n ≡ Ok n
range_of least most n low high = rw (le-leb least n low, le-leb n most high) refl

pub number_ok : (least most n : ℕ) (d : Data) → number_in least most d ≡ Ok n → IsNumber least most n d
number_ok least most n d h =
    let step = bind_ok (or_form (option_and_then as_u64 (as_number d))) (in_range least most) n h in
    let parts = range_ok least most step.0 n step.2 in
    (u64_ok d step.0 step.1 ∙ ap (λ k. number (unsigned k)) parts.0, parts.1, parts.2)

pub number_of : (least most n : ℕ) (d : Data) → IsNumber least most n d → number_in least most d ≡ Ok n
number_of least most n d h = rw h.0 (range_of least most n h.1 h.2)

-- ---- texts

pub wide_ok : (n : ℕ) (d : Data) → wide_in d ≡ Ok n → IsWide n d
wide_ok n d h = let step = bind_ok (text_in d) wide_from n h in (step.0, text_ok d step.0 step.1, kind_ok (u64_of step.0) n step.2)

pub wide_of : (n : ℕ) (d : Data) → IsWide n d → wide_in d ≡ Ok n
wide_of n d h = rw h.1 (kind_of (u64_of h.0) n h.2)

pub needed_prefix_ok : (p : Prefix) (leaf : Option Data) → prefix_leaf leaf ≡ Ok p → Needed (IsPrefix p) leaf
needed_prefix_ok p None h = absurd (let no : ⊥ = cc in no)
needed_prefix_ok p (Some d) h = let step = bind_ok (text_in d) prefix_from p h in
    (step.0, text_ok d step.0 step.1, kind_ok (prefix_of step.0) p step.2)

pub needed_prefix_of : (p : Prefix) (leaf : Option Data) → Needed (IsPrefix p) leaf → prefix_leaf leaf ≡ Ok p
needed_prefix_of p None h = absurd h
needed_prefix_of p (Some d) h = rw h.1 (kind_of (prefix_of h.0) p h.2)

-- ---- words

this_by : (word t : List ℕ) (p : Bool) (u : ⊤) → bytes_eq t word ≡ p
    → (let r : Result ⊤ Kind = if p then Ok tt else Err kinds.Unsupported in r) ≡ Ok u → t ≡ word
this_by word t true u e h = (bytes_eq-Decides t word).0 e
this_by word t false u e h = absurd (let no : ⊥ = cc in no)

pub fixed_ok : (word : List ℕ) (leaf : Option Data) (u : ⊤) → fixed_word word leaf ≡ Ok u → Optional (IsWord word) (Unit {0}) leaf
fixed_ok word None u h = tt
fixed_ok word (Some d) u h =
    let step = bind_ok (text_in d) (this_word word) u h in
    text_ok d step.0 step.1 ∙ ap string (this_by word step.0 (bytes_eq step.0 word) u refl step.2)

pub fixed_of : (word : List ℕ) (leaf : Option Data) → Optional (IsWord word) (Unit {0}) leaf → fixed_word word leaf ≡ Ok tt
fixed_of word None h = refl
fixed_of word (Some d) h = rw h (rw ((bytes_eq-Decides word word).1 refl) refl)

pub unset_ok : (leaf : Option Data) (u : ⊤) → unset_leaf leaf ≡ Ok u → Optional IsFalse (Unit {0}) leaf
unset_ok None u h = tt
unset_ok (Some d) u h =
    let step = bind_ok (or_form (as_bool d)) not_set u h in
    by step.0 (bool_ok d step.0 step.1) step.2
  where
    by : (b : Bool) → d ≡ boolean b → not_set b ≡ Ok u → d ≡ boolean false
    by false e k = e
    by true e k = absurd (let no : ⊥ = cc in no)

pub unset_of : (leaf : Option Data) → Optional IsFalse (Unit {0}) leaf → unset_leaf leaf ≡ Ok tt
unset_of None h = refl
unset_of (Some d) h = rw h refl

word_ok : {A : Type 0} → (o : Option A) (x : A) → or_unsupported o ≡ Ok x → o ≡ Some x
word_ok None x h = absurd (let no : ⊥ = cc in no)
word_ok (Some y) x h = ap Some (ok_is y x h)

pub direction_ok : (x : Direction) (leaf : Option Data) → direction_leaf leaf ≡ Ok x → Needed (IsWord (direction_word x)) leaf
direction_ok x None h = absurd (let no : ⊥ = cc in no)
direction_ok x (Some d) h =
    let step = bind_ok (text_in d) direction_from x h in
    text_ok d step.0 step.1 ∙ ap string (direction_word_is step.0 x (word_ok (direction_of_word step.0) x step.2))

pub direction_back : (x : Direction) (leaf : Option Data) → Needed (IsWord (direction_word x)) leaf → direction_leaf leaf ≡ Ok x
direction_back x None h = absurd h
direction_back x (Some d) h = rw (h, direction_word_again x) refl

pub action_ok : (x : Action) (leaf : Option Data) → action_leaf leaf ≡ Ok x → Optional (IsWord (action_text x)) (x ≡ actions.Discard) leaf
action_ok x None h = sym (ok_is actions.Discard x h)
action_ok x (Some d) h =
    let step = bind_ok (text_in d) action_from x h in
    text_ok d step.0 step.1 ∙ ap string (action_is step.0 x (word_ok (action_of step.0) x step.2))

pub action_back : (x : Action) (leaf : Option Data) → Optional (IsWord (action_text x)) (x ≡ actions.Discard) leaf → action_leaf leaf ≡ Ok x
action_back x None h = ap Ok (sym h)
action_back x (Some d) h = rw (h, action_again x) refl

pub df_ok : (x : Df) (leaf : Option Data) → df_leaf leaf ≡ Ok x → Optional (IsWord (df_text x)) (x ≡ bits.Copy) leaf
df_ok x None h = sym (ok_is bits.Copy x h)
df_ok x (Some d) h =
    let step = bind_ok (text_in d) df_from x h in
    text_ok d step.0 step.1 ∙ ap string (df_is step.0 x (word_ok (df_of step.0) x step.2))

pub df_back : (x : Df) (leaf : Option Data) → Optional (IsWord (df_text x)) (x ≡ bits.Copy) leaf → df_leaf leaf ≡ Ok x
df_back x None h = ap Ok (sym h)
df_back x (Some d) h = rw (h, df_again x) refl

pub mode_ok : (x : Bool) (leaf : Option Data) → mode_leaf leaf ≡ Ok x → Needed (IsWord (mode_text x)) leaf
mode_ok x None h = absurd (let no : ⊥ = cc in no)
mode_ok x (Some d) h =
    let step = bind_ok (text_in d) mode_from x h in
    text_ok d step.0 step.1 ∙ ap string (mode_is step.0 x (word_ok (mode_of step.0) x step.2))

pub mode_back : (x : Bool) (leaf : Option Data) → Needed (IsWord (mode_text x)) leaf → mode_leaf leaf ≡ Ok x
mode_back x None h = absurd h
mode_back x (Some d) h = rw (h, mode_again x) refl

any_by : (t : List ℕ) (q : Bool) (p : Option ℕ) → bytes_eq t (codes "any") ≡ q
    → (let r : Result (Option ℕ) Kind = if q then Ok None else Err kinds.Unsupported in r) ≡ Ok p → (t ≡ codes "any") × (None ≡ p)
any_by t true p e h = ((bytes_eq-Decides t (codes "any")).0 e, ok_is None p h)
any_by t false p e h = absurd (let no : ⊥ = cc in no)

str_is : (d : Data) (t : List ℕ) → as_str d ≡ Some t → d ≡ string t
str_is d t h = text_ok d t (ap or_form h)

protocol_by : (p : Option ℕ) (d : Data) (o : Option (List ℕ)) → as_str d ≡ o → protocol_from o d ≡ Ok p → IsProtocol p d
protocol_by p d None e h =
    let step = bind_ok (number_in 0 255 d) (λ n. Ok (Some n)) p h in
    subst (λ q. IsProtocol q d) (ok_is (Some step.0) p step.2) (number_ok 0 255 step.0 d step.1)
protocol_by p d (Some t) e h =
    let parts = any_by t (bytes_eq t (codes "any")) p refl h in
    subst (λ q. IsProtocol q d) parts.1 (str_is d t e ∙ ap string parts.0)

pub protocol_ok : (p : Option ℕ) (leaf : Option Data) → protocol_leaf leaf ≡ Ok p → Optional (IsProtocol p) (p ≡ None) leaf
protocol_ok p None h = sym (ok_is None p h)
protocol_ok p (Some d) h = protocol_by p d (as_str d) refl h

pub protocol_of : (p : Option ℕ) (leaf : Option Data) → Optional (IsProtocol p) (p ≡ None) leaf → protocol_leaf leaf ≡ Ok p
protocol_of p None h = ap Ok (sym h)
protocol_of None (Some d) h = rw h refl
protocol_of (Some n) (Some d) h = rw h.0 (rw (range_of 0 255 n h.1 h.2) refl)

-- ---- members

pub needed_number_ok : (least most n : ℕ) (leaf : Option Data) → needed_number least most leaf ≡ Ok n → Needed (IsNumber least most n) leaf
needed_number_ok least most n None h = absurd (let no : ⊥ = cc in no)
needed_number_ok least most n (Some d) h = number_ok least most n d h

pub needed_number_of : (least most n : ℕ) (leaf : Option Data) → Needed (IsNumber least most n) leaf → needed_number least most leaf ≡ Ok n
needed_number_of least most n None h = absurd h
needed_number_of least most n (Some d) h = number_of least most n d h

pub number_or_ok : (absent least most n : ℕ) (leaf : Option Data) → number_or absent least most leaf ≡ Ok n
    → Optional (IsNumber least most n) (n ≡ absent) leaf
number_or_ok absent least most n None h = sym (ok_is absent n h)
number_or_ok absent least most n (Some d) h = number_ok least most n d h

pub number_or_of : (absent least most n : ℕ) (leaf : Option Data) → Optional (IsNumber least most n) (n ≡ absent) leaf
    → number_or absent least most leaf ≡ Ok n
number_or_of absent least most n None h = ap Ok (sym h)
number_or_of absent least most n (Some d) h = number_of least most n d h

pub wide_or_ok : (n : ℕ) (leaf : Option Data) → wide_or 0 leaf ≡ Ok n → Optional (IsWide n) (n ≡ 0) leaf
wide_or_ok n None h = sym (ok_is 0 n h)
wide_or_ok n (Some d) h = wide_ok n d h

pub wide_or_of : (n : ℕ) (leaf : Option Data) → Optional (IsWide n) (n ≡ 0) leaf → wide_or 0 leaf ≡ Ok n
wide_or_of n None h = ap Ok (sym h)
wide_or_of n (Some d) h = wide_of n d h

name_by : (p : List ℕ → Bool) (t : List ℕ) (q : Bool) (n : List ℕ) → p t ≡ q
    → (let r : Result (List ℕ) Kind = if q then Ok t else Err kinds.Name in r) ≡ Ok n → (t ≡ n) × (p n ≡ true)
name_by p t true n e h = let is = ok_is t n h in (is, sym (ap p is) ∙ e)
name_by p t false n e h = absurd (let no : ⊥ = cc in no)

pub name_ok : (p : List ℕ → Bool) (n : List ℕ) (leaf : Option Data) → name_leaf p leaf ≡ Ok n → Needed (IsName p n) leaf
name_ok p n None h = absurd (let no : ⊥ = cc in no)
name_ok p n (Some d) h =
    let step = bind_ok (text_in d) (name_where p) n h in
    let parts = name_by p step.0 (p step.0) n refl step.2 in
    (text_ok d step.0 step.1 ∙ ap string parts.0, parts.1)

pub name_of : (p : List ℕ → Bool) (n : List ℕ) (leaf : Option Data) → Needed (IsName p n) leaf → name_leaf p leaf ≡ Ok n
name_of p n None h = absurd h
name_of p n (Some d) h = rw h.0 (rw h.1 refl)
