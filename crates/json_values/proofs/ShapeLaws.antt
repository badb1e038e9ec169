-- Objects and lists that are read, and what they stand for.
use Rattle.std.proofs.Common.{◌≡◌, ℕ, ◌+◌, Bool, true, false, not, List, [], ◌∷◌, is_none, Option, Some, None, Result, Ok, Err, Ordering, Less, Equal, Greater, refl, sym, ap, subst, ◌∙◌, if◌then◌else◌, decimal}
use Rattle.std.specs.Bool.{⊤}
use Rattle.std.specs.List.{list_any}
use Rattle.std.specs.Ordering.{nat_cmp, match_ordering, is_eq}
use Rattle.std.specs.Cmp.Lexicographic.{slice_cmp}
use Rattle.std.proofs.lemmas.Bool.{or_parts, not-false, both_ways}
use Rattle.std.proofs.lemmas.Map.Text.{is_eq-slice_cmp}
use Rattle.std.proofs.lemmas.Slice.Eq.{bytes_eq-Decides}
use Rattle.serde_json.specs.Data.{Data, null, boolean, number, string, array, object, Items, no_items, item, Members, no_members, member}
use Rattle.serde_json.specs.Find.{get, get_member, as_array}
use Rattle.json_values.specs.declared.fault.Kind.{Kind}
use Rattle.json_values.specs.declared.fault.Kind.TheVariants as kinds
use Rattle.json_values.specs.declared.fault.Fault.{Fault}
use Rattle.json_values.specs.Faults.{here, within, at_member, ◌>>=◌}
use Rattle.json_values.specs.Shapes.{is_among, has_unknown, lacks, shape, needed_data, only_in, each_item, items_read, one_read}
use Rattle.json_values.specs.Json.{HasOnly, Needed, Optional, Each, IsListOf, IsOne, IsOnly}
use Rattle.json_values.proofs.LeafLaws.{ok_is, bind_ok, within_ok, within_of, member_ok, member_of}

shape_by : (t u : Bool) (v : ⊤) → (let r : Result ⊤ Fault = if t then Err (here kinds.Unknown) else if u then Err (here kinds.Missing)
    else Ok tt in r) ≡ Ok v → t ≡ false
shape_by true u v h = absurd (let no : ⊥ = cc in no)
shape_by false u v h = refl

pub shape_ok : (names needed : List (List ℕ)) (d : Data) (v : ⊤) → shape names needed d ≡ Ok v → HasOnly names d
unfolding shape
shape_ok names needed null v h = absurd (let no : ⊥ = cc in no)
shape_ok names needed (boolean b) v h = absurd (let no : ⊥ = cc in no)
shape_ok names needed (number n) v h = absurd (let no : ⊥ = cc in no)
shape_ok names needed (string s) v h = absurd (let no : ⊥ = cc in no)
shape_ok names needed (array ds) v h = absurd (let no : ⊥ = cc in no)
shape_ok names needed (object ms) v h = shape_by (has_unknown names ms) (list_any (lacks (object ms)) needed) v h

pub shape_of : (names needed : List (List ℕ)) (d : Data) → HasOnly names d → list_any (lacks d) needed ≡ false
    → shape names needed d ≡ Ok tt
unfolding shape
shape_of names needed null h k = absurd h
shape_of names needed (boolean b) h k = absurd h
shape_of names needed (number n) h k = absurd h
shape_of names needed (string s) h k = absurd h
shape_of names needed (array ds) h k = absurd h
shape_of names needed (object ms) h k = rw (h, k) refl

shape_needs_by : (t u : Bool) (v : ⊤) → (let r : Result ⊤ Fault = if t then Err (here kinds.Unknown) else if u then Err (here kinds.Missing)
    else Ok tt in r) ≡ Ok v → u ≡ false
shape_needs_by true u v h = absurd (let no : ⊥ = cc in no)
shape_needs_by false true v h = absurd (let no : ⊥ = cc in no)
shape_needs_by false false v h = refl

-- no needed member is absent
pub shape_needs : (names needed : List (List ℕ)) (d : Data) (v : ⊤) → shape names needed d ≡ Ok v → list_any (lacks d) needed ≡ false
unfolding shape
shape_needs names needed null v h = absurd (let no : ⊥ = cc in no)
shape_needs names needed (boolean b) v h = absurd (let no : ⊥ = cc in no)
shape_needs names needed (number n) v h = absurd (let no : ⊥ = cc in no)
shape_needs names needed (string s) v h = absurd (let no : ⊥ = cc in no)
shape_needs names needed (array ds) v h = absurd (let no : ⊥ = cc in no)
shape_needs names needed (object ms) v h = shape_needs_by (has_unknown names ms) (list_any (lacks (object ms)) needed) v h

pub needed_from : (P : Data → Type 0) (absent : Type 0) (leaf : Option Data) → is_none leaf ≡ false → Optional P absent leaf → Needed P leaf
needed_from P absent None h k = absurd (let no : ⊥ = cc in no)
needed_from P absent (Some d) h k = k

pub optional_from : (P : Data → Type 0) (absent : Type 0) (leaf : Option Data) → Needed P leaf → Optional P absent leaf
optional_from P absent None h = absurd h
optional_from P absent (Some d) h = h

-- a name that isn't among these has no member
member_absent : (names : List (List ℕ)) (name : List ℕ) (ms : Members) → is_among names name ≡ false → has_unknown names ms ≡ false
    → get_member name ms ≡ None
member_absent names name no_members other h = refl
member_absent names name (member l e ms) other h =
    let parts = or_parts (not (is_among names l)) (has_unknown names ms) h in
    by_order (slice_cmp nat_cmp name l) refl (not-false (is_among names l) parts.0) (member_absent names name ms other parts.1)
  where
    by_order : (o : Ordering) → slice_cmp nat_cmp name l ≡ o → is_among names l ≡ true → get_member name ms ≡ None
        → match_ordering o (get_member name ms) (Some e) (get_member name ms) ≡ None
    by_order Less c known rest = rest
    by_order Equal c known rest =
        let same : name ≡ l = (bytes_eq-Decides name l).0 (sym (is_eq-slice_cmp name l) ∙ ap is_eq c) in
        let here : is_among names name ≡ true = ap (is_among names) same ∙ known in
        absurd (both_ways (is_among names name) other here)
    by_order Greater c known rest = rest

pub absent : (names : List (List ℕ)) (name : List ℕ) (d : Data) → is_among names name ≡ false → HasOnly names d → get name d ≡ None
absent names name null other h = refl
absent names name (boolean b) other h = refl
absent names name (number n) other h = refl
absent names name (string s) other h = refl
absent names name (array ds) other h = refl
absent names name (object ms) other h = member_absent names name ms other h

pub there : (P : Data → Type 0) (leaf : Option Data) → Needed P leaf → is_none leaf ≡ false
there P None h = absurd h
there P (Some d) h = refl

inner_ok : (leaf : Option Data) (e : Data) → needed_data leaf ≡ Ok e → leaf ≡ Some e
inner_ok None e h = absurd (let no : ⊥ = cc in no)
inner_ok (Some d) e h = ap Some (ok_is d e h)

-- an object of one member, whose value is read so
pub only_ok : {A : Type 0} → (name : List ℕ) (f : Data → Result A Fault) (P : Data → Type 0) (x : A) (d : Data)
    → ((e : Data) → f e ≡ Ok x → P e) →
    (only_in name d >>= (λ e. within name (f e))) ≡ Ok x → IsOnly name P d
unfolding only_in
only_ok name f P x d step h =
    let a = bind_ok (only_in name d) (λ e. within name (f e)) x h in
    let b = bind_ok (shape (name ∷ []) (name ∷ []) d) (λ done. needed_data (get name d)) a.0 a.1 in (
      shape_ok (name ∷ []) (name ∷ []) d b.0 b.1,
      subst (Needed P) (sym (inner_ok (get name d) a.0 b.2))
          (step a.0 (within_ok name (f a.0) x a.2)),
    )

only_by : (name : List ℕ) (P : Data → Type 0) (d : Data) (leaf : Option Data) → get name d ≡ leaf → HasOnly (name ∷ []) d → Needed P leaf
    → (e : Data) × (only_in name d ≡ Ok e) × P e
unfolding only_in
only_by name P d None is members h = absurd h
only_by name P d (Some e) is members h =
    let lacking : list_any (lacks d) (name ∷ []) ≡ false = rw is refl in
    (e, rw (shape_of (name ∷ []) (name ∷ []) d members lacking, is) refl, h)

pub only_of : {A : Type 0} → (name : List ℕ) (f : Data → Result A Fault) (P : Data → Type 0) (x : A) (d : Data)
    → ((e : Data) → P e → f e ≡ Ok x) →
    IsOnly name P d → (only_in name d >>= (λ e. within name (f e))) ≡ Ok x
only_of name f P x d step h =
    let a = only_by name P d (get name d) refl h.0 h.1 in
    rw a.1 (within_of name (f a.0) x (step a.0 a.2))

array_is : (d : Data) (ds : Items) → as_array d ≡ Some ds → d ≡ array ds
array_is null ds h = absurd (let no : ⊥ = cc in no)
array_is (boolean b) ds h = absurd (let no : ⊥ = cc in no)
array_is (number n) ds h = absurd (let no : ⊥ = cc in no)
array_is (string s) ds h = absurd (let no : ⊥ = cc in no)
array_is (array es) ds h = ap array (let e : es ≡ ds = cc in e)
array_is (object ms) ds h = absurd (let no : ⊥ = cc in no)

pub each_ok : {A : Type 0} → (f : Data → Result A Fault) (P : A → Data → Type 0) → ((x : A) (d : Data) → f d ≡ Ok x → P x d)
    → (i : ℕ) (ds : Items) (xs : List A) → each_item f i ds ≡ Ok xs → Each P xs ds
unfolding each_item
each_ok f P step i no_items xs h = subst (λ ys. Each P ys no_items) (ok_is [] xs h) tt
each_ok f P step i (item d ds) xs h =
    let a = bind_ok (within (decimal i) (f d)) (λ x. each_item f (i + 1) ds >>= (λ ys. Ok (x ∷ ys))) xs h in
    let b = bind_ok (each_item f (i + 1) ds) (λ ys. Ok (a.0 ∷ ys)) xs a.2 in
    subst (λ ys. Each P ys (item d ds)) (ok_is (a.0 ∷ b.0) xs b.2) (
      step a.0 d (within_ok (decimal i) (f d) a.0 a.1),
      each_ok f P step
          (i + 1) ds b.0 b.1,
    )

pub each_of : {A : Type 0} → (f : Data → Result A Fault) (P : A → Data → Type 0) → ((x : A) (d : Data) → P x d → f d ≡ Ok x)
    → (i : ℕ) (ds : Items) (xs : List A) → Each P xs ds → each_item f i ds ≡ Ok xs
unfolding each_item
each_of f P step i no_items [] h = refl
each_of f P step i no_items (x ∷ xs) h = absurd h
each_of f P step i (item d ds) [] h = absurd h
each_of f P step i (item d ds) (x ∷ xs) h = rw (within_of (decimal i) (f d) x (step x d h.0), each_of f P step (i + 1) ds xs h.1) refl

list_by : {A : Type 0} → (f : Data → Result A Fault) (P : A → Data → Type 0) → ((x : A) (d : Data) → f d ≡ Ok x → P x d)
    → (d : Data) (o : Option Items) (xs : List A) → as_array d ≡ o → items_read f o ≡ Ok xs → IsListOf P xs d
list_by f P step d None xs is h = absurd (let no : ⊥ = cc in no)
list_by f P step d (Some ds) xs is h = (ds, array_is d ds is, each_ok f P step 0 ds xs h)

pub list_ok : {A : Type 0} → (f : Data → Result A Fault) (P : A → Data → Type 0) → ((x : A) (d : Data) → f d ≡ Ok x → P x d)
    → (d : Data) (xs : List A) → items_read f (as_array d) ≡ Ok xs → IsListOf P xs d
list_ok f P step d xs h = list_by f P step d (as_array d) xs refl h

pub list_of : {A : Type 0} → (f : Data → Result A Fault) (P : A → Data → Type 0) → ((x : A) (d : Data) → P x d → f d ≡ Ok x)
    → (d : Data) (xs : List A) → IsListOf P xs d → items_read f (as_array d) ≡ Ok xs
list_of f P step d xs h = rw h.1 (each_of f P step 0 h.0 xs h.2)

one_by : {A : Type 0} → (f : Data → Result A Fault) (P : Data → Type 0) (x : A) → ((e : Data) → f e ≡ Ok x → P e)
    → (d : Data) (o : Option Items) → as_array d ≡ o → one_read f o ≡ Ok x → IsOne P d
one_by f P x step d None is h = absurd (let no : ⊥ = cc in no)
one_by f P x step d (Some no_items) is h = absurd (let no : ⊥ = cc in no)
one_by f P x step d (Some (item e no_items)) is h = (e, array_is d (item e no_items) is, step e (within_ok (decimal 0) (f e) x h))
one_by f P x step d (Some (item e (item g ds))) is h = absurd (let no : ⊥ = cc in no)

pub one_ok : {A : Type 0} → (f : Data → Result A Fault) (P : Data → Type 0) (x : A) → ((e : Data) → f e ≡ Ok x → P e) → (d : Data)
    → one_read f (as_array d) ≡ Ok x → IsOne P d
one_ok f P x step d h = one_by f P x step d (as_array d) refl h

pub one_of : {A : Type 0} → (f : Data → Result A Fault) (P : Data → Type 0) (x : A) → ((e : Data) → P e → f e ≡ Ok x) → (d : Data)
    → IsOne P d → one_read f (as_array d) ≡ Ok x
one_of f P x step d h = rw h.1 (within_of (decimal 0) (f h.0) x (step h.0 h.2))

-- an object of one member, whose leaf is read so
pub only_kept_ok : {A : Type 0} → (name : List ℕ) (f : Data → Result A Kind) (P : Data → Type 0) (x : A) (d : Data)
    → ((e : Data) → f e ≡ Ok x → P e) →
    (only_in name d >>= (λ e. at_member name (f e))) ≡ Ok x → IsOnly name P d
unfolding only_in
only_kept_ok name f P x d step h =
    let a = bind_ok (only_in name d) (λ e. at_member name (f e)) x h in
    let b = bind_ok (shape (name ∷ []) (name ∷ []) d) (λ done. needed_data (get name d)) a.0 a.1 in (
      shape_ok (name ∷ []) (name ∷ []) d b.0 b.1,
      subst (Needed P) (sym (inner_ok (get name d) a.0 b.2))
          (step a.0 (member_ok name (f a.0) x a.2)),
    )

pub only_kept_of : {A : Type 0} → (name : List ℕ) (f : Data → Result A Kind) (P : Data → Type 0) (x : A) (d : Data)
    → ((e : Data) → P e → f e ≡ Ok x) →
    IsOnly name P d → (only_in name d >>= (λ e. at_member name (f e))) ≡ Ok x
only_kept_of name f P x d step h =
    let a = only_by name P d (get name d) refl h.0 h.1 in
    rw a.1 (member_of name (f a.0) x (step a.0 a.2))
