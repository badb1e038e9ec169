-- Objects by the names of their members, and lists item by item.
use Rattle.std.specs.Prelude.{ℕ, ◌+◌, ◌||◌, not, Bool, false, List, [], ◌∷◌, map, Option, Some, None, is_none, Result, Ok, Err, ⊤, if◌then◌else◌}
use Rattle.std.specs.Option.{option_map}
use Rattle.std.specs.List.{list_any}
use Rattle.std.specs.Str.{bytes_eq}
use Rattle.std.specs.Fmt.{decimal}
use Rattle.std.specs.Borrow.{Bor}
use Rattle.serde_json.specs.Data.{Data, Items, no_items, item, Members, no_members, member}
use Rattle.serde_json.specs.Find.{get, as_object}
use Rattle.serde_json.specs.View.{view}
use Rattle.serde_json.specs.declared.value.Value.{Value}
use Rattle.json_values.specs.declared.fault.Kind.TheVariants as kinds
use Rattle.json_values.specs.declared.fault.Fault.{Fault}
use Rattle.json_values.specs.Faults.{here, within, ◌>>=◌}

-- the value behind a reference, where there is one
abbrev pub seen : Option (Bor Value) → Option Data
seen found = option_map (λ (v : Bor Value). view v.now) found

-- the names behind references
abbrev pub names_in : List (Bor (List ℕ)) → List (List ℕ)
names_in names = map (λ (name : Bor (List ℕ)). name.now) names

-- the name is one of these
abbrev pub is_among : List (List ℕ) → List ℕ → Bool
is_among names key = list_any (bytes_eq key) names

-- some member has a name that isn't among these
abbrev pub has_unknown : List (List ℕ) → Members → Bool
has_unknown names no_members = false
has_unknown names (member key d ms) = not (is_among names key) || has_unknown names ms

-- the object has no member of this name
abbrev pub lacks : Data → List ℕ → Bool
lacks d name = is_none (get name d)

-- the members of an object are those allowed and needed; a value that is no object is misspelt
abbrev pub shape_of : List (List ℕ) → List (List ℕ) → Data → Option Members → Result ⊤ Fault
shape_of names needed d None = Err (here kinds.Form)
shape_of names needed d (Some ms) =
    if has_unknown names ms then Err (here kinds.Unknown)
    else if list_any (lacks d) needed then Err (here kinds.Missing)
    else Ok tt

-- an object that has members of these names alone, and those that are needed among them; the unknown ones are looked
-- for first
unfoldable pub shape : List (List ℕ) → List (List ℕ) → Data → Result ⊤ Fault
shape names needed d = shape_of names needed d (as_object d)

-- the value of a member that is needed
abbrev pub needed_data : Option Data → Result Data Fault
needed_data None = Err (here kinds.Missing)
needed_data (Some d) = Ok d

-- the value of the only member of an object
unfoldable pub only_in : List ℕ → Data → Result Data Fault
only_in name d = shape (name ∷ []) (name ∷ []) d >>= (λ done. needed_data (get name d))

-- the items of a list, each read from the place i on
unfoldable pub each_item : {A : Type 0} → (Data → Result A Fault) → ℕ → Items → Result (List A) Fault
each_item f i no_items = Ok []
each_item f i (item d ds) = within (decimal i) (f d) >>= (λ x. each_item f (i + 1) ds >>= (λ xs. Ok (x ∷ xs)))

-- what is read of the items of a JSON array; another value is misspelt
abbrev pub items_read : {A : Type 0} → (Data → Result A Fault) → Option Items → Result (List A) Fault
items_read f None = Err (here kinds.Form)
items_read f (Some ds) = each_item f 0 ds

-- what is read of a JSON array of one item; a list of none or of more lacks that one
abbrev pub one_read : {A : Type 0} → (Data → Result A Fault) → Option Items → Result A Fault
one_read f None = Err (here kinds.Form)
one_read f (Some no_items) = Err (here kinds.Missing)
one_read f (Some (item d no_items)) = within (decimal 0) (f d)
one_read f (Some (item d (item e ds))) = Err (here kinds.Missing)
