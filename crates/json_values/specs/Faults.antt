-- What is wrong in a body, and where: the error tags of RESTCONF (RFC 8040 section 7) with the app tags of this
-- project, and a JSON Pointer (RFC 6901) to the object or value.
use Rattle.std.specs.Prelude.{ℕ, List, [], ◌∷◌, ◌++◌, Option, Some, None, Result, Ok, Err}
use Rattle.ikeless_tree.specs.declared.error.Tag.{Tag}
use Rattle.ikeless_tree.specs.declared.error.Tag.TheVariants as tags
use Rattle.ikeless_tree.specs.declared.error.App.{App}
use Rattle.ikeless_tree.specs.declared.error.App.TheVariants as apps
use Rattle.ikeless_tree.specs.declared.fault.TreeFault.{TreeFault}
use Rattle.ikeless_tree.specs.declared.fault.TreeFault.TheVariants as faults
use Rattle.yang_values.specs.declared.value.BadValue.{BadValue}
use Rattle.yang_values.specs.declared.value.BadValue.TheVariants as values
use Rattle.json_values.specs.declared.fault.Kind.{Kind}
use Rattle.json_values.specs.declared.fault.Kind.TheVariants as kinds
use Rattle.json_values.specs.declared.fault.Fault.{Fault}
use Rattle.json_values.specs.declared.fault.CodecFault.{CodecFault}

-- the error tag of a kind of fault (RFC 8040 section 7)
abbrev pub tag_of : Kind → Tag
tag_of kinds.Unknown = tags.UnknownElement
tag_of kinds.Missing = tags.BadElement
tag_of kinds.Form = tags.InvalidValue
tag_of kinds.Range = tags.InvalidValue
tag_of kinds.Unsupported = tags.BadElement
tag_of kinds.Name = tags.InvalidValue
tag_of kinds.Full = tags.ResourceDenied

-- the app tag of a kind of fault
abbrev pub app_of : Kind → App
app_of kinds.Unknown = apps.Unknown
app_of kinds.Missing = apps.Missing
app_of kinds.Form = apps.Form
app_of kinds.Range = apps.Range
app_of kinds.Unsupported = apps.Unsupported
app_of kinds.Name = apps.Name
app_of kinds.Full = apps.Full

-- the kind of what is wrong with a text that stands for a value
abbrev pub value_kind : BadValue → Kind
value_kind values.Form = kinds.Form
value_kind values.Range = kinds.Range

-- the kind of what is wrong with a list of policies or a half as a whole
abbrev pub tree_kind : TreeFault → Kind
tree_kind faults.TooMany = kinds.Full
tree_kind faults.DuplicateName = kinds.Name
tree_kind faults.BadName = kinds.Name
tree_kind faults.BadSpi = kinds.Range
tree_kind faults.BadKeyLength = kinds.Range
tree_kind faults.BadWindow = kinds.Range
tree_kind faults.EmptyRange = kinds.Range
tree_kind (faults.Unsupported feature) = kinds.Unsupported

-- a fault of the value that is looked at
abbrev pub here : Kind → Fault
here kind = record { kind = kind; path = [] }

-- the pointer to what this pointer tells in a member or an item
abbrev pub deeper : List ℕ → List ℕ → List ℕ
deeper name path = 47 ∷ name ++ path

-- a fault found in the value of this member, or of the item with this index
abbrev pub below : List ℕ → Fault → Fault
below name f = record { kind = f.kind; path = deeper name f.path }

infixl 10 ◌>>=◌
-- goes on with what was read; the first fault ends the reading
abbrev pub ◌>>=◌ : {A B E : Type 0} → Result A E → (A → Result B E) → Result B E
(Ok x) >>= f = f x
(Err e) >>= f = Err e

-- what is read of a member or an item, whose faults are found below it
abbrev pub within : {A : Type 0} → List ℕ → Result A Fault → Result A Fault
within name (Ok x) = Ok x
within name (Err f) = Err (below name f)

-- the fault of this kind of a member: it is the object that lacks an absent one
abbrev pub of_member : List ℕ → Kind → Fault
of_member name kinds.Missing = here kinds.Missing
of_member name kind = below name (here kind)

-- what is read of a member
abbrev pub at_member : {A : Type 0} → List ℕ → Result A Kind → Result A Fault
at_member name (Ok x) = Ok x
at_member name (Err kind) = Err (of_member name kind)

-- a text that stands for no value
abbrev pub or_kind : {A : Type 0} → Result A BadValue → Result A Kind
or_kind (Ok x) = Ok x
or_kind (Err e) = Err (value_kind e)

-- what was read, unless it has a fault as a whole
abbrev pub checked : {A : Type 0} → A → Option TreeFault → Result A Fault
checked x None = Ok x
checked x (Some fault) = Err (here (tree_kind fault))

-- the fault of a body that isn't JSON
abbrev pub no_json : CodecFault
no_json = record { tag = tags.MalformedMessage; app = apps.Json; path = None }

-- a fault of a body, with the tags and the pointer that the refusal has
abbrev pub told_fault : Fault → CodecFault
told_fault f = record { tag = tag_of f.kind; app = app_of f.kind; path = Some f.path }

-- what was read, or its fault as the refusal has it
abbrev pub told : {A : Type 0} → Result A Fault → Result A CodecFault
told (Ok x) = Ok x
told (Err f) = Err (told_fault f)
