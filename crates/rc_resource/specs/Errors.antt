-- Refusals, and the body of a refusal (RFC 8040 section 7.1). The app tags are of this project.
use Rattle.std.specs.Prelude.{ℕ, Bool, true, false, List, ◌++◌, codes, if◌then◌else◌, Option, Some, None}
use Rattle.serde_json.specs.Data.{Data, string, array, object, no_items, item, Members, no_members, put}
use Rattle.ikeless_tree.specs.declared.error.Tag.{Tag}
use Rattle.ikeless_tree.specs.declared.error.App.{App}
use Rattle.ikeless_tree.specs.declared.error.App.TheVariants as apps
use Rattle.ikeless_tree.specs.Words.{tag_text, app_text}
use Rattle.json_values.specs.Written.{only}

-- a fault of the message, its path, its method or its query
abbrev pub is_of_protocol : App → Bool
is_of_protocol apps.Form = true
is_of_protocol apps.Chunked = true
is_of_protocol apps.Size = true
is_of_protocol apps.Path = true
is_of_protocol apps.Method = true
is_of_protocol apps.Query = true
is_of_protocol app = false

-- a fault that has a pointer is one of the content
abbrev pub type_text : Option (List ℕ) → App → List ℕ
type_text (Some pointer) app = codes "application"
type_text None app = if is_of_protocol app then codes "protocol" else codes "application"

-- the message says where the fault is, where it has a pointer
abbrev pub with_message : Option (List ℕ) → Members → Members
with_message None ms = ms
with_message (Some pointer) ms = put (codes "error-message") (string (codes "at " ++ pointer)) ms

-- one error: its app tag, perhaps a message, its tag and its type
abbrev pub error_item : App → Option (List ℕ) → Tag → Data
error_item app path tag = object (put (codes "error-app-tag") (string (app_text app))
    (with_message path
    (put (codes "error-tag") (string (tag_text tag))
    (put (codes "error-type") (string (type_text path app)) no_members))))

-- the body of a refusal
abbrev pub error_data : App → Option (List ℕ) → Tag → Data
error_data app path tag = only (codes "ietf-restconf:errors") (only (codes "error") (array (item (error_item app path tag) no_items)))
