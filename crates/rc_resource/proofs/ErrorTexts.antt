-- What is written for errors can be read again: its texts are UTF-8.
use Rattle.std.proofs.Common.{◌≡◌, ◌++◌, Bool, true, false, if◌then◌else◌, List, ℕ, codes, Option, Some, None, refl, IsUtf8}
use Rattle.std.specs.Prelude.{IfSome}
use Rattle.std.proofs.lemmas.Str.{IsUtf8-append}
use Rattle.json.proofs.Printed.Utf8.{are_ascii, IsUtf8-are_ascii}
use Rattle.serde_json.specs.Data.{string, Members, no_members, put}
use Rattle.ikeless_tree.specs.declared.command.Refusal.{Refusal}
use Rattle.ikeless_tree.specs.declared.command.Refusal.TheVariants as refusals
use Rattle.ikeless_tree.specs.declared.error.Tag.{Tag}
use Rattle.ikeless_tree.specs.declared.error.Tag.TheVariants as tags
use Rattle.ikeless_tree.specs.declared.error.App.{App}
use Rattle.ikeless_tree.specs.declared.error.App.TheVariants as apps
use Rattle.ikeless_tree.specs.Words.{tag_text, app_text, refusal_text}
use Rattle.json_values.proofs.ReadAgain.{IsWritable, HaveWritable, write_text, write_word, write_array, write_object, write_item, write_no_items, write_none, write_member}
use Rattle.json_tree.proofs.Writable.{write_only}
use Rattle.rc_resource.specs.Errors.{type_text, with_message, error_data, is_of_protocol}

tag_ascii : (tag : Tag) → are_ascii (tag_text tag) ≡ true
tag_ascii tags.MalformedMessage = refl
tag_ascii tags.OperationNotSupported = refl
tag_ascii tags.TooBig = refl
tag_ascii tags.InvalidValue = refl
tag_ascii tags.UnknownElement = refl
tag_ascii tags.BadElement = refl
tag_ascii tags.ResourceDenied = refl

refusal_ascii : (why : Refusal) → are_ascii (refusal_text why) ≡ true
refusal_ascii refusals.UnknownGateway = refl
refusal_ascii refusals.SameGateway = refl
refusal_ascii refusals.TunnelExists = refl
refusal_ascii refusals.NoTunnel = refl
refusal_ascii refusals.TunnelLimit = refl
refusal_ascii refusals.KeySeen = refl
refusal_ascii refusals.KeyLength = refl
refusal_ascii refusals.KeyLimit = refl

app_ascii : (app : App) → are_ascii (app_text app) ≡ true
app_ascii apps.Form = refl
app_ascii apps.Chunked = refl
app_ascii apps.Size = refl
app_ascii apps.Path = refl
app_ascii apps.Method = refl
app_ascii apps.Query = refl
app_ascii apps.Json = refl
app_ascii apps.Unknown = refl
app_ascii apps.Missing = refl
app_ascii apps.Range = refl
app_ascii apps.Unsupported = refl
app_ascii apps.Name = refl
app_ascii apps.Full = refl
app_ascii apps.Exists = refl
app_ascii apps.SpiTaken = refl
app_ascii apps.Absent = refl
app_ascii apps.Point = refl
app_ascii (apps.Refused why) = refusal_ascii why

chosen : (b : Bool) → are_ascii (if b then codes "protocol" else codes "application") ≡ true
chosen true = refl
chosen false = refl

type_ascii : (path : Option (List ℕ)) (app : App) → are_ascii (type_text path app) ≡ true
type_ascii None app = chosen (is_of_protocol app)
type_ascii (Some pointer) app = refl

write_type : (path : Option (List ℕ)) (app : App) → HaveWritable (put (codes "error-type") (string (type_text path app)) no_members)
write_type path app = write_member (codes "error-type") _ _ refl (write_word (type_text path app) (type_ascii path app)) write_none

write_tag : (path : Option (List ℕ)) (app : App) (tag : Tag)
    → HaveWritable (put (codes "error-tag") (string (tag_text tag)) (put (codes "error-type") (string (type_text path app)) no_members))
write_tag path app tag = write_member (codes "error-tag") _ _ refl (write_word (tag_text tag) (tag_ascii tag)) (write_type path app)

write_message : (path : Option (List ℕ)) (ms : Members) → IfSome path IsUtf8 → HaveWritable ms → HaveWritable (with_message path ms)
write_message None ms utf8 h = h
write_message (Some pointer) ms utf8 h =
    write_member (codes "error-message") _ ms refl
    (write_text (codes "at " ++ pointer) (IsUtf8-append (codes "at ") pointer (IsUtf8-are_ascii (codes "at ") refl) utf8)) h

pub write_error : (app : App) (path : Option (List ℕ)) (tag : Tag) → IfSome path IsUtf8 → IsWritable (error_data app path tag)
write_error app path tag utf8 =
    write_only (codes "ietf-restconf:errors") _ refl
    (write_only (codes "error") _ refl (write_array _ (write_item _ _
    (write_object _ (write_member (codes "error-app-tag") _ _ refl (write_word (app_text app) (app_ascii app))
    (write_message path _ utf8 (write_tag path app tag))))
    write_no_items)))
