-- Every refusal can be written.
use Rattle.std.proofs.Common.{◌≡◌, ◌≤◌, ◌++◌, ℕ, Bool, true, false, List, codes, length, Option, Some, None, if◌then◌else◌, refl, sym, subst, arith, length-append}
use Rattle.serde_json.specs.Data.{array, item, no_items, no_members, Members, string}
use Rattle.serde_json.specs.Written.{compact_text}
use Rattle.ikeless_tree.specs.declared.command.Refusal.{Refusal}
use Rattle.ikeless_tree.specs.declared.command.Refusal.TheVariants as refusals
use Rattle.ikeless_tree.specs.declared.error.App.{App}
use Rattle.ikeless_tree.specs.declared.error.App.TheVariants as apps
use Rattle.ikeless_tree.specs.declared.error.Tag.{Tag}
use Rattle.ikeless_tree.specs.declared.error.Tag.TheVariants as tags
use Rattle.ikeless_tree.specs.Words.{app_text, refusal_text, tag_text}
use Rattle.json_values.specs.Written.{only}
use Rattle.rc_http.specs.Written.{is_value, IsWritableResponse}
use Rattle.rc_request.specs.declared.error.RcError.{RcError}
use Rattle.rc_resource.specs.Errors.{error_data, error_item, is_of_protocol, type_text, with_message}
use Rattle.rc_resource.specs.Messages.{reply_message}
use Rattle.rc_resource.specs.Replies.{refusal}
use Rattle.notice_lines.proofs.Text.{IsSized, AreSized, sized_array, sized_item, sized_no_items, sized_none, sized_object, sized_string}
use Rattle.text_bounds.proofs.Fields.{IsPlainStatus, refused_writable, reply_writable}
use Rattle.text_bounds.proofs.Pointers.{IsText}
use Rattle.text_bounds.proofs.Texts.{more_members, sized_text, tight_put}
use Rattle.text_bounds.proofs.Values.{same, sized_only}

-- ---- words

sized_refusal : (why : Refusal) → IsSized 17 (string (refusal_text why))
sized_refusal refusals.UnknownGateway = sized_text 15 (codes "unknown-gateway") refl (omega arith)
sized_refusal refusals.SameGateway = sized_text 15 (codes "same-gateway") refl (omega arith)
sized_refusal refusals.TunnelExists = sized_text 15 (codes "tunnel-exists") refl (omega arith)
sized_refusal refusals.NoTunnel = sized_text 15 (codes "no-tunnel") refl (omega arith)
sized_refusal refusals.TunnelLimit = sized_text 15 (codes "tunnel-limit") refl (omega arith)
sized_refusal refusals.KeySeen = sized_text 15 (codes "key-seen") refl (omega arith)
sized_refusal refusals.KeyLength = sized_text 15 (codes "key-length") refl (omega arith)
sized_refusal refusals.KeyLimit = sized_text 15 (codes "key-limit") refl (omega arith)

sized_app : (app : App) → IsSized 17 (string (app_text app))
sized_app apps.Form = sized_text 15 (codes "form") refl (omega arith)
sized_app apps.Chunked = sized_text 15 (codes "chunked") refl (omega arith)
sized_app apps.Size = sized_text 15 (codes "size") refl (omega arith)
sized_app apps.Path = sized_text 15 (codes "path") refl (omega arith)
sized_app apps.Method = sized_text 15 (codes "method") refl (omega arith)
sized_app apps.Query = sized_text 15 (codes "query") refl (omega arith)
sized_app apps.Json = sized_text 15 (codes "json") refl (omega arith)
sized_app apps.Unknown = sized_text 15 (codes "unknown") refl (omega arith)
sized_app apps.Missing = sized_text 15 (codes "missing") refl (omega arith)
sized_app apps.Range = sized_text 15 (codes "range") refl (omega arith)
sized_app apps.Unsupported = sized_text 15 (codes "unsupported") refl (omega arith)
sized_app apps.Name = sized_text 15 (codes "name") refl (omega arith)
sized_app apps.Full = sized_text 15 (codes "full") refl (omega arith)
sized_app apps.Exists = sized_text 15 (codes "exists") refl (omega arith)
sized_app apps.SpiTaken = sized_text 15 (codes "spi-taken") refl (omega arith)
sized_app apps.Absent = sized_text 15 (codes "absent") refl (omega arith)
sized_app apps.Point = sized_text 15 (codes "point") refl (omega arith)
sized_app (apps.Refused why) = sized_refusal why

sized_tag : (tag : Tag) → IsSized 25 (string (tag_text tag))
sized_tag tags.MalformedMessage = sized_text 23 (codes "malformed-message") refl (omega arith)
sized_tag tags.OperationNotSupported = sized_text 23 (codes "operation-not-supported") refl (omega arith)
sized_tag tags.TooBig = sized_text 23 (codes "too-big") refl (omega arith)
sized_tag tags.InvalidValue = sized_text 23 (codes "invalid-value") refl (omega arith)
sized_tag tags.UnknownElement = sized_text 23 (codes "unknown-element") refl (omega arith)
sized_tag tags.BadElement = sized_text 23 (codes "bad-element") refl (omega arith)
sized_tag tags.ResourceDenied = sized_text 23 (codes "resource-denied") refl (omega arith)

sized_choice : (b : Bool) → IsSized 13 (string (if b then codes "protocol" else codes "application"))
sized_choice true = sized_text 11 (codes "protocol") refl (omega arith)
sized_choice false = sized_text 11 (codes "application") refl (omega arith)

sized_type : (path : Option (List ℕ)) (app : App) → IsSized 13 (string (type_text path app))
sized_type None app = sized_choice (is_of_protocol app)
sized_type (Some pointer) app = sized_text 11 (codes "application") refl (omega arith)

-- ---- bodies

-- the pointer, if any, is short
abbrev pub IsShort : Option (List ℕ) → Type 0
IsShort None = Unit {0}
IsShort (Some pointer) = IsText 230 pointer

sized_message : (path : Option (List ℕ)) (ms : Members) → IsShort path → AreSized 66 ms → AreSized 1483 (with_message path ms)
sized_message None ms short f = more_members 66 1483 ms (omega arith) f
sized_message (Some pointer) ms short f =
    let size = short.size in
    let both = length-append (codes "at ") pointer in
    tight_put 66 1400 13 (codes "error-message") (string (codes "at " ++ pointer)) ms refl (same 13) (sized_string 233
    (codes "at " ++ pointer) (omega (arith, both, size))) f

sized_item_of : (app : App) (path : Option (List ℕ)) (tag : Tag) → IsShort path → IsSized 1518 (error_item app path tag)
sized_item_of app path tag short =
    sized_object 1517 _
    (tight_put 1483 17 13 (codes "error-app-tag") (string (app_text app)) _ refl (same 13) (sized_app app)
    (sized_message path _ short
    (tight_put 28 25 9 (codes "error-tag") (string (tag_text tag)) _ refl (same 9) (sized_tag tag)
    (tight_put 1 13 10 (codes "error-type") (string (type_text path app)) no_members refl (same 10) (sized_type path app) sized_none))))

pub error_size : (app : App) (path : Option (List ℕ)) (tag : Tag) → IsShort path → length (compact_text (error_data app path tag)) ≤ 1558
error_size app path tag short =
    (sized_only 1532 20 (codes "ietf-restconf:errors") (only (codes "error") (array (item (error_item app path tag) no_items))) refl
    (same 20)
    (sized_only 1521 5 (codes "error") (array (item (error_item app path tag) no_items)) refl (same 5)
    (sized_array 1520 _ (sized_item 1 1518 (error_item app path tag) no_items (sized_item_of app path tag short) sized_no_items)))).size

-- ---- statuses

pub status_200 : IsPlainStatus 200
status_200 = record { known = record { some = refl; line = omega arith }; full = refl; found = refl; allowed = refl }

pub status_400 : IsPlainStatus 400
status_400 = record { known = record { some = refl; line = omega arith }; full = refl; found = refl; allowed = refl }

pub status_404 : IsPlainStatus 404
status_404 = record { known = record { some = refl; line = omega arith }; full = refl; found = refl; allowed = refl }

pub status_409 : IsPlainStatus 409
status_409 = record { known = record { some = refl; line = omega arith }; full = refl; found = refl; allowed = refl }

pub status_413 : IsPlainStatus 413
status_413 = record { known = record { some = refl; line = omega arith }; full = refl; found = refl; allowed = refl }

pub status_501 : IsPlainStatus 501
status_501 = record { known = record { some = refl; line = omega arith }; full = refl; found = refl; allowed = refl }

-- a refusal of a method tells those that are allowed
pub record IsAllowed (e : RcError) : Type 0 where
  pub status : e.status ≡ 405
  pub value : is_value e.allow ≡ true
  pub size : length e.allow ≤ 100

-- a refusal whose response can be written
pub data IsSound (e : RcError) : Type 0 where
  Plain : IsShort e.path → IsPlainStatus e.status → IsSound e
  Allowed : IsShort e.path → IsAllowed e → IsSound e

pub sound_path : (e : RcError) → IsSound e → IsShort e.path
sound_path e (Plain path status) = path
sound_path e (Allowed path allowed) = path

-- the refusal with this status
abbrev at_status : RcError → ℕ → RcError
at_status e status = record e { status = status }

pub refusal_writable : (e : RcError) → IsSound e → IsWritableResponse (reply_message (refusal e))
refusal_writable e (Plain path status) =
    let size = error_size e.app e.path e.tag path in
    reply_writable (refusal e) status (omega (arith, size))
refusal_writable e (Allowed path allowed) =
    let size = error_size e.app e.path e.tag path in
    let P : ℕ → Type 0 = λ status. IsWritableResponse (reply_message (refusal (at_status e status))) in
    subst P (sym allowed.status) (refused_writable e.allow (compact_text (error_data e.app e.path e.tag)) allowed.value allowed.size
    (omega (arith, size)))
