-- Which octets are JSON.
use Rattle.std.proofs.Common.{◌≡◌, ◌≤◌, ℕ, Bool, true, false, List, Some, None, IsUtf8, if◌then◌else◌, refl, ap, ◌∙◌}
use Rattle.std.specs.Str.{is_utf8}
use Rattle.std.proofs.lemmas.Str.{is_utf8-from_IsUtf8, IsUtf8-from_is_utf8}
use Rattle.serde_json.specs.Data.{Data, depth}
use Rattle.serde_json.specs.Read.{read, max_depth}
use Rattle.serde_json.specs.Written.{compact_text}
use Rattle.json_values.proofs.ReadAgain.{IsWritable, read_again, utf8_again}
use Rattle.json_codec.specs.Bodies.{json_of}

pub json_is_read : (body : List ℕ) (d : Data) → IsUtf8 body → read body ≡ Some d → json_of body ≡ Some d
unfolding json_of
json_is_read body d utf8 reads = ap (λ (t : Bool). if t then read body else None) (is_utf8-from_IsUtf8 body utf8) ∙ reads

by_test : (body : List ℕ) (t : Bool) → is_utf8 body ≡ t → (IsUtf8 body → read body ≡ None) → (if t then read body else None) ≡ None
by_test body true is none = none (IsUtf8-from_is_utf8 body is)
by_test body false is none = refl

pub json_is_unread : (body : List ℕ) → (IsUtf8 body → read body ≡ None) → json_of body ≡ None
unfolding json_of
json_is_unread body none = by_test body (is_utf8 body) refl none

-- the compact text of a value that can be read again is read as that value
pub json_again : (d : Data) → IsWritable d → depth d ≤ max_depth → json_of (compact_text d) ≡ Some d
json_again d h shallow = json_is_read (compact_text d) d (utf8_again d h) (read_again d h shallow)
