-- What refuses a request of a command can be written.
use Rattle.std.proofs.Common.{◌≡◌, ℕ, Bool, true, false, List, codes, Option, Some, None, Result, Ok, Err, IsUtf8, if◌then◌else◌, subst, refl, arith}
use Rattle.std.specs.Prelude.{IfSome}
use Rattle.std.specs.Str.{bytes_eq}
use Rattle.json.proofs.Printed.Utf8.{IsUtf8-are_ascii}
use Rattle.serde_json.specs.Data.{Data}
use Rattle.ikeless_tree.specs.declared.command.Command.{Command}
use Rattle.ikeless_tree.specs.declared.command.Refusal.{Refusal}
use Rattle.ikeless_tree.specs.declared.command.Refusal.TheVariants as refusals
use Rattle.json_values.specs.declared.fault.Fault.{Fault}
use Rattle.json_values.specs.declared.fault.Kind.{Kind}
use Rattle.json_values.specs.declared.fault.Kind.TheVariants as kinds
use Rattle.json_values.specs.Faults.{app_of, told}
use Rattle.json_codec.specs.Bodies.{body_read, json_of}
use Rattle.json_codec.specs.CommandRead.{command_in}
use Rattle.rc_http.specs.declared.message.HttpFault.{HttpFault}
use Rattle.rc_http.specs.declared.message.HttpMessage.{HttpMessage}
use Rattle.rc_http.specs.Written.{IsWritableResponse}
use Rattle.rc_request.specs.declared.error.RcError.{RcError}
use Rattle.rc_request.specs.Queries.{before_mark, behind_mark}
use Rattle.rc_request.specs.Requests.{body_status, no_message, no_method}
use Rattle.rc_resource.specs.Messages.{reply_message}
use Rattle.text_bounds.proofs.Errors as errors
use Rattle.text_bounds.proofs.Errors.{Allowed, IsShort, Plain, refusal_writable, sound_path, status_400, status_404, status_409}
use Rattle.text_bounds.proofs.Fields.{IsPlainStatus, done_writable}
use Rattle.text_bounds.proofs.Refusals.{sound_fault}
use Rattle.text_bounds.proofs.Pointers.{IsGood}
use Rattle.rc_operations.specs.Operations.{by_operation, commanded, operation_at, requested, unless_query}
use Rattle.rc_operations.specs.Replies.{command_error, command_reply, IsAnswerable}
use Rattle.rc_operations.proofs.Pointers.{good_command}

-- ---- what is commanded, or a sound refusal

abbrev Holds : Result Command RcError → Type 0
Holds (Ok c) = Unit {0}
Holds (Err e) = errors.IsSound e

record AreSound (r : Result Command RcError) : Type 0 where
  pub is : Holds r

kind_status : (kind : Kind) → IsPlainStatus (body_status (app_of kind))
kind_status kinds.Unknown = status_400
kind_status kinds.Missing = status_400
kind_status kinds.Form = status_400
kind_status kinds.Range = status_400
kind_status kinds.Unsupported = status_400
kind_status kinds.Name = status_400
kind_status kinds.Full = status_409

sound_told : (r : Result Command Fault) → IsGood 230 r → AreSound (commanded (told r))
sound_told (Ok c) g = record { is = tt }
sound_told (Err f) g = record { is = Plain g.is (kind_status f.kind) }

sound_read : (op : List ℕ) (o : Option Data) → AreSound (commanded (body_read (command_in op) o))
sound_read op None = record { is = Plain tt status_400 }
sound_read op (Some d) = sound_told (command_in op d) (good_command op d)

sound_query : (op : List ℕ) (query : Option (List ℕ)) (body : List ℕ) → AreSound (unless_query op query body)
sound_query op None body = sound_read op (json_of body)
sound_query op (Some query) body = record { is = Plain tt status_400 }

sound_choice : (b : Bool) (r : Result Command RcError) → AreSound r → AreSound (if b then r else Err (no_method (codes "POST")))
sound_choice true r g = g
sound_choice false r g = record { is = Allowed tt (record { status = refl; value = refl; size = omega arith }) }

sound_operation : (o : Option (List ℕ)) (m : HttpMessage) → AreSound (by_operation o m)
sound_operation None m = record { is = Plain tt status_404 }
sound_operation (Some op) m = sound_choice (bytes_eq m.method (codes "POST")) (unless_query op (behind_mark 63 m.target) m.body)
    (sound_query op (behind_mark 63 m.target) m.body)

sound_request : (m : HttpMessage) → AreSound (requested m)
unfolding requested
sound_request m = sound_operation (operation_at (before_mark 63 m.target)) m

-- ---- what can be written

short_text : (path : Option (List ℕ)) → IsShort path → IfSome path IsUtf8
short_text None short = tt
short_text (Some pointer) short = IsUtf8-are_ascii pointer short.octets

answerable : (e : RcError) → errors.IsSound e → IsAnswerable e
answerable e sound = record { text = short_text e.path (sound_path e sound); writable = refusal_writable e sound }

by_result : (r : Result Command RcError) (e : RcError) → AreSound r → r ≡ Err e → IsAnswerable e
by_result (Ok c) e g is = absurd (let no : ⊥ = cc in no)
by_result (Err f) e g is = let same : f ≡ e = cc in subst IsAnswerable same (answerable f g.is)

pub request_answerable : (m : HttpMessage) (e : RcError) → requested m ≡ Err e → IsAnswerable e
request_answerable m e is = by_result (requested m) e (sound_request m) is

pub fault_answerable : (f : HttpFault) → IsAnswerable (no_message f)
fault_answerable f = answerable (no_message f) (sound_fault f)

refusal_sound : (why : Refusal) → errors.IsSound (command_error why)
refusal_sound refusals.UnknownGateway = Plain tt status_404
refusal_sound refusals.SameGateway = Plain tt status_400
refusal_sound refusals.TunnelExists = Plain tt status_409
refusal_sound refusals.NoTunnel = Plain tt status_404
refusal_sound refusals.TunnelLimit = Plain tt status_409
refusal_sound refusals.KeySeen = Plain tt status_409
refusal_sound refusals.KeyLength = Plain tt status_400
refusal_sound refusals.KeyLimit = Plain tt status_409

pub command_answerable : (refused : Option Refusal) → IsWritableResponse (reply_message (command_reply refused))
command_answerable None = done_writable
command_answerable (Some why) = refusal_writable (command_error why) (refusal_sound why)
