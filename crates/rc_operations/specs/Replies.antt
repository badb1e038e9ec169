-- Replies to commands, of this project: 204 where one is accepted, else the error of its refusal (RFC 8040 section 7); and what a
-- client is told by them.
use Rattle.std.specs.Prelude.{ℕ, ◌==◌, nat_le, List, length, if◌then◌else◌, Option, Some, None, Result, Ok, Err, IfSome, IsUtf8}
use Rattle.ikl_base.specs.declared.fault.OrMemory.{OrMemory}
use Rattle.ikl_base.specs.declared.fault.OrMemory.TheVariants as failures
use Rattle.ikeless_tree.specs.declared.command.Refusal.{Refusal}
use Rattle.ikeless_tree.specs.declared.command.Refusal.TheVariants as refusals
use Rattle.ikeless_tree.specs.declared.error.Tag.{Tag}
use Rattle.ikeless_tree.specs.declared.error.Tag.TheVariants as tags
use Rattle.ikeless_tree.specs.declared.error.App.TheVariants as apps
use Rattle.reply_table.specs.declared.ask.Change.TheVariants as changes
use Rattle.json_values.specs.Faults.{◌>>=◌}
use Rattle.rc_http.specs.declared.message.HttpFault.{HttpFault}
use Rattle.rc_http.specs.declared.message.HttpMessage.{HttpMessage}
use Rattle.rc_http.specs.Written.{response_text, IsWritableResponse}
use Rattle.rc_request.specs.declared.error.RcError.{RcError}
use Rattle.rc_request.specs.Requests.{no_message, plain_error}
use Rattle.rc_answer.specs.declared.answer.BadAnswer.{BadAnswer}
use Rattle.rc_answer.specs.declared.answer.ErrorTags.{ErrorTags}
use Rattle.rc_answer.specs.Answers.{bad, error_of}
use Rattle.rc_resource.specs.declared.reply.Reply.{Reply}
use Rattle.rc_resource.specs.Messages.{reply_message}
use Rattle.rc_resource.specs.Replies.{done_reply, refusal}
use Rattle.rc_operations.specs.declared.told.Told.{Told}

-- ---- what is replied

-- the HTTP status of a refused command (RFC 8040 section 7)
abbrev pub refusal_status : Refusal → ℕ
refusal_status refusals.UnknownGateway = 404
refusal_status refusals.SameGateway = 400
refusal_status refusals.TunnelExists = 409
refusal_status refusals.NoTunnel = 404
refusal_status refusals.TunnelLimit = 409
refusal_status refusals.KeySeen = 409
refusal_status refusals.KeyLength = 400
refusal_status refusals.KeyLimit = 409

-- the error-tag of a refused command (RFC 8040 section 7.1); the reason itself is its error-app-tag
abbrev pub refusal_tag : Refusal → Tag
refusal_tag refusals.UnknownGateway = tags.InvalidValue
refusal_tag refusals.SameGateway = tags.InvalidValue
refusal_tag refusals.TunnelExists = tags.ResourceDenied
refusal_tag refusals.NoTunnel = tags.InvalidValue
refusal_tag refusals.TunnelLimit = tags.ResourceDenied
refusal_tag refusals.KeySeen = tags.ResourceDenied
refusal_tag refusals.KeyLength = tags.InvalidValue
refusal_tag refusals.KeyLimit = tags.ResourceDenied

-- the error of a command that the controller refuses
abbrev pub command_error : Refusal → RcError
command_error why = plain_error (refusal_status why) (refusal_tag why) (apps.Refused why)

-- the reply to a command that is refused for this reason, if it is
abbrev pub command_reply : Option Refusal → Reply
command_reply None = done_reply changes.Nothing
command_reply (Some why) = refusal (command_error why)

-- the octets of the responses to a command, to a request that gives none, and to octets that are no request
abbrev pub command_response : Option Refusal → List ℕ
command_response refused = response_text (reply_message (command_reply refused))

-- the response to a request that gives no command
abbrev pub error_response : RcError → List ℕ
error_response e = response_text (reply_message (refusal e))

-- the response to octets that are no HTTP request
abbrev pub fault_response : HttpFault → List ℕ
fault_response fault = error_response (no_message fault)

-- an error that can be written as a response
pub record IsAnswerable (e : RcError) : Type 0 where
  pub text : IfSome e.path IsUtf8
  pub writable : IsWritableResponse (reply_message (refusal e))

-- so can the refusal, unless memory ran out
abbrev pub CanBeAnswered : OrMemory RcError → Type 0
CanBeAnswered (failures.Refused e) = IsAnswerable e
CanBeAnswered failures.NoMemory = Unit {0}

-- ---- what is told

-- the command was accepted: 204, without an error
abbrev pub told_done : Told
told_done = record { status = 204; tag = None; app = None }

-- the status of an error, with the error-tag and the error-app-tag that its body has
abbrev pub told_error : ℕ → ErrorTags → Told
told_error status found = record { status = status; tag = Some found.tag; app = Some found.app }

-- a 204 has no body (RFC 9110 section 15.3.5); one with a body is a bad response
abbrev pub if_no_body : List ℕ → Result Told BadAnswer
if_no_body body = if length body == 0 then Ok told_done else Err bad

-- an error of 400 or above must have a body that says its tags
abbrev pub if_error : HttpMessage → Result Told BadAnswer
if_error m = error_of m.body >>= (λ found. Ok (told_error m.status found))

-- what a client is told by a response: 204 without a body, or an error; any other response is a bad one
abbrev pub told_of : HttpMessage → Result Told BadAnswer
told_of m =
    if m.status == 204 then if_no_body m.body
    else if nat_le 400 m.status then if_error m
    else Err bad

-- what the reply to a command tells
abbrev pub told_reply : Option Refusal → Told
told_reply None = told_done
told_reply (Some why) = record { status = refusal_status why; tag = Some (refusal_tag why); app = Some (apps.Refused why) }
