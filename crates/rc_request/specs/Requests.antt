-- What a request asks, or its first fault: the path, the method, the query, then the body (RFC 8040 sections 4 and 7,
-- with the statuses and app tags of this project).
use Rattle.std.specs.Prelude.{ℕ, List, [], if◌then◌else◌, Option, Some, None, Result, Ok, Err}
use Rattle.std.specs.Str.{bytes_eq}
use Rattle.ikeless_tree.specs.declared.entry.SpdEntry.{SpdEntry}
use Rattle.ikeless_tree.specs.declared.error.Tag.{Tag}
use Rattle.ikeless_tree.specs.declared.error.Tag.TheVariants as tags
use Rattle.ikeless_tree.specs.declared.error.App.{App}
use Rattle.ikeless_tree.specs.declared.error.App.TheVariants as apps
use Rattle.json_values.specs.declared.fault.CodecFault.{CodecFault}
use Rattle.json_codec.specs.Bodies.{spd_of, spd_entry_of, sad_entry_of}
use Rattle.rc_http.specs.declared.message.HttpFault.{HttpFault}
use Rattle.rc_http.specs.declared.message.HttpFault.TheVariants as faults
use Rattle.rc_http.specs.declared.message.HttpMessage.{HttpMessage}
use Rattle.reply_table.specs.declared.ask.Place.{Place}
use Rattle.reply_table.specs.declared.ask.Place.TheVariants as places
use Rattle.reply_table.specs.declared.ask.Ask.{Ask}
use Rattle.reply_table.specs.declared.ask.Ask.TheVariants as asks
use Rattle.rc_request.specs.declared.error.RcError.{RcError}
use Rattle.rc_request.specs.declared.resource.Resource.{Resource}
use Rattle.rc_request.specs.declared.operation.Operation.{Operation}
use Rattle.rc_request.specs.declared.operation.Operation.TheVariants as operations
use Rattle.rc_request.specs.Paths.{resource_of}
use Rattle.rc_request.specs.Queries.{before_mark, behind_mark, place_of}
use Rattle.rc_request.specs.Operations.{method_of, operation_by, allow_text}

-- ---- refusals

-- a refusal without a pointer into a body and without methods that are allowed
abbrev pub plain_error : ℕ → Tag → App → RcError
plain_error status tag app = record { status = status; tag = tag; app = app; path = None; allow = [] }

-- octets that are no message
abbrev pub no_message : HttpFault → RcError
no_message faults.Head = plain_error 400 tags.MalformedMessage apps.Form
no_message faults.Version = plain_error 400 tags.MalformedMessage apps.Form
no_message faults.Chunked = plain_error 501 tags.OperationNotSupported apps.Chunked
no_message faults.TooBig = plain_error 413 tags.TooBig apps.Size

-- the path is that of no resource
abbrev pub no_resource : RcError
no_resource = plain_error 404 tags.InvalidValue apps.Path

-- the resource hasn't this method; these it has
abbrev pub no_method : List ℕ → RcError
no_method allow = record { status = 405; tag = tags.OperationNotSupported; app = apps.Method; path = None; allow = allow }

-- a query where there may be none, or one that says no place
abbrev pub bad_query : RcError
bad_query = plain_error 400 tags.InvalidValue apps.Query

-- the name in the body isn't that of the path
abbrev pub other_name : RcError
other_name = plain_error 400 tags.InvalidValue apps.Name

-- the status for a fault of a body: 409 where it has too many entries, else 400
abbrev pub body_status : App → ℕ
body_status apps.Full = 409
body_status app = 400

-- the refusal of a body with this fault
abbrev pub of_body : CodecFault → RcError
of_body f = record { status = body_status f.app; tag = f.tag; app = f.app; path = f.path; allow = [] }

-- ---- bodies

-- what is asked with the value of a body
abbrev pub asked : {A : Type 0} → (A → Ask) → Result A CodecFault → Result Ask RcError
asked ask (Ok x) = Ok (ask x)
asked ask (Err f) = Err (of_body f)

-- a policy is put at the path of its own name
abbrev pub if_named : List ℕ → Result SpdEntry CodecFault → Result Ask RcError
if_named name (Ok e) = if bytes_eq e.name name then Ok (asks.PutSpdEntry e) else Err other_name
if_named name (Err f) = Err (of_body f)

-- a new policy at this place
abbrev pub posted : Place → Result SpdEntry CodecFault → Result Ask RcError
posted place (Ok e) = Ok (asks.PostSpd e place)
posted place (Err f) = Err (of_body f)

-- what is asked without a query
abbrev pub plain_ask : Operation → List ℕ → Result Ask RcError
plain_ask operations.GetSpd body = Ok asks.GetSpd
plain_ask operations.PutSpd body = asked asks.PutSpd (spd_of body)
plain_ask operations.PostSpd body = posted places.Last (spd_entry_of body)
plain_ask (operations.GetSpdEntry name) body = Ok (asks.GetSpdEntry name)
plain_ask (operations.PutSpdEntry name) body = if_named name (spd_entry_of body)
plain_ask (operations.DeleteSpdEntry name) body = Ok (asks.DeleteSpdEntry name)
plain_ask operations.GetSad body = Ok asks.GetSad
plain_ask operations.PostSad body = asked asks.PostSad (sad_entry_of body)
plain_ask (operations.GetSadEntry name) body = Ok (asks.GetSadEntry name)
plain_ask (operations.DeleteSad name) body = Ok (asks.DeleteSad name)

-- ---- queries

-- a new policy at the place that a query says
abbrev pub at_place : Option Place → List ℕ → Result Ask RcError
at_place None body = Err bad_query
at_place (Some place) body = posted place (spd_entry_of body)

-- what is asked by a request that may have no query
abbrev pub unless_query : Operation → Option (List ℕ) → List ℕ → Result Ask RcError
unless_query op None body = plain_ask op body
unless_query op (Some query) body = Err bad_query

-- a new policy alone may have a query
abbrev pub ask_by : Operation → Option (List ℕ) → List ℕ → Result Ask RcError
ask_by operations.PostSpd query body = at_place (place_of query) body
ask_by op query body = unless_query op query body

-- ---- requests

-- what is asked of a resource by a method that it may lack; the query stands behind `?`
abbrev pub by_operation : Resource → Option Operation → HttpMessage → Result Ask RcError
by_operation r None m = Err (no_method (allow_text r))
by_operation r (Some op) m = ask_by op (behind_mark 63 m.target) m.body

-- what is asked of a resource
abbrev pub on_resource : Resource → HttpMessage → Result Ask RcError
on_resource r m = by_operation r (operation_by r (method_of m.method)) m

-- what is asked at a path that may be that of no resource
abbrev pub by_resource : Option Resource → HttpMessage → Result Ask RcError
by_resource None m = Err no_resource
by_resource (Some r) m = on_resource r m

-- the path of the target is what stands before `?`, and the query what stands behind it
unfoldable pub request_of : HttpMessage → Result Ask RcError
request_of m = by_resource (resource_of (before_mark 63 m.target)) m
