-- Commands as operations of the module ikl-control of this project (RFC 8040 section 3.6): which request gives which command, or
-- its first fault: the path, the method, a query, then the body; and the request that is written for a command.
use Rattle.std.specs.Prelude.{ℕ, ◌≤◌, List, ◌++◌, length, codes, if◌then◌else◌, Option, Some, None, Result, Ok, Err}
use Rattle.std.specs.Str.{bytes_eq}
use Rattle.serde_json.specs.Written.{compact_text}
use Rattle.ikeless_tree.specs.declared.command.Command.{Command}
use Rattle.json_values.specs.declared.fault.CodecFault.{CodecFault}
use Rattle.json_codec.specs.Bodies.{command_of}
use Rattle.json_codec.specs.CommandRead.{is_operation, operation_of, HasWindow}
use Rattle.json_codec.specs.CommandWritten.{command_data, IsWellFormed}
use Rattle.rc_http.specs.declared.message.HttpMessage.{HttpMessage}
use Rattle.rc_http.specs.Heads.{fields_map}
use Rattle.rc_request.specs.declared.error.RcError.{RcError}
use Rattle.rc_request.specs.Paths.{after_front}
use Rattle.rc_request.specs.Queries.{before_mark, behind_mark}
use Rattle.rc_request.specs.Requests.{bad_query, no_method, no_resource, of_body}
use Rattle.rc_resource.specs.Messages.{request_fields}

-- ---- requests that are read

-- what stands before the name of an operation in its path
abbrev pub operations_path : List ℕ
operations_path = codes "/restconf/operations/ikl-control:"

-- the name is one of the module's operations
abbrev pub known_name : Option (List ℕ) → Option (List ℕ)
known_name None = None
known_name (Some name) = if is_operation name then Some name else None

-- the operation of a path
abbrev pub operation_at : List ℕ → Option (List ℕ)
operation_at path = known_name (after_front operations_path path)

-- the command of a body, or what is wrong with that
abbrev pub commanded : Result Command CodecFault → Result Command RcError
commanded (Ok c) = Ok c
commanded (Err f) = Err (of_body f)

-- no operation has a query
abbrev pub unless_query : List ℕ → Option (List ℕ) → List ℕ → Result Command RcError
unless_query name None body = commanded (command_of name body)
unless_query name (Some query) body = Err bad_query

-- an operation is posted
abbrev pub by_method : List ℕ → HttpMessage → Result Command RcError
by_method name m =
    if bytes_eq m.method (codes "POST") then unless_query name (behind_mark 63 m.target) m.body else Err (no_method (codes "POST"))

-- the path must be that of an operation (RFC 8040 section 3.6)
abbrev pub by_operation : Option (List ℕ) → HttpMessage → Result Command RcError
by_operation None m = Err no_resource
by_operation (Some name) m = by_method name m

-- the command of a request
unfoldable pub requested : HttpMessage → Result Command RcError
requested m = by_operation (operation_at (before_mark 63 m.target)) m

-- its names are those of gateways, its list has no fault, and its window is one
pub record IsSound (c : Command) : Type 0 where
  pub lawful : IsWellFormed c
  pub window : HasWindow c

-- ---- requests that are written

-- the path of the operation that takes this command
abbrev pub command_target : Command → List ℕ
command_target c = operations_path ++ operation_of c

-- the JSON of a command, without spaces
abbrev pub command_body : Command → List ℕ
command_body c = compact_text (command_data c)

-- a controller is asked on the machine on which it runs
abbrev pub controller_host : List ℕ
controller_host = codes "127.0.0.1"

-- the request that gives a command
abbrev pub command_message : Command → HttpMessage
command_message c = record {
  method = codes "POST";
  target = command_target c;
  status = 0;
  fields = fields_map (request_fields controller_host (command_body c));
  body = command_body c;
}

-- a command whose request can be written: its body has at most 1 MiB
pub record IsSendable (c : Command) : Type 0 where
  pub sound : IsSound c
  pub short : length (command_body c) ≤ 1048576
