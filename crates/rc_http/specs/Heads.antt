-- What the head of a message says, and the length of the body that it announces.
use Rattle.std.specs.Prelude.{◌≡◌, ℕ, ◌≤◌, ◌==◌, ◌&&◌, not, nat_lt, nat_le, List, [], ◌∷◌, map, length, if◌then◌else◌, bytes_eq, codes, Bool, Result, Ok, Err}
use Rattle.std.specs.List.{list_all}
use Rattle.std.specs.Char.{is_ascii_digit}
use Rattle.std.specs.Str.Parse.{digits_value}
use Rattle.httparse.specs.Grammar.{RequestHead, ReadsRequest, ResponseHead, ReadsResponse, status_code}
use Rattle.httparse.specs.Spans.{name_and_value}
use Rattle.http_header.specs.Token.{lowercase}
use Rattle.http_header.specs.FieldValue.{FieldValue, plain_value}
use Rattle.http_header.specs.HeaderMap.{Entries, append_all}
use Rattle.rc_http.specs.declared.message.HttpMessage.{HttpMessage}
use Rattle.rc_http.specs.declared.message.HttpFault.{HttpFault}
use Rattle.rc_http.specs.declared.message.HttpFault.TheVariants as faults
use Rattle.rc_http.specs.declared.message.Kind.{Kind}
use Rattle.rc_http.specs.declared.message.Kind.TheVariants.{Request, Response}

-- the parts of a head; each field is its name, as it is spelt, and its value without the white space around it
pub record Head : Type 0 where
  pub minor : ℕ
  pub method : List ℕ
  pub target : List ℕ
  pub status : ℕ
  pub fields : List (List ℕ × List ℕ)

-- the parts of a request's head; it has no status
abbrev pub of_request : RequestHead → Head
of_request h = record {
  minor = h.minor;
  method = h.method;
  target = h.target;
  status = 0;
  fields = map name_and_value h.fields;
}

-- the parts of a response's head; it has no method and no target
abbrev pub of_response : ResponseHead → Head
of_response h = record {
  minor = h.minor;
  method = [];
  target = [];
  status = status_code h;
  fields = map name_and_value h.fields;
}

-- the octets are a head (RFC 9112 sections 3 to 5, as `httparse` reads them by default) with these parts
abbrev pub IsHead : Kind → List ℕ → Head → Type 0
IsHead Request octets head = (h : RequestHead) × ReadsRequest octets h [] × (head ≡ of_request h)
IsHead Response octets head = (h : ResponseHead) × ReadsResponse octets h [] × (head ≡ of_response h)

-- of this project: a head has at most 64 fields
abbrev pub Reads : Kind → List ℕ → Head → Type 0
Reads kind octets head = IsHead kind octets head × (length head.fields ≤ 64)

-- the values of the fields with this name, whose letters are read in either case (RFC 9110 section 5.1)
abbrev pub values_of : List ℕ → List (List ℕ × List ℕ) → List (List ℕ)
values_of name [] = []
values_of name (field ∷ fields) =
    if bytes_eq (lowercase field.0) (lowercase name) then field.1 ∷ values_of name fields else values_of name fields

-- of this project: the longest body, 1 MiB in a request and 16 MiB in a response
abbrev pub most_body : Kind → ℕ
most_body Request = 1048576
most_body Response = 16777216

-- 1 to 10 decimal digits
abbrev pub is_length : List ℕ → Bool
is_length v = nat_lt 0 (length v) && nat_le (length v) 10 && list_all is_ascii_digit v

-- the length that a Content-Length states (RFC 9110 section 8.6)
abbrev pub stated_len : Kind → List ℕ → Result ℕ HttpFault
stated_len kind v =
    if not (is_length v) then Err faults.Head
    else if nat_lt (most_body kind) (digits_value 10 v) then Err faults.TooBig
    else Ok (digits_value 10 v)

-- the length by all values of Content-Length: none is 0, and it isn't repeated
abbrev pub len_by : Kind → List (List ℕ) → Result ℕ HttpFault
len_by kind [] = Ok 0
len_by kind (v ∷ []) = stated_len kind v
len_by kind (v ∷ w ∷ values) = Err faults.Head

-- the same by all values of Transfer-Encoding, which there mustn't be
abbrev pub len_without : Kind → List (List ℕ) → List (List ℕ) → Result ℕ HttpFault
len_without kind [] lengths = len_by kind lengths
len_without kind (v ∷ values) lengths = Err faults.Chunked

-- the same by the version and the fields: the version is HTTP/1.1
unfoldable pub len_of : Kind → ℕ → List (List ℕ × List ℕ) → Result ℕ HttpFault
len_of kind minor fields =
    if not (minor == 1) then Err faults.Version
    else len_without kind (values_of (codes "Transfer-Encoding") fields) (values_of (codes "Content-Length") fields)

-- the length of the body after this head, or the first fault
abbrev pub body_len : Kind → Head → Result ℕ HttpFault
body_len kind h = len_of kind h.minor h.fields

-- a field as a map holds it: the name in lower case
abbrev pub lowered : List ℕ × List ℕ → List ℕ × FieldValue
lowered field = (lowercase field.0, plain_value field.1)

-- the fields under their names, in order
abbrev pub fields_map : List (List ℕ × List ℕ) → Entries FieldValue
fields_map fields = append_all [] (map lowered fields)

-- the message of this head and this body
abbrev pub message_of : Head → List ℕ → HttpMessage
message_of head body = record {
  method = head.method;
  target = head.target;
  status = head.status;
  fields = fields_map head.fields;
  body = body;
}
