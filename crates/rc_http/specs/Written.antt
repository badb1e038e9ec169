-- The text of a message as it is written (RFC 9112 sections 2 to 6).
use Rattle.std.specs.Prelude.{◌≡◌, ◌≢◌, ℕ, ◌<◌, ◌≤◌, ◌==◌, ◌&&◌, ◌||◌, not, nat_lt, nat_le, List, [], ◌∷◌, ◌++◌, map, length, reverse, if◌then◌else◌, codes, Bool, true, IsTrue, IsSome, Option, Some, None, flat_map}
use Rattle.std.specs.List.{list_all}
use Rattle.std.specs.Char.{is_ascii_uppercase, is_ascii_alphanumeric}
use Rattle.std.specs.List.{list_any}
use Rattle.std.specs.Fmt.{decimal}
use Rattle.http_header.specs.Token.{lowercase}
use Rattle.http_header.specs.FieldValue.{FieldValue}
use Rattle.http_header.specs.HeaderMap.{Entries, get, get_all}
use Rattle.rc_http.specs.declared.message.HttpMessage.{HttpMessage}
use Rattle.rc_http.specs.declared.message.Kind.TheVariants.{Request, Response}
use Rattle.rc_http.specs.Heads.{fields_map, most_body}
use Rattle.rc_http.specs.Looks.{most_head}

-- the end of a line: CR and LF
abbrev pub crlf : List ℕ
crlf = 13 ∷ 10 ∷ []

-- the first of the values, or no octets
abbrev pub bytes_of : Option FieldValue → List ℕ
bytes_of None = []
bytes_of (Some v) = v.bytes

-- the value of the field with this name, whose letters are read in either case, or no octets
abbrev pub value_in : Entries FieldValue → List ℕ → List ℕ
value_in fields name = bytes_of (get fields (lowercase name))

-- the fields with these names, each with its value
abbrev pub named : Entries FieldValue → List (List ℕ) → List (List ℕ × List ℕ)
named fields names = map (λ name. (name, value_in fields name)) names

-- field-line = name ":" SP value
abbrev pub field_line : List ℕ × List ℕ → List ℕ
field_line field = field.0 ++ (58 ∷ 32 ∷ field.1) ++ crlf

-- the field lines, each with its end
abbrev pub lines : List (List ℕ × List ℕ) → List ℕ
lines fields = flat_map field_line fields

-- the first line, the field lines and the empty line
abbrev pub head_text : List ℕ → List (List ℕ × List ℕ) → List ℕ
head_text start fields = start ++ crlf ++ lines fields ++ crlf

-- request-line = method SP request-target SP HTTP-version
abbrev pub request_line : HttpMessage → List ℕ
request_line m = m.method ++ 32 ∷ m.target ++ codes " HTTP/1.1"

-- what a request with a body says of it: its type and length; one without a body says nothing
abbrev pub sent_names : List ℕ → List (List ℕ)
sent_names [] = []
sent_names (b ∷ body) = codes "Content-Type" ∷ codes "Content-Length" ∷ []

-- of this project: the names of the fields of a request with this body, in order
abbrev pub request_names : List ℕ → List (List ℕ)
request_names body = codes "Host" ∷ sent_names body

-- the fields of a request as they are written
abbrev pub request_fields : HttpMessage → List (List ℕ × List ℕ)
request_fields m = named m.fields (request_names m.body)

-- the head of a request, with the empty line behind it
abbrev pub request_head : HttpMessage → List ℕ
request_head m = head_text (request_line m) (request_fields m)

-- the octets of a request: its line, its fields and its body (RFC 9112 section 3)
abbrev pub request_text : HttpMessage → List ℕ
request_text m = request_head m ++ m.body

-- of this project: the codes that a response may have, each as it is written with its reason phrase (RFC 9110
-- section 15)
abbrev pub statuses : List (ℕ × List ℕ)
statuses =
    (200, codes "200 OK") ∷ (201, codes "201 Created") ∷ (204, codes "204 No Content") ∷ (400, codes "400 Bad Request")
    ∷ (404, codes "404 Not Found") ∷ (405, codes "405 Method Not Allowed") ∷ (409, codes "409 Conflict")
    ∷ (413, codes "413 Content Too Large") ∷ (501, codes "501 Not Implemented") ∷ []

-- the text beside a number
abbrev pub text_at : ℕ → List (ℕ × List ℕ) → Option (List ℕ)
text_at n [] = None
text_at n (row ∷ rows) = if n == row.0 then Some row.1 else text_at n rows

-- the code and reason phrase of a status, where a response may have it
abbrev pub status_text : ℕ → Option (List ℕ)
status_text n = text_at n statuses

-- the text, or no octets
abbrev pub text_or_none : Option (List ℕ) → List ℕ
text_or_none None = []
text_or_none (Some text) = text

-- status-line = HTTP-version SP status-code SP reason-phrase
abbrev pub status_line : ℕ → List ℕ
status_line n = codes "HTTP/1.1 " ++ text_or_none (status_text n)

-- a 204 tells no length, every other response does (RFC 9110 section 8.6)
abbrev pub length_names : ℕ → List (List ℕ)
length_names n = if n == 204 then [] else codes "Content-Length" ∷ []

-- a body has its type
abbrev pub type_names : List ℕ → List (List ℕ)
type_names [] = []
type_names (b ∷ body) = codes "Content-Type" ∷ []

-- a 201 tells the location of what was made, a 405 the methods that are allowed (RFC 9110 sections 15.3.2 and 15.5.6)
abbrev pub own_names : ℕ → List (List ℕ)
own_names n = if n == 201 then codes "Location" ∷ [] else if n == 405 then codes "Allow" ∷ [] else []

-- of this project: the names of the fields of a response with this status and this body, in order
abbrev pub response_names : ℕ → List ℕ → List (List ℕ)
response_names n body = length_names n ++ type_names body ++ own_names n

-- the fields of a response as they are written
abbrev pub response_fields : HttpMessage → List (List ℕ × List ℕ)
response_fields m = named m.fields (response_names m.status m.body)

-- the head of a response, with the empty line behind it
abbrev pub response_head : HttpMessage → List ℕ
response_head m = head_text (status_line m.status) (response_fields m)

-- the octets of a response: its status line, its fields and its body (RFC 9112 section 4)
abbrev pub response_text : HttpMessage → List ℕ
response_text m = response_head m ++ m.body

-- ---- which messages can be written

-- the octets begin with no space
abbrev pub is_unspaced : List ℕ → Bool
is_unspaced [] = true
is_unspaced (b ∷ rest) = not (b == 32)

-- visible ASCII and spaces, with no space at an end
abbrev pub is_value : List ℕ → Bool
is_value v = list_all (λ b. nat_le 32 b && nat_le b 126) v && is_unspaced v && is_unspaced (reverse v)

-- 1 to 16 capital letters
abbrev pub is_method : List ℕ → Bool
is_method method = nat_lt 0 (length method) && nat_le (length method) 16 && list_all is_ascii_uppercase method

-- what may stand in a request target as it is written here: letters, digits, and octets of a path or a query
abbrev pub is_target_octet : ℕ → Bool
is_target_octet b = is_ascii_alphanumeric b || list_any (λ c. c == b) (codes "/-._~%:=?&")

-- one or more letters, digits and octets of a path or a query
abbrev pub is_target : List ℕ → Bool
is_target target = nat_lt 0 (length target) && list_all is_target_octet target

-- two maps have the same fields, in whatever order of their names
abbrev pub SameFields : Entries FieldValue → Entries FieldValue → Type 0
SameFields m n = (name : List ℕ) → get_all m name ≡ get_all n name

-- what the fields say of the body: its length and, if it isn't empty, its type
pub record TellsBody (fields : Entries FieldValue) (body : List ℕ) : Type 0 where
  pub len : value_in fields (codes "Content-Length") ≡ decimal (length body)
  pub type : 0 < length body → value_in fields (codes "Content-Type") ≡ codes "application/yang-data+json"

-- a request that can be written: it has exactly the fields that are written, each once
pub record IsWritableRequest (m : HttpMessage) : Type 0 where
  pub method : IsTrue (is_method m.method)
  pub target : IsTrue (is_target m.target)
  pub status : m.status ≡ 0
  pub fields : SameFields m.fields (fields_map (request_fields m))
  pub values : IsTrue (list_all (λ field. is_value field.1) (request_fields m))
  pub tells : 0 < length m.body → TellsBody m.fields m.body
  pub head : length (request_head m) ≤ most_head
  pub body : length m.body ≤ most_body Request

-- a response that can be written
pub record IsWritableResponse (m : HttpMessage) : Type 0 where
  pub method : m.method ≡ []
  pub target : m.target ≡ []
  pub status : IsSome (status_text m.status)
  pub fields : SameFields m.fields (fields_map (response_fields m))
  pub values : IsTrue (list_all (λ field. is_value field.1) (response_fields m))
  pub tells : m.status ≢ 204 → TellsBody m.fields m.body
  pub none : m.status ≡ 204 → m.body ≡ []
  pub head : length (response_head m) ≤ most_head
  pub body : length m.body ≤ most_body Response

-- the message that is read again: its fields are in the order in which they are written
abbrev pub request_again : HttpMessage → HttpMessage
request_again m = record m { fields = fields_map (request_fields m) }

-- the same of a response
abbrev pub response_again : HttpMessage → HttpMessage
response_again m = record m { fields = fields_map (response_fields m) }
