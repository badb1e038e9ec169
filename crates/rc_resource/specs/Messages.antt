-- Orders as requests and replies as responses (RFC 8040 sections 3.4 to 4.8, RFC 9110 section 6).
use Rattle.std.specs.Prelude.{◌≡◌, ℕ, ◌==◌, true, List, [], ◌∷◌, ◌++◌, length, codes, if◌then◌else◌, None}
use Rattle.std.specs.Fmt.{decimal}
use Rattle.serde_json.specs.Written.{compact_text}
use Rattle.ikl_base.specs.declared.address.Addr.{Addr}
use Rattle.ikl_base.specs.declared.address.Addr.TheVariants.{V4, V6}
use Rattle.ikeless_tree.specs.declared.order.Order.{Order}
use Rattle.ikeless_tree.specs.declared.order.Order.TheVariants as orders
use Rattle.ikeless_tree.specs.Check.{spd_fault, sad_fault, is_sad_name}
use Rattle.yang_values.specs.Addresses.{address_text}
use Rattle.json_values.specs.Written.{all_policies}
use Rattle.json_tree.specs.SadEntryWritten.{one_sad_entry}
use Rattle.rc_http.specs.declared.message.HttpMessage.{HttpMessage}
use Rattle.rc_http.specs.Heads.{fields_map}
use Rattle.rc_resource.specs.declared.reply.Reply.{Reply}
use Rattle.rc_request.specs.Paths.{half_path}

-- ---- fields

-- a field with this name
abbrev pub field : List ℕ → List ℕ → List ℕ × List ℕ
field name value = (name, value)

-- bodies are JSON of YANG data (RFC 8040 section 5.2)
abbrev pub type_field : List ℕ × List ℕ
type_field = field (codes "Content-Type") (codes "application/yang-data+json")

-- how many octets the body has
abbrev pub length_field : List ℕ → List ℕ × List ℕ
length_field body = field (codes "Content-Length") (decimal (length body))

-- ---- requests

-- the host of a request: an IPv6 address stands in brackets (RFC 3986 section 3.2.2)
abbrev pub host_text : Addr → List ℕ
host_text (V4 octets) = address_text (V4 octets)
host_text (V6 octets) = 91 ∷ address_text (V6 octets) ++ 93 ∷ []

-- what is said of a body that is there
abbrev pub body_fields : List ℕ → List (List ℕ × List ℕ)
body_fields body = if length body == 0 then [] else type_field ∷ length_field body ∷ []

-- the fields of a request to this host with this body
abbrev pub request_fields : List ℕ → List ℕ → List (List ℕ × List ℕ)
request_fields host body = field (codes "Host") host ∷ body_fields body

-- the method of the request that carries an order
abbrev pub order_method : Order → List ℕ
order_method orders.Read = codes "GET"
order_method (orders.Policy list) = codes "PUT"
order_method (orders.Put e) = codes "POST"
order_method (orders.Remove name) = codes "DELETE"

-- the path of what an order reads or changes
abbrev pub order_target : Order → List ℕ
order_target orders.Read = codes "/restconf/data/ietf-i2nsf-ikeless:ipsec-ikeless/sad"
order_target (orders.Policy list) = codes "/restconf/data/ietf-i2nsf-ikeless:ipsec-ikeless/spd"
order_target (orders.Put e) = codes "/restconf/data/ietf-i2nsf-ikeless:ipsec-ikeless/sad"
order_target (orders.Remove name) = half_path name

-- the list or the half that an order carries, as JSON without white space
abbrev pub order_body : Order → List ℕ
order_body orders.Read = []
order_body (orders.Policy list) = compact_text (all_policies list)
order_body (orders.Put e) = compact_text (one_sad_entry e)
order_body (orders.Remove name) = []

-- the request that carries an order to this host
abbrev pub order_message : Addr → Order → HttpMessage
order_message host o = record {
  method = order_method o;
  target = order_target o;
  status = 0;
  fields = fields_map (request_fields (host_text host) (order_body o));
  body = order_body o;
}

-- an order whose policies or half have no fault, and whose name is that of a half
abbrev pub IsOrder : Order → Type 0
IsOrder orders.Read = Unit {0}
IsOrder (orders.Policy list) = spd_fault list ≡ None
IsOrder (orders.Put e) = sad_fault e ≡ None
IsOrder (orders.Remove name) = is_sad_name name ≡ true

-- ---- responses

-- the type of a body that is there
abbrev pub if_type : List ℕ → List (List ℕ × List ℕ)
if_type body = if length body == 0 then [] else type_field ∷ []

-- where what was made is, or which methods are allowed
abbrev pub own_field : Reply → List (List ℕ × List ℕ)
own_field r =
    if r.status == 201 then field (codes "Location") r.location ∷ []
    else if r.status == 405 then field (codes "Allow") r.allow ∷ []
    else []

-- the fields of a response; 204 has none
abbrev pub response_fields : Reply → List (List ℕ × List ℕ)
response_fields r =
    if r.status == 204 then []
    else length_field r.body ∷ if_type r.body ++ own_field r

-- the response that carries a reply
abbrev pub reply_message : Reply → HttpMessage
reply_message r = record {
  method = [];
  target = [];
  status = r.status;
  fields = fields_map (response_fields r);
  body = r.body;
}
