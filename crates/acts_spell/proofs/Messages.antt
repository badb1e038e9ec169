-- The messages of a session are octets: the requests of orders and the responses of replies.
use Rattle.std.proofs.Common.{◌≡◌, ℕ, ◌<◌, ◌==◌, ◌&&◌, Bool, true, false, List, [], ◌∷◌, ◌++◌, length, codes, Some, None, refl, arith, if◌then◌else◌}
use Rattle.std.specs.List.{AllByRecursion, list_any}
use Rattle.std.proofs.lemmas.Bool.Decides.{nat_tests}
use Rattle.std.proofs.lemmas.List.Elements.{All-append, All-from_recursion}
use Rattle.serde_json.specs.Written.{compact_text}
use Rattle.ikl_base.specs.declared.address.Addr.{Addr}
use Rattle.ikl_base.specs.declared.address.Addr.TheVariants.{V4, V6}
use Rattle.ikl_base.specs.Address.{IsAddress}
use Rattle.yang_values.specs.Addresses.{address_text}
use Rattle.ikeless_tree.specs.Check.{is_path_octet, is_sad_name, sad_fault}
use Rattle.ikeless_tree.specs.Half.{is_inbound}
use Rattle.ikeless_tree.specs.Typed.{AreOctets, IsTypedRow}
use Rattle.ikeless_tree.specs.declared.order.Order.{Order}
use Rattle.ikeless_tree.specs.declared.order.Order.TheVariants as orders
use Rattle.ikeless_tree.specs.declared.error.App.{App}
use Rattle.ikeless_tree.specs.declared.error.App.TheVariants as apps
use Rattle.ikeless_tree.specs.declared.error.Tag.{Tag}
use Rattle.ikeless_tree.specs.declared.error.Tag.TheVariants as tags
use Rattle.ikeless_tree.specs.declared.sad.SadEntry.{SadEntry}
use Rattle.ikeless_tree.specs.declared.sad.SadRow.{SadRow}
use Rattle.ikeless_tree.specs.declared.sad.Tree.{Tree}
use Rattle.json_values.proofs.ReadAgain.{utf8_again}
use Rattle.json_tree.proofs.Passed.{half_octets}
use Rattle.json_tree.proofs.Writable.{write_one_half, write_policies, write_rows}
use Rattle.json_tree.specs.SadEntryWritten.{ArePassed, all_rows}
use Rattle.reply_table.specs.Order.{ask_of}
use Rattle.reply_table.specs.Reply.{At_half, Outcome, absent, delete_sad, done, exists, full, has_spi, is_row, is_sad_full, made, new_row, post_sad, reply, spi_taken, with_sad, without_row}
use Rattle.reply_table.specs.declared.ask.Change.TheVariants as changes
use Rattle.rc_http.specs.Written.{length_names, own_names, request_head, request_line, request_names, request_text, response_head, response_names, response_text, status_line, status_text, statuses, text_at, text_or_none, type_names}
use Rattle.rc_resource.specs.Errors.{error_data}
use Rattle.rc_resource.specs.Messages.{field, host_text, if_type, length_field, order_body, order_message, order_method, order_target, own_field, reply_message, type_field}
use Rattle.rc_resource.specs.Messages as messages
use Rattle.rc_resource.specs.Replies.{body_by, location_text, reply_of}
use Rattle.rc_resource.proofs.ErrorTexts.{write_error}
use Rattle.rc_request.specs.Paths.{escaped, half_path}
use Rattle.acts_spell.proofs.Each.{each-append, each-if}
use Rattle.acts_spell.proofs.Octets.{IsOctet, each-of, none, of-each}
use Rattle.acts_spell.proofs.Texts.{HaveOctets, address-octets, decimal-octets, escaped-octets, head-octets, narrow, utf8-octets, word}
use Rattle.acts_spell.proofs.Found.{IsGoodOrder}

-- ---- requests

path-octet : (b : ℕ) → is_path_octet b ≡ true → b < 256
path-octet b e = grind (arith, nat_tests, e)

half-path-octets : (name : List ℕ) → is_sad_name name ≡ true → AreOctets (half_path name)
half-path-octets name h =
    All-append IsOctet (codes "/restconf/data/ietf-i2nsf-ikeless:ipsec-ikeless/sad/sad-entry=") (escaped name)
    (word (codes "/restconf/data/ietf-i2nsf-ikeless:ipsec-ikeless/sad/sad-entry=") refl)
    (escaped-octets name (narrow is_path_octet path-octet name (half_octets name h)))

host-octets : (a : Addr) → IsAddress a → AreOctets (host_text a)
host-octets (V4 octets) h = address-octets (V4 octets) h
host-octets (V6 octets) h =
    All-append IsOctet (91 ∷ address_text (V6 octets)) (93 ∷ [])
    (of-each (91 ∷ address_text (V6 octets)) (omega arith, each-of (address_text (V6 octets)) (address-octets (V6 octets) h)))
    (word (93 ∷ []) refl)

method-octets : (o : Order) → AreOctets (order_method o)
method-octets orders.Read = word (codes "GET") refl
method-octets (orders.Policy list) = word (codes "PUT") refl
method-octets (orders.Put e) = word (codes "POST") refl
method-octets (orders.Remove name) = word (codes "DELETE") refl

target-octets : (o : Order) → IsGoodOrder o → AreOctets (order_target o)
target-octets orders.Read h = word (codes "/restconf/data/ietf-i2nsf-ikeless:ipsec-ikeless/sad") refl
target-octets (orders.Policy list) h = word (codes "/restconf/data/ietf-i2nsf-ikeless:ipsec-ikeless/spd") refl
target-octets (orders.Put e) h = word (codes "/restconf/data/ietf-i2nsf-ikeless:ipsec-ikeless/sad") refl
target-octets (orders.Remove name) h = half-path-octets name h.0

body-octets : (o : Order) → IsGoodOrder o → AreOctets (order_body o)
body-octets orders.Read h = none
body-octets (orders.Policy list) h = utf8-octets (order_body (orders.Policy list)) (utf8_again _ (write_policies list h.1 h.0.fits))
body-octets (orders.Put e) h = utf8-octets (order_body (orders.Put e)) (utf8_again _ (write_one_half e h.1 h.0))
body-octets (orders.Remove name) h = none

type-octets : AreOctets (codes "application/yang-data+json")
type-octets = word (codes "application/yang-data+json") refl

fields-if : (b : Bool) (body : List ℕ) → HaveOctets (if b then [] else type_field ∷ length_field body ∷ [])
fields-if true body = tt
fields-if false body = (type-octets, (decimal-octets (length body), tt))

asked-names : (body : List ℕ) → AllByRecursion AreOctets (request_names body)
asked-names [] = (word (codes "Host") refl, tt)
asked-names (b ∷ body) = (word (codes "Host") refl, (word (codes "Content-Type") refl, (word (codes "Content-Length") refl, tt)))

pub request-octets : (host : Addr) (o : Order) → IsAddress host → IsGoodOrder o → AreOctets (request_text (order_message host o))
request-octets host o a h =
    let body = body-octets o h in
    let start = All-append IsOctet (order_method o ++ 32 ∷ order_target o) (codes " HTTP/1.1")
    (All-append IsOctet (order_method o) (32 ∷ order_target o) (method-octets o)
    (of-each (32 ∷ order_target o) (omega arith, each-of (order_target o) (target-octets o h))))
    (word (codes " HTTP/1.1") refl) in
    let fields : List (List ℕ × List ℕ) = messages.request_fields (host_text host) (order_body o) in
    All-append IsOctet (request_head (order_message host o)) (order_body o)
    (head-octets (request_line (order_message host o)) fields (request_names (order_body o)) start
    (host-octets host a, fields-if (length (order_body o) == 0) (order_body o)) (asked-names (order_body o)))
    body

-- ---- responses

-- a row that can be written
abbrev pub IsGoodRow : SadRow → Type 0
IsGoodRow r = (sad_fault r.entry ≡ None) × IsTypedRow r

rows-passed : (rs : List SadRow) → AllByRecursion IsGoodRow rs → ArePassed rs
rows-passed [] h = tt
rows-passed (r ∷ rs) h = (h.0.0, rows-passed rs h.1)

rows-typed : (rs : List SadRow) → AllByRecursion IsGoodRow rs → AllByRecursion IsTypedRow rs
rows-typed [] h = tt
rows-typed (r ∷ rs) h = (h.0.1, rows-typed rs h.1)

-- what is carried by the response of an outcome
record IsCarried (r : Outcome) : Type 0 where
  pub location : AreOctets (location_text r.location)
  pub body : AreOctets (body_by r.tag r.app r.shown)

refused-body : (tag : Tag) (app : App) → AreOctets (compact_text (error_data app None tag))
refused-body tag app =
    utf8-octets (compact_text (error_data app None tag)) (utf8_again (error_data app None tag) (write_error app None tag tt))

either-carried : (b : Bool) (x y : Outcome) → IsCarried x → IsCarried y → IsCarried (if b then x else y)
either-carried true x y p q = p
either-carried false x y p q = q

put-carried : (t : Tree) (e : SadEntry) → is_sad_name e.name ≡ true → IsCarried (post_sad t e)
put-carried t e n =
    let a : IsCarried (exists t) = record { location = none; body = refused-body tags.ResourceDenied apps.Exists } in
    let b : IsCarried (spi_taken t) = record { location = none; body = refused-body tags.ResourceDenied apps.SpiTaken } in
    let c : IsCarried (full t) = record { location = none; body = refused-body tags.ResourceDenied apps.Full } in
    let d : IsCarried (made (At_half e.name) (changes.Put e) (with_sad t (t.sad ++ new_row e ∷ []))) =
    record { location = half-path-octets e.name n; body = none } in
    either-carried (list_any (is_row e.name) t.sad) (exists t) _ a
    (either-carried (is_inbound e.name && has_spi e.spi t.sad) (spi_taken t) _ b (either-carried (is_sad_full t.sad) (full t) _ c d))

gone-carried : (t : Tree) (x : List ℕ) → IsCarried (delete_sad t x)
gone-carried t x =
    let a : IsCarried (done (changes.Gone x) (with_sad t (without_row x t.sad))) = record { location = none; body = none } in
    let b : IsCarried (absent t) = record { location = none; body = refused-body tags.InvalidValue apps.Absent } in
    either-carried (list_any (is_row x) t.sad) _ (absent t) a b

carried : (t : Tree) (o : Order) → AllByRecursion IsGoodRow t.sad → ((e : SadEntry) → o ≡ orders.Put e → is_sad_name e.name ≡ true)
    → IsCarried (reply t (ask_of o))
unfolding reply
carried t orders.Read h n =
    record {
      location = none;
      body =
          utf8-octets (compact_text (all_rows t.sad))
          (utf8_again (all_rows t.sad) (write_rows t.sad (All-from_recursion IsTypedRow t.sad (rows-typed t.sad h)) (rows-passed t.sad h)));
    }
carried t (orders.Policy list) h n = record { location = none; body = none }
carried t (orders.Put e) h n = put-carried t e (n e refl)
carried t (orders.Remove x) h n = gone-carried t x

texts : (n : ℕ) (rows : List (ℕ × List ℕ)) → AllByRecursion (λ row. AreOctets row.1) rows → AreOctets (text_or_none (text_at n rows))
texts n [] h = none
texts n (row ∷ rows) h = by-number (n == row.0) (texts n rows h.1) where
  by-number : (b : Bool) → AreOctets (text_or_none (text_at n rows)) → AreOctets (text_or_none (if b then Some row.1 else text_at n rows))
  by-number true more = h.0
  by-number false more = more

each-status : AllByRecursion (λ row. AreOctets row.1) statuses
each-status = (
  word (codes "200 OK") refl,
  (
    word (codes "201 Created") refl,
    (
      word (codes "204 No Content") refl,
      (
        word (codes "400 Bad Request") refl,
        (
          word (codes "404 Not Found") refl,
          (
            word (codes "405 Method Not Allowed") refl,
            (
              word (codes "409 Conflict") refl,
              (word (codes "413 Content Too Large") refl, (word (codes "501 Not Implemented") refl, tt)),
            ),
          ),
        ),
      ),
    ),
  ),
)

status-octets : (n : ℕ) → AreOctets (status_line n)
status-octets n =
    All-append IsOctet (codes "HTTP/1.1 ") (text_or_none (status_text n)) (word (codes "HTTP/1.1 ") refl)
    (texts n statuses each-status)

length-name : (n : ℕ) → AllByRecursion AreOctets (length_names n)
length-name n = each-if AreOctets (n == 204) [] (codes "Content-Length" ∷ []) tt (word (codes "Content-Length") refl, tt)

type-name : (body : List ℕ) → AllByRecursion AreOctets (type_names body)
type-name [] = tt
type-name (b ∷ body) = (word (codes "Content-Type") refl, tt)

own-name : (n : ℕ) → AllByRecursion AreOctets (own_names n)
own-name n =
    each-if AreOctets (n == 201) (codes "Location" ∷ []) (if n == 405 then codes "Allow" ∷ [] else []) (word (codes "Location") refl, tt)
    (each-if AreOctets (n == 405) (codes "Allow" ∷ []) [] (word (codes "Allow") refl, tt) tt)

replied-names : (n : ℕ) (body : List ℕ) → AllByRecursion AreOctets (response_names n body)
replied-names n body =
    each-append AreOctets (length_names n ++ type_names body) (own_names n)
    (each-append AreOctets (length_names n) (type_names body) (length-name n) (type-name body)) (own-name n)

abbrev HasOctets : List ℕ × List ℕ → Type 0
HasOctets f = AreOctets f.1

own-fields : (r : Outcome) → IsCarried r → HaveOctets (own_field (reply_of r))
own-fields r c =
    each-if HasOctets (r.status == 201) (field (codes "Location") (location_text r.location) ∷ [])
    (if r.status == 405 then field (codes "Allow") [] ∷ [] else []) (c.location, tt)
    (each-if HasOctets (r.status == 405) (field (codes "Allow") [] ∷ []) [] (none, tt) tt)

body-type : (body : List ℕ) → HaveOctets (if_type body)
body-type body = each-if HasOctets (length body == 0) [] (type_field ∷ []) tt (type-octets, tt)

reply-fields : (r : Outcome) → IsCarried r → HaveOctets (messages.response_fields (reply_of r))
reply-fields r c =
    let body : List ℕ = body_by r.tag r.app r.shown in
    each-if HasOctets (r.status == 204) [] (length_field body ∷ if_type body ++ own_field (reply_of r)) tt
    (each-append HasOctets (length_field body ∷ if_type body) (own_field (reply_of r)) (decimal-octets (length body), body-type body)
    (own-fields r c))

carried-octets : (r : Outcome) → IsCarried r → AreOctets (response_text (reply_message (reply_of r)))
carried-octets r c =
    let body : List ℕ = body_by r.tag r.app r.shown in
    All-append IsOctet (response_head (reply_message (reply_of r))) body
    (head-octets (status_line r.status) (messages.response_fields (reply_of r)) (response_names r.status body) (status-octets r.status)
    (reply-fields r c) (replied-names r.status body))
    c.body

pub response-octets : (t : Tree) (o : Order) → AllByRecursion IsGoodRow t.sad
    → ((e : SadEntry) → o ≡ orders.Put e → is_sad_name e.name ≡ true)
    → AreOctets (response_text (reply_message (reply_of (reply t (ask_of o)))))
response-octets t o h n = carried-octets (reply t (ask_of o)) (carried t o h n)
