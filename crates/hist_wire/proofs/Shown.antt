-- A gateway is read in its first session: the request is shown under way, then the response, and then nothing.
use Rattle.std.proofs.Common.{◌≡◌, ℕ, List, [], ◌∷◌, ◌++◌, codes, refl, ap, ◌∙◌, take}
use Rattle.std.specs.Fmt.{digits}
use Rattle.json.specs.Print.{escape_byte}
use Rattle.ikl_base.specs.declared.address.Addr.TheVariants.{V4}
use Rattle.ikeless_tree.specs.declared.order.Lane.TheVariants as lanes
use Rattle.ikeless_tree.specs.declared.order.Order.TheVariants as asks
use Rattle.yang_values.specs.Addresses.{address_text}
use Rattle.rc_http.specs.declared.message.HttpMessage.{HttpMessage}
use Rattle.rc_http.specs.Heads.{fields_map}
use Rattle.rc_http.specs.Written.{request_text, response_text}
use Rattle.rc_resource.specs.Messages.{field, order_message, order_target, reply_message}
use Rattle.rc_resource.specs.Replies.{reply_of}
use Rattle.ikeless_tree.specs.declared.sad.Tree.{Tree}
use Rattle.reply_table.specs.Reply.{get_sad, reply}
use Rattle.rc_resource.specs.declared.reply.Reply.{Reply}
use Rattle.hist_acts.specs.declared.act.Act.{Act}
use Rattle.hist_acts.specs.declared.act.Act.TheVariants as acts
use Rattle.hist_world.proofs.Shown.{a, plain}
use Rattle.hist_world.proofs.ShownAcquire.{alone}
use Rattle.hist_wire.specs.Wire.{under_way}

abbrev request : List ℕ
request = codes "GET /restconf/data/ietf-i2nsf-ikeless:ipsec-ikeless/sad HTTP/1.1\r\nHost: 192.0.2.1\r\n\r\n"

host-is : address_text (V4 (192 ∷ 0 ∷ 2 ∷ 1 ∷ [])) ≡ codes "192.0.2.1"
unfolding address_text digits
host-is = refl

abbrev message : List ℕ → HttpMessage
message host = record {
  method = codes "GET";
  target = order_target asks.Read;
  status = 0;
  fields =
      fields_map (field (codes "Host") host ∷ []);
  body = [];
}

text-is : request_text (message (codes "192.0.2.1")) ≡ request
text-is = refl

order-is : order_message (V4 (192 ∷ 0 ∷ 2 ∷ 1 ∷ [])) asks.Read ≡ message (address_text (V4 (192 ∷ 0 ∷ 2 ∷ 1 ∷ [])))
order-is = refl

abbrev at_request : List Act
at_request = acts.Took 2 ∷ acts.Order a 1 1 asks.Read ∷ acts.Opened a 1 ∷ acts.Took 1 ∷ []

down-is : under_way alone a lanes.Down at_request ≡ take 4096 (request_text (order_message (V4 (192 ∷ 0 ∷ 2 ∷ 1 ∷ [])) asks.Read) ++ [])
down-is = refl

shown-request : under_way alone a lanes.Down at_request ≡ request
shown-request = down-is ∙ ap (λ (m : HttpMessage). take 4096 (request_text m ++ [])) (order-is ∙ ap message host-is)
    ∙ ap (λ (t : List ℕ). take 4096 (t ++ [])) text-is ∙ refl

-- ---- the response

abbrev response : List ℕ
response = codes "HTTP/1.1 200 OK\r\nContent-Length: 43\r\nContent-Type: application/yang-data+json\r\n\r\n{\"ietf-i2nsf-ikeless:sad\":{\"sad-entry\":[]}}"

abbrev empty : Tree
empty = record { spd = []; sad = [] }

abbrev with_body : List ℕ → Reply
with_body body = record (reply_of (get_sad empty)) { body = body }

body-is : reply_of (get_sad empty) ≡ with_body (codes "{\"ietf-i2nsf-ikeless:sad\":{\"sad-entry\":[]}}")
unfolding escape_byte
body-is = refl

written-is : response_text (reply_message (with_body (codes "{\"ietf-i2nsf-ikeless:sad\":{\"sad-entry\":[]}}"))) ≡ response
unfolding digits
written-is = refl

abbrev at_answer : List Act
at_answer = acts.Took 4 ∷ acts.Handled a 1 1 (plain 200) ∷ acts.Took 3 ∷ acts.Wire a lanes.Down request ∷ at_request

up-is : under_way alone a lanes.Up at_answer ≡ take 4096 (response_text (reply_message (reply_of (get_sad empty))) ++ [])
unfolding reply
up-is = refl

shown-response : under_way alone a lanes.Up at_answer ≡ response
shown-response = up-is ∙ ap (λ (r : Reply). take 4096 (response_text (reply_message r) ++ [])) body-is
    ∙ ap (λ (t : List ℕ). take 4096 (t ++ [])) written-is ∙ refl

shown-none : under_way alone a lanes.Up (acts.Took 6 ∷ acts.Answered a 1 1 (plain 200) ∷ acts.Took 5 ∷ acts.Wire a lanes.Up response
    ∷ at_answer) ≡ []
shown-none = refl
