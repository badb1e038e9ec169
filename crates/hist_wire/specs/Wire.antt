-- What `wire` shows, of this project: the octets under way on a lane of a gateway. A past has its newest act first.
use Rattle.std.specs.Prelude.{ℕ, List, [], ◌∷◌, take, Option, Some, None}
use Rattle.ikl_base.specs.declared.address.Addr.{Addr}
use Rattle.ikeless_tree.specs.declared.order.Answer.{Answer}
use Rattle.ikeless_tree.specs.declared.order.Lane.{Lane}
use Rattle.ikeless_tree.specs.declared.order.Notice.{Notice}
use Rattle.ikeless_tree.specs.declared.order.Order.{Order}
use Rattle.ikeless_tree.specs.declared.ends.GoneWhy.TheVariants as gone
use Rattle.reply_table.specs.Order.{ask_of}
use Rattle.reply_table.specs.Reply.{Outcome, reply}
use Rattle.rc_http.specs.Written.{request_text, response_text}
use Rattle.rc_resource.specs.Messages.{order_message, reply_message}
use Rattle.rc_resource.specs.Replies.{reply_of}
use Rattle.hist_acts.specs.declared.act.Act.{Act}
use Rattle.hist_acts.specs.declared.act.Act.TheVariants as acts
use Rattle.hist_acts.specs.declared.event.Header.{Header}
use Rattle.hist_acts.specs.Past.{clock}
use Rattle.hist_acts.specs.Sessions.{next_request}
use Rattle.hist_gateway.specs.Block as node
use Rattle.hist_gateway.specs.Rows.{tree_of}
use Rattle.session_pipe.specs.UnderWay.{UnderWay, unread_octets}
use Rattle.session_pipe.specs.Past.{pipe_of}
use Rattle.hist_world.specs.Block.{Shows, gateway_at}
use Rattle.hist_wire.specs.Dates.{line_text}

-- ---- the message of an act

-- the request that carries an order to the gateway with this address, which is its Host
abbrev pub request_at : Addr → List Act → Order → List ℕ
request_at host h o = request_text (order_message host o)

-- the past before the change of a reply, which stands directly before the reply
abbrev pub before_change : List Act → List Act
before_change (acts.Policy f list ∷ h) = h
before_change (acts.Put f e ∷ h) = h
before_change (acts.Gone f x gone.Removed ∷ h) = h
before_change h = h

-- the reply to an order over the databases as they were before its change
abbrev pub outcome_at : List ℕ → List Act → Order → Outcome
outcome_at g h o = reply (tree_of g (before_change h)) (ask_of o)

-- the response to an order, over the databases before its change; no octets where there is no order
abbrev pub response_to : List ℕ → List Act → Option Order → List ℕ
response_to g h None = []
response_to g h (Some o) = response_text (reply_message (reply_of (outcome_at g h o)))

-- the response to the request that the gateway handles next
abbrev pub response_at : List ℕ → List Act → Answer → List ℕ
response_at g h a = response_to g h (next_request g h)

-- the line of a notice, with the clock as it is where the notice is given
abbrev pub line_at : List Act → Notice → List ℕ
line_at h n = line_text n (clock h)

-- ---- what is under way

-- The pipe of the gateway with this name and address. Its requests are those of the orders not handled, its responses are of the
-- replies to those handled and not answered, and its lines are of the notices not heard.
abbrev pub pipe_at : List ℕ → Addr → List Act → UnderWay
pipe_at g host h = pipe_of (request_at host) (response_at g) line_at g h

-- the first octets of a lane, as many as a line of `wire` has at most
abbrev pub first_octets : Lane → UnderWay → List ℕ
first_octets lane p = take 4096 (unread_octets lane p)

-- the octets under way on a lane of this gateway, or none where there is no such gateway
abbrev pub shown_at : List ℕ → Lane → List Act → Option node.Gateway → List ℕ
shown_at g lane h None = []
shown_at g lane h (Some c) = first_octets lane (pipe_at g c.address h)

-- the octets under way on the lane of this gateway
abbrev pub under_way : Header → Shows
under_way header g lane h = shown_at g lane h (gateway_at header g)
