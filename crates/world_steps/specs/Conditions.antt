-- When a step can be carried out: what its messages are can be read and written, and its numbers fit their types. Every step of a
-- world that stands for what happened can be.
use Rattle.std.specs.Prelude.{◌≡◌, ℕ, ◌<◌, ◌≤◌, ◌*◌, List, [], ◌∷◌, All, Option, Some, None, Ok, slice_get}
use Rattle.ip_packet.specs.Ttl.{with_ttl}
use Rattle.ikl_base.specs.declared.address.Addr.{Addr}
use Rattle.ikeless_tree.specs.declared.command.Command.TheVariants as commands
use Rattle.ikeless_tree.specs.declared.order.Answer.{Answer}
use Rattle.ikeless_tree.specs.declared.order.Lane.TheVariants as lanes
use Rattle.ikeless_tree.specs.declared.order.Notice.{Notice}
use Rattle.ikeless_tree.specs.declared.order.Order.{Order}
use Rattle.reply_table.specs.Order.{ask_of}
use Rattle.rc_http.specs.Written.{IsWritableRequest, IsWritableResponse, request_text, response_text}
use Rattle.rc_request.specs.Requests.{request_of}
use Rattle.rc_answer.specs.Answers.{answer_of}
use Rattle.rc_resource.specs.declared.reply.Reply.{Reply}
use Rattle.rc_resource.specs.Messages.{IsOrder, order_message, reply_message}
use Rattle.notice_lines.specs.Envelope.{IsNotice}
use Rattle.notice_lines.specs.Reading.{IsHeard}
use Rattle.hist_acts.specs.declared.event.Event as script
use Rattle.hist_acts.specs.declared.event.Event.TheVariants as events
use Rattle.hist_world.specs.Arrivals.{flipped}
use Rattle.hist_wire.specs.Dates.{line_text}
use Rattle.session_pipe.specs.UnderWay.{UnderWay, next_message}
use Rattle.gw_requests.specs.declared.act.GwAct.{GwAct}
use Rattle.gw_requests.specs.declared.act.GwAct.TheVariants as done
use Rattle.gw_core.specs.Machine.{Event, Let, Arrive, Clock, Handle}
use Rattle.ctl_core.specs.declared.acts.CtlAct.{CtlAct}
use Rattle.ctl_core.specs.declared.acts.CtlAct.TheVariants as given
use Rattle.ctl_core.specs.declared.acts.CtlEvent.{CtlEvent}
use Rattle.ctl_core.specs.declared.acts.CtlEvent.TheVariants as told
use Rattle.ctl_core.specs.Core.{Core, expected}
use Rattle.ctl_core.specs.Step.{stepped}
use Rattle.world_steps.specs.Nodes.{Node, outcome}
use Rattle.world_steps.specs.Worlds.{World, datagram, node_at, number_of}
use Rattle.world_steps.specs.Steps.{Found}

-- ---- what is written

-- a notice has a line, and a reply has a response
abbrev pub IsWritten : GwAct → Type 0
IsWritten (done.Notice n) = IsNotice n
IsWritten (done.Reply r) = IsWritableResponse (reply_message r)
IsWritten _ = Unit {0}

-- what the gateway says at an event can be written; where there is no such gateway, nothing is said
abbrev pub TellsAt : Event → Option Node → Type 0
TellsAt e None = Unit {0}
TellsAt e (Some n) = All IsWritten (outcome n e).acts

-- the order has a request to the gateway with this address
pub record IsSent (host : Addr) (o : Order) : Type 0 where
  pub order : IsOrder o
  pub writable : IsWritableRequest (order_message host o)

-- an order goes to a gateway of the script, and has a request there; a refusal goes nowhere
abbrev pub IsGiven : List Node → CtlAct → Type 0
IsGiven ns (given.Order i o) = (n : Node) × (slice_get ns i ≡ Some n) × IsSent n.config.address o
IsGiven ns (given.Refused why) = Unit {0}

-- each order that the controller gives at an event has its request
abbrev pub Gives : CtlEvent → World → Type 0
Gives e w = All (IsGiven w.nodes) (stepped w.controller e).acts

-- ---- what is read

-- the next request is that of this order, and is read as what it asks
pub record IsNextRequest (n : Node) (o : Order) : Type 0 where
  pub next : next_message lanes.Down n.pipe ≡ Some (request_text (order_message n.config.address o))
  pub sent : IsSent n.config.address o
  pub asks : request_of (order_message n.config.address o) ≡ Ok (ask_of o)
  pub tells : All IsWritten (outcome n (Handle (Ok (ask_of o)))).acts

-- the next request is that of this order, or none is there to be read
abbrev pub Asks : Node → Option Order → Type 0
Asks n None = next_message lanes.Down n.pipe ≡ None
Asks n (Some o) = IsNextRequest n o

-- the next response is that of a reply, and is read as this answer to the order that the controller expects one for
pub record IsNextAnswer (n : Node) (i : ℕ) (c : Core) (a : Answer) : Type 0 where
  pub reply : Reply
  pub next : next_message lanes.Up n.pipe ≡ Some (response_text (reply_message reply))
  pub writable : IsWritableResponse (reply_message reply)
  pub order : Order
  pub expected : expected c i ≡ Some order
  pub says : answer_of order (reply_message reply) ≡ Ok a

-- the next response is that of this answer, and what the controller orders then has its requests; or none is there to be read
abbrev pub Answers : Node → World → Option Answer → Type 0
Answers n w None = next_message lanes.Up n.pipe ≡ None
Answers n w (Some a) = IsNextAnswer n (number_of n.name w) w.controller a × Gives (told.Answered (number_of n.name w) a) w

-- the next line is that of this notice
pub record IsNextNotice (n : Node) (t : Notice) : Type 0 where
  pub seconds : ℕ
  pub next : next_message lanes.Note n.pipe ≡ Some (line_text t seconds)
  pub heard : IsHeard t (line_text t seconds)

-- the next line is that of this notice, and what the controller orders then has its requests; or none is there to be read
abbrev pub Notices : Node → World → Option Notice → Type 0
Notices n w None = next_message lanes.Note n.pipe ≡ None
Notices n w (Some t) = IsNextNotice n t × Gives (told.Noticed (number_of n.name w) t) w

-- ---- numbers

-- at most one session is opened, one request handled and one answer heard at an event, and at most 2,051 orders are given
pub record IsCounted (taken : ℕ) (n : Node) : Type 0 where
  pub openings : n.pipe.openings ≤ taken
  pub handled : n.handled ≤ taken
  pub answered : n.answered ≤ taken
  pub orders : n.orders ≤ 2051 * taken

-- ---- the step

-- this holds of the gateway, if there is one
abbrev pub at : (Node → Type 0) → Option Node → Type 0
at f None = Unit {0}
at f (Some n) = f n

-- the messages that the event takes are those of what is found, and all that is said at it can be written
abbrev pub CanTake : Found → script.Event → World → Type 0
CanTake r (events.Let g o) w = TellsAt (Let o) (node_at g w)
CanTake r (events.Arrive g o) w = TellsAt (Arrive o) (node_at g w)
CanTake r (events.ArriveSent g k) w = TellsAt (Arrive (datagram k w.sent)) (node_at g w)
CanTake r (events.ArriveFlip g k offset bit) w = (bit < 8) × TellsAt (Arrive (flipped offset bit (datagram k w.sent))) (node_at g w)
CanTake r (events.ArriveTtl g k ttl) w = TellsAt (Arrive (with_ttl ttl (datagram k w.sent))) (node_at g w)
CanTake r (events.Now t) w = All (λ n. All IsWritten (outcome n (Clock t)).acts) w.nodes
CanTake r (events.Boot g) w = Unit {0}
CanTake r (events.Open g) w = Gives (told.Opened (number_of g w)) w
CanTake r (events.Cut g) w = Gives (told.Cut (number_of g w)) w
CanTake r (events.Down g) w = at (λ n. Asks n r.order) (node_at g w)
CanTake r (events.Up g) w = at (λ n. Answers n w r.answer) (node_at g w)
CanTake r (events.Note g) w = at (λ n. Notices n w r.notice) (node_at g w)
CanTake r (events.Wire g lane) w = Unit {0}
CanTake r (events.Policy g list) w = Gives (told.Command (commands.Policy g list)) w
CanTake r (events.Tunnel spec) w = Gives (told.Command (commands.Tunnel spec)) w
CanTake r (events.End reqid) w = Gives (told.Command (commands.End reqid)) w
CanTake r (events.Rekey reqid) w = Gives (told.Command (commands.Rekey reqid)) w
CanTake r (events.Keys key) w = Gives (told.Command (commands.Keys key)) w

-- no two gateways have one name
abbrev pub AreNamed : World → Type 0
AreNamed w = (i : ℕ) (n : Node) → slice_get w.nodes i ≡ Some n → number_of n.name w ≡ i

-- the step can be carried out
pub record CanStep (r : Found) (e : script.Event) (w : World) : Type 0 where
  pub takes : CanTake r e w
  pub counted : All (IsCounted w.taken) w.nodes
  pub named : AreNamed w
