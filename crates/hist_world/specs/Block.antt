-- The law of the whole, of this project: for each event the one block of acts that may follow what happened.
use Rattle.std.specs.Prelude.{ℕ, ◌+◌, nat_lt, max, Bool, true, false, List, [], ◌∷◌, ◌++◌, find, Option, Some, None, Ok, if◌then◌else◌}
use Rattle.std.specs.Str.{bytes_eq}
use Rattle.ip_packet.specs.Ttl.{with_ttl}
use Rattle.ikeless_tree.specs.declared.command.Command.TheVariants as commands
use Rattle.ikeless_tree.specs.declared.command.Peer.{Peer}
use Rattle.ikeless_tree.specs.declared.order.Answer.{Answer}
use Rattle.ikeless_tree.specs.declared.order.Lane.{Lane}
use Rattle.ikeless_tree.specs.declared.order.Notice.{Notice}
use Rattle.ikeless_tree.specs.declared.order.Order.{Order}
use Rattle.reply_table.specs.Order.{ask_of}
use Rattle.hist_acts.specs.declared.act.Act.{Act}
use Rattle.hist_acts.specs.declared.act.Act.TheVariants as acts
use Rattle.hist_acts.specs.declared.event.Event.{Event}
use Rattle.hist_acts.specs.declared.event.Event.TheVariants as events
use Rattle.hist_acts.specs.declared.event.Header.{Header}
use Rattle.hist_acts.specs.Past.{after, clock, events_taken}
use Rattle.hist_acts.specs.Sessions.{next_answer, next_notice, next_request}
use Rattle.hist_halves.specs.Halves.{live}
use Rattle.hist_gateway.specs.Block as node
use Rattle.hist_gateway.specs.Look.{look}
use Rattle.hist_controller.specs.Acts as controller
use Rattle.hist_controller.specs.Law as controller_law
use Rattle.hist_controller.specs.Told.{all_told}
use Rattle.hist_world.specs.Arrivals.{flipped, is_forged, sent_at}

-- What happened: the acts of the transcript, and the controller's own, which say besides which commands it accepted and which
-- association each order is of.
pub record Past : Type 0 where
  pub world : List Act
  pub controller : List controller.ControllerAct

-- before the first event
abbrev pub nothing : Past
nothing = record { world = []; controller = [] }

-- the octets under way on a lane of a gateway, as `wire` shows them
abbrev pub Shows : Type 0
Shows = List ℕ → Lane → List Act → List ℕ

-- ---- the gateways

-- a gateway of the header as its law knows it: by its name, its address and the last sequence number that it may use
abbrev pub with_peer : Header → List ℕ → Option Peer → Option node.Gateway
with_peer header g None = None
with_peer header g (Some p) = Some (record { name = g; address = p.address; seq_last = header.seq_last })

-- the gateway of this name
abbrev pub gateway_at : Header → List ℕ → Option node.Gateway
gateway_at header g = with_peer header g (find (λ p. bytes_eq p.name g) header.gateways)

-- an event of a gateway that there is
abbrev pub at_gateway : List Act → node.GatewayEvent → Option node.Gateway → List Act
at_gateway h e None = []
at_gateway h e (Some c) = node.gw_block c h e

-- a forged arrival has no answer
abbrev pub arrives_at : List Act → List ℕ → Option node.Gateway → List Act
arrives_at h o None = []
arrives_at h o (Some c) = if is_forged c.name c.address h o then acts.Arrived c.name o ∷ [] else node.gw_block c h (node.Arrive o)

-- the next request at a gateway, if there is one and there is such a gateway, is handled
abbrev pub handles_at : List Act → Option node.Gateway → Option Order → List Act
handles_at h c None = []
handles_at h c (Some o) = at_gateway h (node.Handle (Ok (ask_of o))) c

-- every gateway looks at its live halves, one after another
abbrev pub looks : List Act → List Peer → List Act
looks h [] = []
looks h (p ∷ ps) = look p.name h (live p.name h) ++ looks (after h (look p.name h (live p.name h))) ps

-- a reading raises the clock, or doesn't: only then do the gateways look at the limits of their halves
abbrev pub raised : Header → List Act → Bool → List Act
raised header h true = looks h header.gateways
raised header h false = []

-- A reading of the clock, in seconds, as the greatest so far; an earlier one leaves the clock as it is.
abbrev pub clock_block : Header → List Act → ℕ → List Act
clock_block header h t = acts.Now (max t (clock h)) ∷ raised header (acts.Now (max t (clock h)) ∷ h) (nat_lt (clock h) t)

-- a gateway restarts, if there is one of this name
abbrev pub boots : List ℕ → Option node.Gateway → List Act
boots g None = []
boots g (Some c) = acts.Boot g ∷ []

-- what arrives at an event, and where
abbrev pub arrival_of : List Act → Event → Option (List ℕ × List ℕ)
arrival_of h (events.Arrive g o) = Some (g, o)
arrival_of h (events.ArriveSent g k) = Some (g, sent_at k h)
arrival_of h (events.ArriveFlip g k offset bit) = Some (g, flipped offset bit (sent_at k h))
arrival_of h (events.ArriveTtl g k ttl) = Some (g, with_ttl ttl (sent_at k h))
arrival_of h _ = None

-- the octets in the second part arrive at the gateway in the first
abbrev pub by_arrival : Header → List Act → Option (List ℕ × List ℕ) → List Act
by_arrival header h None = []
by_arrival header h (Some a) = arrives_at h a.1 (gateway_at header a.0)

-- the acts of the gateways at an event
abbrev pub gateway_acts : Shows → Header → List Act → Event → List Act
gateway_acts shows header h (events.Let g o) = at_gateway h (node.Let o) (gateway_at header g)
gateway_acts shows header h (events.Now t) = clock_block header h t
gateway_acts shows header h (events.Boot g) = boots g (gateway_at header g)
gateway_acts shows header h (events.Down g) = handles_at h (gateway_at header g) (next_request g h)
gateway_acts shows header h (events.Wire g lane) = acts.Wire g lane (shows g lane h) ∷ []
gateway_acts shows header h e = by_arrival header h (arrival_of h e)

-- ---- the controller

-- an answer comes to the controller from the gateway with this number among the peers
abbrev pub answer_event : ℕ → Option Answer → Option controller.ControllerEvent
answer_event n None = None
answer_event n (Some a) = Some (controller.Answers n a)

-- a notice comes to the controller from the gateway with this number among the peers
abbrev pub hears : ℕ → Option Notice → Option controller.ControllerEvent
hears n None = None
hears n (Some t) = Some (controller.Notices n t)

-- what comes to the controller at an event
abbrev pub controller_event : List Peer → List Act → Event → Option controller.ControllerEvent
controller_event peers h (events.Open g) = Some (controller.Opens (controller_law.peer_number g peers))
controller_event peers h (events.Cut g) = Some (controller.Cuts (controller_law.peer_number g peers))
controller_event peers h (events.Up g) = answer_event (controller_law.peer_number g peers) (next_answer g h)
controller_event peers h (events.Note g) = hears (controller_law.peer_number g peers) (next_notice g h)
controller_event peers h (events.Policy g list) = Some (controller.Told (commands.Policy g list))
controller_event peers h (events.Tunnel spec) = Some (controller.Told (commands.Tunnel spec))
controller_event peers h (events.End reqid) = Some (controller.Told (commands.End reqid))
controller_event peers h (events.Rekey reqid) = Some (controller.Told (commands.Rekey reqid))
controller_event peers h (events.Keys key) = Some (controller.Told (commands.Keys key))
controller_event peers h _ = None

-- what the controller does where something comes to it, and nothing else
abbrev pub by_event : List Peer → List controller.ControllerAct → Option controller.ControllerEvent → List controller.ControllerAct
by_event peers c None = []
by_event peers c (Some e) = controller_law.block peers c e

-- the controller's own acts at an event
abbrev pub controller_acts : Header → Past → Event → List controller.ControllerAct
controller_acts header p e = by_event header.gateways p.controller (controller_event header.gateways p.world e)

-- ---- blocks

-- what happened, with the number of one more event
abbrev pub took : List Act → List Act
took h = acts.Took (events_taken h + 1) ∷ h

-- the block of an event: its number, and the acts of the gateways or of the controller
abbrev pub block : Shows → Header → Past → Event → List Act
block shows header p e =
    acts.Took (events_taken p.world + 1)
    ∷ (gateway_acts shows header (took p.world) e ++ all_told header.gateways (controller_acts header p e))

-- what happened, with the block of one more event
abbrev pub past_after : Shows → Header → Past → Event → Past
past_after shows header p e = record {
  world = after p.world (block shows header p e);
  controller = after p.controller (controller_acts header p e);
}

-- the octets are a forged arrival at this gateway; there is none where there is no gateway
abbrev pub is_forgery : List Act → List ℕ → Option node.Gateway → Bool
is_forgery h o None = false
is_forgery h o (Some c) = is_forged c.name c.address h o

-- what arrives at an event is forged; false where nothing arrives
abbrev pub is_forged_event_at : Header → List Act → Option (List ℕ × List ℕ) → Bool
is_forged_event_at header h None = false
is_forged_event_at header h (Some a) = is_forgery h a.1 (gateway_at header a.0)

-- the event is a forged arrival
abbrev pub is_forged_event : Header → Past → Event → Bool
is_forged_event header p e = is_forged_event_at header (took p.world) (arrival_of (took p.world) e)

-- nothing more happens after a forged arrival
abbrev pub unless_forged : Bool → List Act → List Act
unless_forged true more = []
unless_forged false more = more

-- the acts of these events, up to the first forged arrival
abbrev pub history : Shows → Header → Past → List Event → List Act
history shows header p [] = []
history shows header p (e ∷ es) =
    block shows header p e ++ unless_forged (is_forged_event header p e) (history shows header (past_after shows header p e) es)
