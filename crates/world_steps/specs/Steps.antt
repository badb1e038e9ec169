-- What each event makes of the gateways of a script and their controller, and the acts that tell it.
use Rattle.std.specs.Prelude.{◌≡◌, ℕ, ◌+◌, ◌&&◌, nat_lt, max, not, Bool, true, false, List, [], ◌∷◌, ◌++◌, map, flat_map, slice_get, length, Option, Some, None, Ok, if◌then◌else◌}
use Rattle.std.specs.List.{list_any}
use Rattle.ip_packet.specs.Ttl.{with_ttl}
use Rattle.ikeless_tree.specs.declared.command.Command.TheVariants as commands
use Rattle.ikeless_tree.specs.declared.order.Answer.{Answer}
use Rattle.ikeless_tree.specs.declared.order.Lane.{Lane}
use Rattle.ikeless_tree.specs.declared.order.Lane.TheVariants as lanes
use Rattle.ikeless_tree.specs.declared.order.Notice.{Notice}
use Rattle.ikeless_tree.specs.declared.order.Order.{Order}
use Rattle.reply_table.specs.Order.{ask_of}
use Rattle.hist_acts.specs.declared.act.Act.{Act}
use Rattle.hist_acts.specs.declared.act.Act.TheVariants as acts
use Rattle.hist_acts.specs.declared.event.Event as script
use Rattle.hist_acts.specs.declared.event.Event.TheVariants as events
use Rattle.hist_halves.specs.Sealed.{esp_of, is_opened}
use Rattle.hist_world.specs.Arrivals.{flipped}
use Rattle.hist_wire.specs.Wire.{first_octets}
use Rattle.session_pipe.specs.UnderWay.{UnderWay, no_session}
use Rattle.gw_requests.specs.declared.act.GwAct.{GwAct}
use Rattle.gw_requests.specs.declared.act.GwAct.TheVariants as done
use Rattle.gw_core.specs.Machine.{Event, Let, Arrive, Clock, Handle}
use Rattle.ctl_core.specs.declared.acts.CtlAct.{CtlAct}
use Rattle.ctl_core.specs.declared.acts.CtlAct.TheVariants as given
use Rattle.ctl_core.specs.declared.acts.CtlEvent.{CtlEvent}
use Rattle.ctl_core.specs.declared.acts.CtlEvent.TheVariants as told
use Rattle.ctl_core.specs.Step.{stepped}
use Rattle.world_steps.specs.Nodes.{Node, acts_told, after_event, after_request, all_sent, cut, heard_answer, heard_notice, opened, ordered, outcome, restarted}
use Rattle.world_steps.specs.Worlds.{World, datagram, node_at, number_of, was_sent, with_node}

-- The acts after the number of the event, what is kept then, and whether the event is a forged arrival.
pub record Done : Type 0 where
  pub acts : List Act
  pub world : World
  pub is_forged : Bool

-- these acts, of which none is a forged arrival
abbrev pub did : List Act → World → Done
did xs w = record { acts = xs; world = w; is_forged = false }

-- the same with these acts before its own
abbrev pub behind : List Act → Done → Done
behind xs d = record d { acts = xs ++ d.acts }

-- What the reading end of a lane finds in the next message: the order that a request carries, and the answer or the notice that the
-- controller hears.
pub record Found : Type 0 where
  pub order : Option Order
  pub answer : Option Answer
  pub notice : Option Notice

-- ---- the gateways

-- the datagrams among what was done are the last ones sent
abbrev pub sent_with : List GwAct → World → World
sent_with xs w = record w { sent = w.sent ++ all_sent xs }

-- a gateway does something
abbrev pub stepped_at : Event → Node → World → World
stepped_at e n w = sent_with (outcome n e).acts (with_node (after_event e n) w)

-- A packet comes from inside. Where there is no such gateway, nothing happens, here and at the events below.
abbrev pub let_at : List ℕ → World → Option Node → Done
let_at o w None = did [] w
let_at o w (Some n) = did (acts.Let n.name o ∷ acts_told n (outcome n (Let o)).acts) (stepped_at (Let o) n w)

-- the tag of the datagram was right
abbrev pub did_open : GwAct → Bool
did_open (done.Gave name number o) = true
did_open (done.Drop why) = is_opened why
did_open _ = false

-- it has a right tag, and no datagram with its ESP octets was sent
abbrev pub is_forged_at : List ℕ → World → Node → Bool
is_forged_at o w n = list_any did_open (outcome n (Arrive o)).acts && not (was_sent (esp_of o) w.sent)

-- the arrival alone, which nothing answers
abbrev pub forged_at : List ℕ → World → Node → Done
forged_at o w n = record { acts = acts.Arrived n.name o ∷ []; world = w; is_forged = true }

-- a datagram comes from outside
abbrev pub arrive_at : List ℕ → World → Option Node → Done
arrive_at o w None = did [] w
arrive_at o w (Some n) =
    if is_forged_at o w n then forged_at o w n
    else did (acts.Arrived n.name o ∷ acts_told n (outcome n (Arrive o)).acts) (stepped_at (Arrive o) n w)

-- all gateways read the clock, one after another
abbrev pub clock_acts : ℕ → List Node → List Act
clock_acts t ns = flat_map (λ n. acts_told n (outcome n (Clock t)).acts) ns

-- the clock is the greatest reading so far, and each gateway has done what it does at this one
abbrev pub clock_read : ℕ → World → World
clock_read t w = record w {
  nodes = map (after_event (Clock t)) w.nodes;
  sent = w.sent ++ flat_map (λ n. all_sent (outcome n (Clock t)).acts) w.nodes;
  clock = max t w.clock;
}

-- the gateway restarts, and is told the greatest reading of the clock so far
abbrev pub boot_at : World → Option Node → Done
boot_at w None = did [] w
boot_at w (Some n) = did (acts.Boot n.name ∷ []) (with_node (restarted w.clock n) w)

-- the gateway handles the request of this order
abbrev pub handle : Order → World → Node → Done
handle o w n =
    did (acts_told n (outcome n (Handle (Ok (ask_of o)))).acts) (sent_with (outcome n (Handle (Ok (ask_of o)))).acts
    (with_node (after_request o n) w))

-- the gateway handles the next request, if one was found
abbrev pub down_at : Option Order → World → Option Node → Done
down_at None w n = did [] w
down_at (Some o) w None = did [] w
down_at (Some o) w (Some n) = handle o w n

-- what is under way at the gateway; nothing where there is none of its name
abbrev pub pipe_of : Option Node → UnderWay
pipe_of None = no_session
pipe_of (Some n) = n.pipe

-- the first octets under way on a lane, also where there is no such gateway: none then
abbrev pub wire_at : List ℕ → Lane → World → Option Node → Done
wire_at g lane w n = did (acts.Wire g lane (first_octets lane (pipe_of n)) ∷ []) w

-- ---- the controller

-- The controller orders something of a gateway, and then what comes next. An order for no gateway is passed over.
abbrev pub order_at : Order → List CtlAct → World → Option Node → (World → Done) → Done
order_at o xs w None next = next w
order_at o xs w (Some n) next = behind (acts.Order n.name n.pipe.openings (n.orders + 1) o ∷ []) (next (with_node (ordered o n) w))

-- what the controller orders and refuses, one after the other
abbrev pub giving : List CtlAct → World → Done
giving [] w = did [] w
giving (given.Order i o ∷ xs) w = order_at o xs w (slice_get w.nodes i) (giving xs)
giving (given.Refused why ∷ xs) w = behind (acts.Refused why ∷ []) (giving xs w)

-- something comes to the controller
abbrev pub controlled : CtlEvent → World → Done
controlled e w = giving (stepped w.controller e).acts (record w { controller = (stepped w.controller e).core })

-- the controller opens a session, where it sees none open
abbrev pub open_at : World → Option Node → Done
open_at w None = did [] w
open_at w (Some n) =
    if n.pipe.is_open then did [] w
    else behind (acts.Opened n.name (n.pipe.openings + 1) ∷ []) (controlled (told.Opened (number_of n.name w)) (with_node (opened n) w))

-- the controller sees its session end, where one is open
abbrev pub cut_at : World → Option Node → Done
cut_at w None = did [] w
cut_at w (Some n) =
    if n.pipe.is_open then behind (acts.Cut n.name n.pipe.openings ∷ []) (controlled (told.Cut (number_of n.name w)) (with_node (cut n) w))
    else did [] w

-- the controller hears this answer from the gateway
abbrev pub answer : Answer → World → Node → Done
answer a w n =
    behind (acts.Answered n.name n.pipe.openings (n.answered + 1) a ∷ []) (controlled (told.Answered (number_of n.name w) a)
    (with_node (heard_answer n) w))

-- the controller hears the next answer, if one was found
abbrev pub up_at : Option Answer → World → Option Node → Done
up_at None w n = did [] w
up_at (Some a) w None = did [] w
up_at (Some a) w (Some n) = answer a w n

-- the controller hears this notice from the gateway
abbrev pub notice : Notice → World → Node → Done
notice t w n =
    behind (acts.Heard n.name n.pipe.openings t ∷ []) (controlled (told.Noticed (number_of n.name w) t) (with_node (heard_notice n) w))

-- the controller hears the next notice, if one was found
abbrev pub note_at : Option Notice → World → Option Node → Done
note_at None w n = did [] w
note_at (Some t) w None = did [] w
note_at (Some t) w (Some n) = notice t w n

-- ---- events

-- an event, where this is found in the message that it takes
abbrev pub taken : Found → script.Event → World → Done
taken r (events.Let g o) w = let_at o w (node_at g w)
taken r (events.Arrive g o) w = arrive_at o w (node_at g w)
taken r (events.ArriveSent g k) w = arrive_at (datagram k w.sent) w (node_at g w)
taken r (events.ArriveFlip g k offset bit) w = arrive_at (flipped offset bit (datagram k w.sent)) w (node_at g w)
taken r (events.ArriveTtl g k ttl) w = arrive_at (with_ttl ttl (datagram k w.sent)) w (node_at g w)
taken r (events.Now t) w = did (acts.Now (max t w.clock) ∷ clock_acts t w.nodes) (clock_read t w)
taken r (events.Boot g) w = boot_at w (node_at g w)
taken r (events.Open g) w = open_at w (node_at g w)
taken r (events.Cut g) w = cut_at w (node_at g w)
taken r (events.Down g) w = down_at r.order w (node_at g w)
taken r (events.Up g) w = up_at r.answer w (node_at g w)
taken r (events.Note g) w = note_at r.notice w (node_at g w)
taken r (events.Wire g lane) w = wire_at g lane w (node_at g w)
taken r (events.Policy g list) w = controlled (told.Command (commands.Policy g list)) w
taken r (events.Tunnel spec) w = controlled (told.Command (commands.Tunnel spec)) w
taken r (events.End reqid) w = controlled (told.Command (commands.End reqid)) w
taken r (events.Rekey reqid) w = controlled (told.Command (commands.Rekey reqid)) w
taken r (events.Keys key) w = controlled (told.Command (commands.Keys key)) w

-- the whole step: the number of the event, then its acts
abbrev pub step : Found → script.Event → World → Done
step r e w = behind (acts.Took (w.taken + 1) ∷ []) (taken r e (record w { taken = w.taken + 1 }))
