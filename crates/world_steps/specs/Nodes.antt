-- A gateway of a script with its sessions: what it keeps, what is under way, and the numbers of its requests.
use Rattle.std.specs.Prelude.{ℕ, ◌+◌, Bool, true, false, List, [], ◌∷◌, ◌++◌, map, Result, Ok, Err, if◌then◌else◌}
use Rattle.ikeless_tree.specs.declared.command.Peer.{Peer}
use Rattle.ikeless_tree.specs.declared.order.Lane.TheVariants as lanes
use Rattle.ikeless_tree.specs.declared.order.Order.{Order}
use Rattle.reply_table.specs.Order.{ask_of}
use Rattle.rc_http.specs.Written.{request_text, response_text}
use Rattle.rc_resource.specs.Messages.{order_message, reply_message}
use Rattle.hist_acts.specs.declared.act.Act.{Act}
use Rattle.hist_wire.specs.Dates.{line_text}
use Rattle.session_pipe.specs.UnderWay.{UnderWay, after_boot, after_cut, after_open, after_push, after_take, no_session}
use Rattle.gw_tables.specs.Kept as tables
use Rattle.gw_tables.specs.Kept.{Kept}
use Rattle.gw_packets.specs.declared.done.Config.{Config}
use Rattle.gw_requests.specs.declared.act.GwAct.{GwAct}
use Rattle.gw_requests.specs.declared.act.GwAct.TheVariants as done
use Rattle.gw_requests.specs.Requests.{Outcome}
use Rattle.gw_core.specs.Machine.{Event, Clock, Handle, Session_taken, stepped}
use Rattle.gw_law.specs.Told.{Naming}
use Rattle.gw_history.specs.Told.{told}

-- A gateway with its session. The three counts begin anew where one is opened; a restart begins that of requests handled anew.
pub record Node : Type 0 where
  pub name : List ℕ
  pub config : Config
  pub kept : Kept
  -- what is under way between the gateway and its controller
  pub pipe : UnderWay
  -- how many orders were given in the session that was opened last, how many requests were handled in the one that the gateway has,
  -- and how many answers the controller heard in the one that was opened last
  pub orders : ℕ
  pub handled : ℕ
  pub answered : ℕ

-- a gateway that was never started
abbrev pub begun : ℕ → Peer → Node
begun seq_last p = record {
  name = p.name;
  config = record { address = p.address; seq_last = seq_last };
  kept = tables.booted;
  pipe = no_session;
  orders = 0;
  handled = 0;
  answered = 0;
}

-- the session that the gateway has, or 0
abbrev pub session_of : UnderWay → ℕ
session_of p = if p.is_taken then p.openings else 0

-- what names the acts of the gateway
abbrev pub naming : Node → Naming
naming n = record { name = n.name; openings = n.pipe.openings; session = session_of n.pipe; requests = n.handled }

-- ---- what a gateway does, as acts and as messages

-- what it does, as acts of the transcript, with its name and the numbers of its session and requests from before the event
abbrev pub acts_told : Node → List GwAct → List Act
acts_told n xs = map (told (naming n)) xs

-- a reply goes up as its response, and a notice as its line, with the clock as it is
abbrev pub piped : ℕ → GwAct → UnderWay → UnderWay
piped now (done.Reply r) p = after_push lanes.Up (response_text (reply_message r)) p
piped now (done.Notice n) p = after_push lanes.Note (line_text n now) p
piped now _ p = p

-- all that it says, one message after another
abbrev pub all_piped : ℕ → List GwAct → UnderWay → UnderWay
all_piped now [] p = p
all_piped now (x ∷ xs) p = all_piped now xs (piped now x p)

-- the datagrams sent
abbrev pub sent_of : GwAct → List (List ℕ)
sent_of (done.Sent name number o) = o ∷ []
sent_of _ = []

-- the datagrams that leave it sealed, in their order; packets in clear aren't among them
abbrev pub all_sent : List GwAct → List (List ℕ)
all_sent [] = []
all_sent (x ∷ xs) = sent_of x ++ all_sent xs

-- ---- the calls of a gateway

-- what the gateway does at an event
abbrev pub outcome : Node → Event → Outcome
outcome n e = stepped n.config e n.kept

-- and what it is then
abbrev pub after_event : Event → Node → Node
after_event e n = record n {
  kept = (outcome n e).kept;
  pipe = all_piped (outcome n e).kept.clock (outcome n e).acts n.pipe;
}

-- it handles the next request, which asks what this order asks
abbrev pub after_request : Order → Node → Node
after_request o n = record (after_event (Handle (Ok (ask_of o))) (record n { pipe = after_take lanes.Down n.pipe })) {
  handled =
      n.handled + 1;
}

-- a session is opened, where the controller sees none open; the gateway takes it
abbrev pub opened : Node → Node
opened n = record n {
  kept = (outcome n Session_taken).kept;
  pipe = after_open n.pipe;
  orders = 0;
  handled = 0;
  answered = 0;
}

-- the controller sees its session end; the gateway isn't told and goes on
abbrev pub cut : Node → Node
cut n = record n { pipe = after_cut n.pipe }

-- it restarts, and is given the clock at once
abbrev pub restarted : ℕ → Node → Node
restarted now n = record n {
  kept = (stepped n.config (Clock now) tables.booted).kept;
  pipe = after_boot n.pipe;
  handled = 0;
}

-- an order goes down as its request
abbrev pub ordered : Order → Node → Node
ordered o n = record n { pipe = after_push lanes.Down (request_text (order_message n.config.address o)) n.pipe; orders = n.orders + 1 }

-- the controller hears the next answer, and the next notice
abbrev pub heard_answer : Node → Node
heard_answer n = record n { pipe = after_take lanes.Up n.pipe; answered = n.answered + 1 }

-- the controller hears the next notice
abbrev pub heard_notice : Node → Node
heard_notice n = record n { pipe = after_take lanes.Note n.pipe }
