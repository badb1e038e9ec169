-- What came to a gateway node, call by call, and what it took of that. The newest stands first, and each word looks back.
use Rattle.std.specs.Prelude.{ℕ, Bool, true, false, List, [], ◌∷◌, ◌++◌, Option, Some, None, Err}
use Rattle.rc_http.specs.declared.message.HttpFault.{HttpFault}
use Rattle.rc_http.specs.declared.message.HttpMessage.{HttpMessage}
use Rattle.rc_request.specs.Requests.{no_message, request_of}
use Rattle.gw_tables.specs.Kept as tables
use Rattle.gw_tables.specs.Kept.{Kept}
use Rattle.gw_packets.specs.declared.done.Config.{Config}
use Rattle.gw_requests.specs.declared.act.GwAct.{GwAct}
use Rattle.gw_core.specs.Machine.{Event, Let, Arrive, Clock, Handle, Session_taken, stepped}
use Rattle.live_devices.specs.Reads.{Came, End, Piece}

-- a reading of the clock, what a receipt from either wire gave, whether an accept took a session, what a read of the session gave, a
-- message that is whole by what was read, and a fault in its place
pub data Item : Type 0 where
  Seconds : (now : ℕ) → Item
  Inside : (datagram : Option (List ℕ)) → Item
  Outside : (datagram : Option (List ℕ)) → Item
  Accepted : (is_taken : Bool) → Item
  Came_in : (came : Came) → Item
  Message : (message : HttpMessage) → Item
  Broken : (fault : HttpFault) → Item

-- ---- events, and what the gateway does at them

-- what happens at the gateway by this
abbrev pub event_of : Item → Option Event
event_of (Seconds now) = Some (Clock now)
event_of (Inside None) = None
event_of (Inside (Some octets)) = Some (Let octets)
event_of (Outside None) = None
event_of (Outside (Some octets)) = Some (Arrive octets)
event_of (Accepted true) = Some Session_taken
event_of (Accepted false) = None
event_of (Came_in came) = None
event_of (Message message) = Some (Handle (request_of message))
event_of (Broken fault) = Some (Handle (Err (no_message fault)))

-- one event or none
abbrev pub events_at : Option Event → List Event
events_at None = []
events_at (Some e) = e ∷ []

-- all that happened, the oldest first
abbrev pub happened : List Item → List Event
happened [] = []
happened (x ∷ past) = happened past ++ events_at (event_of x)

-- what the gateway keeps after an event, and what it does at it
abbrev pub kept_by : Config → Option Event → Kept → Kept
kept_by c None k = k
kept_by c (Some e) k = (stepped c e k).kept

-- what the gateway does at an event; nothing where none happens
abbrev pub acts_by : Config → Option Event → Kept → List GwAct
acts_by c None k = []
acts_by c (Some e) k = (stepped c e k).acts

-- what it keeps after all that happened, and what it did at the last of these
abbrev pub kept_of : Config → List Item → Kept
kept_of c [] = tables.booted
kept_of c (x ∷ past) = kept_by c (event_of x) (kept_of c past)

-- what the gateway did at this, by all that came before
abbrev pub acts_at : Config → List Item → Item → List GwAct
acts_at c past x = acts_by c (event_of x) (kept_of c past)

-- ---- the session

-- the session taken last is there until it ends, or a fault is found in it
abbrev pub is_there : List Item → Bool
is_there [] = false
is_there (Accepted true ∷ past) = true
is_there (Came_in End ∷ past) = false
is_there (Broken fault ∷ past) = false
is_there (x ∷ past) = is_there past

-- the octets that it gave
abbrev pub octets_of : List Item → List ℕ
octets_of [] = []
octets_of (Accepted true ∷ past) = []
octets_of (Came_in (Piece octets) ∷ past) = octets_of past ++ octets
octets_of (x ∷ past) = octets_of past

-- the whole requests that it gave, the oldest first
abbrev pub messages_of : List Item → List HttpMessage
messages_of [] = []
messages_of (Accepted true ∷ past) = []
messages_of (Message message ∷ past) = messages_of past ++ message ∷ []
messages_of (x ∷ past) = messages_of past

-- the fault found in it
abbrev pub fault_of : List Item → Option HttpFault
fault_of [] = None
fault_of (Accepted true ∷ past) = None
fault_of (Broken fault ∷ past) = Some fault
fault_of (x ∷ past) = fault_of past
