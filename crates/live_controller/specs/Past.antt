-- What came to a controller's node, call by call, and what it took of that. The newest stands first, and each word looks back.
use Rattle.std.specs.Prelude.{ℕ, ◌+◌, ◌==◌, Bool, true, false, not, ◌&&◌, ◌||◌, List, [], ◌∷◌, ◌++◌, drop, Option, Some, None, Result, Ok, Err, if◌then◌else◌}
use Rattle.ikeless_tree.specs.declared.command.Command.{Command}
use Rattle.ikeless_tree.specs.declared.command.Peer.{Peer}
use Rattle.ikeless_tree.specs.declared.order.Answer.{Answer}
use Rattle.ikeless_tree.specs.declared.order.Notice.{Notice}
use Rattle.rc_http.specs.declared.message.HttpFault.{HttpFault}
use Rattle.rc_http.specs.declared.message.HttpMessage.{HttpMessage}
use Rattle.notice_lines.specs.declared.fault.NoticeFault.{NoticeFault}
use Rattle.rc_request.specs.declared.error.RcError.{RcError}
use Rattle.rc_operations.specs.Operations.{requested}
use Rattle.ctl_core.specs.declared.acts.CtlAct.{CtlAct}
use Rattle.ctl_core.specs.declared.acts.CtlEvent.{CtlEvent}
use Rattle.ctl_core.specs.declared.acts.CtlEvent.TheVariants as events
use Rattle.ctl_core.specs.Core.{Core, expected, told_nothing}
use Rattle.ctl_core.specs.Step.{stepped}
use Rattle.live_controller.specs.Standing.{answer_to}
use Rattle.live_devices.specs.Reads.{Came, End, Piece}

-- Whether an accept took a client's session, what a read of that session gave, a request that is whole in so many octets by what was
-- read, and a fault in its place. A dial of a peer, what a read of its control stream gave, a response and a fault in its place, and
-- the same of its notice stream and its lines.
pub data Item : Type 0 where
  Accepted : (is_taken : Bool) → Item
  Came_in : (came : Came) → Item
  Message : (message : HttpMessage) (size : ℕ) → Item
  Broken : (fault : HttpFault) → Item
  Dialled : (g : ℕ) → Item
  Heard : (g : ℕ) (came : Came) → Item
  Response : (g : ℕ) (message : HttpMessage) (size : ℕ) → Item
  NoResponse : (g : ℕ) (fault : HttpFault) → Item
  Told : (g : ℕ) (came : Came) → Item
  Line : (g : ℕ) (notice : Notice) (size : ℕ) → Item
  NoLine : (g : ℕ) (fault : NoticeFault) → Item

-- ---- events, and what the controller does at them

-- a request commands something, or has a fault
abbrev pub command_in : Result Command RcError → Option CtlEvent
command_in (Ok command) = Some (events.Command command)
command_in (Err e) = None

-- a response that is no answer to the order that waits cuts the session
abbrev pub answer_in : ℕ → Option Answer → CtlEvent
answer_in g None = events.Cut g
answer_in g (Some answer) = events.Answered g answer

-- so does the end of a stream
abbrev pub end_in : ℕ → Came → Option CtlEvent
end_in g End = Some (events.Cut g)
end_in g _ = None

-- what happens at a controller by this
abbrev pub event_of : Core → Item → Option CtlEvent
event_of c (Accepted is_taken) = None
event_of c (Came_in came) = None
event_of c (Message message size) = command_in (requested message)
event_of c (Broken fault) = None
event_of c (Dialled g) = Some (events.Opened g)
event_of c (Heard g came) = end_in g came
event_of c (Response g message size) = Some (answer_in g (answer_to (expected c g) message))
event_of c (NoResponse g fault) = Some (events.Cut g)
event_of c (Told g came) = end_in g came
event_of c (Line g notice size) = Some (events.Noticed g notice)
event_of c (NoLine g fault) = Some (events.Cut g)

-- what the controller keeps after an event, and what it does at it
abbrev pub core_by : Core → Option CtlEvent → Core
core_by c None = c
core_by c (Some e) = (stepped c e).core

abbrev pub acts_by : Core → Option CtlEvent → List CtlAct
acts_by c None = []
acts_by c (Some e) = (stepped c e).acts

-- what it keeps after all that happened, and what happened last and was done then
abbrev pub core_of : List Peer → List Item → Core
core_of ps [] = told_nothing ps
core_of ps (x ∷ past) = core_by (core_of ps past) (event_of (core_of ps past) x)

abbrev pub event_at : List Peer → List Item → Item → Option CtlEvent
event_at ps past x = event_of (core_of ps past) x

abbrev pub acts_at : List Peer → List Item → Item → List CtlAct
acts_at ps past x = acts_by (core_of ps past) (event_at ps past x)

abbrev pub events_at : Option CtlEvent → List CtlEvent
events_at None = []
events_at (Some e) = e ∷ []

-- all that happened, the oldest first
abbrev pub happened : List Peer → List Item → List CtlEvent
happened ps [] = []
happened ps (x ∷ past) = happened ps past ++ events_at (event_at ps past x)

-- ---- the client's session

-- the session taken last is there until it ends, or a fault is found in it
abbrev pub is_there : List Item → Bool
is_there [] = false
is_there (Accepted true ∷ past) = true
is_there (Came_in End ∷ past) = false
is_there (Broken fault ∷ past) = false
is_there (x ∷ past) = is_there past

-- the octets that it gave since the last whole request
abbrev pub octets_of : List Item → List ℕ
octets_of [] = []
octets_of (Accepted true ∷ past) = []
octets_of (Came_in (Piece octets) ∷ past) = octets_of past ++ octets
octets_of (Message message size ∷ past) = drop size (octets_of past)
octets_of (x ∷ past) = octets_of past

-- ---- the sessions with the peers

-- a session is open from a dial until it is cut
abbrev pub open_by : ℕ → Option CtlEvent → Bool → Bool
open_by g (Some (events.Opened k)) was = (g == k) || was
open_by g (Some (events.Cut k)) was = not (g == k) && was
open_by g _ was = was

abbrev pub is_open : List Peer → ℕ → List Item → Bool
is_open ps g [] = false
is_open ps g (x ∷ past) = open_by g (event_at ps past x) (is_open ps g past)

-- the octets of its control stream since the last whole response
abbrev pub heard_of : ℕ → List Item → List ℕ
heard_of g [] = []
heard_of g (Dialled k ∷ past) = if g == k then [] else heard_of g past
heard_of g (Heard k (Piece octets) ∷ past) = if g == k then heard_of g past ++ octets else heard_of g past
heard_of g (Response k message size ∷ past) = if g == k then drop size (heard_of g past) else heard_of g past
heard_of g (x ∷ past) = heard_of g past

-- the octets of its notice stream since the last whole line, whose end is one octet more
abbrev pub told_of : ℕ → List Item → List ℕ
told_of g [] = []
told_of g (Dialled k ∷ past) = if g == k then [] else told_of g past
told_of g (Told k (Piece octets) ∷ past) = if g == k then told_of g past ++ octets else told_of g past
told_of g (Line k notice size ∷ past) = if g == k then drop (size + 1) (told_of g past) else told_of g past
told_of g (x ∷ past) = told_of g past
