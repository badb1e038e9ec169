-- What the devices of a controller's node hold after what came, by what they held at the start, and what each call of theirs gave.
use Rattle.std.specs.Prelude.{◌≡◌, ◌<◌, ℕ, ◌==◌, true, false, List, [], ◌∷◌, length, take, Option, Some, Result, Ok, Err, if◌then◌else◌}
use Rattle.ikeless_tree.specs.declared.command.Command.{Command}
use Rattle.ikeless_tree.specs.declared.command.Peer.{Peer}
use Rattle.rc_http.specs.declared.message.Kind.TheVariants.{Request, Response as Responses}
use Rattle.rc_http.specs.Looks.{Fails, Gives, Looks, Waits}
use Rattle.rc_request.specs.declared.error.RcError.{RcError}
use Rattle.notice_lines.specs.Reading.{Ends, HasNotice, IsFault, Open, begins}
use Rattle.rc_operations.specs.Operations.{requested}
use Rattle.rc_operations.specs.Replies.{command_response, error_response, fault_response}
use Rattle.live_devices.specs.Comings.{found}
use Rattle.live_devices.specs.Dialers.{PeerHeld, dialled, hung_up, wrote}
use Rattle.live_devices.specs.Docks.{DockHeld, has_found, taken}
use Rattle.live_devices.specs.Reads.{Unread, after_read, came_of, read_at, with_reply}
use Rattle.ctl_core.specs.declared.acts.CtlAct.{CtlAct}
use Rattle.ctl_core.specs.declared.acts.CtlAct.TheVariants as done
use Rattle.ctl_core.specs.declared.acts.CtlEvent.{CtlEvent}
use Rattle.ctl_core.specs.declared.acts.CtlEvent.TheVariants as events
use Rattle.ctl_core.specs.Core.{Core}
use Rattle.ctl_core.specs.Step.{stepped}
use Rattle.live_controller.specs.Standing.{order_text, refused_of}
use Rattle.live_controller.specs.Past.{Accepted, Broken, Came_in, Dialled, Heard, Item, Line, Message, NoLine, NoResponse, Response, Told, acts_at, core_of, event_at, heard_of, is_open, is_there, octets_of, told_of}

-- ---- reads of a stream

-- ---- the peers

-- a peer is dialled, and its streams are read
abbrev pub read_control : PeerHeld → PeerHeld
read_control p = record p { control = after_read p.control }

abbrev pub read_notices : PeerHeld → PeerHeld
read_notices p = record p { notices = after_read p.notices }

abbrev pub called_at : ℕ → Item → PeerHeld → PeerHeld
called_at g (Dialled k) p = if g == k then dialled p else p
called_at g (Heard k came) p = if g == k then read_control p else p
called_at g (Told k came) p = if g == k then read_notices p else p
called_at g _ p = p

-- one whose session is cut is hung up at once
abbrev pub hung_by : ℕ → Option CtlEvent → PeerHeld → PeerHeld
hung_by g (Some (events.Cut k)) p = if g == k then hung_up p else p
hung_by g _ p = p

-- an order is written to its peer
abbrev pub ordered_by : List Peer → ℕ → CtlAct → PeerHeld → PeerHeld
ordered_by ps g (done.Order k order) p = if g == k then wrote (order_text ps g order) p else p
ordered_by ps g (done.Refused why) p = p

abbrev pub after_orders : List Peer → ℕ → List CtlAct → PeerHeld → PeerHeld
after_orders ps g [] p = p
after_orders ps g (act ∷ more) p = after_orders ps g more (ordered_by ps g act p)

-- what a peer holds after what came
abbrev pub peer_of : List Peer → ℕ → List Item → PeerHeld → PeerHeld
peer_of ps g [] p = p
peer_of ps g (x ∷ past) p = after_orders ps g (acts_at ps past x) (hung_by g (event_at ps past x) (called_at g x (peer_of ps g past p)))

-- ---- the dock

abbrev pub dock_at : Item → DockHeld → DockHeld
dock_at (Accepted is_taken) d = taken (found d.coming) d
dock_at (Came_in came) d = read_at came d
dock_at _ d = d

-- the reply to a request: to its command, which the controller refuses or not, or to its fault
abbrev pub reply_of : Core → Result Command RcError → List ℕ
reply_of c (Ok command) = command_response (refused_of (stepped c (events.Command command)).acts)
reply_of c (Err e) = error_response e

-- each request has its reply, and so has a fault
abbrev pub replied_at : List Peer → List Item → Item → DockHeld → DockHeld
replied_at ps past (Message message size) d = with_reply (reply_of (core_of ps past) (requested message)) d
replied_at ps past (Broken fault) d = with_reply (fault_response fault) d
replied_at ps past _ d = d

-- what the dock holds after what came
abbrev pub dock_of : List Peer → List Item → DockHeld → DockHeld
dock_of ps [] d = d
dock_of ps (x ∷ past) d = replied_at ps past x (dock_at x (dock_of ps past d))

-- ---- what the calls gave

-- what is told of the devices at some moment: the dock, and each peer by its number
pub record Devices : Type 0 where
  pub dock : Option DockHeld
  pub peers : ℕ → Option PeerHeld

-- Each call gave what there was, and each message is whole in so many octets of those since the last. A session is read where it is
-- there or open, and only then; a peer is dialled where its session isn't open.
abbrev pub IsFound : List Peer → Devices → List Item → Item → Type 0
IsFound ps start past (Accepted is_taken) = (d : DockHeld) → start.dock ≡ Some d → is_taken ≡ has_found (found (dock_of ps past d).coming)
IsFound ps start past (Came_in Unread) = is_there past ≡ false
IsFound ps start past (Came_in came) =
    (is_there past ≡ true) × ((d : DockHeld) → start.dock ≡ Some d → came ≡ came_of (dock_of ps past d).session)
IsFound ps start past (Message message size) = (is_there past ≡ true) × Looks Request (octets_of past) (Gives message size)
IsFound ps start past (Broken fault) = (is_there past ≡ true) × Looks Request (octets_of past) (Fails fault)
IsFound ps start past (Dialled g) = (g < length ps) × (is_open ps g past ≡ false)
IsFound ps start past (Heard g came) =
    (g < length ps) × (is_open ps g past ≡ true) × ((p : PeerHeld) → start.peers g ≡ Some p → came ≡ came_of (peer_of ps g past p).control)
IsFound ps start past (Response g message size) =
    (g < length ps) × (is_open ps g past ≡ true) × Looks Responses (heard_of g past) (Gives message size)
IsFound ps start past (NoResponse g fault) = (g < length ps) × (is_open ps g past ≡ true) × Looks Responses (heard_of g past) (Fails fault)
IsFound ps start past (Told g came) =
    (g < length ps) × (is_open ps g past ≡ true) × ((p : PeerHeld) → start.peers g ≡ Some p → came ≡ came_of (peer_of ps g past p).notices)
IsFound ps start past (Line g notice size) =
    (g < length ps) × (is_open ps g past ≡ true) × (begins (told_of g past) ≡ Ends size) × HasNotice (take size (told_of g past)) notice
IsFound ps start past (NoLine g fault) = (g < length ps) × (is_open ps g past ≡ true) × IsFault fault (told_of g past)

abbrev pub AreFound : List Peer → Devices → List Item → Type 0
AreFound ps start [] = Unit {0}
AreFound ps start (x ∷ past) = IsFound ps start past x × AreFound ps start past

-- ---- what was taken

-- no whole request is left where a session is there, and no whole response or line where a peer's is open
abbrev pub IsTaken : List Item → Type 0
IsTaken past = is_there past ≡ true → Looks Request (octets_of past) Waits

abbrev pub AreTaken : List Peer → List Item → Type 0
AreTaken ps past = (g : ℕ) → g < length ps → is_open ps g past ≡ true → Looks Responses (heard_of g past) Waits ×
    (begins (told_of g past) ≡ Open)
