-- What the devices of a gateway node hold after what came, by what they held at the start, and what each call of theirs gave.
use Rattle.std.specs.Prelude.{◌≡◌, ℕ, true, false, List, [], ◌∷◌, take, Option, Some, None, Result, Ok, Err, if◌then◌else◌}
use Rattle.live_devices.specs.Clocks.{reading, readings_after}
use Rattle.live_devices.specs.Comings.{found, later}
use Rattle.live_devices.specs.Docks.{DockHeld, has_found, taken}
use Rattle.live_devices.specs.Wires.{WireHeld}
use Rattle.live_devices.specs.Reads.{Unread, came_of, read_at}
use Rattle.reply_table.specs.declared.ask.Ask.{Ask}
use Rattle.rc_request.specs.declared.error.RcError.{RcError}
use Rattle.rc_request.specs.Requests.{request_of}
use Rattle.gw_packets.specs.declared.done.Config.{Config}
use Rattle.gw_law.specs.Orderly.{AsksTunnel}
use Rattle.live_gateway.specs.Carried.{Devices, after_all, dock_by, inside_by, outside_by}
use Rattle.live_gateway.specs.Past.{Accepted, Broken, Came_in, Inside, Item, Message, Outside, Seconds, acts_at, is_there, kept_of}

-- ---- wires

-- a receipt takes what waits, and gives its first 65,575 octets
abbrev pub received : WireHeld → WireHeld
received w = record w { coming = later w.coming }

-- the datagram as the gateway gets it: octets after the first 65,575 are lost
abbrev pub cut : Option (List ℕ) → Option (List ℕ)
cut None = None
cut (Some octets) = Some (take 65575 octets)

-- a receipt of the wire inside takes what waits there; nothing else that comes changes that wire
abbrev pub inside_at : Item → WireHeld → WireHeld
inside_at (Inside datagram) w = received w
inside_at _ w = w

-- what the wire inside holds after all that came
abbrev pub inside_of : Config → List Item → WireHeld → WireHeld
inside_of c [] w = w
inside_of c (x ∷ past) w = after_all inside_by (acts_at c past x) (inside_at x (inside_of c past w))

-- a receipt of the wire outside takes what waits there
abbrev pub outside_at : Item → WireHeld → WireHeld
outside_at (Outside datagram) w = received w
outside_at _ w = w

-- what the wire outside holds after all that came
abbrev pub outside_of : Config → List Item → WireHeld → WireHeld
outside_of c [] w = w
outside_of c (x ∷ past) w = after_all outside_by (acts_at c past x) (outside_at x (outside_of c past w))

-- ---- the dock

-- accepts and reads take what comes; nothing else that comes changes the dock
abbrev pub dock_at : Item → DockHeld → DockHeld
dock_at (Accepted is_taken) d = taken (found d.coming) d
dock_at (Came_in came) d = read_at came d
dock_at _ d = d

-- replies and notices are written while a session is there
abbrev pub written_at : Config → List Item → Item → DockHeld → DockHeld
written_at c past x d =
    if is_there past then after_all (dock_by (kept_of c (x ∷ past)).clock) (acts_at c past x) d else d

-- what the dock holds after all that came
abbrev pub dock_of : Config → List Item → DockHeld → DockHeld
dock_of c [] d = d
dock_of c (x ∷ past) d = written_at c past x (dock_at x (dock_of c past d))

-- ---- what the calls gave

-- a half that is asked for has a tunnel between addresses of one family
abbrev pub IsTunnelled : Result Ask RcError → Type 0
IsTunnelled (Ok ask) = AsksTunnel ask
IsTunnelled (Err e) = Unit {0}

-- each call gave what there was: the session is read where one is there, and only there
abbrev pub IsFound : Config → Devices → List Item → Item → Type 0
IsFound c start past (Seconds now) = Unit {0}
IsFound c start past (Inside datagram) = (w : WireHeld) → start.inside ≡ Some w → datagram ≡ cut (found (inside_of c past w).coming)
IsFound c start past (Outside datagram) = (w : WireHeld) → start.outside ≡ Some w → datagram ≡ cut (found (outside_of c past w).coming)
IsFound c start past (Accepted is_taken) = (d : DockHeld) → start.dock ≡ Some d → is_taken ≡ has_found (found (dock_of c past d).coming)
IsFound c start past (Came_in Unread) = is_there past ≡ false
IsFound c start past (Came_in came) =
    (is_there past ≡ true) × ((d : DockHeld) → start.dock ≡ Some d → came ≡ came_of (dock_of c past d).session)
IsFound c start past (Message message) = IsTunnelled (request_of message)
IsFound c start past (Broken fault) = Unit {0}

-- each call gave what there was, by what the devices held at the start
abbrev pub AreFound : Config → Devices → List Item → Type 0
AreFound c start [] = Unit {0}
AreFound c start (x ∷ past) = IsFound c start past x × AreFound c start past

-- ---- the clock

-- the readings that the clock has still to give after all that came
abbrev pub readings_of : List Item → List ℕ → List ℕ
readings_of [] readings = readings
readings_of (Seconds now ∷ past) readings = readings_after (readings_of past readings)
readings_of (x ∷ past) readings = readings_of past readings

-- each reading is the clock's
abbrev pub AreReadings : List Item → List ℕ → Type 0
AreReadings [] readings = Unit {0}
AreReadings (Seconds now ∷ past) readings = (now ≡ reading (readings_of past readings)) × AreReadings past readings
AreReadings (x ∷ past) readings = AreReadings past readings
