-- What a gateway node served, turn by turn, and what it stands at between two calls.
use Rattle.std.specs.Prelude.{◌≡◌, ◌≤◌, ℕ, zero, suc, Bool, true, false, List, [], ◌∷◌, ◌++◌, Option, Some, None}
use Rattle.ikl_base.specs.Outside.{HasRisen}
use Rattle.rc_http.specs.Feeding.{Feeding, HasRead}
use Rattle.rc_http.specs.declared.message.Kind.TheVariants.{Request}
use Rattle.gw_packets.specs.declared.done.Config.{Config}
use Rattle.gw_core.specs.Machine.{Core}
use Rattle.live_messages.specs.Holds.{Holds}
use Rattle.live_devices.specs.Reads.{Came, Makes}
use Rattle.live_gateway.specs.Carried.{Devices}
use Rattle.live_gateway.specs.Past.{Accepted, Broken, Came_in, Inside, Item, Message, Outside, Seconds, fault_of, is_there, kept_of, messages_of, octets_of}
use Rattle.live_gateway.specs.Found.{AreFound, AreReadings, dock_of, inside_of, outside_of, readings_of}

-- ---- turns

-- the octets of the session hold exactly the messages that were taken of it, and then the fault that was found, if any
abbrev pub IsHeld : List Item → Type 0
IsHeld past = Holds Request (octets_of past) (messages_of past) (fault_of past)

-- messages and faults alone
abbrev pub AreTaken : List Item → Type 0
AreTaken [] = Unit {0}
AreTaken (Message message ∷ more) = AreTaken more
AreTaken (Broken fault ∷ more) = AreTaken more
AreTaken (x ∷ more) = ⊥

-- what the calls of a turn gave
pub record Calls : Type 0 where
  pub now : ℕ
  pub inside : Option (List ℕ)
  pub outside : Option (List ℕ)
  pub is_taken : Bool
  pub came : Came

-- the calls of a turn, in their order
abbrev pub called : Calls → List Item → List Item
called t past = Came_in t.came ∷ Accepted t.is_taken ∷ Outside t.outside ∷ Inside t.inside ∷ Seconds t.now ∷ past

-- So many turns: each has its calls, and then the messages that became whole by what it read.
abbrev pub AreTurns : ℕ → List Item → Type 0
AreTurns zero past = past ≡ []
AreTurns (suc n) past =
    (earlier : List Item) × (t : Calls) × (more : List Item) × AreTurns n earlier × (past ≡ more ++ called t earlier) × AreTaken more
    × IsHeld past

-- ---- between two calls

-- the reader of the session was fed all that it gave but this rest, and gave the messages that were taken
pub record IsReader (reader : Feeding) (rest : List ℕ) (past : List Item) : Type 0 where
  pub there : is_there past ≡ true
  pub none : fault_of past ≡ None
  pub kind : reader.kind ≡ Request
  pub fault : reader.fault ≡ None
  pub fed : List ℕ
  pub octets : octets_of past ≡ fed ++ rest
  pub reads : HasRead reader fed (messages_of past)

-- no session is there, and all messages of the last one were taken; or one is, of which this rest of a piece is still to be fed
abbrev pub IsSession : Option Feeding → List ℕ → List Item → Type 0
IsSession None rest past = (is_there past ≡ false) × IsHeld past
IsSession (Some reader) rest past = IsReader reader rest past

-- what came, and what devices held at the start, give what they hold now and what the node keeps
pub record Stood (c : Config) (start : Devices) (past : List Item) (rest : List ℕ) (now : Devices) (g : Core) (s : Option Feeding) : Type 0
  where
    pub core : g ≡ record { config = c; kept = kept_of c past }
    pub inside : Makes (inside_of c past) start.inside now.inside
    pub outside : Makes (outside_of c past) start.outside now.outside
    pub dock : Makes (dock_of c past) start.dock now.dock
    pub calls : AreFound c start past
    pub session : IsSession s rest past

-- the same, unless a read or a write of a session failed
pub record Stands (c : Config) (start : Devices) (past : List Item) (rest : List ℕ) (now : Devices) (g : Core) (s : Option Feeding) : Type 0
  where
    pub later : start.faults ≤ now.faults
    pub stood : (HasRisen start.faults now.faults → ⊥) → Stood c start past rest now g s

-- ---- a whole run

-- What was served in so many turns: what came in each of them, and what the devices hold then. No read or write of a session failed.
pub record Served (c : Config) (turns : ℕ) (start now : Devices) (clock clock' : Option (List ℕ)) : Type 0 where
  pub past : List Item
  pub turned : AreTurns turns past
  pub calls : AreFound c start past
  pub readings : (readings : List ℕ) → clock ≡ Some readings → AreReadings past readings × (clock' ≡ Some (readings_of past readings))
  pub inside : Makes (inside_of c past) start.inside now.inside
  pub outside : Makes (outside_of c past) start.outside now.outside
  pub dock : Makes (dock_of c past) start.dock now.dock
