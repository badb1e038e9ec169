-- What a controller's node served, turn by turn, and what it stands at between two calls.
use Rattle.std.specs.Prelude.{◌≡◌, ℕ, zero, suc, ◌==◌, Bool, true, false, List, [], ◌∷◌, ◌++◌, length, Option, if◌then◌else◌}
use Rattle.ikeless_tree.specs.declared.command.Peer.{Peer}
use Rattle.rc_http.specs.declared.message.Kind.{Kind}
use Rattle.rc_http.specs.declared.message.Kind.TheVariants.{Request, Response as Responses}
use Rattle.rc_http.specs.Looks.{Looks, Waits}
use Rattle.notice_lines.specs.Reading.{Open, begins}
use Rattle.live_devices.specs.Dialers.{PeerHeld}
use Rattle.live_devices.specs.Docks.{DockHeld}
use Rattle.live_devices.specs.Reads.{Came, Makes}
use Rattle.live_controller.specs.declared.clients.Session.{Session}
use Rattle.live_controller.specs.declared.desk.Desk.{Desk}
use Rattle.live_controller.specs.declared.link.Link.{Link}
use Rattle.live_controller.specs.Links.{notices_at, responses_at, up_at}
use Rattle.live_controller.specs.Past.{Accepted, Broken, Came_in, Dialled, Heard, Item, Line, Message, NoLine, NoResponse, Response, Told, core_of, heard_of, is_open, is_there, octets_of, told_of}
use Rattle.live_controller.specs.Found.{AreFound, AreTaken, Devices, IsTaken, dock_of, peer_of}
use Rattle.live_controller.specs.Doings.{Agrees}

-- ---- turns

-- what was taken of a client's session, of a peer's control stream, and of its notice stream
abbrev pub AreRequests : List Item → Type 0
AreRequests [] = Unit {0}
AreRequests (Message message size ∷ more) = AreRequests more
AreRequests (Broken fault ∷ more) = AreRequests more
AreRequests (x ∷ more) = ⊥

abbrev pub AreResponses : ℕ → List Item → Type 0
AreResponses g [] = Unit {0}
AreResponses g (Response k message size ∷ more) = (k ≡ g) × AreResponses g more
AreResponses g (NoResponse k fault ∷ more) = (k ≡ g) × AreResponses g more
AreResponses g (x ∷ more) = ⊥

abbrev pub AreLines : ℕ → List Item → Type 0
AreLines g [] = Unit {0}
AreLines g (Line k notice size ∷ more) = (k ≡ g) × AreLines g more
AreLines g (NoLine k fault ∷ more) = (k ≡ g) × AreLines g more
AreLines g (x ∷ more) = ⊥

-- the first peers are dialled, so many of them: each whose session isn't open, in the order of their numbers
abbrev pub AreDialled : List Peer → ℕ → List Item → List Item → Type 0
AreDialled ps zero past now = now ≡ past
AreDialled ps (suc g) past now = (mid : List Item) × AreDialled ps g past mid × (now ≡ (if is_open ps g mid then mid else Dialled g ∷ mid))

-- a stream is read once where its session is open, and what came is taken
abbrev pub IsReadIf : Bool → (Came → Item) → (List Item → Type 0) → List Item → List Item → Type 0
IsReadIf false read Taken past now = now ≡ past
IsReadIf true read Taken past now = (came : Came) × (more : List Item) × Taken more × (now ≡ more ++ read came ∷ past)

-- a peer's control stream, and then its notice stream
abbrev pub IsRead : List Peer → ℕ → List Item → List Item → Type 0
IsRead ps g past now =
    (mid : List Item) × IsReadIf (is_open ps g past) (Heard g) (AreResponses g) past mid × IsReadIf (is_open ps g mid) (Told g) (AreLines g)
    mid now

-- the first peers are read, so many of them, in the order of their numbers
abbrev pub AreRead : List Peer → ℕ → List Item → List Item → Type 0
AreRead ps zero past now = now ≡ past
AreRead ps (suc g) past now = (mid : List Item) × AreRead ps g past mid × IsRead ps g mid now

-- The calls of a turn in their order: an accept, a read of the client's session, the dials, and the reads. What a read gave is taken
-- before the next call.
abbrev pub IsTurn : List Peer → List Item → List Item → Type 0
IsTurn ps past now =
    (is_taken : Bool) × (came : Came) × (more : List Item) × (dialled : List Item) × AreRequests more
    × AreDialled ps (length ps) (more ++ Came_in came ∷ Accepted is_taken ∷ past) dialled × AreRead ps (length ps) dialled now

abbrev pub AreTurns : List Peer → ℕ → List Item → Type 0
AreTurns ps zero past = past ≡ []
AreTurns ps (suc n) past = (earlier : List Item) × AreTurns ps n earlier × IsTurn ps earlier past × IsTaken past × AreTaken ps past

-- ---- a whole run

-- What was served in so many turns, in which no call failed: what came in each of them, and what the devices hold then.
pub record Served (ps : List Peer) (turns : ℕ) (start now : Devices) : Type 0 where
  pub past : List Item
  pub turned : AreTurns ps turns past
  pub calls : AreFound ps start past
  pub dock : Makes (dock_of ps past) start.dock now.dock
  pub peers : (g : ℕ) → Makes (peer_of ps g past) (start.peers g) (now.peers g)

-- ---- between two calls

-- none is left of what was read
abbrev pub none_left : ℕ → List ℕ
none_left g = []

-- these are left of one peer's stream
abbrev pub left_at : ℕ → List ℕ → ℕ → List ℕ
left_at k octets g = if g == k then octets else []

-- the octets since the last message, with those left, are none that is whole
pub record IsSince (kind : Kind) (since rest octets : List ℕ) : Type 0 where
  pub all : since ++ rest ≡ octets
  pub waits : Looks kind since Waits

pub record IsSinceLine (since rest octets : List ℕ) : Type 0 where
  pub all : since ++ rest ≡ octets
  pub waits : begins since ≡ Open

-- the readers of each stream were fed all that came but what is left
pub record StreamsStand (past : List Item) (heard told : ℕ → List ℕ) (links : List Link) : Type 0 where
  pub responses : (g : ℕ) → up_at links g ≡ true → IsSince Responses (responses_at links g) (heard g) (heard_of g past)
  pub lines : (g : ℕ) → up_at links g ≡ true → IsSinceLine (notices_at links g) (told g) (told_of g past)

-- what came, and what devices told at the start, give what is told of the peers now, and the controller with its links
pub record PeersStand (ps : List Peer) (start : Devices) (past : List Item) (heard told : ℕ → List ℕ) (now : ℕ → Option PeerHeld) (d : Desk)
    : Type 0 where
  pub peers : d.peers ≡ ps
  pub core : d.controller ≡ core_of ps past
  pub agrees : Agrees d
  pub held : (g : ℕ) → Makes (peer_of ps g past) (start.peers g) (now g)
  pub up : (g : ℕ) → up_at d.links.items g ≡ is_open ps g past
  pub calls : AreFound ps start past
  pub streams : StreamsStand past heard told d.links.items

-- and what is told of the dock, and the client's session
pub record ClientStands (ps : List Peer) (start : Devices) (past : List Item) (rest : List ℕ) (now : Option DockHeld) (s : Session) : Type 0
  where
    pub dock : Makes (dock_of ps past) start.dock now
    pub there : s.is_there ≡ is_there past
    pub since : s.is_there ≡ true → IsSince Request s.requests rest (octets_of past)

-- both
pub record NodeStands (ps : List Peer) (start : Devices) (past : List Item) (rest : List ℕ) (now : Devices) (d : Desk) (s : Session) : Type
    0 where
  pub peers : PeersStand ps start past none_left none_left now.peers d
  pub client : ClientStands ps start past rest now.dock s
