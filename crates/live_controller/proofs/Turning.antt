-- What a controller's node served goes on turn by turn.
use Rattle.std.proofs.Common.{◌≡◌, ◌≤◌, ◌+◌, ◌⊎◌, inl, inr, ℕ, zero, suc, Bool, true, false, List, [], ◌∷◌, ◌++◌, length, map, Option, refl, sym, ap, subst, ◌∙◌, add-one, append-nil}
use Rattle.std.specs.Prelude.{slice_get}
use Rattle.ikeless_tree.specs.declared.command.Peer.{Peer}
use Rattle.rc_http.specs.declared.message.Kind.TheVariants.{Request, Response as Responses}
use Rattle.rc_http.specs.Looks.{Looks, Waits}
use Rattle.notice_lines.specs.Reading.{begins}
use Rattle.live_devices.specs.Dialers.{PeerHeld}
use Rattle.live_devices.specs.Docks.{DockHeld}
use Rattle.live_devices.specs.Reads.{Came}
use Rattle.live_devices.proofs.Reading.{makes-same}
use Rattle.ctl_core.specs.Core.{Core, is_open_at, open_or_not, station_of, told_nothing}
use Rattle.live_controller.specs.declared.clients.Session.{Session}
use Rattle.live_controller.specs.declared.desk.Desk.{Desk}
use Rattle.live_controller.specs.declared.ended.Ended.{Ended}
use Rattle.live_controller.specs.declared.ended.Ended.TheVariants as endings
use Rattle.live_controller.specs.Desks.{IsDesk, Serves}
use Rattle.live_controller.specs.Links.{notices_at, responses_at, up_at}
use Rattle.live_controller.specs.Past.{Accepted, Came_in, Item}
use Rattle.live_controller.specs.Found.{AreTaken, Devices, IsFound, IsTaken}
use Rattle.live_controller.specs.Endings.{is_dock_fault, is_turns_spent}
use Rattle.live_controller.specs.Stands.{AreDialled, AreRead, AreRequests, AreTurns, ClientStands, IsTurn, NodeStands, PeersStand, Served, none_left}
use Rattle.live_controller.proofs.Requesting.{Comes, accepted-stays, dials-stay, reads-stay}

false-true : false ≡ true → ⊥
false-true e = let no : ⊥ = cc in no

-- a call that ended otherwise didn't spend its turns
pub not-spent : (e : Ended) → is_turns_spent e ≡ false → e ≡ endings.TurnsSpent → ⊥
not-spent endings.TurnsSpent p e = false-true (sym p)
not-spent endings.DockFault p e = let no : ⊥ = cc in no
not-spent endings.NoMemory p e = let no : ⊥ = cc in no

pub ended_calm : (e : Ended) → (is_dock_fault e ≡ true → ⊥) → (e ≡ endings.TurnsSpent) ⊎ (e ≡ endings.NoMemory)
ended_calm endings.TurnsSpent p = inl refl
ended_calm endings.DockFault p = absurd (p refl)
ended_calm endings.NoMemory p = inr refl

-- ---- the calls of a turn

abbrev devices : Option DockHeld → (ℕ → Option PeerHeld) → Devices
devices dock peers = record { dock = dock; peers = peers }

-- the dials, and the reads of the peers
abbrev pub Dials : List Peer → Devices → List Item → (ℕ → Option PeerHeld) → Desk → Type 0
Dials ps start past now d = (later : List Item) × AreDialled ps (length ps) past later × PeersStand ps start later none_left none_left now d

abbrev pub Reads : List Peer → Devices → List Item → (ℕ → Option PeerHeld) → Desk → Type 0
Reads ps start past now d = (later : List Item) × AreRead ps (length ps) past later × PeersStand ps start later none_left none_left now d

-- all of them after the accept
abbrev pub Rests : List Peer → Devices → List Item → Devices → Desk → Session → Type 0
Rests ps start past now d s =
    (came : Came) × (more : List Item) × (dialled : List Item) × (later : List Item) × AreRequests more
    × AreDialled ps (length ps) (more ++ Came_in came ∷ past) dialled × AreRead ps (length ps) dialled later
    × NodeStands ps start later [] now d s

pub rests-on : (ps : List Peer) (start : Devices) (past : List Item) (dock : Option DockHeld) (was mid is : ℕ → Option PeerHeld)
    (c d e : Desk) (s : Session)
    → Comes ps start past (devices dock was) c s
    → ((earlier : List Item) → PeersStand ps start earlier none_left none_left was c → Dials ps start earlier mid d)
    → ((earlier : List Item) → PeersStand ps start earlier none_left none_left mid d → Reads ps start earlier is e)
    → Rests ps start past (devices dock is) e s
rests-on ps start past dock was mid is c d e s first dials reads =
    let here = first.1 ++ Came_in first.0 ∷ past in
    let second = dials here first.3.peers in
    let third = reads second.0 second.2 in
    let client = dials-stay ps start dock s (length ps) here second.0 second.1 first.3.client in (
      first.0,
      first.1,
      second.0,
      third.0,
      first.2,
      second.1,
      third.1,
      record { peers = third.2; client = reads-stay ps start dock s (length ps) second.0 third.0 third.1 client },
    )

-- what an accept gave, and then the rest
abbrev pub Accepts : List Peer → Devices → List Item → Option DockHeld → Session → Type 0
Accepts ps start past dock s =
    (is_taken : Bool) × IsFound ps start past (Accepted is_taken) × ClientStands ps start (Accepted is_taken ∷ past) [] dock s

pub turn-on : (ps : List Peer) (start : Devices) (past : List Item) (dock : Option DockHeld) (was : ℕ → Option PeerHeld) (now : Devices)
    (d e : Desk)
    (s t : Session) → PeersStand ps start past none_left none_left was d → Accepts ps start past dock s
    → ((earlier : List Item) → NodeStands ps start earlier [] (devices dock was) d s → Rests ps start earlier now e t)
    → (later : List Item) × IsTurn ps past later × NodeStands ps start later [] now e t
turn-on ps start past dock was now d e s t peers first rest =
    let all = rest (Accepted first.0 ∷ past) (record {
      peers = accepted-stays ps start past first.0 was d first.1 peers;
      client = first.2;
    }) in
    (all.3, (first.0, all.0, all.1, all.2, all.4, all.5, all.6), all.7)

-- ---- at first

all-closed : (ps : List Peer) (g : ℕ) → open_or_not (slice_get (map station_of ps) g) ≡ false
all-closed [] g = refl
all-closed (p ∷ ps) zero = refl
all-closed (p ∷ ps) (suc g) = all-closed ps g

-- no peer is up, and no link is
pub serves-first : (d : Desk) (ps : List Peer) (n : ℕ) (up : ℕ → Bool) → IsDesk d → d.peers ≡ ps → length ps ≤ n → ((g : ℕ) → up g ≡ false)
    → ((g : ℕ) → up_at d.links.items g ≡ false) → Serves d n up
serves-first d ps n up is peers known down closed = record {
  desk = is;
  known = subst (λ (qs : List Peer). length qs ≤ n) (sym peers) known;
  agrees = λ g lt. down g ∙ sym (closed g);
}

-- what was served so far
pub record SoFar (ps : List Peer) (turns : ℕ) (start now : Devices) (d : Desk) (s : Session) : Type 0 where
  pub past : List Item
  pub turned : AreTurns ps turns past
  pub stands : NodeStands ps start past [] now d s

pub turns-first : (start : Devices) (d : Desk) (s : Session) → d.controller ≡ told_nothing d.peers
    → ((g : ℕ) → up_at d.links.items g ≡ false)
    → s.is_there ≡ false → SoFar d.peers 0 start start d s
turns-first start d s core down none = record {
  past = [];
  turned = refl;
  stands = record {
    peers = record {
      peers = refl;
      core = core;
      agrees = λ g lt. down g ∙ sym (ap (λ (c : Core). is_open_at c.stations g) core ∙ all-closed d.peers g);
      held = λ g. makes-same (start.peers g);
      up = down;
      calls = tt;
      streams = record {
        responses = λ g up. absurd (false-true (sym (down g) ∙ up));
        lines = λ g up. absurd (false-true (sym (down g) ∙ up));
      };
    };
    client = record { dock = makes-same start.dock; there = none; since = λ e. absurd (false-true (sym none ∙ e)) };
  };
}

-- ---- after a turn nothing whole is left

requests-taken : (ps : List Peer) (start now : Devices) (past : List Item) (d : Desk) (s : Session) → NodeStands ps start past [] now d s
    → IsTaken past
requests-taken ps start now past d s st = λ there.
    let since = st.client.since (st.client.there ∙ there) in
    subst (λ (z : List ℕ). Looks Request z Waits) (sym (append-nil s.requests) ∙ since.all) since.waits

streams-taken : (ps : List Peer) (start now : Devices) (past : List Item) (d : Desk) (s : Session) → NodeStands ps start past [] now d s
    → AreTaken ps past
streams-taken ps start now past d s st = λ g lt there.
    let up : up_at d.links.items g ≡ true = st.peers.up g ∙ there in
    let heard = st.peers.streams.responses g up in
    let told = st.peers.streams.lines g up in (
      subst (λ (z : List ℕ). Looks Responses z Waits) (sym (append-nil (responses_at d.links.items g)) ∙ heard.all) heard.waits,
      ap begins (sym told.all ∙ append-nil (notices_at d.links.items g)) ∙ told.waits,
    )

-- one turn more
abbrev pub TurnGoes : Devices → Devices → Desk → Desk → Session → Session → Type 0
TurnGoes old new d e s t = (ps : List Peer) (start : Devices) (past : List Item) → NodeStands ps start past [] old d s
    → (now : List Item) × IsTurn ps past now × NodeStands ps start now [] new e t

pub turns-on : (ps : List Peer) (n : ℕ) (start old new : Devices) (d e : Desk) (s t : Session) → TurnGoes old new d e s t
    → SoFar ps n start old d s
    → SoFar ps (n + 1) start new e t
turns-on ps n start old new d e s t goes so =
    let step = goes ps start so.past so.stands in
    record {
      past = step.0;
      turned = subst (λ (k : ℕ). AreTurns ps k step.0) (sym (add-one n))
          (so.past, so.turned, step.1, requests-taken ps start new step.0 e t step.2, streams-taken ps start new step.0 e t step.2);
      stands = step.2;
    }

pub served-as : (qs ps : List Peer) (n : ℕ) (start now : Devices) → qs ≡ ps → Served qs n start now → Served ps n start now
served-as qs ps n start now e s = subst (λ (xs : List Peer). Served xs n start now) e s
