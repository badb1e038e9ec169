-- What comes in a client's session goes on from what a controller's node stands at.
use Rattle.std.proofs.Common.{◌≡◌, ℕ, zero, suc, ◌+◌, Bool, true, false, List, [], ◌∷◌, ◌++◌, length, drop, Option, Some, None, refl, sym, ap, subst, ◌∙◌, arith, append-nil, append_assoc, if◌then◌else◌}
use Rattle.std.proofs.lemmas.List.{drop_all}
use Rattle.ikeless_tree.specs.declared.command.Peer.{Peer}
use Rattle.rc_http.specs.declared.message.HttpFault.{HttpFault}
use Rattle.rc_http.specs.declared.message.HttpMessage.{HttpMessage}
use Rattle.rc_http.specs.declared.message.Kind.TheVariants.{Request}
use Rattle.rc_http.specs.Looks.{Fails, Gives, Looks, Waits}
use Rattle.rc_operations.specs.Operations.{requested}
use Rattle.rc_operations.specs.Replies.{fault_response}
use Rattle.live_devices.specs.Comings.{found}
use Rattle.live_devices.specs.Dialers.{PeerHeld}
use Rattle.live_devices.specs.Docks.{DockHeld, has_found, taken}
use Rattle.live_devices.specs.Reads.{Came, End, Makes, Piece, Unread, Waiting, came_of, with_reply}
use Rattle.live_devices.proofs.Reading.{makes-as, makes-on, makes-same, read_dock}
use Rattle.ctl_core.specs.declared.acts.CtlEvent.{CtlEvent}
use Rattle.ctl_core.specs.Core.{Core}
use Rattle.live_controller.specs.declared.clients.Session.{Session}
use Rattle.live_controller.specs.declared.desk.Desk.{Desk}
use Rattle.live_controller.specs.Streams.{IsWhole}
use Rattle.live_controller.specs.Past.{Accepted, Broken, Came_in, Dialled, Heard, Item, Line, Message, NoLine, NoResponse, Response, Told, command_in, core_of, heard_of, is_open, is_there, octets_of, told_of}
use Rattle.live_controller.specs.Found.{Devices, IsFound, called_at, dock_of, reply_of}
use Rattle.live_controller.specs.Doings.{DoesIf}
use Rattle.live_controller.specs.Stands.{AreDialled, AreLines, AreRead, AreRequests, AreResponses, ClientStands, IsReadIf, NodeStands, PeersStand, StreamsStand, none_left}
use Rattle.live_controller.proofs.Feeding.{none_waits}
use Rattle.live_controller.proofs.Going.{goes-on, goes-still, since-as, streams-still}
use Rattle.live_controller.proofs.Hearing.{drop-since}

-- ---- the peers stay as they are

streams-same : (past more : List Item) (d : Desk) → ((k : ℕ) → heard_of k more ≡ heard_of k past)
    → ((k : ℕ) → told_of k more ≡ told_of k past) → StreamsStand past none_left none_left d.links.items
    → StreamsStand more none_left none_left d.links.items
streams-same past more d heard told st =
    streams-still past more none_left none_left none_left none_left d.links.items d.links.items
    (λ k. record { heard_is = heard k; told_is = told k; left = refl; left_told = refl; link = λ there. refl }) st

pub accepted-stays : (ps : List Peer) (start : Devices) (past : List Item) (is_taken : Bool) (now : ℕ → Option PeerHeld) (d : Desk)
    → IsFound ps start past (Accepted is_taken) → PeersStand ps start past none_left none_left now d
    → PeersStand ps start (Accepted is_taken ∷ past) none_left none_left now d
accepted-stays ps start past is_taken now d found st =
    goes-still ps start past (Accepted is_taken) none_left none_left none_left none_left now now d refl st (λ k. makes-same (now k)) found
    (streams-same past (Accepted is_taken ∷ past) d (λ k. refl) (λ k. refl) st.streams)

pub came-stays : (ps : List Peer) (start : Devices) (past : List Item) (came : Came) (now : ℕ → Option PeerHeld) (d : Desk)
    → IsFound ps start past (Came_in came) → PeersStand ps start past none_left none_left now d
    → PeersStand ps start (Came_in came ∷ past) none_left none_left now d
came-stays ps start past came now d found st =
    goes-still ps start past (Came_in came) none_left none_left none_left none_left now now d refl st (λ k. makes-same (now k)) found
    (streams-same past (Came_in came ∷ past) d (λ k. refl) (λ k. refl) st.streams)

pub broken-stays : (ps : List Peer) (start : Devices) (past : List Item) (fault : HttpFault) (now : ℕ → Option PeerHeld) (d : Desk)
    → IsFound ps start past (Broken fault) → PeersStand ps start past none_left none_left now d
    → PeersStand ps start (Broken fault ∷ past) none_left none_left now d
broken-stays ps start past fault now d found st =
    goes-still ps start past (Broken fault) none_left none_left none_left none_left now now d refl st (λ k. makes-same (now k)) found
    (streams-same past (Broken fault ∷ past) d (λ k. refl) (λ k. refl) st.streams)

-- a request may command something
by-command : (ps : List Peer) (start : Devices) (past : List Item) (m : HttpMessage) (size : ℕ) (was is : ℕ → Option PeerHeld) (d n : Desk)
    (o : Option CtlEvent) → command_in (requested m) ≡ o → DoesIf o d n was is → IsFound ps start past (Message m size)
    → PeersStand ps start past none_left none_left was d → PeersStand ps start (Message m size ∷ past) none_left none_left is n
by-command ps start past m size was is d n None e does found st =
    let same : (k : ℕ) → Makes (called_at k (Message m size)) (was k) (is k) = λ k w at. does.1 k ∙ at in
    let P : Desk → Type 0 = λ x. PeersStand ps start (Message m size ∷ past) none_left none_left is x in
    subst P (sym does.0)
    (goes-still ps start past (Message m size) none_left none_left none_left none_left was is d e st same found
    (streams-same past (Message m size ∷ past) d (λ k. refl) (λ k. refl) st.streams))
by-command ps start past m size was is d n (Some c) e does found st =
    goes-on ps start past (Message m size) c none_left none_left none_left none_left was was is d d n e st refl refl
    (λ k. makes-same (was k)) does does.up
    found
    (streams-still past (Message m size ∷ past) none_left none_left none_left none_left d.links.items n.links.items
    (λ k. record { heard_is = refl; told_is = refl; left = refl; left_told = refl; link = does.links k }) st.streams)

pub message-goes : (ps : List Peer) (start : Devices) (past : List Item) (m : HttpMessage) (size : ℕ) (was is : ℕ → Option PeerHeld)
    (d n : Desk)
    → DoesIf (command_in (requested m)) d n was is → IsFound ps start past (Message m size)
    → PeersStand ps start past none_left none_left was d → PeersStand ps start (Message m size ∷ past) none_left none_left is n
message-goes ps start past m size was is d n = by-command ps start past m size was is d n (command_in (requested m)) refl

-- ---- the client's session

pub client-accepted : (ps : List Peer) (start : Devices) (past : List Item) (old new : Option DockHeld) (s t : Session)
    → t.is_there ≡ true → t.requests ≡ []
    → Makes (λ d. taken (found d.coming) d) old new → ClientStands ps start past [] old s
    → ClientStands ps start (Accepted true ∷ past) [] new t
client-accepted ps start past old new s t there none makes st = record {
  dock = makes-on (dock_of ps past) (λ d. taken (found d.coming) d) start.dock old new st.dock makes;
  there = there;
  since = λ e. record {
    all = ap (λ (z : List ℕ). z ++ []) none;
    waits = subst (λ (z : List ℕ). Looks Request z Waits) (sym none)
        (none_waits Request);
  };
}

pub client-alone : (ps : List Peer) (start : Devices) (past : List Item) (old new : Option DockHeld) (s : Session)
    → Makes (λ d. taken (found d.coming) d) old new → ClientStands ps start past [] old s
    → ClientStands ps start (Accepted false ∷ past) [] new s
client-alone ps start past old new s makes st = record {
  dock = makes-on (dock_of ps past) (λ d. taken (found d.coming) d) start.dock old new st.dock makes;
  there = st.there;
  since = st.since;
}

pub accepted-found : (ps : List Peer) (start : Devices) (past : List Item) (old : Option DockHeld) (is_taken : Bool) (s : Session)
    → ((d : DockHeld) → old ≡ Some d → is_taken ≡ has_found (found d.coming)) → ClientStands ps start past [] old s
    → IsFound ps start past (Accepted is_taken)
accepted-found ps start past old is_taken s is st = λ d e. is (dock_of ps past d) (st.dock d e)

-- no session is there
pub client-unread : (ps : List Peer) (start : Devices) (past : List Item) (now : Option DockHeld) (s : Session)
    → ClientStands ps start past [] now s
    → ClientStands ps start (Came_in Unread ∷ past) [] now s
client-unread ps start past now s st = record { dock = st.dock; there = st.there; since = st.since }

pub client-waiting : (ps : List Peer) (start : Devices) (past : List Item) (old new : Option DockHeld) (s : Session)
    → Makes read_dock old new
    → ClientStands ps start past [] old s → ClientStands ps start (Came_in Waiting ∷ past) [] new s
client-waiting ps start past old new s makes st = record {
  dock = makes-on (dock_of ps past) read_dock start.dock old new st.dock makes;
  there = st.there;
  since = st.since;
}

false-true : false ≡ true → ⊥
false-true e = let no : ⊥ = cc in no

pub client-ended : (ps : List Peer) (start : Devices) (past : List Item) (old new : Option DockHeld) (s t : Session) → t.is_there ≡ false
    → Makes read_dock old new → ClientStands ps start past [] old s → ClientStands ps start (Came_in End ∷ past) [] new t
client-ended ps start past old new s t over makes st = record {
  dock = makes-on (dock_of ps past) read_dock start.dock old new st.dock makes;
  there = over;
  since = λ e. absurd (false-true (sym over ∙ e));
}

pub client-piece : (ps : List Peer) (start : Devices) (past : List Item) (octets : List ℕ) (old new : Option DockHeld) (s : Session)
    → Makes read_dock old new
    → ClientStands ps start past [] old s → ClientStands ps start (Came_in (Piece octets) ∷ past) octets new s
client-piece ps start past octets old new s makes st = record {
  dock = makes-on (dock_of ps past) read_dock start.dock old new st.dock makes;
  there = st.there;
  since = λ e. let before = st.since e in record {
    all = ap (λ (z : List ℕ). z ++ octets) (sym (append-nil s.requests) ∙ before.all);
    waits = before.waits;
  };
}

pub came-found : (ps : List Peer) (start : Devices) (past : List Item) (old : Option DockHeld) (came : Came) (s : Session)
    → s.is_there ≡ true
    → ((d : DockHeld) → old ≡ Some d → came ≡ came_of d.session) → ClientStands ps start past [] old s
    → (is_there past ≡ true) × ((d : DockHeld) → start.dock ≡ Some d → came ≡ came_of (dock_of ps past d).session)
came-found ps start past old came s there is st = (sym st.there ∙ there, λ d e. is (dock_of ps past d) (st.dock d e))

-- ---- requests

pub request-waits : (ps : List Peer) (start : Devices) (past : List Item) (rest : List ℕ) (now : Option DockHeld) (s t : Session)
    → t.is_there ≡ s.is_there → Looks Request (s.requests ++ rest) Waits → t.requests ≡ s.requests ++ rest
    → ClientStands ps start past rest now s → ClientStands ps start past (drop (length rest) rest) now t
request-waits ps start past rest now s t there waits are st =
    let nothing : drop (length rest) rest ≡ [] = drop_all (length rest) rest (omega arith) in
    record {
      dock = st.dock;
      there = there ∙ st.there;
      since = λ e. let before = st.since (sym there ∙ e) in record {
        all = ap (λ (z : List ℕ). t.requests ++ z) nothing ∙ append-nil t.requests ∙ are ∙ before.all;
        waits = subst (λ (z : List ℕ). Looks Request z Waits) (sym are) waits;
      };
    }

pub request-found : (ps : List Peer) (start : Devices) (past : List Item) (rest : List ℕ) (message : HttpMessage) (taken : ℕ)
    (now : Option DockHeld)
    (s : Session) → s.is_there ≡ true → IsWhole Request s.requests rest message taken → ClientStands ps start past rest now s
    → IsFound ps start past (Message message (length s.requests + taken))
request-found ps start past rest message taken now s there whole st = (
  sym st.there ∙ there,
  subst (λ (z : List ℕ). Looks Request z (Gives message (length s.requests + taken))) (st.since there).all whole.whole,
)

pub request-goes : (ps : List Peer) (start : Devices) (past : List Item) (rest : List ℕ) (message : HttpMessage) (taken : ℕ)
    (old new : Option DockHeld)
    (s t : Session) → s.is_there ≡ true → t.is_there ≡ true → t.requests ≡ []
    → Makes (with_reply (reply_of (core_of ps past) (requested message))) old new → ClientStands ps start past rest old s
    → ClientStands ps start (Message message (length s.requests + taken) ∷ past) (drop taken rest) new t
request-goes ps start past rest message taken old new s t was there none makes st =
    let before = st.since was in
    let size = length s.requests + taken in
    let gone : drop taken rest ≡ drop size (octets_of past) =
    sym (drop-since s.requests taken rest) ∙ ap (λ (z : List ℕ). drop size z) before.all in
    record {
      dock = makes-on (dock_of ps past) (with_reply (reply_of (core_of ps past) (requested message))) start.dock old new st.dock makes;
      there = there ∙ sym was ∙ st.there;
      since = λ e. record {
        all = ap (λ (z : List ℕ). z ++ drop taken rest) none ∙ gone;
        waits = subst (λ (z : List ℕ). Looks Request z Waits) (sym none) (none_waits Request);
      };
    }

pub fault-found : (ps : List Peer) (start : Devices) (past : List Item) (rest : List ℕ) (fault : HttpFault) (now : Option DockHeld)
    (s : Session)
    → s.is_there ≡ true → Looks Request (s.requests ++ rest) (Fails fault) → ClientStands ps start past rest now s
    → IsFound ps start past (Broken fault)
fault-found ps start past rest fault now s there fails st =
    (sym st.there ∙ there, subst (λ (z : List ℕ). Looks Request z (Fails fault)) (st.since there).all fails)

pub fault-goes : (ps : List Peer) (start : Devices) (past : List Item) (rest left : List ℕ) (fault : HttpFault)
    (old new : Option DockHeld) (s t : Session)
    → t.is_there ≡ false → Makes (with_reply (fault_response fault)) old new → ClientStands ps start past rest old s
    → ClientStands ps start (Broken fault ∷ past) left new t
fault-goes ps start past rest left fault old new s t over makes st = record {
  dock = makes-on (dock_of ps past) (with_reply (fault_response fault)) start.dock old new st.dock makes;
  there = over;
  since = λ e. absurd (false-true (sym over ∙ e));
}

pub requests-more : (xs ys : List Item) → AreRequests xs → AreRequests ys → AreRequests (xs ++ ys)
requests-more [] ys p q = q
requests-more (Message m n ∷ xs) ys p q = requests-more xs ys p q
requests-more (Broken f ∷ xs) ys p q = requests-more xs ys p q
requests-more (_ ∷ xs) ys p q = absurd p

-- what is taken of a piece, and what is left of it
abbrev pub Takes : List Peer → Devices → List Item → List ℕ → Devices → Desk → Session → Type 0
Takes ps start past rest now d s = (more : List Item) × AreRequests more × NodeStands ps start (more ++ past) rest now d s

-- request after request
pub requests-on : (ps : List Peer) (start : Devices) (past : List Item) (rest left : List ℕ) (mid now : Devices) (c d : Desk)
    (s t : Session)
    → Takes ps start past rest mid c s
    → ((earlier : List Item) → NodeStands ps start earlier rest mid c s → Takes ps start earlier left now d t)
    → Takes ps start past left now d t
requests-on ps start past rest left mid now c d s t first step =
    let second = step (first.0 ++ past) first.2 in (
      second.0 ++ first.0,
      requests-more second.0 first.0 second.1 first.1,
      subst (λ (x : List Item). NodeStands ps start x left now d t) (sym (append_assoc second.0 first.0 past)) second.2,
    )

pub requests-left : (ps : List Peer) (start : Devices) (past : List Item) (rest left : List ℕ) (now : Devices) (d : Desk) (s : Session)
    → rest ≡ left
    → Takes ps start past rest now d s → Takes ps start past left now d s
requests-left ps start past rest left now d s e t = (t.0, t.1, subst (λ (r : List ℕ). NodeStands ps start (t.0 ++ past) r now d s) e t.2)

-- ---- the next request of a piece

abbrev devices : Option DockHeld → (ℕ → Option PeerHeld) → Devices
devices dock peers = record { dock = dock; peers = peers }

pub waits-on : (ps : List Peer) (start : Devices) (past : List Item) (rest : List ℕ) (now : Devices) (d : Desk) (s t : Session)
    → t.is_there ≡ s.is_there → Looks Request (s.requests ++ rest) Waits → t.requests ≡ s.requests ++ rest
    → NodeStands ps start past rest now d s
    → Takes ps start past (drop (length rest) rest) now d t
waits-on ps start past rest now d s t there waits are st = (
  [],
  tt,
  record { peers = st.peers; client = request-waits ps start past rest now.dock s t there waits are st.client },
)

pub breaks-on : (ps : List Peer) (start : Devices) (past : List Item) (rest left : List ℕ) (fault : HttpFault) (old new : Option DockHeld)
    (now : ℕ → Option PeerHeld) (d : Desk) (s t : Session) → s.is_there ≡ true → t.is_there ≡ false
    → Looks Request (s.requests ++ rest) (Fails fault)
    → Makes (with_reply (fault_response fault)) old new → NodeStands ps start past rest (devices old now) d s
    → Takes ps start past left (devices new now) d t
breaks-on ps start past rest left fault old new now d s t there over fails makes st = (
  Broken fault ∷ [],
  tt,
  record {
    peers = broken-stays ps start past fault now d (fault-found ps start past rest fault old s there fails st.client) st.peers;
    client = fault-goes ps start past rest left fault old new s t over makes st.client;
  },
)

-- the session goes on after a request, of which nothing is left
pub answers-on : (ps : List Peer) (start : Devices) (past : List Item) (rest : List ℕ) (message : HttpMessage) (size : ℕ)
    (old new : Option DockHeld)
    (was is : ℕ → Option PeerHeld) (d e : Desk) (s t : Session) → s.is_there ≡ true → t.is_there ≡ true → t.requests ≡ []
    → IsWhole Request s.requests rest message size → Makes (with_reply (reply_of d.controller (requested message))) old new
    → DoesIf (command_in (requested message)) d e was is → NodeStands ps start past rest (devices old was) d s
    → Takes ps start past (drop size rest) (devices new is) e t
answers-on ps start past rest message size old new was is d e s t was-there there none whole makes does st =
    let reply : Makes (with_reply (reply_of (core_of ps past) (requested message))) old new =
    subst (λ (c : Core). Makes (with_reply (reply_of c (requested message))) old new) st.peers.core makes in (
      Message message (length s.requests + size) ∷ [],
      tt,
      record {
        peers = message-goes ps start past message (length s.requests + size) was is d e does
            (request-found ps start past rest message size old s was-there whole st.client) st.peers;
        client = request-goes ps start past rest message size old new s t was-there there none reply st.client;
      },
    )

-- ---- a read of the session

-- what a read gave is taken
abbrev pub Comes : List Peer → Devices → List Item → Devices → Desk → Session → Type 0
Comes ps start past now d s =
    (came : Came) × (more : List Item) × AreRequests more × NodeStands ps start (more ++ Came_in came ∷ past) [] now d s

-- where no session is there, none is read
pub unread-on : (ps : List Peer) (start : Devices) (past : List Item) (now : Devices) (d : Desk) (s : Session) → s.is_there ≡ false
    → NodeStands ps start past [] now d s → Comes ps start past now d s
unread-on ps start past now d s none st = (
  Unread,
  [],
  tt,
  record {
    peers = came-stays ps start past Unread now.peers d (sym st.client.there ∙ none) st.peers;
    client = client-unread ps start past now.dock s st.client;
  },
)

pub waiting-on : (ps : List Peer) (start : Devices) (past : List Item) (old new : Option DockHeld) (now : ℕ → Option PeerHeld) (d : Desk)
    (s : Session)
    → s.is_there ≡ true → Makes read_dock old new → ((x : DockHeld) → old ≡ Some x → Waiting ≡ came_of x.session)
    → NodeStands ps start past [] (devices old now) d s → Comes ps start past (devices new now) d s
waiting-on ps start past old new now d s there makes found st = (
  Waiting,
  [],
  tt,
  record {
    peers = came-stays ps start past Waiting now d (came-found ps start past old Waiting s there found st.client) st.peers;
    client = client-waiting ps start past old new s makes st.client;
  },
)

pub end-on : (ps : List Peer) (start : Devices) (past : List Item) (old new : Option DockHeld) (now : ℕ → Option PeerHeld) (d : Desk)
    (s t : Session)
    → s.is_there ≡ true → t.is_there ≡ false → Makes read_dock old new → ((x : DockHeld) → old ≡ Some x → End ≡ came_of x.session)
    → NodeStands ps start past [] (devices old now) d s → Comes ps start past (devices new now) d t
end-on ps start past old new now d s t there over makes found st = (
  End,
  [],
  tt,
  record {
    peers = came-stays ps start past End now d (came-found ps start past old End s there found st.client) st.peers;
    client = client-ended ps start past old new s t over makes st.client;
  },
)

-- octets came, and are to be taken
pub piece-on : (ps : List Peer) (start : Devices) (past : List Item) (octets : List ℕ) (old new : Option DockHeld)
    (now : ℕ → Option PeerHeld) (d : Desk)
    (s : Session) → s.is_there ≡ true → Makes read_dock old new → ((x : DockHeld) → old ≡ Some x → Piece octets ≡ came_of x.session)
    → NodeStands ps start past [] (devices old now) d s → NodeStands ps start (Came_in (Piece octets) ∷ past) octets (devices new now) d s
piece-on ps start past octets old new now d s there makes found st = record {
  peers = came-stays ps start past (Piece octets) now d (came-found ps start past old (Piece octets) s there found st.client) st.peers;
  client = client-piece ps start past octets old new s makes st.client;
}

-- ---- what comes from the peers leaves the client's session as it is

abbrev Kept : List Peer → Devices → Option DockHeld → Session → List Item → Type 0
Kept ps start now s past = ClientStands ps start past [] now s

stays : (ps : List Peer) (start : Devices) (past : List Item) (x : Item) (now : Option DockHeld) (s : Session)
    → ((d : DockHeld) → dock_of ps past d ≡ dock_of ps (x ∷ past) d) → is_there (x ∷ past) ≡ is_there past
    → octets_of (x ∷ past) ≡ octets_of past
    → Kept ps start now s past → Kept ps start now s (x ∷ past)
stays ps start past x now s dock there octets st = record {
  dock = makes-as (dock_of ps past) (dock_of ps (x ∷ past)) start.dock now dock st.dock;
  there = st.there ∙ sym there;
  since = λ e. since-as Request s.requests s.requests [] [] (octets_of past) (octets_of (x ∷ past)) refl refl octets (st.since e);
}

dialled-stays : (ps : List Peer) (start : Devices) (past : List Item) (g : ℕ) (b : Bool) (now : Option DockHeld) (s : Session)
    → Kept ps start now s past
    → Kept ps start now s (if b then past else Dialled g ∷ past)
dialled-stays ps start past g true now s st = st
dialled-stays ps start past g false now s st = stays ps start past (Dialled g) now s (λ d. refl) refl refl st

pub dials-stay : (ps : List Peer) (start : Devices) (now : Option DockHeld) (s : Session) (n : ℕ) (past later : List Item)
    → AreDialled ps n past later
    → Kept ps start now s past → Kept ps start now s later
dials-stay ps start now s zero past later e st = subst (Kept ps start now s) (sym e) st
dials-stay ps start now s (suc n) past later d st =
    subst (Kept ps start now s) (sym d.2) (dialled-stays ps start d.0 n (is_open ps n d.0) now s
    (dials-stay ps start now s n past d.0 d.1 st))

responses-stay : (ps : List Peer) (start : Devices) (now : Option DockHeld) (s : Session) (g : ℕ) (more past : List Item)
    → AreResponses g more
    → Kept ps start now s past → Kept ps start now s (more ++ past)
responses-stay ps start now s g [] past a st = st
responses-stay ps start now s g (Response k m n ∷ more) past a st =
    stays ps start (more ++ past) (Response k m n) now s (λ d. refl) refl refl (responses-stay ps start now s g more past a.1 st)
responses-stay ps start now s g (NoResponse k f ∷ more) past a st =
    stays ps start (more ++ past) (NoResponse k f) now s (λ d. refl) refl refl (responses-stay ps start now s g more past a.1 st)
responses-stay ps start now s g (_ ∷ more) past a st = absurd a

lines-stay : (ps : List Peer) (start : Devices) (now : Option DockHeld) (s : Session) (g : ℕ) (more past : List Item) → AreLines g more
    → Kept ps start now s past → Kept ps start now s (more ++ past)
lines-stay ps start now s g [] past a st = st
lines-stay ps start now s g (Line k m n ∷ more) past a st =
    stays ps start (more ++ past) (Line k m n) now s (λ d. refl) refl refl (lines-stay ps start now s g more past a.1 st)
lines-stay ps start now s g (NoLine k f ∷ more) past a st =
    stays ps start (more ++ past) (NoLine k f) now s (λ d. refl) refl refl (lines-stay ps start now s g more past a.1 st)
lines-stay ps start now s g (_ ∷ more) past a st = absurd a

heard-stays : (ps : List Peer) (start : Devices) (now : Option DockHeld) (s : Session) (g : ℕ) (b : Bool) (past later : List Item)
    → IsReadIf b (Heard g) (AreResponses g) past later → Kept ps start now s past → Kept ps start now s later
heard-stays ps start now s g false past later e st = subst (Kept ps start now s) (sym e) st
heard-stays ps start now s g true past later r st =
    subst (Kept ps start now s) (sym r.3)
    (responses-stay ps start now s g r.1 (Heard g r.0 ∷ past) r.2 (stays ps start past (Heard g r.0) now s (λ d. refl) refl refl st))

told-stays : (ps : List Peer) (start : Devices) (now : Option DockHeld) (s : Session) (g : ℕ) (b : Bool) (past later : List Item)
    → IsReadIf b (Told g) (AreLines g) past later → Kept ps start now s past → Kept ps start now s later
told-stays ps start now s g false past later e st = subst (Kept ps start now s) (sym e) st
told-stays ps start now s g true past later r st =
    subst (Kept ps start now s) (sym r.3)
    (lines-stay ps start now s g r.1 (Told g r.0 ∷ past) r.2 (stays ps start past (Told g r.0) now s (λ d. refl) refl refl st))

pub reads-stay : (ps : List Peer) (start : Devices) (now : Option DockHeld) (s : Session) (n : ℕ) (past later : List Item)
    → AreRead ps n past later
    → Kept ps start now s past → Kept ps start now s later
reads-stay ps start now s zero past later e st = subst (Kept ps start now s) (sym e) st
reads-stay ps start now s (suc n) past later r st =
    let before = reads-stay ps start now s n past r.0 r.1 st in
    let read = r.2 in
    told-stays ps start now s n (is_open ps n read.0) read.0 later read.2
    (heard-stays ps start now s n (is_open ps n r.0) r.0 read.0 read.1 before)
