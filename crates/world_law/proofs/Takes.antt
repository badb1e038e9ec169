-- What a gateway tells at an event can be written, and the request that it takes is that of its next order: each event of a gateway can
-- be taken.
use Rattle.std.proofs.Common.{◌≡◌, ℕ, ◌+◌, ◌-◌, ◌<◌, ◌^◌, ◌≤◌, Bool, true, false, nat_lt, max, List, [], ◌∷◌, All, map, Option, Some, None, Ok, refl, sym, subst, arith}
use Rattle.std.proofs.lemmas.List.Elements.{All-cons, All-nil, recursion_from_All}
use Rattle.std.specs.Prelude.{find}
use Rattle.std.specs.List.{AllByRecursion}
use Rattle.std.specs.Option.{option_map}
use Rattle.std.specs.Str.{bytes_eq}
use Rattle.ip_packet.specs.Ttl.{with_ttl}
use Rattle.ikl_base.specs.declared.address.Addr.{Addr}
use Rattle.ikeless_tree.specs.Typed.{AreOctets}
use Rattle.ikeless_tree.specs.declared.command.Peer.{Peer}
use Rattle.ikeless_tree.specs.declared.order.Lane.TheVariants as lanes
use Rattle.ikeless_tree.specs.declared.order.Order.{Order}
use Rattle.reply_table.specs.Order.{ask_of}
use Rattle.reply_table.specs.Reply.{reply}
use Rattle.rc_http.specs.Written.{IsWritableRequest, IsWritableResponse, request_text}
use Rattle.rc_request.specs.Requests.{request_of}
use Rattle.rc_resource.specs.Messages.{IsOrder, order_message, reply_message}
use Rattle.rc_resource.specs.Replies.{reply_of}
use Rattle.line_words.specs.Spelling.{IsKnown}
use Rattle.event_lines.specs.Spelling.{IsEvent, IsEventUnder}
use Rattle.hist_acts.specs.declared.act.Act.{Act}
use Rattle.hist_acts.specs.declared.act.Act.TheVariants as acts
use Rattle.hist_acts.specs.declared.event.Event.{Event}
use Rattle.hist_acts.specs.declared.event.Event.TheVariants as events
use Rattle.hist_acts.specs.declared.event.Header.{Header}
use Rattle.hist_acts.specs.Past.{clock, events_taken}
use Rattle.hist_acts.specs.Sessions.{next_request}
use Rattle.hist_halves.specs.Halves.{live}
use Rattle.hist_gateway.specs.Arrive.{arrive_acts}
use Rattle.hist_gateway.specs.Let.{let_acts}
use Rattle.hist_gateway.specs.Look.{look}
use Rattle.hist_gateway.specs.Rows.{tree_of}
use Rattle.hist_world.specs.Arrivals.{flipped, sent_at}
use Rattle.hist_world.specs.Block.{Past, took}
use Rattle.session_pipe.specs.UnderWay.{next_message}
use Rattle.hist_wire.specs.Wire.{pipe_at}
use Rattle.gw_core.specs.Machine.{Arrive, Clock, Let}
use Rattle.acts_spell.proofs.Found.{clock-small}
use Rattle.acts_spell.specs.Spelled.{IsSpelled, IsSpelledHeader}
use Rattle.ctl_core.specs.Core.{Core}
use Rattle.world_steps.specs.Nodes.{outcome}
use Rattle.world_steps.specs.Worlds.{World, datagram, node_at}
use Rattle.world_steps.specs.Conditions.{Asks, CanTake, IsWritten, TellsAt, at}
use Rattle.world_law.specs.Stands.{StandsFor, found, node_of, sent}
use Rattle.world_law.proofs.Frames.{find-node, found-name, standing, standing-is}
use Rattle.world_law.proofs.Arrivals.{datagram-is}
use Rattle.world_law.proofs.Blocks.{Law}
use Rattle.world_law.proofs.Clocks.{looked, read}
use Rattle.world_law.proofs.Gateways.{IsGatewayEvent, ready-took}
use Rattle.world_law.proofs.Tells.{arrive-written, clock-written, handle-written, let-written}
use Rattle.world_law.proofs.Turns.{Ready}

-- ---- what the crates below show of acts and of texts

abbrev pub AreSpelled : List Peer → List Act → Type 0
AreSpelled gs h = AllByRecursion (IsSpelled gs) h

-- the acts of a gateway are spelled where those before them are
pub record Spells : Type 0 where
  pub lets : (gs : List Peer) (g o : List ℕ) (seq_last : ℕ) (h : List Act) → IsKnown gs g → AreOctets o → seq_last < 2 ^ 32
      → AreSpelled gs h → AreSpelled gs (let_acts g seq_last h o)
  pub arrivals : (gs : List Peer) (g o : List ℕ) (own : Addr) (h : List Act) → IsKnown gs g → AreOctets o → AreSpelled gs h
      → AreSpelled gs (arrive_acts g own h o)
  pub looks : (gs : List Peer) (g : List ℕ) (h : List Act) → IsKnown gs g → AreSpelled gs h → AreSpelled gs (look g h (live g h))
  pub sent : (gs : List Peer) (k : ℕ) (h : List Act) → AreSpelled gs h → AreOctets (sent_at k h)
  pub flips : (offset bit : ℕ) (o : List ℕ) → bit ≤ 7 → AreOctets o → AreOctets (flipped offset bit o)
  pub times : (ttl : ℕ) (o : List ℕ) → ttl < 256 → AreOctets o → AreOctets (with_ttl ttl o)

-- the next request of a gateway is that of its next order, and so is its reply
pub record Requests (header : Header) (p : Past) : Type 0 where
  pub none : (q : Peer) → next_request q.name p.world ≡ None → next_message lanes.Down (pipe_at q.name q.address p.world) ≡ None
  pub next : (q : Peer) (o : Order) → next_request q.name p.world ≡ Some o
      → next_message lanes.Down (pipe_at q.name q.address p.world) ≡ Some (request_text (order_message q.address o))
  pub order : (q : Peer) (o : Order) → next_request q.name p.world ≡ Some o → IsOrder o
  pub writable : (q : Peer) (o : Order) → find (λ r. bytes_eq r.name q.name) header.gateways ≡ Some q → next_request q.name p.world ≡ Some o
      → IsWritableRequest (order_message q.address o)
  pub asks : (q : Peer) (o : Order) → next_request q.name p.world ≡ Some o → request_of (order_message q.address o) ≡ Ok (ask_of o)
  pub reply : (q : Peer) (o : Order) → next_request q.name p.world ≡ Some o
      → IsWritableResponse (reply_message (reply_of (reply (tree_of q.name p.world) (ask_of o))))

-- ---- the past with the number of the event

small-number : (n : ℕ) → n < 2 ^ 32 - 1 → n + 1 < 2 ^ 64
small-number n l = omega (arith, l)

took-spelled : (header : Header) (p : Past) (w : World) → StandsFor header p w → w.taken < 2 ^ 32 - 1
    → AreSpelled header.gateways (took p.world)
took-spelled header p w s few =
    let low : events_taken p.world < 2 ^ 32 - 1 = subst (λ (n : ℕ). n < 2 ^ 32 - 1) s.taken few in
    ((tt, small-number (events_taken p.world) low), recursion_from_All (IsSpelled header.gateways) p.world s.told.spelled)

-- ---- each event

abbrev world_at : Header → Past → Core → World
world_at header p core = standing header p.world core

let-told : Law → Spells → (header : Header) (p : Past) (g o : List ℕ) (q : Option Peer) → Ready header (took p.world)
    → header.seq_last < 2 ^ 32 → AreSpelled header.gateways (took p.world)
    → find (λ r. bytes_eq r.name g) header.gateways ≡ q → IsKnown header.gateways g → AreOctets o
    → TellsAt (Let o) (option_map (node_of header p.world) q)
let-told law spells header p g o None ready low spelled e known octets = tt
let-told law spells header p g o (Some q) ready low spelled e known octets =
    let own : IsKnown header.gateways q.name = subst (IsKnown header.gateways) (sym (found-name g q header.gateways e)) known in
    let-written law header (took p.world) q o ready (spells.lets header.gateways q.name o header.seq_last
    (acts.Let q.name o ∷ took p.world) own octets low ((own, octets), spelled))

arrive-told : Law → Spells → (header : Header) (p : Past) (g o : List ℕ) (q : Option Peer) → Ready header (took p.world)
    → AreSpelled header.gateways (took p.world)
    → find (λ r. bytes_eq r.name g) header.gateways ≡ q → IsKnown header.gateways g → AreOctets o
    → TellsAt (Arrive o) (option_map (node_of header p.world) q)
arrive-told law spells header p g o None ready spelled e known octets = tt
arrive-told law spells header p g o (Some q) ready spelled e known octets =
    let own : IsKnown header.gateways q.name = subst (IsKnown header.gateways) (sym (found-name g q header.gateways e)) known in
    arrive-written law header (took p.world) q o ready (spells.arrivals header.gateways q.name o q.address
    (acts.Arrived q.name o ∷ took p.world) own octets ((own, octets), spelled))

-- at the gateway of the name
arrive-at : Law → Spells → (header : Header) (p : Past) (core : Core) (g o : List ℕ) → Ready header (took p.world)
    → AreSpelled header.gateways (took p.world) → IsKnown header.gateways g → AreOctets o
    → TellsAt (Arrive o) (node_at g (world_at header p core))
arrive-at law spells header p core g o ready spelled known octets =
    subst (TellsAt (Arrive o)) (sym (find-node header p.world g header.gateways))
    (arrive-told law spells header p g o (find (λ r. bytes_eq r.name g) header.gateways) ready spelled refl known octets)

-- a datagram that was sent
again-at : Law → Spells → (header : Header) (p : Past) (core : Core) (g : List ℕ) (k : ℕ) (f : List ℕ → List ℕ)
    → Ready header (took p.world) → AreSpelled header.gateways (took p.world)
    → IsKnown header.gateways g → (AreOctets (sent_at k p.world) → AreOctets (f (sent_at k p.world)))
    → TellsAt (Arrive (f (datagram k (sent p.world)))) (node_at g (world_at header p core))
again-at law spells header p core g k f ready spelled known octets =
    subst (λ (o : List ℕ). TellsAt (Arrive (f o)) (node_at g (world_at header p core))) (sym (datagram-is k p.world))
    (arrive-at law spells header p core g (f (sent_at k p.world)) ready spelled known
    (octets (spells.sent header.gateways k p.world spelled.1)))

raised-spelled : Spells → (gs : List Peer) (g : List ℕ) (h : List Act) (b : Bool) → IsKnown gs g → AreSpelled gs h
    → AreSpelled gs (looked b g h)
raised-spelled spells gs g h true known spelled = spells.looks gs g h known spelled
raised-spelled spells gs g h false known spelled = tt

clock-told : Law → Spells → (header : Header) (p : Past) (t : ℕ) (ps : List Peer) → Ready header (took p.world)
    → AreSpelled header.gateways (read (took p.world) t)
    → AllByRecursion (λ q. IsKnown header.gateways q.name) ps
    → All (λ n. All IsWritten (outcome n (Clock t)).acts) (map (node_of header p.world) ps)
clock-told law spells header p t [] ready spelled known = All-nil (λ n. All IsWritten (outcome n (Clock t)).acts)
clock-told law spells header p t (q ∷ ps) ready spelled known =
    let b : Bool = nat_lt (clock p.world) t in
    All-cons (λ n. All IsWritten (outcome n (Clock t)).acts) (node_of header p.world q) (map (node_of header p.world) ps)
    (clock-written law header (took p.world) q t ready (raised-spelled spells header.gateways q.name
    (read (took p.world) t) b known.0 spelled))
    (clock-told law spells header p t ps ready spelled known.1)

asks-next : (header : Header) (p : Past) (q : Peer) (o : Option Order) → Requests header p
    → find (λ r. bytes_eq r.name q.name) header.gateways ≡ Some q → next_request q.name p.world ≡ o
    → Asks (node_of header p.world q) o
asks-next header p q None requests e next = requests.none q next
asks-next header p q (Some o) requests e next = record {
  next = requests.next q o next;
  sent = record { order = requests.order q o next; writable = requests.writable q o e next };
  asks = requests.asks q o next;
  tells = handle-written header p.world q o (requests.reply q o next);
}

abbrev AsksAt : Header → Past → List ℕ → Option Peer → Type 0
AsksAt header p g q = at (λ n. Asks n (next_request g p.world)) (option_map (node_of header p.world) q)

asks-at : (header : Header) (p : Past) (g : List ℕ) (q : Option Peer) → Requests header p
    → find (λ r. bytes_eq r.name g) header.gateways ≡ q → AsksAt header p g q
asks-at header p g None requests e = tt
asks-at header p g (Some q) requests e =
    subst (λ z. find (λ r. bytes_eq r.name z) header.gateways ≡ Some q → AsksAt header p z (Some q)) (found-name g q header.gateways e)
    (λ own. asks-next header p q (next_request q.name p.world) requests own refl) e

-- ---- the whole

-- what is asked of the event, of the header and of the past
pub record CanBe (header : Header) (p : Past) (e : Event) : Type 0 where
  pub under : IsEventUnder header.gateways e
  pub typed : IsEvent e
  pub requests : Requests header p
  pub known : AllByRecursion (λ q. IsKnown header.gateways q.name) header.gateways

greater : (m n : ℕ) → m < 2 ^ 32 → n < 2 ^ 32 → max m n < 2 ^ 32
greater m n a b = grind (arith, a, b)

abbrev Takes : Header → Past → Core → Event → Type 0
Takes header p core e = CanTake (found p.world e) e (world_at header p core)

takes : Law → Spells → (header : Header) (p : Past) (core : Core) (e : Event) → IsGatewayEvent e → Ready header (took p.world)
    → header.seq_last < 2 ^ 32 → AreSpelled header.gateways (took p.world)
    → CanBe header p e → Takes header p core e
takes law spells header p core (events.Let g o) is ready low spelled can =
    subst (TellsAt (Let o)) (sym (find-node header p.world g header.gateways))
    (let-told law spells header p g o (find (λ r. bytes_eq r.name g) header.gateways) ready low spelled refl can.under can.typed)
takes law spells header p core (events.Arrive g o) is ready low spelled can =
    arrive-at law spells header p core g o ready spelled can.under can.typed
takes law spells header p core (events.ArriveSent g k) is ready low spelled can =
    again-at law spells header p core g k (λ o. o) ready spelled can.under.0 (λ octets. octets)
takes law spells header p core (events.ArriveFlip g k offset bit) is ready low spelled can =
    let few = can.under.2 in (
      omega (arith, few),
      again-at law spells header p core g k (flipped offset bit) ready spelled can.under.0
          (spells.flips offset bit (sent_at k p.world) few),
    )
takes law spells header p core (events.ArriveTtl g k ttl) is ready low spelled can =
    again-at law spells header p core g k (with_ttl ttl) ready spelled can.under.0 (spells.times ttl (sent_at k p.world) can.typed.1)
takes law spells header p core (events.Now t) is ready low spelled can =
    clock-told law spells header p t header.gateways ready (
      (
        tt,
        greater t (clock p.world) can.typed
            (clock-small header.gateways (took p.world) spelled),
      ),
      spelled,
    ) can.known
takes law spells header p core (events.Boot g) is ready low spelled can = tt
takes law spells header p core (events.Down g) is ready low spelled can =
    subst (at (λ n. Asks n (next_request g p.world))) (sym (find-node header p.world g header.gateways))
    (asks-at header p g (find (λ r. bytes_eq r.name g) header.gateways) can.requests refl)
takes law spells header p core (events.Wire g lane) is ready low spelled can = tt
takes law spells header p core (events.Open g) is ready low spelled can = absurd is
takes law spells header p core (events.Cut g) is ready low spelled can = absurd is
takes law spells header p core (events.Up g) is ready low spelled can = absurd is
takes law spells header p core (events.Note g) is ready low spelled can = absurd is
takes law spells header p core (events.Policy g list) is ready low spelled can = absurd is
takes law spells header p core (events.Tunnel spec) is ready low spelled can = absurd is
takes law spells header p core (events.End reqid) is ready low spelled can = absurd is
takes law spells header p core (events.Rekey reqid) is ready low spelled can = absurd is
takes law spells header p core (events.Keys key) is ready low spelled can = absurd is

pub gateways-can : Law → Spells → (header : Header) (p : Past) (w : World) (e : Event) → IsSpelledHeader header → IsGatewayEvent e
    → StandsFor header p w → w.taken < 2 ^ 32 - 1
    → CanBe header p e → CanTake (found p.world e) e w
gateways-can law spells header p w e i is s few can =
    subst (CanTake (found p.world e) e) (sym (standing-is header p w s))
    (takes law spells header p w.controller e is (ready-took header p w i s).0 i.sound.numbers (took-spelled header p w s few) can)
