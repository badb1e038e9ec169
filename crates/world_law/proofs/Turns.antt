-- What a gateway does at an event makes of the world that stands for a past the one that stands for the past with its block.
use Rattle.std.proofs.Common.{◌≡◌, ℕ, true, false, List, [], ◌∷◌, ◌++◌, map, Option, Some, None, refl, sym, ◌∙◌, ap, subst}
use Rattle.std.specs.Prelude.{find}
use Rattle.std.specs.Option.{option_map}
use Rattle.std.specs.Str.{bytes_eq}
use Rattle.ikeless_tree.specs.declared.command.Peer.{Peer}
use Rattle.ikeless_tree.specs.declared.order.Lane.{Lane}
use Rattle.ikeless_tree.specs.declared.order.Lane.TheVariants as lanes
use Rattle.hist_acts.specs.declared.act.Act.{Act}
use Rattle.hist_acts.specs.declared.act.Act.TheVariants as acts
use Rattle.hist_acts.specs.declared.event.Header.{Header}
use Rattle.hist_acts.specs.Past.{after, clock, events_taken}
use Rattle.hist_gateway.specs.Block as node
use Rattle.hist_gateway.specs.State.{state_of}
use Rattle.hist_gateway.proofs.KeepsLemmas.{same-refl}
use Rattle.hist_safety.proofs.Basics.{if-new}
use Rattle.session_pipe.specs.Past.{is_at}
use Rattle.session_pipe.specs.Sessions.{KeepsSessions}
use Rattle.session_pipe.specs.UnderWay.{UnderWay, after_boot, no_session}
use Rattle.hist_sessions.proofs.Pipes.{pipe-follows}
use Rattle.hist_world.specs.Block.{at_gateway, boots, gateway_at, with_peer}
use Rattle.hist_wire.specs.Wire.{first_octets, line_at, pipe_at, request_at, response_at, shown_at, under_way}
use Rattle.gw_tables.specs.Kept.{Kept}
use Rattle.gw_packets.specs.Inbound.{arrive}
use Rattle.gw_packets.specs.Outbound.{let_in}
use Rattle.gw_requests.specs.Requests.{Outcome}
use Rattle.gw_core.specs.Machine.{Arrive, Event, Let}
use Rattle.gw_law.specs.Told.{kept_of, naming_of}
use Rattle.gw_law.specs.Orderly.{IsOrderly}
use Rattle.gw_law.proofs.Runs.{kept-restarted}
use Rattle.gw_history.specs.Told.{event_of, step_told}
use Rattle.ctl_core.specs.Core.{Core}
use Rattle.world_steps.specs.Nodes.{Node, acts_told, after_event, all_sent, naming, outcome, restarted}
use Rattle.world_steps.specs.Worlds.{node_at, placed, with_node}
use Rattle.world_steps.specs.Steps.{boot_at, did, let_at, pipe_of, stepped_at, wire_at}
use Rattle.world_law.specs.Stands.{node_of, sent}
use Rattle.world_law.proofs.Frames.{AreApart, all-away, find-node, found-name, is_of, node-away, node_with, nodes-away, placed-is, standing}
use Rattle.world_law.proofs.Blocks.{Law, are_plain, block-is, clock-told, node-told, of-told, own_gateway, plain-done, sent-told, taken-told}

-- what holds of the past that an event finds
pub record Ready (header : Header) (h : List Act) : Type 0 where
  pub apart : AreApart header.gateways
  pub order : (g : List ℕ) → IsOrderly (state_of g h)
  pub named : (p : Peer) → naming (node_of header h p) ≡ naming_of p.name (state_of p.name h)

-- the gateway of this name is this one
abbrev pub IsFound : Header → List ℕ → Peer → Type 0
IsFound header g p = find (λ q. bytes_eq q.name g) header.gateways ≡ Some p

-- ---- one gateway does something

-- these acts are none of other gateways
abbrev pub LeaveOthers : Header → List Act → List Act → Peer → Type 0
LeaveOthers header h xs p = (q : Peer) → bytes_eq p.name q.name ≡ false → node_of header (after h xs) q ≡ node_of header h q

-- so the world is that of the past with them
pub moved : (header : Header) (h xs : List Act) (core : Core) (p : Peer) (n : Node) (all : List (List ℕ)) → AreApart header.gateways
    → IsFound header p.name p
    → n ≡ node_of header (after h xs) p → LeaveOthers header h xs p → all ≡ sent (after h xs) → clock h ≡ clock (after h xs)
    → events_taken h ≡ events_taken (after h xs)
    → record (with_node n (standing header h core)) { sent = all } ≡ standing header (after h xs) core
moved header h xs core p n all apart found is others sends reads counts =
    let in_place : placed n (map (node_of header h) header.gateways) ≡ map (node_of header (after h xs)) header.gateways =
    ap (λ (z : Node). placed z (map (node_of header h) header.gateways)) is
    ∙ placed-is header h (after h xs) p header.gateways apart found others in
    (λ i. record { nodes = in_place i; controller = core; sent = sends i; clock = reads i; taken = counts i })

-- ---- a packet and a datagram

-- the event has an act of its own, that is none of sessions
pub record HasAct (header : Header) (h : List Act) (p : Peer) (e : Event) (a : Act) : Type 0 where
  pub acts : step_told (naming (node_of header h p)) e (outcome (node_of header h p) e)
      ≡ a ∷ acts_told (node_of header h p) (outcome (node_of header h p) e).acts
  pub plain : are_plain (outcome (node_of header h p) e).acts ≡ true
  pub away : is_at p.name a ≡ false
  pub counts : (kept : Kept) (pipe : UnderWay) → node_with kept pipe header (a ∷ h) p ≡ node_with kept pipe header h p
  pub own : (g : List ℕ) → is_of g a ≡ bytes_eq p.name g
  pub reads : clock (a ∷ h) ≡ clock h
  pub taken : events_taken (a ∷ h) ≡ events_taken h
  pub sends : sent (a ∷ h) ≡ sent h

pub event-turn : Law → (header : Header) (h : List Act) (core : Core) (p : Peer) (e : Event) (a : Act) → HasAct header h p e a
    → Ready header h → IsFound header p.name p
    → KeepsSessions (after h (node.gw_block (own_gateway header p) h (event_of e)))
    → did (a ∷ acts_told (node_of header h p) (outcome (node_of header h p) e).acts)
    (stepped_at e (node_of header h p) (standing header h core))
    ≡ did (node.gw_block (own_gateway header p) h (event_of e))
    (standing header (after h (node.gw_block (own_gateway header p) h (event_of e))) core)
event-turn law header h core p e a has ready found keeps =
    let n : Node = node_of header h p in
    let out : Outcome = outcome n e in
    let xs : List Act = a ∷ acts_told n out.acts in
    let b = block-is law header h p e (ready.order p.name) (ready.named p) in
    let block : xs ≡ node.gw_block (own_gateway header p) h (event_of e) = sym has.acts ∙ b.acts in
    let kept : out.kept ≡ kept_of (state_of p.name (after h xs)) = b.kept ∙ ap (λ z. kept_of (state_of p.name (after h z))) (sym block) in
    let later : KeepsSessions (after h xs) = subst (λ z. KeepsSessions (after h z)) (sym block) keeps in
    let is : after_event e n ≡ node_of header (after h xs) p = node-told header h p a out has.plain has.away has.counts later kept in
    let others : LeaveOthers header h xs p =
    λ q o. nodes-away header (acts_told n out.acts) (a ∷ h) q (of-told (naming n) out.acts q.name o)
    ∙ node-away header a h q (has.own q.name ∙ o) in
    let sends : sent h ++ all_sent out.acts ≡ sent (after h xs) =
    ap (λ z. z ++ all_sent out.acts) (sym has.sends) ∙ sym (sent-told (naming n) out.acts (a ∷ h)) in
    let reads : clock h ≡ clock (after h xs) = sym (clock-told (naming n) out.acts (a ∷ h) ∙ has.reads) in
    let counts : events_taken h ≡ events_taken (after h xs) = sym (taken-told (naming n) out.acts (a ∷ h) ∙ has.taken) in
    ap (did xs) (moved header h xs core p (after_event e n) (sent h ++ all_sent out.acts) ready.apart found is others sends reads counts)
    ∙ ap (λ zs. did zs (standing header (after h zs) core)) block

let-has : (header : Header) (h : List Act) (p : Peer) (o : List ℕ) → HasAct header h p (Let o) (acts.Let p.name o)
let-has header h p o = record {
  acts = refl;
  plain = plain-done (let_in header.seq_last o (kept_of (state_of p.name h))).done;
  away = refl;
  counts = λ kept pipe. refl;
  own = λ g. refl;
  reads = refl;
  taken = refl;
  sends = refl;
}

pub arrive-has : (header : Header) (h : List Act) (p : Peer) (o : List ℕ) → HasAct header h p (Arrive o) (acts.Arrived p.name o)
arrive-has header h p o = record {
  acts = refl;
  plain = plain-done (arrive p.address o (kept_of (state_of p.name h))).done;
  away = refl;
  counts = λ kept pipe. refl;
  own = λ g. refl;
  reads = refl;
  taken = refl;
  sends = refl;
}

-- at the gateway of a name, where there is one
abbrev pub LetTurn : Header → List Act → Core → List ℕ → List ℕ → Option Peer → Type 0
LetTurn header h core g o q =
    KeepsSessions (after h (at_gateway h (node.Let o) (with_peer header g q)))
    → let_at o (standing header h core) (option_map (node_of header h) q)
    ≡ did (at_gateway h (node.Let o) (with_peer header g q)) (standing header
    (after h (at_gateway h (node.Let o) (with_peer header g q))) core)

let-case : Law → (header : Header) (h : List Act) (core : Core) (g o : List ℕ) (q : Option Peer) → Ready header h
    → find (λ p. bytes_eq p.name g) header.gateways ≡ q → LetTurn header h core g o q
let-case law header h core g o None ready e keeps = refl
let-case law header h core g o (Some p) ready e keeps =
    subst (λ z. IsFound header z p → LetTurn header h core z o (Some p)) (found-name g p header.gateways e)
    (λ found later. event-turn law header h core p (Let o) (acts.Let p.name o) (let-has header h p o) ready found later) e keeps

pub let-turn : Law → (header : Header) (h : List Act) (core : Core) (g o : List ℕ) → Ready header h
    → KeepsSessions (after h (at_gateway h (node.Let o) (gateway_at header g)))
    → let_at o (standing header h core) (node_at g (standing header h core))
    ≡ did (at_gateway h (node.Let o) (gateway_at header g)) (standing header
    (after h (at_gateway h (node.Let o) (gateway_at header g))) core)
let-turn law header h core g o ready keeps =
    ap (let_at o (standing header h core)) (find-node header h g header.gateways)
    ∙ let-case law header h core g o (find (λ p. bytes_eq p.name g) header.gateways) ready refl keeps

-- ---- a restart

abbrev pub BootTurn : Header → List Act → Core → List ℕ → Option Peer → Type 0
BootTurn header h core g q =
    KeepsSessions h
    → boot_at (standing header h core) (option_map (node_of header h) q)
    ≡ did (boots g (with_peer header g q)) (standing header (after h (boots g (with_peer header g q))) core)

booted-node : (header : Header) (h : List Act) (p : Peer) → KeepsSessions h
    → restarted (clock h) (node_of header h p) ≡ node_of header (acts.Boot p.name ∷ h) p
booted-node header h p keeps =
    let k : List Act = acts.Boot p.name ∷ h in
    let own = same-refl p.name in
    let u : UnderWay = pipe_at p.name p.address h in
    let pipe : after_boot u ≡ pipe_at p.name p.address k =
    sym (if-new (bytes_eq p.name p.name) (after_boot u) u own)
    ∙ pipe-follows (request_at p.address) (response_at p.name) line_at p.name h (acts.Boot p.name ∷ []) (tt, keeps) in
    let counts : (kept : Kept) (pipe : UnderWay) → record (node_with kept pipe header h p) {
      handled =
          0;
    } ≡ node_with kept pipe header k p = λ kept pipe. rw own refl in
    ap (λ z. record (node_with z (after_boot u) header h p) { handled = 0 }) (sym (kept-restarted p.name h))
    ∙ (ap (λ z. record (node_with (kept_of (state_of p.name k)) z header h p) { handled = 0 }) pipe
    ∙ counts (kept_of (state_of p.name k)) (pipe_at p.name p.address k))

boot-some : (header : Header) (h : List Act) (core : Core) (p : Peer) → Ready header h → IsFound header p.name p
    → BootTurn header h core p.name (Some p)
boot-some header h core p ready found keeps =
    let xs : List Act = acts.Boot p.name ∷ [] in
    let others : LeaveOthers header h xs p = λ q o. node-away header (acts.Boot p.name) h q o in
    ap (did xs) (moved header h xs core p (restarted (clock h) (node_of header h p)) (sent h) ready.apart found
    (booted-node header h p keeps) others refl refl refl)

boot-case : (header : Header) (h : List Act) (core : Core) (g : List ℕ) (q : Option Peer) → Ready header h
    → find (λ p. bytes_eq p.name g) header.gateways ≡ q → BootTurn header h core g q
boot-case header h core g None ready e keeps = refl
boot-case header h core g (Some p) ready e keeps =
    subst (λ z. IsFound header z p → BootTurn header h core z (Some p)) (found-name g p header.gateways e)
    (λ found later. boot-some header h core p ready found later) e keeps

pub boot-turn : (header : Header) (h : List Act) (core : Core) (g : List ℕ) → Ready header h → KeepsSessions h
    → boot_at (standing header h core) (node_at g (standing header h core))
    ≡ did (boots g (gateway_at header g)) (standing header (after h (boots g (gateway_at header g))) core)
boot-turn header h core g ready keeps =
    ap (boot_at (standing header h core)) (find-node header h g header.gateways)
    ∙ boot-case header h core g (find (λ p. bytes_eq p.name g) header.gateways) ready refl keeps

-- ---- what is under way is shown

none-shown : (lane : Lane) → first_octets lane no_session ≡ []
none-shown lanes.Down = refl
none-shown lanes.Up = refl
none-shown lanes.Note = refl

shown-case : (header : Header) (h : List Act) (g : List ℕ) (lane : Lane) (q : Option Peer)
    → find (λ p. bytes_eq p.name g) header.gateways ≡ q
    → first_octets lane (pipe_of (option_map (node_of header h) q)) ≡ shown_at g lane h (with_peer header g q)
shown-case header h g lane None e = none-shown lane
shown-case header h g lane (Some p) e = ap (λ z. first_octets lane (pipe_at z p.address h)) (found-name g p header.gateways e)

pub wire-turn : (header : Header) (h : List Act) (core : Core) (g : List ℕ) (lane : Lane)
    → wire_at g lane (standing header h core) (node_at g (standing header h core))
    ≡ did (acts.Wire g lane (under_way header g lane h) ∷ []) (standing header (acts.Wire g lane (under_way header g lane h) ∷ h) core)
wire-turn header h core g lane =
    let shown : first_octets lane (pipe_of (node_at g (standing header h core))) ≡ under_way header g lane h =
    ap (λ z. first_octets lane (pipe_of z)) (find-node header h g header.gateways)
    ∙ shown-case header h g lane (find (λ p. bytes_eq p.name g) header.gateways) refl in
    let a : Act = acts.Wire g lane (under_way header g lane h) in
    let same : map (node_of header h) header.gateways ≡ map (node_of header (a ∷ h)) header.gateways =
    sym (all-away header a h header.gateways (λ p. refl)) in
    ap (λ z. did (acts.Wire g lane z ∷ []) (standing header h core)) shown
    ∙ (λ i. did (a ∷ []) (record { nodes = same i; controller = core; sent = sent h; clock = clock h; taken = events_taken h }))
