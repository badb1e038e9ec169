-- A datagram that arrives, a new one or one that was sent, makes of the world that stands for a past the one that stands for the past
-- with its block, unless it is forged.
use Rattle.std.proofs.Common.{◌≡◌, ℕ, zero, suc, ◌+◌, ◌-◌, ◌==◌, Bool, true, false, List, [], ◌∷◌, ◌++◌, length, Option, Some, None, slice_get, refl, sym, ◌∙◌, ap, subst, arith, if◌then◌else◌}
use Rattle.std.specs.Prelude.{find, unwrap_or}
use Rattle.std.specs.Option.{option_map}
use Rattle.std.specs.Str.{bytes_eq}
use Rattle.ikeless_tree.specs.declared.command.Peer.{Peer}
use Rattle.hist_acts.specs.declared.act.Act.{Act}
use Rattle.hist_acts.specs.declared.act.Act.TheVariants as acts
use Rattle.hist_acts.specs.declared.event.Header.{Header}
use Rattle.hist_acts.specs.Past.{after}
use Rattle.hist_gateway.specs.Block as node
use Rattle.hist_safety.specs.Law.{IsLawful}
use Rattle.session_pipe.specs.Sessions.{KeepsSessions}
use Rattle.hist_world.specs.Arrivals.{is_forged, sent_at, sent_count}
use Rattle.hist_world.specs.Block.{arrives_at, gateway_at, is_forgery, with_peer}
use Rattle.gw_core.specs.Machine.{Arrive}
use Rattle.ctl_core.specs.Core.{Core}
use Rattle.world_steps.specs.Nodes.{acts_told, outcome}
use Rattle.world_steps.specs.Worlds.{datagram, node_at}
use Rattle.world_steps.specs.Steps.{Done, arrive_at, did, forged_at, stepped_at}
use Rattle.world_law.specs.Stands.{node_of, sent}
use Rattle.world_law.proofs.Frames.{find-node, found-name, standing}
use Rattle.world_law.proofs.Blocks.{Law, own_gateway}
use Rattle.world_law.proofs.Turns.{IsFound, Ready, arrive-has, event-turn}
use Rattle.world_law.proofs.Forged.{forged-is}

-- ---- the datagrams sent

sent-length : (h : List Act) → length (sent h) ≡ sent_count h
sent-length [] = refl
sent-length (acts.Sent f y n o ∷ h) = let ih = sent-length h in let e = length-end (sent h) o in omega (arith, ih, e) where
  length-end : (os : List (List ℕ)) (o : List ℕ) → length (os ++ o ∷ []) ≡ length os + 1
  length-end [] o = refl
  length-end (p ∷ os) o = let e = length-end os o in omega (arith, e)
sent-length (a ∷ h) = sent-length h

last-got : (os : List (List ℕ)) (o : List ℕ) → slice_get (os ++ o ∷ []) (length os) ≡ Some o
last-got [] o = refl
last-got (p ∷ os) o = last-got os o

other-got : (os : List (List ℕ)) (o : List ℕ) (i : ℕ) → (i == length os) ≡ false → slice_get (os ++ o ∷ []) i ≡ slice_get os i
other-got [] o zero e = absurd (grind (arith, e))
other-got [] o (suc i) e = refl
other-got (p ∷ os) o zero e = refl
other-got (p ∷ os) o (suc i) e = other-got os o i (grind (arith, e))

-- the last one, and those before it
last-is : (k n : ℕ) → (k == n + 1) ≡ true → ((k == 0) ≡ false) × (k - 1 ≡ n)
last-is k n e = (grind (arith, e), grind (arith, e))

other-is : (k n : ℕ) → (k == 0) ≡ false → (k == n + 1) ≡ false → (k - 1 == n) ≡ false
other-is k n z e = grind (arith, z, e)

datagram-last : (h : List Act) (o : List ℕ) (k : ℕ) → (k == sent_count h + 1) ≡ true → datagram k (sent h ++ o ∷ []) ≡ o
datagram-last h o k e =
    let i = last-is k (sent_count h) e in
    let z = i.0 in
    let n : k - 1 ≡ length (sent h) = i.1 ∙ sym (sent-length h) in
    rw z (ap (λ j. unwrap_or (slice_get (sent h ++ o ∷ []) j) []) n ∙ ap (λ r. unwrap_or r []) (last-got (sent h) o))

datagram-other : (h : List Act) (o : List ℕ) (k : ℕ) (b : Bool) → (k == 0) ≡ b → (k == sent_count h + 1) ≡ false
    → (if b then [] else unwrap_or (slice_get (sent h ++ o ∷ []) (k - 1)) [])
    ≡ (if b then [] else unwrap_or (slice_get (sent h) (k - 1)) [])
datagram-other h o k true z e = refl
datagram-other h o k false z e =
    let n : (k - 1 == length (sent h)) ≡ false = ap (λ m. k - 1 == m) (sent-length h) ∙ other-is k (sent_count h) z e in
    ap (λ r. unwrap_or r []) (other-got (sent h) o (k - 1) n)

none-sent : (k : ℕ) (b : Bool) → (if b then [] else unwrap_or (slice_get {X = List ℕ} [] (k - 1)) []) ≡ []
none-sent k true = refl
none-sent k false = refl

pub datagram-is : (k : ℕ) (h : List Act) → datagram k (sent h) ≡ sent_at k h
datagram-is k [] = none-sent k (k == 0)
datagram-is k (acts.Sent f y n o ∷ h) = by-number (k == sent_count h + 1) refl (datagram-is k h) where
  by-number : (b : Bool) → (k == sent_count h + 1) ≡ b → datagram k (sent h) ≡ sent_at k h
      → datagram k (sent h ++ o ∷ []) ≡ (if b then o else sent_at k h)
  by-number true e ih = datagram-last h o k e
  by-number false e ih = datagram-other h o k (k == 0) refl e ∙ ih
datagram-is k (a ∷ h) = datagram-is k h

-- ---- the arrival

-- what is done where the event is forged or not
abbrev pub turned : Header → List Act → Core → List Act → Bool → Done
turned header h core xs true = record { acts = xs; world = standing header h core; is_forged = true }
turned header h core xs false = did xs (standing header (after h xs) core)

abbrev pub ArriveTurn : Header → List Act → Core → List ℕ → List ℕ → Option Peer → Type 0
ArriveTurn header h core g o q =
    KeepsSessions (after h (arrives_at h o (with_peer header g q)))
    → arrive_at o (standing header h core) (option_map (node_of header h) q)
    ≡ turned header h core (arrives_at h o (with_peer header g q)) (is_forgery h o (with_peer header g q))

-- a datagram that isn't forged
abbrev genuine : Header → List Act → Core → List ℕ → Peer → Done
genuine header h core o p =
    did (acts.Arrived p.name o ∷ acts_told (node_of header h p) (outcome (node_of header h p) (Arrive o)).acts)
    (stepped_at (Arrive o) (node_of header h p) (standing header h core))

by-test : Law → (header : Header) (h : List Act) (core : Core) (o : List ℕ) (p : Peer) (b : Bool) → Ready header h → IsFound header p.name p
    → KeepsSessions (after h (if b then acts.Arrived p.name o ∷ [] else node.gw_block (own_gateway header p) h (node.Arrive o)))
    → (if b then forged_at o (standing header h core) (node_of header h p) else genuine header h core o p)
    ≡ turned header h core (if b then acts.Arrived p.name o ∷ [] else node.gw_block (own_gateway header p) h (node.Arrive o)) b
by-test law header h core o p true ready found keeps = refl
by-test law header h core o p false ready found keeps =
    event-turn law header h core p (Arrive o) (acts.Arrived p.name o) (arrive-has header h p o) ready found keeps

arrive-some : Law → (header : Header) (h : List Act) (core : Core) (o : List ℕ) (p : Peer) → Ready header h → IsLawful header.gateways h
    → IsFound header p.name p
    → ArriveTurn header h core p.name o (Some p)
arrive-some law header h core o p ready lawful found keeps =
    ap (λ b. if b then forged_at o (standing header h core) (node_of header h p) else genuine header h core o p)
    (forged-is law header h p o ready lawful)
    ∙ by-test law header h core o p (is_forged p.name p.address h o) ready found keeps

arrive-case : Law → (header : Header) (h : List Act) (core : Core) (g o : List ℕ) (q : Option Peer) → Ready header h
    → IsLawful header.gateways h
    → find (λ p. bytes_eq p.name g) header.gateways ≡ q → ArriveTurn header h core g o q
arrive-case law header h core g o None ready lawful e keeps = refl
arrive-case law header h core g o (Some p) ready lawful e keeps =
    subst (λ z. IsFound header z p → ArriveTurn header h core z o (Some p)) (found-name g p header.gateways e)
    (λ found later. arrive-some law header h core o p ready lawful found later) e keeps

pub arrive-turn : Law → (header : Header) (h : List Act) (core : Core) (g o : List ℕ) → Ready header h → IsLawful header.gateways h
    → KeepsSessions (after h (arrives_at h o (gateway_at header g)))
    → arrive_at o (standing header h core) (node_at g (standing header h core))
    ≡ turned header h core (arrives_at h o (gateway_at header g)) (is_forgery h o (gateway_at header g))
arrive-turn law header h core g o ready lawful keeps =
    ap (arrive_at o (standing header h core)) (find-node header h g header.gateways)
    ∙ arrive-case law header h core g o (find (λ p. bytes_eq p.name g) header.gateways) ready lawful refl keeps
