-- Each event of a gateway: its step tells the block of the law, and leaves the world that stands for the past with it.
use Rattle.std.proofs.Common.{◌≡◌, ℕ, ◌+◌, Bool, true, false, List, [], ◌∷◌, ◌++◌, refl, sym, ◌∙◌, ap, subst, append-nil}
use Rattle.ip_packet.specs.Ttl.{with_ttl}
use Rattle.hist_acts.specs.declared.act.Act.{Act}
use Rattle.hist_acts.specs.declared.act.Act.TheVariants as acts
use Rattle.hist_acts.specs.declared.event.Event.{Event}
use Rattle.hist_acts.specs.declared.event.Event.TheVariants as events
use Rattle.hist_acts.specs.declared.event.Header.{Header}
use Rattle.hist_acts.specs.Past.{after, events_taken}
use Rattle.hist_acts.specs.Sessions.{next_request}
use Rattle.hist_controller.specs.Told.{all_told}
use Rattle.hist_safety.specs.Law.{IsLawful}
use Rattle.session_pipe.specs.Sessions.{KeepsSessions}
use Rattle.hist_sessions.proofs.Keeps.{keep-block}
use Rattle.hist_world.specs.Arrivals.{flipped, sent_at}
use Rattle.hist_world.specs.Block.{Past, arrives_at, block, controller_acts, gateway_acts, gateway_at, is_forged_event, past_after, took}
use Rattle.hist_world.specs.Stands.{Meet}
use Rattle.hist_wire.specs.Wire.{under_way}
use Rattle.ctl_law.specs.Stands as controller
use Rattle.ctl_core.specs.Core.{Core}
use Rattle.acts_spell.specs.Spelled.{IsSpelledHeader, IsTold}
use Rattle.world_steps.specs.Worlds.{World, node_at}
use Rattle.world_steps.specs.Steps.{Done, arrive_at, behind, step, taken}
use Rattle.world_law.specs.Stands.{StandsFor, found}
use Rattle.world_law.proofs.Frames.{apart-named, standing, standing-is}
use Rattle.world_law.proofs.Orderly.{naming-is, orderly}
use Rattle.world_law.proofs.Blocks.{Law}
use Rattle.world_law.proofs.Turns.{Ready, boot-turn, let-turn, wire-turn}
use Rattle.world_law.proofs.Handles.{down-turn}
use Rattle.world_law.proofs.Clocks.{now-turn}
use Rattle.world_law.proofs.Arrivals.{arrive-turn, datagram-is, turned}

-- ---- what a step has to be

-- its acts are the block of the event, it tells a forged one, and after any other it leaves a world that stands for the past after it
pub record Follows (header : Header) (p : Past) (e : Event) (d : Done) : Type 0 where
  pub acts : d.acts ≡ block (under_way header) header p e
  pub forged : d.is_forged ≡ is_forged_event header p e
  pub stands : is_forged_event header p e ≡ false → IsTold header (past_after (under_way header) header p e)
      → StandsFor header (past_after (under_way header) header p e) d.world

-- a world that stands for what happened
pub stands-by : (header : Header) (q : Past) (h : List Act) (core : Core) (w : World) → w ≡ standing header h core → h ≡ q.world
    → controller.StandsFor header.gateways q.controller core → IsTold header q → StandsFor header q w
stands-by header q h core w is same own told_so =
    subst (StandsFor header q) (sym (is ∙ ap (λ z. standing header z core) same))
    (record { nodes = refl; controller = own; sent = refl; clock = refl; taken = refl; told = told_so })

-- The event's own number comes first. Then the world is turned by these acts, and the controller is this.
pub follows-by : (header : Header) (p : Past) (w : World) (e : Event) (xs : List Act) (core : Core) (b : Bool) → StandsFor header p w
    → taken (found p.world e) e (standing header (took p.world) w.controller) ≡ turned header (took p.world) core xs b
    → block (under_way header) header p e ≡ acts.Took (events_taken p.world + 1) ∷ xs → is_forged_event header p e ≡ b
    → controller.StandsFor header.gateways (past_after (under_way header) header p e).controller core
    → Follows header p e (step (found p.world e) e w)
follows-by header p w e xs core b s turn are forged own =
    subst (Follows header p e)
    (sym (ap (step (found p.world e) e) (standing-is header p w s) ∙ ap (behind (acts.Took (events_taken p.world + 1) ∷ [])) turn))
    (by-test b forged)
  where
    by-test : (c : Bool) → is_forged_event header p e ≡ c
        → Follows header p e (behind (acts.Took (events_taken p.world + 1) ∷ []) (turned header (took p.world) core xs c))
    by-test true f = record {
      acts = sym are;
      forged = sym f;
      stands = λ n t. absurd (let u : true ≡ false = sym f ∙ n in cc);
    }
    by-test false f = record {
      acts = sym are;
      forged = sym f;
      stands = λ n t. stands-by header (past_after (under_way header) header p e) (after (took p.world) xs) core
          (standing header (after (took p.world) xs) core) refl
          (ap (after p.world) (sym are)) own t;
    }

-- ---- the gateways' events

abbrev pub IsGatewayEvent : Event → Type 0
IsGatewayEvent (events.Open g) = ⊥
IsGatewayEvent (events.Cut g) = ⊥
IsGatewayEvent (events.Up g) = ⊥
IsGatewayEvent (events.Note g) = ⊥
IsGatewayEvent (events.Policy g list) = ⊥
IsGatewayEvent (events.Tunnel spec) = ⊥
IsGatewayEvent (events.End reqid) = ⊥
IsGatewayEvent (events.Rekey reqid) = ⊥
IsGatewayEvent (events.Keys key) = ⊥
IsGatewayEvent _ = Unit {0}

-- the past with the number of the event
pub ready-took : (header : Header) (p : Past) (w : World) → IsSpelledHeader header → StandsFor header p w
    → Ready header (took p.world) × IsLawful header.gateways (took p.world)
ready-took header p w i s =
    let l : IsLawful header.gateways (took p.world) = (s.told.lawful.ready, s.told.lawful.lawful) in
    let meet : Meet header.gateways (took p.world) p.controller = record {
      part = s.told.lawful.meet.part;
      past = s.told.lawful.meet.past;
      fit = s.told.lawful.meet.fit;
    } in (
      record {
        apart = apart-named header.gateways i.sound.named;
        order = λ g. orderly header.gateways (took p.world) p.controller g l meet i.sound.named s.told.plain;
        named = λ q. naming-is header.gateways header (took p.world) q l;
      },
      l,
    )

-- what the event makes of the world
abbrev Turns : Header → Past → Core → Event → Type 0
Turns header p core e =
    KeepsSessions (after (took p.world) (gateway_acts (under_way header) header (took p.world) e))
    → taken (found p.world e) e (standing header (took p.world) core)
    ≡ turned header (took p.world) core (gateway_acts (under_way header) header (took p.world) e) (is_forged_event header p e)

-- a datagram comes again, as it was or changed
again : Law → (header : Header) (h : List Act) (core : Core) (g : List ℕ) (k : ℕ) (f : List ℕ → List ℕ) (o : List ℕ) → o ≡ f (sent_at k h)
    → Ready header h → IsLawful header.gateways h
    → KeepsSessions (after h (arrives_at h (f (sent_at k h)) (gateway_at header g)))
    → arrive_at o (standing header h core) (node_at g (standing header h core))
    ≡ turned header h core (arrives_at h (f (sent_at k h)) (gateway_at header g))
    (Rattle.hist_world.specs.Block.is_forgery h (f (sent_at k h)) (gateway_at header g))
again law header h core g k f o same r l keeps =
    ap (λ z. arrive_at z (standing header h core) (node_at g (standing header h core))) same
    ∙ arrive-turn law header h core g (f (sent_at k h)) r l keeps

turns : Law → (header : Header) (p : Past) (core : Core) (e : Event) → IsGatewayEvent e → Ready header (took p.world)
    → IsLawful header.gateways (took p.world) → KeepsSessions p.world
    → Turns header p core e
turns law header p core (events.Let g o) is r l k keeps = let-turn law header (took p.world) core g o r keeps
turns law header p core (events.Arrive g o) is r l k keeps = arrive-turn law header (took p.world) core g o r l keeps
turns law header p core (events.ArriveSent g m) is r l k keeps =
    again law header (took p.world) core g m (λ o. o) _ (datagram-is m (took p.world)) r l keeps
turns law header p core (events.ArriveFlip g m offset bit) is r l k keeps =
    again law header (took p.world) core g m (flipped offset bit) _ (ap (flipped offset bit) (datagram-is m (took p.world))) r l keeps
turns law header p core (events.ArriveTtl g m ttl) is r l k keeps =
    again law header (took p.world) core g m (with_ttl ttl) _ (ap (with_ttl ttl) (datagram-is m (took p.world))) r l keeps
turns law header p core (events.Now t) is r l k keeps = now-turn law header (took p.world) core t r keeps
turns law header p core (events.Boot g) is r l k keeps = boot-turn header (took p.world) core g r (tt, k)
turns law header p core (events.Down g) is r l k keeps =
    down-turn law header (events_taken p.world + 1) p.world core g (next_request g p.world) r refl keeps
turns law header p core (events.Wire g lane) is r l k keeps = wire-turn header (took p.world) core g lane
turns law header p core (events.Open g) is r l k keeps = absurd is
turns law header p core (events.Cut g) is r l k keeps = absurd is
turns law header p core (events.Up g) is r l k keeps = absurd is
turns law header p core (events.Note g) is r l k keeps = absurd is
turns law header p core (events.Policy g list) is r l k keeps = absurd is
turns law header p core (events.Tunnel spec) is r l k keeps = absurd is
turns law header p core (events.End reqid) is r l k keeps = absurd is
turns law header p core (events.Rekey reqid) is r l k keeps = absurd is
turns law header p core (events.Keys key) is r l k keeps = absurd is

-- the controller does nothing
record IsQuiet (header : Header) (p : Past) (e : Event) : Type 0 where
  pub none : controller_acts header p e ≡ []
  pub keeps : KeepsSessions (after p.world (block (under_way header) header p e))

quiet : (header : Header) (p : Past) (w : World) (e : Event) → IsSpelledHeader header → IsGatewayEvent e → StandsFor header p w
    → IsQuiet header p e
quiet header p w (events.Open g) i is s = absurd is
quiet header p w (events.Cut g) i is s = absurd is
quiet header p w (events.Up g) i is s = absurd is
quiet header p w (events.Note g) i is s = absurd is
quiet header p w (events.Policy g list) i is s = absurd is
quiet header p w (events.Tunnel spec) i is s = absurd is
quiet header p w (events.End reqid) i is s = absurd is
quiet header p w (events.Rekey reqid) i is s = absurd is
quiet header p w (events.Keys key) i is s = absurd is
quiet header p w e i is s =
    record { none = refl; keeps = keep-block (under_way header) header p e i.sound tt s.told.lawful s.told.sessions }

pub gateways-follow : Law → (header : Header) (p : Past) (w : World) (e : Event) → IsSpelledHeader header → IsGatewayEvent e
    → StandsFor header p w
    → Follows header p e (step (found p.world e) e w)
gateways-follow law header p w e i is s =
    let xs : List Act = gateway_acts (under_way header) header (took p.world) e in
    let q = quiet header p w e i is s in
    let r = ready-took header p w i s in
    let more : xs ++ all_told header.gateways (controller_acts header p e) ≡ xs =
    ap (λ z. xs ++ all_told header.gateways z) q.none ∙ append-nil xs in
    let are : block (under_way header) header p e ≡ acts.Took (events_taken p.world + 1) ∷ xs =
    ap (λ z. acts.Took (events_taken p.world + 1) ∷ z) more in
    let keeps : KeepsSessions (after (took p.world) xs) = subst (λ z. KeepsSessions (after (took p.world) z)) more q.keeps in
    let own : controller.StandsFor header.gateways (past_after (under_way header) header p e).controller w.controller =
    subst (λ z. controller.StandsFor header.gateways (after p.controller z) w.controller) (sym q.none) s.controller in
    follows-by header p w e xs w.controller (is_forged_event header p e) s
    (turns law header p w.controller e is r.0 r.1 s.told.sessions keeps) are refl own
