-- Each event of a script: its step tells the block of the law and whether the arrival is forged, leaves a world that stands for the past
-- with that block, and can be carried out.
use Rattle.std.proofs.Common.{◌≡◌, ℕ, ◌-◌, ◌<◌, ◌^◌, false, ◌⊎◌, inl, inr, refl, sym, ◌∙◌, subst}
use Rattle.event_lines.specs.Spelling.{IsEvent, IsEventUnder}
use Rattle.hist_acts.specs.declared.event.Event.{Event}
use Rattle.hist_acts.specs.declared.event.Event.TheVariants as events
use Rattle.hist_acts.specs.declared.event.Header.{Header}
use Rattle.hist_acts.specs.Past.{events_taken}
use Rattle.hist_world.specs.Block.{Past, is_forged_event, past_after}
use Rattle.hist_wire.specs.Wire.{under_way}
use Rattle.acts_spell.specs.Spelled.{IsSpelledEvent, IsSpelledHeader, IsTold}
use Rattle.world_steps.specs.Worlds.{World}
use Rattle.world_steps.specs.Steps.{step}
use Rattle.world_steps.specs.Conditions.{CanStep, CanTake}
use Rattle.world_law.specs.Stands.{StandsFor, found}
use Rattle.world_law.proofs.Blocks.{Law}
use Rattle.world_law.proofs.CanStep.{are-counted, are-named}
use Rattle.world_law.proofs.ControllerEvents.{IsControllers, controllers-can, controllers-follow}
use Rattle.world_law.proofs.Gateways.{Follows, IsGatewayEvent, gateways-follow}
use Rattle.world_law.proofs.Gives.{Texts}
use Rattle.world_law.proofs.Requests.{Reads, all-known, requests-of}
use Rattle.world_law.proofs.Takes.{Spells, gateways-can}

-- an event is one of a gateway or comes to the controller
whose : (e : Event) → IsGatewayEvent e ⊎ IsControllers e
whose (events.Open g) = inr tt
whose (events.Cut g) = inr tt
whose (events.Up g) = inr tt
whose (events.Note g) = inr tt
whose (events.Policy g list) = inr tt
whose (events.Tunnel spec) = inr tt
whose (events.End reqid) = inr tt
whose (events.Rekey reqid) = inr tt
whose (events.Keys key) = inr tt
whose _ = inl tt

-- none of the controller's is forged
unforged : (header : Header) (p : Past) (e : Event) → IsControllers e → is_forged_event header p e ≡ false
unforged header p (events.Let g o) c = absurd c
unforged header p (events.Arrive g o) c = absurd c
unforged header p (events.ArriveSent g k) c = absurd c
unforged header p (events.ArriveFlip g k offset bit) c = absurd c
unforged header p (events.ArriveTtl g k ttl) c = absurd c
unforged header p e c = refl

-- what holds of the past holds after an event that isn't forged
abbrev pub Tells : Type 0
Tells =
    (header : Header) (p : Past) (w : World) (e : Event) → IsSpelledHeader header → IsSpelledEvent header.gateways e
    → StandsFor header p w → w.taken < 2 ^ 32 - 1
    → is_forged_event header p e ≡ false → IsTold header (past_after (under_way header) header p e)

pub tells-by : ((header : Header) (p : Past) (e : Event) → IsSpelledHeader header → IsEventUnder header.gateways e → IsEvent e
    → IsTold header p → events_taken p.world < 2 ^ 32 - 1
    → is_forged_event header p e ≡ false → IsTold header (past_after (under_way header) header p e)) → Tells
tells-by told header p w e i v s few n = told header p e i v.0 v.1 s.told (subst (λ (k : ℕ). k < 2 ^ 32 - 1) s.taken few) n

pub follows : Law → Tells → (header : Header) (p : Past) (w : World) (e : Event) → IsSpelledHeader header → IsSpelledEvent header.gateways e
    → StandsFor header p w → w.taken < 2 ^ 32 - 1
    → Follows header p e (step (found p.world e) e w)
follows law tells header p w e i v s few =
    elim (whose e) as (λ z. Follows header p e (step (found p.world e) e w)) [
      | inl is ↦ gateways-follow law header p w e i is s
      | inr is ↦
          let none = unforged header p e is in
          let f = controllers-follow header p e w is i v.0 s (tells header p w e i v s few none) in
          record { acts = f.acts; forged = f.genuine ∙ sym none; stands = λ n t. f.stands }
    ]

takes : Law → Spells → Texts → Reads → Tells → (header : Header) (p : Past) (w : World) (e : Event) → IsSpelledHeader header
    → IsSpelledEvent header.gateways e → StandsFor header p w
    → w.taken < 2 ^ 32 - 1 → CanTake (found p.world e) e w
takes law spells texts reads tells header p w e i v s few =
    elim (whose e) as (λ z. CanTake (found p.world e) e w) [
      | inl is ↦
          gateways-can law spells header p w e i is s few
          (record { under = v.0; typed = v.1; requests = requests-of texts reads header p w i s; known = all-known header.gateways })
      | inr is ↦ controllers-can texts header p e w is i v.0 s (tells header p w e i v s few (unforged header p e is))
    ]

pub can-step : Law → Spells → Texts → Reads → Tells → (header : Header) (p : Past) (w : World) (e : Event) → IsSpelledHeader header
    → IsSpelledEvent header.gateways e → StandsFor header p w
    → w.taken < 2 ^ 32 - 1 → CanStep (found p.world e) e w
can-step law spells texts reads tells header p w e i v s few = record {
  takes = takes law spells texts reads tells header p w e i v s few;
  counted = are-counted header p w s;
  named = are-named header p w i.sound s;
}
