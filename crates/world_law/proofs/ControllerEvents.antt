-- The events of the controller, case by case.
use Rattle.ikeless_tree.specs.declared.command.Command.TheVariants as commands
use Rattle.hist_acts.specs.declared.event.Event.{Event}
use Rattle.hist_acts.specs.declared.event.Event.TheVariants as events
use Rattle.hist_acts.specs.declared.event.Header.{Header}
use Rattle.event_lines.specs.Spelling.{IsEventUnder}
use Rattle.hist_world.specs.Block.{Past, past_after}
use Rattle.hist_wire.specs.Wire.{under_way}
use Rattle.acts_spell.specs.Spelled.{IsSpelledHeader, IsTold}
use Rattle.world_steps.specs.Worlds.{World}
use Rattle.world_steps.specs.Steps.{step}
use Rattle.world_steps.specs.Conditions.{CanTake}
use Rattle.world_law.specs.Stands.{StandsFor, found}
use Rattle.world_law.proofs.Follows.{Follows, cut-follows, end-follows, keys-follows, note-follows, open-follows, policy-follows, rekey-follows, tunnel-follows, up-follows}
use Rattle.world_law.proofs.Gives.{Texts}
use Rattle.world_law.proofs.CanStep.{command-gives, cut-gives, note-notices, open-gives, up-answers}

-- an event that comes to the controller
abbrev pub IsControllers : Event → Type 0
IsControllers (events.Open g) = Unit {0}
IsControllers (events.Cut g) = Unit {0}
IsControllers (events.Up g) = Unit {0}
IsControllers (events.Note g) = Unit {0}
IsControllers (events.Policy g list) = Unit {0}
IsControllers (events.Tunnel spec) = Unit {0}
IsControllers (events.End reqid) = Unit {0}
IsControllers (events.Rekey reqid) = Unit {0}
IsControllers (events.Keys key) = Unit {0}
IsControllers _ = ⊥

pub controllers-follow : (header : Header) (p : Past) (e : Event) (w : World) → IsControllers e → IsSpelledHeader header
    → IsEventUnder header.gateways e → StandsFor header p w
    → IsTold header (past_after (under_way header) header p e) → Follows header p e (step (found p.world e) e w)
controllers-follow header p (events.Open g) w c i u s t = open-follows header p g w i.sound u s t
controllers-follow header p (events.Cut g) w c i u s t = cut-follows header p g w i.sound u s t
controllers-follow header p (events.Up g) w c i u s t = up-follows header p g w i.sound u s t
controllers-follow header p (events.Note g) w c i u s t = note-follows header p g w i.sound u s t
controllers-follow header p (events.Policy g list) w c i u s t = policy-follows header p g list w i.sound s t
controllers-follow header p (events.Tunnel spec) w c i u s t = tunnel-follows header p spec w i.sound s t
controllers-follow header p (events.End reqid) w c i u s t = end-follows header p reqid w i.sound s t
controllers-follow header p (events.Rekey reqid) w c i u s t = rekey-follows header p reqid w i.sound s t
controllers-follow header p (events.Keys key) w c i u s t = keys-follows header p key w i.sound s t
controllers-follow header p e w c i u s t = absurd c

pub controllers-can : Texts → (header : Header) (p : Past) (e : Event) (w : World) → IsControllers e → IsSpelledHeader header
    → IsEventUnder header.gateways e → StandsFor header p w
    → IsTold header (past_after (under_way header) header p e) → CanTake (found p.world e) e w
controllers-can x header p (events.Open g) w c i u s t = open-gives x header p g w i u s t
controllers-can x header p (events.Cut g) w c i u s t = cut-gives x header p g w i u s t
controllers-can x header p (events.Up g) w c i u s t = up-answers x header p g w i u s t
controllers-can x header p (events.Note g) w c i u s t = note-notices x header p g w i u s t
controllers-can x header p (events.Policy g list) w c i u s t = command-gives x header p
    (commands.Policy g list) w i s t.lawful.meet.fit t.spelled
controllers-can x header p (events.Tunnel spec) w c i u s t = command-gives x header p
    (commands.Tunnel spec) w i s t.lawful.meet.fit t.spelled
controllers-can x header p (events.End reqid) w c i u s t = command-gives x header p (commands.End reqid) w i s t.lawful.meet.fit t.spelled
controllers-can x header p (events.Rekey reqid) w c i u s t = command-gives x header p
    (commands.Rekey reqid) w i s t.lawful.meet.fit t.spelled
controllers-can x header p (events.Keys key) w c i u s t = command-gives x header p (commands.Keys key) w i s t.lawful.meet.fit t.spelled
controllers-can x header p e w c i u s t = absurd c
