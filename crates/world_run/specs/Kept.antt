-- What a world is for its callers, and what a step makes of it.
use Rattle.std.specs.Prelude.{◌≡◌, Bool, true, false, List, ◌++◌}
use Rattle.hist_acts.specs.declared.act.Act.{Act}
use Rattle.hist_acts.specs.declared.event.Event.{Event}
use Rattle.hist_acts.specs.declared.event.Header.{Header}
use Rattle.hist_world.specs.Block.{Past, block, is_forged_event, past_after}
use Rattle.hist_wire.specs.Wire.{under_way}
use Rattle.acts_spell.specs.Spelled.{IsSpelledHeader}
use Rattle.world_law.specs.Stands.{StandsFor}
use Rattle.world_steps.specs.Worlds as worlds
use Rattle.world_run.specs.declared.go.Go.{Go}
use Rattle.world_run.specs.declared.go.Go.TheVariants as gos

-- the header of the script, what is kept, and whether no further event can be taken
pub record Whole : Type 0 where
  pub header : Header
  pub world : worlds.World
  pub is_spent : Bool

-- some past for which the world stands
pub record IsStanding (header : Header) (w : worlds.World) : Type 0 where
  pub spelled : IsSpelledHeader header
  pub past : Past
  pub stands : StandsFor header past w

-- The block of the event was added; where the event is a forged arrival the script ends with it.
abbrev pub Stepped : Header → Past → Event → List Act → List Act → worlds.World → Go → Type 0
Stepped header p e old new w gos.On =
    (new ≡ old ++ block (under_way header) header p e) × (is_forged_event header p e ≡ false) × StandsFor header
    (past_after (under_way header) header p e) w
Stepped header p e old new w gos.Forged =
    (new ≡ old ++ block (under_way header) header p e) × (is_forged_event header p e ≡ true)

-- the event was no forged arrival, so that another one can be taken
abbrev pub does_go_on : Go → Bool
does_go_on gos.On = true
does_go_on gos.Forged = false
