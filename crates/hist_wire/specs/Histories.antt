-- The one history of the events of a script, with what `wire` shows, said block by block.
use Rattle.std.specs.Prelude.{◌≡◌, true, false, List, [], ◌∷◌, length, ◌⊎◌, Some}
use Rattle.hist_acts.specs.declared.act.Act.{Act}
use Rattle.hist_acts.specs.declared.event.Event.{Event}
use Rattle.hist_acts.specs.declared.event.Header.{Header}
use Rattle.hist_world.specs.Block.{Past, block, is_forged_event, nothing, past_after}
use Rattle.hist_world.specs.Stands.{AreGenuine}
use Rattle.hist_blocks.specs.Blocks.{first_forged, joined}
use Rattle.hist_wire.specs.Wire.{under_way}

-- One block for each of these events, in their order, each the one that may follow what happened before it. A forged arrival has
-- the last one: no later event has a block.
abbrev pub AreBlocks : Header → Past → List Event → List (List Act) → Type 0
AreBlocks header p [] [] = Unit {0}
AreBlocks header p (e ∷ es) (b ∷ bs) =
    (b ≡ block (under_way header) header p e)
    × (((is_forged_event header p e ≡ true) × (bs ≡ []))
    ⊎ ((is_forged_event header p e ≡ false) × AreBlocks header (past_after (under_way header) header p e) es bs))
AreBlocks header p _ _ = ⊥

-- These acts, in their order, are the history of the events under the header. There is one such list (`has_one_history`).
pub record IsHistory (header : Header) (events : List Event) (happened : List Act) : Type 0 where
  pub blocks : List (List Act)
  pub each : AreBlocks header nothing events blocks
  pub all : happened ≡ joined blocks

-- no arrival among the events is forged
abbrev pub NoneForged : Header → List Event → Type 0
NoneForged header events = AreGenuine (under_way header) header nothing events

-- the last event is a forged arrival, and none before it is
abbrev pub LastForged : Header → List Event → Type 0
LastForged header events = first_forged (under_way header) header nothing events ≡ Some (length events)
