-- The blocks of a history, one for each event, and where a forged arrival ends it.
use Rattle.std.specs.Prelude.{ℕ, ◌+◌, Bool, true, false, List, [], ◌∷◌, ◌++◌, Option, Some, None}
use Rattle.hist_acts.specs.declared.act.Act.{Act}
use Rattle.hist_acts.specs.declared.event.Event.{Event}
use Rattle.hist_acts.specs.declared.event.Header.{Header}
use Rattle.hist_world.specs.Block.{Past, Shows, block, is_forged_event, past_after}

-- no blocks after that of a forged arrival
abbrev pub unless_last : Bool → List (List Act) → List (List Act)
unless_last true more = []
unless_last false more = more

-- the blocks of these events, in their order; that of a forged arrival is the last
abbrev pub blocks : Shows → Header → Past → List Event → List (List Act)
blocks shows header p [] = []
blocks shows header p (e ∷ es) =
    block shows header p e ∷ unless_last (is_forged_event header p e) (blocks shows header (past_after shows header p e) es)

-- one after the other
abbrev pub joined : List (List Act) → List Act
joined [] = []
joined (b ∷ bs) = b ++ joined bs

-- 1 for the event itself, or one more than the number that a later one has among those after it
abbrev pub number_by : Bool → Option ℕ → Option ℕ
number_by true later = Some 1
number_by false None = None
number_by false (Some n) = Some (n + 1)

-- which of these events, counted from 1, is the first forged arrival; none where none is forged
abbrev pub first_forged : Shows → Header → Past → List Event → Option ℕ
first_forged shows header p [] = None
first_forged shows header p (e ∷ es) = number_by (is_forged_event header p e) (first_forged shows header (past_after shows header p e) es)
