-- How a history ends with a forged arrival.
use Rattle.std.specs.Prelude.{◌≡◌, ℕ, ◌+◌, true, List, [], ◌∷◌, ◌++◌, length}
use Rattle.hist_acts.specs.declared.act.Act.{Act}
use Rattle.hist_acts.specs.declared.act.Act.TheVariants as acts
use Rattle.hist_acts.specs.declared.event.Event.{Event}
use Rattle.hist_acts.specs.declared.event.Header.{Header}
use Rattle.hist_acts.specs.Past.{events_taken}
use Rattle.hist_world.specs.Block.{Past, Shows, block, history, is_forged_event}
use Rattle.hist_world.specs.Stands.{AreGenuine, past_at}

-- these acts are one arrival, which has no answer
abbrev pub IsArrivalAlone : List Act → Type 0
IsArrivalAlone xs = (g : List ℕ) × (o : List ℕ) × (xs ≡ acts.Arrived g o ∷ [])

-- The k-th of these events is a forged arrival, and none before it is. The history has the blocks of those before it, and then
-- the number of the event and the arrival; what comes after it has no block.
pub record EndsForged (shows : Shows) (header : Header) (p : Past) (k : ℕ) (es : List Event) : Type 0 where
  pub before : List Event
  pub forged : Event
  pub later : List Event
  pub events : es ≡ before ++ forged ∷ later
  pub number : k ≡ length before + 1
  pub genuine : AreGenuine shows header p before
  pub forgery : is_forged_event header (past_at shows header p before) forged ≡ true
  pub gateway : List ℕ
  pub octets : List ℕ
  pub last : block shows header (past_at shows header p before) forged
      ≡ acts.Took (events_taken (past_at shows header p before).world + 1) ∷ acts.Arrived gateway octets ∷ []
  pub history : history shows header p es
      ≡ history shows header p before ++ acts.Took (events_taken (past_at shows header p before).world + 1) ∷ acts.Arrived gateway octets
      ∷ []
