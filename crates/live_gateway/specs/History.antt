-- What a gateway node's gateway did, told as the acts of its history.
use Rattle.std.specs.Prelude.{ℕ, List, [], Option, Some, None}
use Rattle.hist_acts.specs.declared.act.Act.{Act}
use Rattle.gw_packets.specs.declared.done.Config.{Config}
use Rattle.gw_tables.specs.Kept as tables
use Rattle.gw_tables.specs.Kept.{Kept}
use Rattle.gw_core.specs.Machine.{Event, stepped}
use Rattle.gw_law.specs.Steps.{Step}
use Rattle.gw_law.specs.Told.{Naming, begun}
use Rattle.gw_history.specs.Told.{run_of, step_told}
use Rattle.live_gateway.specs.Past.{Item, happened}

-- the run of a gateway of this name over all that happened
abbrev pub run_by : Config → List ℕ → List Item → Step
run_by c g past = run_of c (begun g) tables.booted (happened past)

-- what is told of an event: the event's own act, and what the gateway did at it
abbrev pub told_by : Config → Naming → Kept → Option Event → List Act
told_by c n k None = []
told_by c n k (Some e) = step_told n e (stepped c e k)
