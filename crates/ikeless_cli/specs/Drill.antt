-- What the line of a drill says of the run of its script, and what a run of `drill` wrote.
use Rattle.std.specs.Prelude.{◌≡◌, ℕ, Bool, true, false, List, [], ◌++◌, Option, Some, Result, Ok, IsErr}
use Rattle.ikl_base.specs.Outside.{Gains}
use Rattle.ikl_base.specs.declared.status.LineFault.{LineFault}
use Rattle.ikl_base.specs.declared.status.Status.{Status}
use Rattle.ikl_base.specs.declared.status.Status.TheVariants as statuses
use Rattle.hist_acts.specs.declared.act.Act.{Act}
use Rattle.drill_script.specs.Script.{script_of}
use Rattle.drill_script.specs.Tallies.{summary_text, tally_of}
use Rattle.ikeless_cli.specs.Exit.{number_of}
use Rattle.ikeless_cli.specs.Run.{Cause, IsHistoryOf, IsSafe, is_read_fault}
use Rattle.ikeless_cli.specs.Script.{Taken}

-- memory ran out in a run, where its sink fails only for that
abbrev pub wants_memory : Status → Bool
wants_memory statuses.NoMemory = true
wants_memory statuses.WriteFault = true
wants_memory _ = false

-- The line of a drill. These octets of its script were read, as lines and a rest; this is the one history of the events that the lines
-- say; the run ended so, for its cause; and the line has the number, the counts of the acts of that history and the exit number.
pub record IsDrilled (n : ℕ) (line : List ℕ) : Type 0 where
  pub octets : List ℕ
  pub left : List ℕ
  pub script : script_of n ≡ octets ++ left
  pub taken : Taken octets
  pub happened : List Act
  pub history : IsHistoryOf taken.header taken.events happened
  pub safe : IsSafe taken.header happened
  pub status : Status
  pub lasted : wants_memory status ≡ false
  pub read : is_read_fault status ≡ false
  pub cause : Cause status taken happened (Some left)
  pub says : line ≡ summary_text n (tally_of happened) (number_of status)

-- What was written: the line, a front of it where the sink failed, or nothing; and what the words say where that is known.
abbrev pub DrillWrote : Status → Result ℕ LineFault → Option (List ℕ) → Option (List ℕ) → Type 0
DrillWrote statuses.Done stated old new = (n : ℕ) × (line : List ℕ) × (stated ≡ Ok n) × IsDrilled n line × Gains old new line
DrillWrote statuses.WriteFault stated old new =
    (n : ℕ) × (part more : List ℕ) × (stated ≡ Ok n) × IsDrilled n (part ++ more) × Gains old new part
DrillWrote statuses.Words stated old new = IsErr stated × Gains old new []
DrillWrote statuses.NoMemory stated old new = Gains old new []
DrillWrote _ stated old new = ⊥
