-- What the state of a run between two octets stands for, and what octets make of it.
use Rattle.std.specs.Prelude.{◌≡◌, ◌≤◌, ◌+◌, ℕ, Bool, true, false, List, [], ◌∷◌, ◌++◌, length, Option, Some, None, Result, Ok, Err}
use Rattle.ikl_base.specs.Outside.{Gains, HasRisen, IsCalm, HasFailed}
use Rattle.ikl_base.specs.declared.status.Status.{Status}
use Rattle.ikl_base.specs.declared.status.Status.TheVariants as statuses
use Rattle.ikl_base.specs.declared.status.LineFault.{LineFault}
use Rattle.ikl_base.specs.declared.fault.OrMemory.{OrMemory}
use Rattle.ikl_base.specs.declared.fault.OrMemory.TheVariants as failures
use Rattle.hist_acts.specs.declared.act.Act.{Act}
use Rattle.hist_acts.specs.declared.act.Act.TheVariants as acts
use Rattle.hist_acts.specs.declared.event.Event.{Event}
use Rattle.hist_acts.specs.declared.event.Header.{Header}
use Rattle.hist_world.specs.Block.{Past, history, nothing}
use Rattle.hist_world.specs.Stands.{past_at}
use Rattle.hist_wire.specs.Histories.{LastForged}
use Rattle.hist_wire.specs.Wire.{under_way}
use Rattle.world_law.specs.Stands.{StandsFor}
use Rattle.world_run.specs.declared.go.Go.{Go}
use Rattle.world_run.specs.declared.go.Go.TheVariants as goes
use Rattle.script_lines.specs.Text.{text_of}
use Rattle.ikeless_cli.specs.declared.running.Running.{Running}
use Rattle.ikeless_cli.specs.Script.{HasNoLf, IsLine, AreLines, joined, IsScript}
use Rattle.ikeless_cli.specs.Run.{AreGenuine, IsLastArrival, Refuses, Ran, is_read_fault, is_write_fault}

-- ---- what was taken

-- the header, once it was read
abbrev pub header_kept : Option Running → Option Header
header_kept None = None
header_kept (Some r) = Some r.world.header

-- the number of events taken
abbrev pub taken_of : Option Running → ℕ
taken_of None = 0
taken_of (Some r) = r.events

-- the number of lines taken
abbrev pub lines_of : Option Running → ℕ
lines_of None = 0
lines_of (Some r) = r.events + 1

-- what happened at these events
abbrev pub acts_of : Option Header → List Event → List Act
acts_of None es = []
acts_of (Some h) es = history (under_way h) h nothing es

-- the past after these events
abbrev pub past_of : Header → List Event → Past
past_of h es = past_at (under_way h) h nothing es

-- the world stands for what happened at these events
abbrev pub IsStateOf : Option Running → List Event → Type 0
IsStateOf None es = Unit {0}
IsStateOf (Some r) es = StandsFor r.world.header (past_of r.world.header es) r.world.world × (r.events ≡ length es)

-- these lines and events were taken, none of them a forged arrival
pub record Stands (running : Option Running) (lines : List (List ℕ)) (events : List Event) : Type 0 where
  pub each : AreLines lines
  pub script : IsScript (header_kept running) lines events
  pub genuine : AreGenuine (header_kept running) events
  pub state : IsStateOf running events

-- the world can be stepped, and took as many events
abbrev pub IsLive : Option Running → Type 0
IsLive None = Unit {0}
IsLive (Some r) = (r.world.is_spent ≡ false) × (r.world.world.taken ≡ r.events)

-- ---- a line

-- one more line was taken, and this text is that of its block
pub record GoesOn (new : Option Running) (lines : List (List ℕ)) (before text : List ℕ) : Type 0 where
  pub events : List Event
  pub stands : Stands new lines events
  pub written : text_of (acts_of (header_kept new) events) ≡ before ++ text

-- one more line was taken, it is a forged arrival of these octets, and this text is that of its block
pub record IsOver (lines : List (List ℕ)) (before text octets : List ℕ) : Type 0 where
  pub header : Header
  pub events : List Event
  pub each : AreLines lines
  pub script : IsScript (Some header) lines events
  pub forged : LastForged header events
  pub last : IsLastArrival (acts_of (Some header) events) octets
  pub written : text_of (acts_of (Some header) events) ≡ before ++ text

-- one more line was taken; the run goes on, or is over where it is a forged arrival of these octets
abbrev pub After : Option Running → List (List ℕ) → List ℕ → List ℕ → Option (List ℕ) → Type 0
After new lines before text None = GoesOn new lines before text
After new lines before text (Some octets) = IsOver lines before text octets

-- what a line that is taken adds: the text of its block, and the octets of a forged arrival
pub record TakesLine (old new : Option Running) (line text : List ℕ) (forged : Option (List ℕ)) : Type 0 where
  pub more : (lines : List (List ℕ)) (events : List Event) → IsLine line → Stands old lines events
      → After new (lines ++ line ∷ []) (text_of (acts_of (header_kept old) events)) text forged

-- a line that isn't taken is refused for its reason, unless memory ran out
abbrev pub RefusesLine : Option Running → List ℕ → OrMemory LineFault → Type 0
RefusesLine running line (failures.Refused reason) = Refuses (header_kept running) line reason
RefusesLine running line failures.NoMemory = Unit {0}

-- the octets of an arrival that stands in its block alone
abbrev pub arrival_of : List Act → List ℕ
arrival_of (acts.Took k ∷ acts.Arrived g o ∷ []) = o
arrival_of _ = []

-- those of the arrival with which a run ends
abbrev pub forged_of : List Act → Go → Option (List ℕ)
forged_of acts goes.On = None
forged_of acts goes.Forged = Some (arrival_of acts)

-- a forged arrival ends the run at its line
abbrev pub ends_forged : ℕ → Option (List ℕ) → Result Unit Status
ends_forged line None = Ok tt
ends_forged line (Some octets) = Err (statuses.Forged line octets)

-- ---- octets

-- what is kept between two octets: the world once there is a header, the line that has begun, and how many octets the lines before it have
pub record State : Type 0 where
  pub running : Option Running
  pub line : List ℕ
  pub whole : ℕ

-- what a reader keeps, as contracts see it
abbrev pub kept : Option Running → List ℕ → ℕ → State
kept running line whole = record { running = running; line = line; whole = whole }

-- nothing was read
abbrev pub fresh : State
fresh = kept None [] 0

-- The octets read are the lines taken and the line that has begun; the octets written are the text of what happened.
pub record Reads (input text : List ℕ) (s : State) : Type 0 where
  pub lines : List (List ℕ)
  pub events : List Event
  pub octets : input ≡ joined lines ++ s.line
  pub stands : Stands s.running lines events
  pub written : text ≡ text_of (acts_of (header_kept s.running) events)
  pub inside : HasNoLf s.line
  pub short : length s.line ≤ 1048576
  pub count : s.whole ≡ length (joined lines)
  pub within : s.whole + length s.line ≤ 67108864

-- so many more octets of the line are within the limits
pub record Fits (s : State) (count : ℕ) : Type 0 where
  pub short : length s.line + count ≤ 1048576
  pub within : s.whole + length s.line + count ≤ 67108864

-- the counts of a run stay within the limits on a line and on a script, and its world can be stepped
pub record IsCounted (s : State) : Type 0 where
  pub taken : taken_of s.running ≤ s.whole
  pub fits : Fits s 0
  pub live : IsLive s.running

-- whatever stood before: these octets are read, more is written, and the new state stands for it
abbrev pub Goes : State → State → Option (List ℕ) → Option (List ℕ) → List ℕ → Type 0
Goes old new told told' octets = (input text : List ℕ) → Reads input text old → (more : List ℕ) × Gains told told' more × Reads
    (input ++ octets) (text ++ more) new

-- whatever stood before: the run ends within these octets, whatever comes after them
abbrev pub EndsWith : Status → State → Option (List ℕ) → Option (List ℕ) → List ℕ → Type 0
EndsWith status old told told' octets = (input text : List ℕ) → Reads input text old → (more : List ℕ) × Gains told told' more
    × ((left : Option (List ℕ)) (after : List ℕ) → Ran status left (input ++ (octets ++ after)) (text ++ more))

-- these octets are taken: the run goes on, or ends within them and not for its source
abbrev pub Takes : Result Unit Status → State → State → Option (List ℕ) → Option (List ℕ) → List ℕ → Type 0
Takes (Ok x) old new told told' octets = Goes old new told told' octets
Takes (Err status) old new told told' octets = EndsWith status old told told' octets × (is_read_fault status ≡ false)

-- the run ends within so many octets of a line, which pass a limit; only the last of them may be an LF
abbrev pub Overflows : Status → State → ℕ → Type 0
Overflows status s count = (octets end : List ℕ) (told : Option (List ℕ)) → HasNoLf octets → length end ≤ 1 → count ≡ length (octets ++ end)
    → EndsWith status s told told (octets ++ end) × (is_read_fault status ≡ false)

-- whether the sink ended it
abbrev pub broke_of : {A : Type 0} → Result A Status → Bool
broke_of (Ok x) = false
broke_of (Err status) = is_write_fault status

-- what a sink's count and its last call tell of several calls
pub record SinkTells (faults faults' : ℕ) (told told' : Option Bool) (broke : Bool) : Type 0 where
  pub later : faults ≤ faults'
  pub risen : broke ≡ true → HasRisen faults faults'
  pub failed : broke ≡ true → HasFailed told'
  pub calm : broke ≡ false → IsCalm told → IsCalm told'
