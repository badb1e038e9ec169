-- What a run of `replay` read, what happened at the events that it read, what it wrote of that, and why it ended.
use Rattle.std.specs.Prelude.{◌≡◌, ◌≢◌, ◌⊎◌, ◌<◌, ◌≤◌, ◌+◌, ℕ, Bool, true, false, List, [], ◌∷◌, ◌++◌, length, Option, Some, None, IsSome, Err}
use Rattle.ikl_base.specs.Outside.{AtEnd}
use Rattle.ikl_base.specs.declared.status.Status.{Status}
use Rattle.ikl_base.specs.declared.status.Status.TheVariants as statuses
use Rattle.ikl_base.specs.declared.status.LineFault.{LineFault}
use Rattle.ikl_base.specs.declared.status.LineFault.TheVariants as faults
use Rattle.hist_acts.specs.declared.act.Act.{Act}
use Rattle.hist_acts.specs.declared.act.Act.TheVariants as acts
use Rattle.hist_acts.specs.declared.event.Event.{Event}
use Rattle.hist_acts.specs.declared.event.Header.{Header}
use Rattle.hist_acts.specs.Past.{after}
use Rattle.hist_safety.specs.Safe.{IsLastSafe, Safe}
use Rattle.hist_wire.specs.Histories.{IsHistory, LastForged, NoneForged}
use Rattle.event_lines.specs.Event.{event_of}
use Rattle.event_lines.specs.Header.{header_of}
use Rattle.script_lines.specs.Text.{text_of}
use Rattle.ikeless_cli.specs.Script.{HasNoLf, AreLines, joined, IsScript, Taken}

-- ---- what happened

-- these acts are the one history of the events under the header; nothing happens before there is a header
abbrev pub IsHistoryOf : Option Header → List Event → List Act → Type 0
IsHistoryOf None events happened = happened ≡ []
IsHistoryOf (Some header) events happened = IsHistory header events happened

-- what happened is safe in its five parts, and doesn't end with an arrival that must be given
abbrev pub IsSafe : Option Header → List Act → Type 0
IsSafe None happened = Unit {0}
IsSafe (Some header) happened = Safe header.gateways (after [] happened) × IsLastSafe header.gateways (after [] happened)

-- no arrival among the events is forged
abbrev pub AreGenuine : Option Header → List Event → Type 0
AreGenuine None events = Unit {0}
AreGenuine (Some header) events = NoneForged header events

-- the last event is a forged arrival, and none before it is
abbrev pub EndForged : Option Header → List Event → Type 0
EndForged None events = ⊥
EndForged (Some header) events = LastForged header events

-- what happened last is an arrival of these octets, which has no answer
abbrev pub IsLastArrival : List Act → List ℕ → Type 0
IsLastArrival happened octets = (older : List Act) × (g : List ℕ) × (happened ≡ older ++ acts.Arrived g octets ∷ [])

-- ---- what was written

-- the text of what happened was written, in whole blocks: a front of it where the sink failed
abbrev pub IsWritten : Status → List ℕ → List ℕ → Type 0
IsWritten statuses.WriteFault written text = (more : List ℕ) × (written ++ more ≡ text)
IsWritten _ written text = written ≡ text

-- ---- why it ended

-- after these lines another one has begun, and is within the limits on a line and on a script
pub record HasBegun (lines : List (List ℕ)) (line : List ℕ) : Type 0 where
  pub inside : HasNoLf line
  pub short : length line ≤ 1048576
  pub within : length (joined lines) + length line ≤ 67108864

-- the next octet of the rest after a line that has begun
pub record IsNext (lines : List (List ℕ)) (rest line : List ℕ) (next : ℕ) : Type 0 where
  pub more : List ℕ
  pub cut : rest ≡ line ++ next ∷ more
  pub begun : HasBegun lines line

-- an octet comes after 64 MiB
pub record IsTooLong (lines : List (List ℕ)) (rest : List ℕ) : Type 0 where
  pub line : List ℕ
  pub next : ℕ
  pub comes : IsNext lines rest line next
  pub full : length (joined lines) + length line ≡ 67108864

-- an octet within 64 MiB comes after 1 MiB of a line
pub record IsLongLine (lines : List (List ℕ)) (rest : List ℕ) : Type 0 where
  pub line : List ℕ
  pub next : ℕ
  pub comes : IsNext lines rest line next
  pub full : length line ≡ 1048576
  pub room : length (joined lines) + length line < 67108864

-- the next line can't be taken, for this reason
abbrev pub Refuses : Option Header → List ℕ → LineFault → Type 0
Refuses None line reason = header_of line ≡ Err reason
Refuses (Some h) line reason = event_of h.gateways line ≡ Err reason

-- the LF of a line within the limits comes, and the line can't be taken
pub record IsBadLine (header : Option Header) (lines : List (List ℕ)) (rest : List ℕ) (reason : LineFault) : Type 0 where
  pub line : List ℕ
  pub comes : IsNext lines rest line 10
  pub short : length line < 1048576
  pub room : length (joined lines) + length line < 67108864
  pub refused : Refuses header line reason

-- the input ends in a line without its LF, or before its first line
pub record IsCutOff (header : Option Header) (lines : List (List ℕ)) (rest : List ℕ) (left : Option (List ℕ)) : Type 0 where
  pub end : AtEnd left
  pub begun : HasBegun lines rest
  pub some : (rest ≢ []) ⊎ (header ≡ None)

-- why the line after those taken isn't taken, by its reason: it says nothing, has more than 1 MiB, or is cut off by the end of the input
abbrev pub IsRefused : Option Header → List (List ℕ) → List ℕ → Option (List ℕ) → LineFault → Type 0
IsRefused header lines rest left reason =
    IsBadLine header lines rest reason ⊎ (((reason ≡ faults.Long) × IsLongLine lines rest) ⊎
    ((reason ≡ faults.End) × IsCutOff header lines rest left))

-- the cause of each status, seen from what was taken, what happened and what the source has left
abbrev pub Cause : {input : List ℕ} → Status → Taken input → List Act → Option (List ℕ) → Type 0
Cause statuses.Done t happened left = (t.rest ≡ []) × AtEnd left × IsSome t.header × AreGenuine t.header t.events
Cause (statuses.Line line reason) t happened left = (line ≡ length t.lines + 1) × IsRefused t.header t.lines t.rest left reason × AreGenuine
    t.header t.events
Cause statuses.ReadFault t happened left = HasBegun t.lines t.rest × AreGenuine t.header t.events
Cause statuses.WriteFault t happened left = AreGenuine t.header t.events ⊎ EndForged t.header t.events
Cause (statuses.Forged line octets) t happened left = (line ≡ length t.lines) × IsLastArrival happened octets × EndForged t.header t.events
Cause statuses.TooLong t happened left = IsTooLong t.lines t.rest × AreGenuine t.header t.events
Cause statuses.NoMemory t happened left = AreGenuine t.header t.events
Cause _ t happened left = ⊥

-- ---- the whole

-- These octets were read and these written, and the run ended so: what was written is the text of the one history of the events
-- that were read, and that history is safe.
abbrev pub Ran : Status → Option (List ℕ) → List ℕ → List ℕ → Type 0
Ran status left input written =
    (t : Taken input) × (happened : List Act) × IsHistoryOf t.header t.events happened × IsSafe t.header happened
    × IsWritten status written (text_of happened) × Cause status t happened left

-- a script that is read to its end, of at most 64 MiB, without a forged arrival
pub record IsWhole (script : List ℕ) : Type 0 where
  pub header : Header
  pub lines : List (List ℕ)
  pub events : List Event
  pub octets : script ≡ joined lines
  pub each : AreLines lines
  pub within : length script ≤ 67108864
  pub says : IsScript (Some header) lines events
  pub genuine : NoneForged header events

-- the source ended the run
abbrev pub is_read_fault : Status → Bool
is_read_fault statuses.ReadFault = true
is_read_fault _ = false

-- the sink ended the run
abbrev pub is_write_fault : Status → Bool
is_write_fault statuses.WriteFault = true
is_write_fault _ = false
