-- How `client` ends, and what it prints.
use Rattle.std.specs.Prelude.{◌≡◌, ◌≤◌, ℕ, nat_le, Bool, true, false, List, [], ◌++◌, Option, Result, Ok, Err, if◌then◌else◌}
use Rattle.ikl_base.specs.Outside.{Gains, HasFailed, HasRisen, IsCalm}
use Rattle.ikl_base.specs.declared.status.Status.{Status}
use Rattle.ikl_base.specs.declared.status.Status.TheVariants as statuses
use Rattle.rc_operations.specs.declared.told.Told.{Told}
use Rattle.rc_operations.specs.Replies.{told_done}
use Rattle.live_client.specs.declared.fault.AskFault.{AskFault}
use Rattle.live_client.specs.declared.fault.AskFault.TheVariants as faults
use Rattle.live_commands.specs.Lines.{told_line}

-- the status of a response: an error is one of 400 or above
abbrev pub told_status : Told → Status
told_status told = if nat_le 400 told.status then statuses.Denied else statuses.Done

-- the status of a fault without a response
abbrev pub status_of : AskFault → Status
status_of faults.LinkFault = statuses.LinkFault
status_of (faults.BadReply octets) = statuses.BadReply
status_of faults.TurnsSpent = statuses.TurnsSpent
status_of faults.NoMemory = statuses.NoMemory

-- what was written of the line of what is told
abbrev pub Printed : Status → Told → Option (List ℕ) → Option (List ℕ) → Type 0
Printed statuses.Done told old new = (told_status told ≡ statuses.Done) × Gains old new (told_line told)
Printed statuses.Denied told old new = (told_status told ≡ statuses.Denied) × Gains old new (told_line told)
Printed statuses.WriteFault told old new = (part more : List ℕ) × (part ++ more ≡ told_line told) × Gains old new part
Printed statuses.NoMemory told old new = Gains old new []
Printed _ told old new = ⊥

-- The answer to the command, of which this holds, has this status, and what was written is its line. Where the sink failed it is a front
-- of the line, and without a response nothing.
abbrev pub EndsBy : Status → (Result Told AskFault → Type 0) → Option (List ℕ) → Option (List ℕ) → Type 0
EndsBy statuses.Done Holds old new = Holds (Ok told_done) × Gains old new (told_line told_done)
EndsBy statuses.Denied Holds old new = (told : Told) × Holds (Ok told) × (400 ≤ told.status) × Gains old new (told_line told)
EndsBy statuses.WriteFault Holds old new =
    (told : Told) × Holds (Ok told) × (part more : List ℕ) × (part ++ more ≡ told_line told) × Gains old new part
EndsBy statuses.BadReply Holds old new = (octets : List ℕ) × Holds (Err (faults.BadReply octets)) × Gains old new []
EndsBy statuses.LinkFault Holds old new = Holds (Err faults.LinkFault) × Gains old new []
EndsBy statuses.TurnsSpent Holds old new = Holds (Err faults.TurnsSpent) × Gains old new []
EndsBy statuses.NoMemory Holds old new = Holds (Err faults.NoMemory) × Gains old new []
EndsBy _ Holds old new = ⊥

-- the line of what is told couldn't be written whole
abbrev pub is_write_fault : Status → Bool
is_write_fault statuses.WriteFault = true
is_write_fault _ = false

-- What a sink's count and its last call tell of several calls: the last of them failed, or none did.
pub record SinkTells (before now : ℕ) (was told : Option Bool) (broke : Bool) : Type 0 where
  pub later : before ≤ now
  pub risen : broke ≡ true → HasRisen before now
  pub kept : broke ≡ false → now ≡ before
  pub failed : broke ≡ true → HasFailed told
  pub calm : broke ≡ false → IsCalm was → IsCalm told

-- the status is one of a whole call, or memory ran out
abbrev pub IsWhole : Status → Type 0
IsWhole statuses.Done = Unit {0}
IsWhole statuses.Denied = Unit {0}
IsWhole statuses.BadReply = Unit {0}
IsWhole statuses.TurnsSpent = Unit {0}
IsWhole statuses.NoMemory = Unit {0}
IsWhole _ = ⊥
