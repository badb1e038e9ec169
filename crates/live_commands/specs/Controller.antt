-- How `controller` ends.
use Rattle.ikl_base.specs.declared.status.Status.{Status}
use Rattle.ikl_base.specs.declared.status.Status.TheVariants as statuses
use Rattle.live_controller.specs.declared.ended.Ended.{Ended}
use Rattle.live_controller.specs.declared.ended.Ended.TheVariants as endings

-- the status of how serving ended
abbrev pub status_of : Ended → Status
status_of endings.TurnsSpent = statuses.TurnsSpent
status_of endings.DockFault = statuses.DeviceFault
status_of endings.NoMemory = statuses.NoMemory

-- serving ended in a way that has this status, and of which this holds
abbrev pub EndsBy : Status → (Ended → Type 0) → Type 0
EndsBy statuses.TurnsSpent Holds = Holds endings.TurnsSpent
EndsBy statuses.DeviceFault Holds = Holds endings.DockFault
EndsBy statuses.NoMemory Holds = Holds endings.NoMemory
EndsBy _ Holds = ⊥
