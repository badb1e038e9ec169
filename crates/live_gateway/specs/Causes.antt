-- Why serving ends, and what counts of faults tell of it.
use Rattle.std.specs.Prelude.{◌≡◌, ◌≤◌, ℕ, Bool, true, false, List, Option, Some, None, Result, Ok, Err, IfErr}
use Rattle.ikl_base.specs.Outside.{HasRisen, IsCalm, HasFailed}
use Rattle.rc_http.specs.Feeding.{Feeding}
use Rattle.rc_http.specs.Written.{IsWritableResponse}
use Rattle.rc_resource.specs.Messages.{reply_message}
use Rattle.rc_resource.specs.Replies.{refusal}
use Rattle.gw_core.specs.Machine.{Event, Handle}
use Rattle.live_messages.specs.declared.feed.Brought.{Brought}
use Rattle.live_messages.specs.declared.feed.Brought.TheVariants.{Nothing}
use Rattle.live_messages.specs.Brings.{GoesOn}
use Rattle.live_messages.specs.Holds.{IsReading}
use Rattle.live_gateway.specs.declared.ended.Ended.{Ended}
use Rattle.live_gateway.specs.declared.ended.Ended.TheVariants.{TurnsSpent, InsideFault, OutsideFault, DockFault}

-- ---- the device that ended it

-- a call of the wire to the protected side failed
abbrev pub is_inside_fault : Ended → Bool
is_inside_fault InsideFault = true
is_inside_fault _ = false

-- a call of the wire to the unprotected side failed
abbrev pub is_outside_fault : Ended → Bool
is_outside_fault OutsideFault = true
is_outside_fault _ = false

-- an accept failed; a read or a write that fails ends the session alone
abbrev pub is_dock_fault : Ended → Bool
is_dock_fault DockFault = true
is_dock_fault _ = false

-- the answer is this one's fault
abbrev pub broke : {T : Type 0} → (Ended → Bool) → Result T Ended → Bool
broke is (Ok x) = false
broke is (Err e) = is e

-- What a count and the last call tell of several calls: the count never falls; where a call ended them it rose, and the last call failed;
-- else none failed.
pub record Tells (before now : ℕ) (told told' : Option Bool) (ended : Bool) : Type 0 where
  pub later : before ≤ now
  pub risen : ended ≡ true → HasRisen before now
  pub failed : ended ≡ true → HasFailed told'
  pub calm : ended ≡ false → IsCalm told → IsCalm told'

-- serving goes on, or ends for a fault or want of memory
abbrev pub IsCut : {T : Type 0} → Result T Ended → Type 0
IsCut result = IfErr result (λ e. e ≡ TurnsSpent → ⊥)

-- ---- sessions

-- a session that is there was taken, so that it can be written to
abbrev pub MayWrite : Option Feeding → Bool → Type 0
MayWrite None is_taken = Unit {0}
MayWrite (Some reader) is_taken = is_taken ≡ true

-- the reader of a session that is there has read its octets so far
abbrev pub IsRead : Option Feeding → Type 0
IsRead None = Unit {0}
IsRead (Some reader) = IsReading reader

-- a session stays as it is, or has ended
abbrev pub StaysOrEnds : Option Feeding → Option Feeding → Type 0
StaysOrEnds old None = Unit {0}
StaysOrEnds old (Some reader) = old ≡ Some reader

-- the octets of a piece are fed to the reader of a session that is there
abbrev pub Feeds : Option Feeding → Option Feeding → List ℕ → Brought → Type 0
Feeds None new piece brought = (new ≡ None) × (brought ≡ Nothing)
Feeds (Some old) None piece brought = ⊥
Feeds (Some old) (Some new) piece brought = GoesOn old new piece brought

-- the refusal of a request that could not be read can be written
abbrev pub CanRefuse : Event → Type 0
CanRefuse (Handle (Err e)) = IsWritableResponse (reply_message (refusal e))
CanRefuse _ = Unit {0}
