-- The status of how a gateway's serving ended.
use Rattle.std.proofs.Common.{◌≡◌, ◌⊎◌, Result, IsOk, inl, inr, refl, ap}
use Rattle.ikl_base.specs.declared.status.LineFault.{LineFault}
use Rattle.ikl_base.specs.declared.status.Status.{Status}
use Rattle.ikl_base.specs.declared.status.Status.TheVariants as statuses
use Rattle.live_gateway.specs.declared.ended.Ended.{Ended}
use Rattle.live_gateway.specs.declared.ended.Ended.TheVariants as endings
use Rattle.live_commands.specs.Ends.{IsOfWords}
use Rattle.live_commands.specs.Gateway.{EndsBy, status_of}

pub ends-by : (Holds : Ended → Type 0) (ended : Ended) → Holds ended → EndsBy (status_of ended) Holds
ends-by Holds endings.TurnsSpent holds = holds
ends-by Holds endings.InsideFault holds = inl holds
ends-by Holds endings.OutsideFault holds = inr (inl holds)
ends-by Holds endings.DockFault holds = inr (inr holds)
ends-by Holds endings.NoMemory holds = holds

pub spent : (ended : Ended) → status_of ended ≡ statuses.TurnsSpent → ended ≡ endings.TurnsSpent
spent endings.TurnsSpent is = refl
spent endings.InsideFault is = cc
spent endings.OutsideFault is = cc
spent endings.DockFault is = cc
spent endings.NoMemory is = cc

pub either-of : (ended : Ended) → (ended ≡ endings.TurnsSpent) ⊎ (ended ≡ endings.NoMemory) → (status_of ended ≡ statuses.TurnsSpent)
    ⊎ (status_of ended ≡ statuses.NoMemory)
either-of ended (inl is) = inl (ap status_of is)
either-of ended (inr is) = inr (ap status_of is)

-- words of the command were served
pub of-words : {A : Type 0} (Holds : Ended → Type 0) (status : Status) (stated : Result A LineFault) → EndsBy status Holds → IsOk stated
    → IsOfWords status stated
of-words Holds statuses.TurnsSpent stated ends ok = ok
of-words Holds statuses.DeviceFault stated ends ok = ok
of-words Holds statuses.NoMemory stated ends ok = tt
of-words Holds _ stated ends ok = absurd ends
