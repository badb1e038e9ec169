-- The status of how a controller's serving ended.
use Rattle.std.proofs.Common.{◌≡◌, ◌⊎◌, ◌≤◌, ℕ, Bool, true, false, Option, Result, IsOk, inl, inr, refl, arith}
use Rattle.ikl_base.specs.Outside.{HasRisen}
use Rattle.ikl_base.specs.declared.status.LineFault.{LineFault}
use Rattle.ikl_base.specs.declared.status.Status.{Status}
use Rattle.ikl_base.specs.declared.status.Status.TheVariants as statuses
use Rattle.live_controller.specs.declared.ended.Ended.{Ended}
use Rattle.live_controller.specs.declared.ended.Ended.TheVariants as endings
use Rattle.live_controller.specs.Endings.{AcceptTells, is_dock_fault}
use Rattle.live_commands.specs.Ends.{IsOfWords}
use Rattle.live_commands.specs.Controller.{EndsBy, status_of}

pub ends-by : (Holds : Ended → Type 0) (ended : Ended) → Holds ended → EndsBy (status_of ended) Holds
ends-by Holds endings.TurnsSpent holds = holds
ends-by Holds endings.DockFault holds = holds
ends-by Holds endings.NoMemory holds = holds

pub spent : (ended : Ended) → status_of ended ≡ statuses.TurnsSpent → ended ≡ endings.TurnsSpent
spent endings.TurnsSpent is = refl
spent endings.DockFault is = cc
spent endings.NoMemory is = cc

-- words of the command were served
pub of-words : {A : Type 0} (Holds : Ended → Type 0) (status : Status) (stated : Result A LineFault) → EndsBy status Holds → IsOk stated
    → IsOfWords status stated
of-words Holds statuses.TurnsSpent stated ends ok = ok
of-words Holds statuses.DeviceFault stated ends ok = ok
of-words Holds statuses.NoMemory stated ends ok = tt
of-words Holds _ stated ends ok = absurd ends

abbrev pub Told : ℕ → ℕ → Option Bool → Option Bool → Ended → Type 0
Told before now was told ended = AcceptTells before now was told (is_dock_fault ended)

-- no accept failed
pub completes : (status : Status) (before now : ℕ) (was told : Option Bool) → EndsBy status (Told before now was told)
    → (HasRisen before now → ⊥)
    → (status ≡ statuses.TurnsSpent) ⊎ (status ≡ statuses.NoMemory)
completes statuses.TurnsSpent before now was told ends calm = inl refl
completes statuses.DeviceFault before now was told ends calm = absurd (calm (ends.risen refl))
completes statuses.NoMemory before now was told ends calm = inr refl
completes _ before now was told ends calm = absurd ends

false-true : false ≡ true → ⊥
false-true e = let none : ⊥ = cc in none

at-least-itself : (n : ℕ) → n ≤ n
at-least-itself n = omega arith

-- no accept was called
pub none-called : (n : ℕ) (was : Option Bool) → AcceptTells n n was was false
none-called n was = record {
  later = at-least-itself n;
  risen = λ e. absurd (false-true e);
  kept = λ e. refl;
  failed = λ e. absurd (false-true e);
  passed = λ e. inr refl;
}
