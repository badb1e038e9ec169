-- How a controller's call ends.
use Rattle.std.specs.Prelude.{◌≡◌, ◌⊎◌, ℕ, ◌≤◌, Bool, true, false, Option, IfSome, Result, Ok, Err}
use Rattle.ikl_base.specs.Outside.{HasRisen}
use Rattle.live_controller.specs.declared.ended.Ended.{Ended}
use Rattle.live_controller.specs.declared.ended.Ended.TheVariants as endings

abbrev pub is_dock_fault : Ended → Bool
is_dock_fault endings.TurnsSpent = false
is_dock_fault endings.DockFault = true
is_dock_fault endings.NoMemory = false

abbrev pub is_turns_spent : Ended → Bool
is_turns_spent endings.TurnsSpent = true
is_turns_spent endings.DockFault = false
is_turns_spent endings.NoMemory = false

abbrev pub broke_of : {A : Type 0} → Result A Ended → Bool
broke_of (Ok x) = false
broke_of (Err ended) = is_dock_fault ended

-- what the count of accepts and the last one tell: the last accept failed, or none did
pub record AcceptTells (before now : ℕ) (was told : Option Bool) (broke : Bool) : Type 0 where
  pub later : before ≤ now
  pub risen : broke ≡ true → HasRisen before now
  pub kept : broke ≡ false → now ≡ before
  pub failed : broke ≡ true → IfSome told (λ failed. failed ≡ true)
  pub passed : broke ≡ false → IfSome told (λ failed. failed ≡ false) ⊎ (told ≡ was)
