-- What the calls of a source and a sink give and take.
use Rattle.std.specs.Prelude.{◌≡◌, ℕ, ◌+◌, ◌-◌, ◌^◌, min, ◌<◌, ◌≤◌, List, [], ◌++◌, length, take, Option, Some, None, Result, Ok, Err, IsOk, IsErr, MatchResult, Bool, true, false, is_err, IfSome}

-- what is told loses these octets from its front
abbrev pub Loses : Option (List ℕ) → Option (List ℕ) → List ℕ → Type 0
Loses None None bytes = Unit {0}
Loses None (Some new) bytes = ⊥
Loses (Some old) None bytes = ⊥
Loses (Some old) (Some new) bytes = old ≡ bytes ++ new

-- what is told gains these octets at its end
abbrev pub Gains : Option (List ℕ) → Option (List ℕ) → List ℕ → Type 0
Gains None None bytes = Unit {0}
Gains None (Some new) bytes = ⊥
Gains (Some old) None bytes = ⊥
Gains (Some old) (Some new) bytes = new ≡ old ++ bytes

-- nothing is left, where it is told
abbrev pub AtEnd : Option (List ℕ) → Type 0
AtEnd None = Unit {0}
AtEnd (Some left) = left ≡ []

-- a read that gave n octets
pub record ReadGave (old new : Option (List ℕ)) (n : ℕ) (buf : List ℕ) : Type 0 where
  pub bound : n ≤ length buf
  pub octets : Loses old new (take n buf)
  -- 0 for a buffer that isn't empty is the end
  pub end : n ≡ 0 → 0 < length buf → AtEnd old

-- what a read answers: so many octets into the front of the buffer, or a fault that takes none of what is told
abbrev pub ReadGives : {E : Type 0} → Option (List ℕ) → Option (List ℕ) → Result ℕ E → List ℕ → Type 0
ReadGives old new r buf = MatchResult r (λ n. ReadGave old new n buf) (λ _. Loses old new [])

-- a write that took n octets; none of a piece that isn't empty is a fault
pub record WriteTook (old new : Option (List ℕ)) (n : ℕ) (buf : List ℕ) : Type 0 where
  pub bound : n ≤ length buf
  pub octets : Gains old new (take n buf)
  pub some : 0 < length buf → 0 < n

-- what a write answers: so many octets taken from the front of the piece, or a fault that may have taken a front of it
abbrev pub WriteTakes : {E : Type 0} → Option (List ℕ) → Option (List ℕ) → Result ℕ E → List ℕ → Type 0
WriteTakes old new r buf = MatchResult r (λ n. WriteTook old new n buf) (λ _. (n : ℕ) × (n ≤ length buf) × Gains old new (take n buf))

-- a count has risen, or stands at its greatest value
abbrev pub HasRisen : ℕ → ℕ → Type 0
HasRisen before now = min (before + 1) (2 ^ 64 - 1) ≤ now

-- the count never falls: a call that failed raised it, and one that didn't left it as it was
pub record HasCause {T E : Type 0} (before now : ℕ) (result : Result T E) : Type 0 where
  pub later : before ≤ now
  pub failed : IsErr result → HasRisen before now
  pub kept : IsOk result → now ≡ before

-- a count in memory after a call: one more where it failed, up to the greatest value
abbrev pub count_after : {T E : Type 0} → ℕ → Result T E → ℕ
count_after before (Ok x) = before
count_after before (Err e) = min (before + 1) (2 ^ 64 - 1)

-- how many writes are left in memory after a write: one fewer where it took its piece
abbrev pub writes_after : {T E : Type 0} → ℕ → Result T E → ℕ
writes_after left (Ok x) = left - 1
writes_after left (Err e) = left

-- whether the last call failed is told truly, where it is told
abbrev pub TellsOutcome : {T E : Type 0} → Option Bool → Result T E → Type 0
TellsOutcome told result = IfSome told (λ failed. failed ≡ is_err result)

-- the last call didn't fail, where that is told
abbrev pub IsCalm : Option Bool → Type 0
IsCalm told = IfSome told (λ failed. failed ≡ false)

-- the last call failed, where that is told
abbrev pub HasFailed : Option Bool → Type 0
HasFailed told = IfSome told (λ failed. failed ≡ true)
