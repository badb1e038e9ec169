-- What a call that may run out of memory answers.
use Rattle.std.specs.Prelude.{◌≡◌, ℕ, List, ◌++◌, Result, Ok, Err}
use Rattle.ikl_base.specs.declared.fault.OrMemory.{OrMemory}
use Rattle.ikl_base.specs.declared.fault.OrMemory.TheVariants as failures

-- the refusal is the one stated, unless memory ran out
abbrev pub Refuses : {A F : Type 0} → OrMemory F → Result A F → Type 0
Refuses (failures.Refused fault) stated = stated ≡ Err fault
Refuses failures.NoMemory stated = Unit {0}

-- the answer is the one stated, unless memory ran out
abbrev pub Gives : {A F : Type 0} → Result A (OrMemory F) → Result A F → Type 0
Gives (Ok x) stated = stated ≡ Ok x
Gives (Err e) stated = Refuses e stated

-- what was there, and a front of a text
pub record HoldsFront (old text new : List ℕ) : Type 0 where
  pub part : List ℕ
  pub rest : List ℕ
  pub whole : part ++ rest ≡ text
  pub held : new ≡ old ++ part

-- a call that adds a text; for want of memory it added a front of it
abbrev pub Adds : {A E : Type 0} → Result A E → List ℕ → List ℕ → List ℕ → Type 0
Adds (Ok x) old text new = new ≡ old ++ text
Adds (Err e) old text new = HoldsFront old text new
