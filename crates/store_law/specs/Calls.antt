-- The calls that change the store of halves, and what each makes of the list that it holds.
use Rattle.std.specs.Prelude.{ℕ, true, List, [], ◌∷◌, ◌++◌, Option, Some, None, map}
use Rattle.ikeless_tree.specs.declared.sad.SadEntry.{SadEntry}
use Rattle.sad_store.specs.declared.half.Half.{Half}
use Rattle.sad_store.specs.declared.fault.InstallFault.{InstallFault}
use Rattle.sad_store.specs.Halves.{changed, fresh, halves_without, hushed, look_at, mark_number, number_next, use_half, with_overflow}
use Rattle.sad_store.specs.Install.{install_fault}

-- The calls of the store that change it: `install`, `remove`, `next_number`, `mark`, `used`, `tick`, `overflow` and `session`. Clocks
-- are in whole seconds, i is a place in the order of installation, n a number and size a count of ESP octets. A call of `install`
-- that wants memory leaves everything as it is, and isn't among them.
pub data Call : Type 0 where
  Install : (e : SadEntry) (now : ℕ) → Call
  Remove : (name : List ℕ) → Call
  Next_number : (i : ℕ) → Call
  Mark : (i n : ℕ) → Call
  Use : (i size now : ℕ) → Call
  Look : (i now : ℕ) → Call
  Overflow : (i : ℕ) → Call
  Session : Call

-- the entry is installed where there is no reason against it
abbrev pub installed : SadEntry → ℕ → List Half → Option InstallFault → List Half
installed e now xs None = xs ++ fresh now e ∷ []
installed e now xs (Some fault) = xs

-- what a call makes of the halves, as its contract says
abbrev pub did : List Half → Call → List Half
did xs (Install e now) = installed e now xs (install_fault e xs)
did xs (Remove name) = halves_without name xs
did xs (Next_number i) = changed number_next i xs
did xs (Mark i n) = changed (mark_number n) i xs
did xs (Use i size now) = changed (use_half size now) i xs
did xs (Look i now) = changed (look_at now) i xs
did xs (Overflow i) = changed (with_overflow true) i xs
did xs Session = map hushed xs

-- the halves after these calls, the newest of which stands first; a new store has none
abbrev pub did_all : List Call → List Half
did_all [] = []
did_all (c ∷ h) = did (did_all h) c
