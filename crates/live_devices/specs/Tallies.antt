-- Counts of faults, and lists of calls that are to fail.
use Rattle.std.specs.Prelude.{ℕ, ◌+◌, ◌-◌, ◌^◌, ◌==◌, min, Bool, true, false}
use Rattle.std.specs.List.{list_any}
use Rattle.live_devices.specs.declared.tally.Listed.{Listed}
use Rattle.live_devices.specs.declared.tally.Tally.{Tally}

-- one more, up to the greatest value
abbrev pub one_more : ℕ → ℕ
one_more n = min (n + 1) (2 ^ 64 - 1)

-- the count of calls that failed, after one that did or didn't
abbrev pub faults_after : Bool → ℕ → ℕ
faults_after false n = n
faults_after true n = one_more n

-- a tally after a call that failed or didn't
abbrev pub tally_after : Bool → Tally → Tally
tally_after failed t = record { faults = faults_after failed t.faults; failed = failed }

-- whether the next call is to fail
abbrev pub is_listed : Listed → Bool
is_listed l = list_any (λ k. k == one_more l.calls) l.fails.now

-- the list after a call
abbrev pub list_after : Listed → Listed
list_after l = record l { calls = one_more l.calls }
