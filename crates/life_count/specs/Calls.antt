-- What befell an association since its installation, the newest first, and what the counts are that look back over it.
use Rattle.std.specs.Prelude.{ℕ, ◌+◌, ◌||◌, Bool, false, List, [], ◌∷◌}
use Rattle.ikeless_tree.specs.declared.sad.Limits.{Limits}
use Rattle.life_count.specs.declared.event.LifeEvent.{LifeEvent}
use Rattle.life_count.specs.declared.event.LifeEvent.TheVariants as events
use Rattle.life_count.specs.Lifetime.{Lifetime, begun, counted, counts_at, event_at, event_by, is_soft, looked, with_told}

-- a use with its ESP octets at this clock, a reading of the clock, and a session that is taken
pub data Call : Type 0 where
  Use : (size now : ℕ) → Call
  Tick : (now : ℕ) → Call
  Session : Call

-- ---- looking back

-- the ESP octets of the uses, their number, and the clock at the last one or else at the installation
abbrev pub octets_of : List Call → ℕ
octets_of [] = 0
octets_of (Use size now ∷ h) = octets_of h + size
octets_of (_ ∷ h) = octets_of h

-- how many uses there were
abbrev pub uses_of : List Call → ℕ
uses_of [] = 0
uses_of (Use size now ∷ h) = uses_of h + 1
uses_of (_ ∷ h) = uses_of h

-- the clock at the last use, or at the installation where there was none
abbrev pub last_use : ℕ → List Call → ℕ
last_use installed [] = installed
last_use installed (Use size now ∷ h) = now
last_use installed (_ ∷ h) = last_use installed h

-- the counts at this clock
abbrev pub counts_after : ℕ → ℕ → List Call → Limits
counts_after installed now h = counts_at now installed (last_use installed h) (octets_of h) (uses_of h)

-- a soft expiry was told by a look since the last session
abbrev pub was_told : Limits → Limits → ℕ → List Call → Bool
was_told hard soft installed [] = false
was_told hard soft installed (Use size now ∷ h) =
    is_soft (event_by hard soft (was_told hard soft installed h) (counts_after installed now (Use size now ∷ h)))
    || was_told hard soft installed h
was_told hard soft installed (Tick now ∷ h) = is_soft (event_by hard soft (was_told hard soft installed h) (counts_after installed now h))
    || was_told hard soft installed h
was_told hard soft installed (Session ∷ h) = false

-- what a call tells after those before it
abbrev pub told_by : Limits → Limits → ℕ → List Call → Call → LifeEvent
told_by hard soft installed h (Use size now) = event_by hard soft (was_told hard soft installed h)
    (counts_after installed now (Use size now ∷ h))
told_by hard soft installed h (Tick now) = event_by hard soft (was_told hard soft installed h) (counts_after installed now h)
told_by hard soft installed h Session = events.Nothing

-- ---- one call after another

-- what is kept after one call
abbrev pub next_life : Lifetime → Call → Lifetime
next_life l (Use size now) = looked now (counted size now l)
next_life l (Tick now) = looked now l
next_life l Session = with_told false l

-- what one call tells, by what is kept
abbrev pub next_event : Lifetime → Call → LifeEvent
next_event l (Use size now) = event_at now (counted size now l)
next_event l (Tick now) = event_at now l
next_event l Session = events.Nothing

-- what is kept after all these calls, from the installation on
abbrev pub life_after : Limits → Limits → ℕ → List Call → Lifetime
life_after hard soft installed [] = begun hard soft installed
life_after hard soft installed (c ∷ h) = next_life (life_after hard soft installed h) c
