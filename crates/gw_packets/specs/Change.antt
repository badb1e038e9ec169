-- What a plan does once it is carried out.
use Rattle.std.specs.Prelude.{◌≡◌, ◌<◌, ℕ, true, nat_lt, List, length, Option, Some, None, option_map, slice_get}
use Rattle.replay_win.specs.Marks.{judged}
use Rattle.replay_win.specs.declared.verdict.Verdict.TheVariants.{Fresh}
use Rattle.life_count.specs.declared.event.LifeEvent.{LifeEvent}
use Rattle.life_count.specs.declared.event.LifeEvent.TheVariants as events
use Rattle.gw_tables.specs.Kept.{Kept, removed}
use Rattle.gw_tables.specs.Uses.{looked_at, removed_all, sent_at, taken_at, told_at, with_acquires, with_bad_spi}
use Rattle.gw_packets.specs.declared.plan.Plan.{Plan}
use Rattle.gw_packets.specs.declared.plan.TableChange.{TableChange}
use Rattle.gw_packets.specs.declared.plan.TableChange.TheVariants as changes
use Rattle.gw_packets.specs.Outcome.{Outcome}

-- the half of this name is gone, where there is a name
abbrev pub gone_from : Option (List ℕ) → Kept → Kept
gone_from None k = k
gone_from (Some name) k = removed name k

-- the name of a half that is gone by what was found of it
abbrev pub going_by : List ℕ → LifeEvent → Option (List ℕ)
going_by name events.Hard = Some name
going_by name events.Soft = None
going_by name events.Nothing = None

-- what is kept after a change
abbrev pub applied : TableChange → Kept → Kept
applied changes.Nothing k = k
applied (changes.Acquires names) k = with_acquires names k
applied (changes.BadSpi spi) k = with_bad_spi spi k
applied (changes.Overflow i) k = told_at i k
applied (changes.Send i octets gone) k = gone_from gone (sent_at octets i k)
applied (changes.Take i octets number gone) k = gone_from gone (taken_at octets number i k)
applied (changes.Look now gone) k = removed_all gone (looked_at now k)

-- there is that half, and it may send or take that number
abbrev pub Fits : TableChange → Kept → Type 0
Fits changes.Nothing k = Unit {0}
Fits (changes.Acquires names) k = Unit {0}
Fits (changes.BadSpi spi) k = Unit {0}
Fits (changes.Overflow i) k = i < length k.halves
Fits (changes.Send i octets _) k = (i < length k.halves) × (option_map (λ x. nat_lt x.sent 4294967295) (slice_get k.halves i) ≡ Some true)
Fits (changes.Take i octets number _) k = (i < length k.halves)
    × (option_map (λ x. judged x.window number) (slice_get k.halves i) ≡ Some Fresh)
Fits (changes.Look now gone) k = Unit {0}

-- what a plan comes to
abbrev pub planned : Plan → Kept → Outcome
planned p k = record { done = p.done; kept = applied p.change k }
