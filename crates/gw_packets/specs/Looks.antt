-- What a look at halves ends and tells, and what it leaves (RFC 4301 section 4.4.2.1).
use Rattle.std.specs.Prelude.{ℕ, nat_lt, List, [], ◌∷◌, ◌++◌, map, Some, None, if◌then◌else◌}
use Rattle.ikeless_tree.specs.declared.order.Notice.{Notice}
use Rattle.life_count.specs.declared.event.LifeEvent.{LifeEvent}
use Rattle.life_count.specs.declared.event.LifeEvent.TheVariants as events
use Rattle.life_count.specs.Lifetime.{counts_of, event_at, expiry}
use Rattle.sad_store.specs.declared.half.Half.{Half}
use Rattle.sad_store.specs.Halves.{changed, look_at, halves_without}
use Rattle.hist_gateway.specs.Places.{names_reached, without_all}
use Rattle.gw_packets.specs.declared.done.PacketAnswer.{PacketAnswer}
use Rattle.gw_tables.specs.Kept.{Kept, with_halves, with_clock}
use Rattle.gw_packets.specs.Outcome.{Outcome, outcome}

-- ---- one half, after a use

-- the half of this name, if it is gone at a hard limit
abbrev pub gone_by : List ℕ → LifeEvent → List (List ℕ)
gone_by name events.Hard = name ∷ []
gone_by name events.Soft = []
gone_by name events.Nothing = []

-- the halves left, without that of this name if it is gone at a hard limit
abbrev pub left_by : List ℕ → LifeEvent → List Half → List Half
left_by name events.Hard xs = halves_without name xs
left_by name events.Soft xs = xs
left_by name events.Nothing xs = xs

-- The half at place i was used: x is that half after the use f, and is looked at.
abbrev pub used : PacketAnswer → ℕ → (Half → Half) → Half → Kept → Outcome
used answer i f x k =
    outcome (Some answer)
    (gone_by x.entry.name (event_at k.clock x.life))
    (expiry x.entry.name (counts_of k.clock x.life) (event_at k.clock x.life))
    (with_halves (left_by x.entry.name (event_at k.clock x.life) (changed (λ y. look_at k.clock (f y)) i k.halves)) k)

-- ---- all halves, at a reading that raises the clock

-- the hard and the soft expiries of these halves at this clock, in their order
abbrev pub expiries : ℕ → List Half → List Notice
expiries now [] = []
expiries now (x ∷ xs) = expiry x.entry.name (counts_of now x.life) (event_at now x.life) ++ expiries now xs

-- all halves are looked at: those that reach a hard limit are gone
abbrev pub looked : Kept → Outcome
looked k =
    outcome None (names_reached k.clock k.halves) (expiries k.clock k.halves)
    (with_halves (without_all (names_reached k.clock k.halves) (map (look_at k.clock) k.halves)) k)

-- a reading of the clock; one that doesn't raise it does nothing
abbrev pub clock_read : ℕ → Kept → Outcome
clock_read t k = if nat_lt k.clock t then looked (with_clock t k) else outcome None [] [] k
