-- What fits a sink in memory.
use Rattle.std.specs.Prelude.{ℕ, ◌+◌, ◌<◌, ◌≤◌, vec_len, vec_capacity}
use Rattle.ikl_base.specs.declared.memory.MemorySink.{MemorySink}

-- a write is left, and the room for this many octets
abbrev pub HasRoom : MemorySink → ℕ → Type 0
HasRoom s n = (0 < s.writes) × (vec_len s.octets + n ≤ vec_capacity s.octets)
