-- What a wire in memory holds, and what fits it.
use Rattle.std.specs.Prelude.{ℕ, ◌+◌, ◌<◌, ◌≤◌, vec_len, vec_capacity}
use Rattle.live_devices.specs.Wires.{WireHeld}
use Rattle.live_devices.specs.declared.wire_memory.MemoryWire.{MemoryWire}

-- what it tells as a wire
abbrev pub wire_held : MemoryWire → WireHeld
wire_held w = record { coming = w.coming.now; sent = w.sent.items; sizes = w.sizes.items }

-- the room for one more datagram of this many octets
abbrev pub HasRoom : MemoryWire → ℕ → Type 0
HasRoom w n = (vec_len w.sizes < vec_capacity w.sizes) × (vec_len w.sent + n ≤ vec_capacity w.sent)
