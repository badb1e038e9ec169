-- What a peer in memory holds, and what fits it.
use Rattle.std.specs.Prelude.{◌≡◌, ℕ, ◌+◌, ◌<◌, ◌≤◌, map, vec_len, vec_capacity}
use Rattle.live_devices.specs.Dialers.{Pair, PeerHeld}
use Rattle.live_devices.specs.StreamMemory.{script_held, stream_held}
use Rattle.live_devices.specs.declared.peer_memory.MemoryPeer.{MemoryPeer}
use Rattle.live_devices.specs.declared.peer_memory.PairScript.{PairScript}

-- both streams of a session as they come
abbrev pub pair_held : PairScript → Pair
pair_held p = record { control = script_held p.control; notices = script_held p.notices }

-- what it tells as a peer of a dialer
abbrev pub peer_held : MemoryPeer → PeerHeld
peer_held p = record {
  coming = map pair_held p.coming.now;
  is_up = p.is_up;
  control = stream_held p.control;
  notices = stream_held p.notices;
  dials = p.dials;
  written = p.written.items;
  pieces = p.pieces.items;
}

-- the room for one more write of this many octets
abbrev pub HasRoom : MemoryPeer → ℕ → Type 0
HasRoom p n = (vec_len p.pieces < vec_capacity p.pieces) × (vec_len p.written + n ≤ vec_capacity p.written)

-- the room stays
pub record KeepsRoom (old new : MemoryPeer) : Type 0 where
  pub written : vec_capacity new.written ≡ vec_capacity old.written
  pub pieces : vec_capacity new.pieces ≡ vec_capacity old.pieces
