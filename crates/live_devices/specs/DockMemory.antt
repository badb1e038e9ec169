-- What a dock in memory holds, and what fits it.
use Rattle.std.specs.Prelude.{◌≡◌, ℕ, ◌+◌, ◌<◌, ◌≤◌, map, vec_len, vec_capacity}
use Rattle.live_devices.specs.Docks.{DockHeld}
use Rattle.live_devices.specs.StreamMemory.{session_held, stream_held}
use Rattle.live_devices.specs.declared.dock_memory.MemoryDock.{MemoryDock}

-- what it tells as a dock
abbrev pub dock_held : MemoryDock → DockHeld
dock_held d = record {
  coming = map session_held d.coming.now;
  session = stream_held d.session;
  replies = d.replies.items;
  notices = d.notices.items;
  begins = d.begins.items;
}

-- a write is left, and the room for this many octets
abbrev pub HasReplyRoom : MemoryDock → ℕ → Type 0
HasReplyRoom d n = (0 < d.writes) × (vec_len d.replies + n ≤ vec_capacity d.replies)

-- a write is left, and the room for a notice of this many octets
abbrev pub HasNoticeRoom : MemoryDock → ℕ → Type 0
HasNoticeRoom d n = (0 < d.writes) × (vec_len d.notices + n ≤ vec_capacity d.notices)

-- the room stays
pub record KeepsRoom (old new : MemoryDock) : Type 0 where
  pub replies : vec_capacity new.replies ≡ vec_capacity old.replies
  pub notices : vec_capacity new.notices ≡ vec_capacity old.notices
