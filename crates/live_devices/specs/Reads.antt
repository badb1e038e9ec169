-- What a read of a session gives its node, and what calls make of what a device tells.
use Rattle.std.specs.Prelude.{◌≡◌, ◌==◌, ℕ, min, Bool, true, false, List, [], ◌∷◌, ◌++◌, length, take, drop, Option, Some, if◌then◌else◌}
use Rattle.live_devices.specs.Comings.{later}
use Rattle.live_devices.specs.Docks.{DockHeld}
use Rattle.live_devices.specs.Streams.{Stream, there_now}

-- what is told becomes this
abbrev pub Makes : {T : Type 0} → (T → T) → Option T → Option T → Type 0
Makes {T = T} f old new = (x : T) → old ≡ Some x → new ≡ Some (f x)

-- octets written on the control stream of the session
abbrev pub with_reply : List ℕ → DockHeld → DockHeld
with_reply octets d = record d { replies = d.replies ++ octets }

-- ---- reads

-- what a read of a stream gave: nothing waited, octets, or its end; where no session is there, nothing is read
pub data Came : Type 0 where
  Unread : Came
  Waiting : Came
  Piece : (octets : List ℕ) → Came
  End : Came

-- how many octets a read gives that has room for 65,536
abbrev pub read_size : Stream → ℕ
read_size s = min (min (length s.left) 65536) (there_now s.there)

-- what is left of a stream after a read
abbrev pub after_read : Stream → Stream
after_read s = record s { left = drop (read_size s) s.left; there = later s.there }

-- what a read of so many octets gives; where none is left, the end if the stream ends there, and else nothing
abbrev pub came_by : ℕ → Bool → List ℕ → Came
came_by size true [] = End
came_by size false [] = Waiting
came_by size ends (x ∷ xs) = Piece (take size (x ∷ xs))

-- what a read gives: nothing where no octet is there yet, the end where none is left
abbrev pub came_of : Stream → Came
came_of s = if there_now s.there == 0 then Waiting else came_by (read_size s) s.ends s.left

-- a read takes octets of the session; without a session none is read
abbrev pub read_at : Came → DockHeld → DockHeld
read_at Unread d = d
read_at _ d = record d { session = after_read d.session }
