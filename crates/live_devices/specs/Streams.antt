-- A stream that comes in, and what a read of it gives.
use Rattle.std.specs.Prelude.{◌≡◌, ◌⊎◌, ℕ, ◌-◌, ◌^◌, ◌<◌, min, Bool, true, false, List, [], ◌∷◌, ◌++◌, length, take, Option, Some, None, IfSome}
use Rattle.live_devices.specs.Comings.{later}

-- what is still to come from the other end of a session, and how it is spread over the reads
pub record Stream : Type 0 where
  -- the octets that are left, and how many of them are there at each read from here on; all of them after these reads
  pub left : List ℕ
  pub there : List ℕ
  -- whether the stream ends after its octets
  pub ends : Bool

-- a stream on which nothing ever comes
abbrev pub silent : Stream
silent = record { left = []; there = []; ends = false }

-- how many octets are there at the next read
abbrev pub there_now : List ℕ → ℕ
there_now [] = 2 ^ 64 - 1
there_now (n ∷ rest) = n

-- how many octets an answer gives
abbrev pub given : Option ℕ → ℕ
given None = 0
given (Some n) = n

-- a read gives the first octets of those that are there, as far as the buffer has room; nothing where none is there;
-- and 0 at the end
pub record Read (old new : Stream) (answer : Option ℕ) (buf : List ℕ) : Type 0 where
  pub octets : old.left ≡ take (given answer) buf ++ new.left
  pub there : new.there ≡ later old.there
  pub ends : new.ends ≡ old.ends
  pub size : IfSome answer (λ n. n ≡ min (min (length old.left) (length buf)) (there_now old.there))
  pub some : IfSome answer (λ _. (0 < there_now old.there) × ((0 < length old.left) ⊎ (old.ends ≡ true)))
  pub none : answer ≡ None → (there_now old.there ≡ 0) ⊎ ((length old.left ≡ 0) × (old.ends ≡ false))
