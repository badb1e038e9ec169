-- What a dialer holds of each peer, and what its calls give and take.
use Rattle.std.specs.Prelude.{◌≡◌, ◌≢◌, ◌⊎◌, ℕ, ◌≤◌, Bool, true, false, List, [], ◌∷◌, ◌++◌, length, take, Option, Some, None, IfSome, Result, MatchResult}
use Rattle.live_devices.specs.Comings.{later}
use Rattle.live_devices.specs.Streams.{Read, Stream, silent}
use Rattle.live_devices.specs.Tallies.{one_more}

-- what comes in a session: its two streams
pub record Pair : Type 0 where
  pub control : Stream
  pub notices : Stream

-- what is still to come from a peer, and all that was written to it
pub record PeerHeld : Type 0 where
  -- what comes in each session from here on; nothing after these
  pub coming : List Pair
  pub is_up : Bool
  -- the two streams of the session that is up
  pub control : Stream
  pub notices : Stream
  -- how many sessions were dialled
  pub dials : ℕ
  -- the octets written in all sessions, and for each write the number of its session and how many octets it took
  pub written : List ℕ
  pub pieces : List (ℕ × ℕ)

-- what comes in the next session
abbrev pub next_pair : List Pair → Pair
next_pair [] = record { control = silent; notices = silent }
next_pair (pair ∷ rest) = pair

-- a dial opens the next session, which takes the place of one that is up
abbrev pub dialled : PeerHeld → PeerHeld
dialled p = record p {
  coming = later p.coming;
  is_up = true;
  control = (next_pair p.coming).control;
  notices = (next_pair p.coming).notices;
  dials = one_more p.dials;
}

-- a session that is hung up is gone, with its unread octets
abbrev pub hung_up : PeerHeld → PeerHeld
hung_up p = record p { is_up = false; control = silent; notices = silent }

-- one more write in the session dialled last
abbrev pub wrote : List ℕ → PeerHeld → PeerHeld
wrote octets p = record p { written = p.written ++ octets; pieces = p.pieces ++ (p.dials, length octets) ∷ [] }

-- what is told becomes this
abbrev pub Becomes : (PeerHeld → PeerHeld) → Option PeerHeld → Option PeerHeld → Type 0
Becomes f None None = Unit {0}
Becomes f None (Some new) = ⊥
Becomes f (Some old) None = ⊥
Becomes f (Some old) (Some new) = new ≡ f old

-- a dial that failed took nothing
abbrev pub DialGives : {T E : Type 0} → Option PeerHeld → Option PeerHeld → Result T E → Type 0
DialGives old new result = MatchResult result (λ _. Becomes dialled old new) (λ _. new ≡ old)

-- a read of the control stream took and gave what that has, and nothing else changes; a device that tells nothing says nothing
abbrev pub Reads : Option PeerHeld → Option PeerHeld → Option ℕ → List ℕ → Type 0
Reads None None answer buf = Unit {0}
Reads None (Some new) answer buf = ⊥
Reads (Some old) None answer buf = ⊥
Reads (Some old) (Some new) answer buf = (new ≡ record old { control = new.control }) × Read old.control new.control answer buf

-- the same of the notice stream
abbrev pub ReadsNotice : Option PeerHeld → Option PeerHeld → Option ℕ → List ℕ → Type 0
ReadsNotice None None answer buf = Unit {0}
ReadsNotice None (Some new) answer buf = ⊥
ReadsNotice (Some old) None answer buf = ⊥
ReadsNotice (Some old) (Some new) answer buf = (new ≡ record old { notices = new.notices }) × Read old.notices new.notices answer buf

-- a read that failed gave and took nothing
abbrev pub ReadGives : {E : Type 0} → Option PeerHeld → Option PeerHeld → Result (Option ℕ) E → List ℕ → Type 0
ReadGives old new result buf =
    MatchResult result (λ answer. IfSome answer (λ n. n ≤ length buf) × Reads old new answer buf) (λ _. new ≡ old)

-- a read of the notice stream gives at most what the buffer holds; one that failed gave and took nothing
abbrev pub NoticeGives : {E : Type 0} → Option PeerHeld → Option PeerHeld → Result (Option ℕ) E → List ℕ → Type 0
NoticeGives old new result buf =
    MatchResult result (λ answer. IfSome answer (λ n. n ≤ length buf) × ReadsNotice old new answer buf) (λ _. new ≡ old)

-- a write takes its piece; one that failed took nothing or a front of it
abbrev pub WriteTakes : {T E : Type 0} → Option PeerHeld → Option PeerHeld → Result T E → List ℕ → Type 0
WriteTakes old new result octets =
    MatchResult result
    (λ _. Becomes (wrote octets) old new)
    (λ _. (new ≡ old) ⊎ ((n : ℕ) × (n ≤ length octets) × Becomes (wrote (take n octets)) old new))

-- what is told of the other peers stays
abbrev pub StaysBut : {A : Type 0} → ℕ → (ℕ → A) → (ℕ → A) → Type 0
StaysBut g old new = (k : ℕ) → k ≢ g → new k ≡ old k
