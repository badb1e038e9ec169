-- What a dialer in memory of which some calls fail tells of each peer.
use Rattle.std.specs.Prelude.{ℕ, Bool, false, List, Option, Some, None, slice_get}
use Rattle.live_devices.specs.Dialers.{PeerHeld}
use Rattle.live_devices.specs.PeerMemory.{peer_held}
use Rattle.live_devices.specs.declared.peer_faulty.FaultyPeer.{FaultyPeer}

-- what is told of a peer; nothing where there is none
abbrev pub held_of : Option FaultyPeer → Option PeerHeld
held_of None = None
held_of (Some p) = Some (peer_held p.peer)

-- whether a session with the peer is open; false where there is none
abbrev pub up_of : Option FaultyPeer → Bool
up_of None = false
up_of (Some p) = p.peer.is_up

-- how often its calls have failed; 0 where there is no peer
abbrev pub faults_of : Option FaultyPeer → ℕ
faults_of None = 0
faults_of (Some p) = p.tally.faults

-- whether its last call failed; nothing is told where there is no peer
abbrev pub failed_of : Option FaultyPeer → Option Bool
failed_of None = None
failed_of (Some p) = Some p.tally.failed

-- what is told of the peer with this number
abbrev pub held_at : List FaultyPeer → ℕ → Option PeerHeld
held_at peers g = held_of (slice_get peers g)

-- whether a session is open with the peer of this number
abbrev pub up_at : List FaultyPeer → ℕ → Bool
up_at peers g = up_of (slice_get peers g)

-- how often the calls of the peer of this number have failed
abbrev pub faults_at : List FaultyPeer → ℕ → ℕ
faults_at peers g = faults_of (slice_get peers g)

-- whether the last call of the peer of this number failed
abbrev pub failed_at : List FaultyPeer → ℕ → Option Bool
failed_at peers g = failed_of (slice_get peers g)
