-- What a dialer over TCP tells of each peer.
use Rattle.std.specs.Prelude.{◌≡◌, ℕ, Bool, true, false, List, Option, Some, None, slice_get}
use Rattle.live_sockets.specs.declared.tcp_peer.Line.{Line}
use Rattle.live_sockets.specs.declared.tcp_peer.Line.TheVariants.{Down, Called, Up}
use Rattle.live_sockets.specs.declared.tcp_peer.TcpPeer.{TcpPeer}

-- whether a session is open
abbrev pub is_line_up : Line → Bool
is_line_up Down = false
is_line_up (Called session) = false
is_line_up (Up session) = true

-- whether a session with the peer is open; false where there is none
abbrev pub up_of : Option TcpPeer → Bool
up_of None = false
up_of (Some p) = is_line_up p.line

-- how often its calls have failed; 0 where there is no peer
abbrev pub faults_of : Option TcpPeer → ℕ
faults_of None = 0
faults_of (Some p) = p.tally.faults

-- what is told of the peer with this number
abbrev pub up_at : List TcpPeer → ℕ → Bool
up_at peers g = up_of (slice_get peers g)

-- how often the calls of the peer of this number have failed
abbrev pub faults_at : List TcpPeer → ℕ → ℕ
faults_at peers g = faults_of (slice_get peers g)

-- no session is open
abbrev pub AllDown : List TcpPeer → Type 0
AllDown peers = (g : ℕ) → up_at peers g ≡ false
