use Rattle.std.proofs.Common.{◌≡◌, length}
use Rattle.live_sockets.specs.Peers.{AllDown}
use Rattle.ikeless.proofs.live.dialer_of.Given as goal

abbrev pub invariant-loop-i : goal.invariant-loop-i
invariant-loop-i l = (length l.dialer.peers.items ≡ l.i) × AllDown l.dialer.peers.items
