use Rattle.std.proofs.Common.{◌≡◌, take}
use Rattle.hist_gateway.specs.Places.{names_reached}
use Rattle.gw_packets.proofs.looks.reached.Given as goal

abbrev pub invariant-loop-i : goal.invariant-loop-i
invariant-loop-i l = l.names ≡ names_reached l.clock (take l.i l.halves)
