use Rattle.std.proofs.Common.{◌≡◌, take}
use Rattle.gw_packets.specs.Looks.{expiries}
use Rattle.gw_packets.proofs.looks.told.Given as goal

abbrev pub invariant-loop-i : goal.invariant-loop-i
invariant-loop-i l = l.notices ≡ expiries l.clock (take l.i l.halves)
