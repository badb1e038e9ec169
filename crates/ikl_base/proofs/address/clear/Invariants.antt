use Rattle.std.proofs.Common.{◌≡◌, ◌++◌, take, drop}
use Rattle.ikl_base.specs.Address.{cleared_from}
use Rattle.ikl_base.proofs.address.clear.Given as goal

abbrev pub invariant-loop-i : goal.invariant-loop-i
invariant-loop-i l = take l.i l.octets ++ cleared_from l.left (drop l.i l.octets) ≡ cleared_from l.bits l.initial.octets
