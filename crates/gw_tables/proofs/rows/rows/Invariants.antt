use Rattle.std.proofs.Common.{◌≡◌, map, take}
use Rattle.hist_gateway.specs.Machine.{row_from}
use Rattle.gw_tables.proofs.rows.rows.Given as goal

abbrev pub invariant-loop-i : goal.invariant-loop-i
invariant-loop-i l = l.rows ≡ map (row_from l.clock) (take l.i l.halves)
