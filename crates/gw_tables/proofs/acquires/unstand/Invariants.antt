use Rattle.std.proofs.Common.{◌≡◌, ◌++◌, ◌≤◌, take, drop, length}
use Rattle.gw_tables.specs.Kept.{unwanted}
use Rattle.gw_tables.proofs.acquires.unstand.Given as goal

abbrev pub invariant-loop-i : goal.invariant-loop-i
invariant-loop-i l = record {
  front : l.i ≤ length l.initial.names.items;
  rest : l.names.items ≡ take l.i l.initial.names.items ++ unwanted l.reqid l.list (drop l.i l.initial.names.items);
}

abbrev pub decreases-loop-i : goal.decreases-loop-i
decreases-loop-i l = l.i
