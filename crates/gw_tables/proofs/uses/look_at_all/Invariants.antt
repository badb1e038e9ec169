use Rattle.std.proofs.Common.{◌≡◌, ◌++◌, length, map, take, drop}
use Rattle.sad_store.specs.Halves.{look_at}
use Rattle.gw_tables.proofs.uses.look_at_all.Given as goal

abbrev pub invariant-loop-i : goal.invariant-loop-i
invariant-loop-i l = record {
  length : length l.halves ≡ length l.initial.halves;
  looked : l.halves ≡ map (look_at l.clock) (take l.i l.initial.halves) ++ drop l.i l.initial.halves;
}
