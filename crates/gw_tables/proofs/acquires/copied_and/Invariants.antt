use Rattle.std.proofs.Common.{◌≡◌, take}
use Rattle.gw_tables.proofs.acquires.copied_and.Given as goal

abbrev pub invariant-loop-q : goal.invariant-loop-q
invariant-loop-q l = l.copies ≡ take l.q-index l.names
