use Rattle.std.proofs.Common.{take}
use Rattle.sad_store.specs.Columns.{IsIndexed}
use Rattle.sad_store.proofs.column.indexed.Given as goal

abbrev pub invariant-loop-i : goal.invariant-loop-i
invariant-loop-i l = IsIndexed (take l.i l.keys) l.places
