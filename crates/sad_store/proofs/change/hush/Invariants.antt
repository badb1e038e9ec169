use Rattle.std.proofs.Common.{◌≡◌, ◌++◌, map, take, drop}
use Rattle.sad_store.specs.Halves.{hushed}
use Rattle.sad_store.proofs.change.hush.Given as goal

abbrev pub invariant-loop-i : goal.invariant-loop-i
invariant-loop-i l = l.halves.items ≡ map hushed (take l.i l.initial.halves.items) ++ drop l.i l.initial.halves.items
