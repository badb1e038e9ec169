use Rattle.std.proofs.Common.{All, take}
use Rattle.ikeless_tree.specs.Typed.{IsTypedRange}
use Rattle.ikeless_tree.proofs.typed.ports_fit.Given as goal

abbrev pub invariant-loop-range : goal.invariant-loop-range
invariant-loop-range l = All IsTypedRange (take l.range-index l.range-items)
