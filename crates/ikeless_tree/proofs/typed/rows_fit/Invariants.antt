use Rattle.std.proofs.Common.{All, take}
use Rattle.ikeless_tree.specs.Typed.{IsTypedRow}
use Rattle.ikeless_tree.proofs.typed.rows_fit.Given as goal

abbrev pub invariant-loop-row : goal.invariant-loop-row
invariant-loop-row l = All IsTypedRow (take l.row-index l.row-items)
