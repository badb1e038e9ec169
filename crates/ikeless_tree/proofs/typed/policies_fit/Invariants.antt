use Rattle.std.proofs.Common.{All, take}
use Rattle.ikeless_tree.specs.Typed.{IsTypedPolicy}
use Rattle.ikeless_tree.proofs.typed.policies_fit.Given as goal

abbrev pub invariant-loop-entry : goal.invariant-loop-entry
invariant-loop-entry l = All IsTypedPolicy (take l.entry-index l.entry-items)
