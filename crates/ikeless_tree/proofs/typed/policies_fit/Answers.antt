use Rattle.std.proofs.Common.{List, All, subst}
use Rattle.std.proofs.lemmas.List.{take_all}
use Rattle.std.proofs.lemmas.List.Elements.{All-more}
use Rattle.ikeless_tree.specs.declared.entry.SpdEntry.{SpdEntry}
use Rattle.ikeless_tree.specs.Typed.{IsTypedPolicy}
use Rattle.ikeless_tree.proofs.typed.policies_fit.Goals as goal

pub loop-entry-preserved : goal.loop-entry-preserved
loop-entry-preserved c = All-more IsTypedPolicy c.as_slice-entry-items.result.now c.loop-entry.entry-index c.entry-item.result
    c.loop-entry-test.true c.loop-entry.invariant (subst IsTypedPolicy c.entry-item.is c.numbers_fit.ensures)

pub returns : goal.returns
returns c =
    let P : List SpdEntry → Type 0 = λ xs. All IsTypedPolicy xs in
    subst P c.as_slice-entry-items.ensures
    (subst P (take_all c.loop-entry.entry-index c.as_slice-entry-items.result.now c.loop-entry-test.false) c.loop-entry.invariant)
