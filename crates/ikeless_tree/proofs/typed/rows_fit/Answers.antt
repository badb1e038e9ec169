use Rattle.std.proofs.Common.{List, All, subst}
use Rattle.std.proofs.lemmas.List.{take_all}
use Rattle.std.proofs.lemmas.List.Elements.{All-more}
use Rattle.ikeless_tree.specs.declared.sad.SadRow.{SadRow}
use Rattle.ikeless_tree.specs.Typed.{IsTypedRow}
use Rattle.ikeless_tree.proofs.typed.rows_fit.Goals as goal

pub loop-row-preserved : goal.loop-row-preserved
loop-row-preserved c = All-more IsTypedRow c.as_slice-row-items.result.now c.loop-row.row-index c.row-item.result c.loop-row-test.true
    c.loop-row.invariant (subst IsTypedRow c.row-item.is c.numbers_fit.ensures)

pub returns : goal.returns
returns c =
    let P : List SadRow → Type 0 = λ xs. All IsTypedRow xs in
    subst P c.as_slice-row-items.ensures (subst P (take_all c.loop-row.row-index c.as_slice-row-items.result.now c.loop-row-test.false)
    c.loop-row.invariant)
