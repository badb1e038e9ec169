use Rattle.std.proofs.Common.{List, All, subst}
use Rattle.std.proofs.lemmas.List.{take_all}
use Rattle.std.proofs.lemmas.List.Elements.{All-more}
use Rattle.ikeless_tree.specs.declared.entry.Range.{Range}
use Rattle.ikeless_tree.specs.Typed.{IsTypedRange}
use Rattle.ikeless_tree.proofs.typed.ports_fit.Goals as goal

pub loop-range-preserved : goal.loop-range-preserved
loop-range-preserved c = All-more IsTypedRange c.as_slice-range-items.result.now c.loop-range.range-index (record { start = 0; end = 0 })
    c.loop-range-test.true c.loop-range.invariant c.numbers_fit.ensures

pub returns : goal.returns
returns c =
    let P : List Range → Type 0 = λ xs. All IsTypedRange xs in
    subst P c.as_slice-range-items.ensures
    (subst P (take_all c.loop-range.range-index c.as_slice-range-items.result.now c.loop-range-test.false) c.loop-range.invariant)
