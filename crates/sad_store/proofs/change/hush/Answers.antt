use Rattle.std.proofs.Common.{◌++◌, List, map, take, drop, ap, ◌∙◌, slice_set, get_or, arith}
use Rattle.sad_store.specs.declared.half.Half.{Half}
use Rattle.sad_store.specs.Halves.{hushed}
use Rattle.sad_store.proofs.ListLemmas.{mapped-more}
use Rattle.sad_store.proofs.change.hush.Goals as goal

pub loop-i-preserved : goal.loop-i-preserved
loop-i-preserved c =
    let xs = c.args.halves.now.items in
    let i = c.loop-i.i in
    let x = c.index_mut.result.now in
    let ys : List Half = map hushed (take i xs) ++ drop i xs in
    ap (slice_set c.loop-i.halves.items i) (c.hush_half.ensures ∙ ap hushed c.index_mut.ensures.value)
    ∙ ap (λ (zs : List Half). slice_set zs i (hushed (get_or zs i x))) c.loop-i.invariant
    ∙ mapped-more hushed xs i x (omega arith)
