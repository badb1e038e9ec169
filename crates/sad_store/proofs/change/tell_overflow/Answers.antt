use Rattle.std.proofs.Common.{true, ap, ◌∙◌, slice_set}
use Rattle.sad_store.specs.Halves.{with_overflow}
use Rattle.sad_store.proofs.ListLemmas.{changed-at}
use Rattle.sad_store.proofs.change.tell_overflow.Goals as goal

pub returns-clause-halves : goal.returns-clause-halves
returns-clause-halves c =
    let xs = c.args.halves.now.items in
    let i = c.args.i in
    let x = c.index_mut-half.result.now in
    ap (λ z. slice_set xs i (with_overflow true z)) c.index_mut-half.ensures.value ∙ changed-at (with_overflow true) xs i x
