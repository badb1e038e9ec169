use Rattle.std.proofs.Common.{ap, ◌∙◌, slice_set}
use Rattle.sad_store.specs.Halves.{number_next}
use Rattle.sad_store.proofs.ListLemmas.{changed-at}
use Rattle.sad_store.proofs.change.number.Goals as goal

pub returns-clause-halves : goal.returns-clause-halves
returns-clause-halves c =
    let xs = c.args.halves.now.items in
    let i = c.args.i in
    let x = c.index_mut-half.result.now in
    ap (λ z. slice_set xs i (number_next z)) c.index_mut-half.ensures.value ∙ changed-at number_next xs i x
