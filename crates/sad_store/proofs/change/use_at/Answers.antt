use Rattle.std.proofs.Common.{ap, ◌∙◌, slice_set}
use Rattle.sad_store.specs.Halves.{with_life, use_half}
use Rattle.sad_store.proofs.ListLemmas.{changed-at}
use Rattle.sad_store.proofs.change.use_at.Goals as goal

pub returns-clause-halves : goal.returns-clause-halves
returns-clause-halves c =
    let xs = c.args.halves.now.items in
    let i = c.args.i in
    let x = c.index_mut.result.now in
    ap (λ l. slice_set xs i (with_life l x)) c.used.ensures.life ∙ ap (λ z. slice_set xs i (use_half c.args.bytes c.args.now z))
    c.index_mut.ensures.value ∙ changed-at (use_half c.args.bytes c.args.now) xs i x
