use Rattle.std.proofs.Common.{ap, ◌∙◌, slice_set}
use Rattle.sad_store.specs.Halves.{with_window, mark_number}
use Rattle.sad_store.proofs.ListLemmas.{changed-at}
use Rattle.sad_store.proofs.change.mark_at.Goals as goal

pub returns : goal.returns
returns c =
    let xs = c.args.halves.now.items in
    let i = c.args.i in
    let x = c.index_mut.result.now in
    ap (λ w. slice_set xs i (with_window w x)) c.mark.ensures ∙ ap (λ z. slice_set xs i (mark_number c.args.s z)) c.index_mut.ensures.value
    ∙ changed-at (mark_number c.args.s) xs i x
