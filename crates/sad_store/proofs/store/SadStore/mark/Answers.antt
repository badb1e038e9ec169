use Rattle.std.proofs.Common.{refl, ap, ◌∙◌}
use Rattle.sad_store.specs.Halves.{mark_number, entries_of}
use Rattle.sad_store.proofs.ListLemmas.{changed-entries}
use Rattle.sad_store.proofs.StoredLemmas.{stored-same}
use Rattle.sad_store.proofs.store.SadStore.mark.Goals as goal

pub invariant_of-self : goal.invariant_of-self
invariant_of-self c =
    let s = c.self.inside in
    stored-same s.halves.items c.mark_at.new.halves.items s.spis s.reqids (ap entries_of c.mark_at.ensures
    ∙ changed-entries (mark_number c.args.s) (λ x. refl) c.args.i s.halves.items) c.self.invariant
