use Rattle.std.proofs.Common.{refl, ap, ◌∙◌}
use Rattle.sad_store.specs.Halves.{use_half, entries_of}
use Rattle.sad_store.proofs.ListLemmas.{changed-entries}
use Rattle.sad_store.proofs.StoredLemmas.{stored-same}
use Rattle.sad_store.proofs.store.SadStore.used.Goals as goal

pub invariant_of-self : goal.invariant_of-self
invariant_of-self c =
    let s = c.self.inside in
    stored-same s.halves.items c.use_at.new.halves.items s.spis s.reqids (ap entries_of c.use_at.ensures.halves
    ∙ changed-entries (use_half c.args.bytes c.args.now) (λ x. refl) c.args.i s.halves.items) c.self.invariant
