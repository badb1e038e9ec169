use Rattle.std.proofs.Common.{true, refl, ap, ◌∙◌}
use Rattle.sad_store.specs.Halves.{with_overflow, entries_of}
use Rattle.sad_store.proofs.ListLemmas.{changed-entries}
use Rattle.sad_store.proofs.StoredLemmas.{stored-same}
use Rattle.sad_store.proofs.store.SadStore.overflow.Goals as goal

pub invariant_of-self : goal.invariant_of-self
invariant_of-self c =
    let s = c.self.inside in
    stored-same s.halves.items c.tell_overflow.new.halves.items s.spis s.reqids (ap entries_of c.tell_overflow.ensures.halves
    ∙ changed-entries (with_overflow true) (λ x. refl) c.args.i s.halves.items) c.self.invariant
