use Rattle.std.proofs.Common.{refl, ap, ◌∙◌}
use Rattle.sad_store.specs.Halves.{hushed, entries_of}
use Rattle.sad_store.proofs.ListLemmas.{mapped-entries}
use Rattle.sad_store.proofs.StoredLemmas.{stored-same}
use Rattle.sad_store.proofs.store.SadStore.session.Goals as goal

pub invariant_of-self : goal.invariant_of-self
invariant_of-self c =
    let s = c.self.inside in
    stored-same s.halves.items c.hush.new.halves.items s.spis s.reqids (ap entries_of c.hush.ensures
    ∙ mapped-entries hushed (λ x. refl) s.halves.items) c.self.invariant
