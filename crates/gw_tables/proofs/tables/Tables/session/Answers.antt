use Rattle.std.proofs.Common.{◌≤◌, subst, sym}
use Rattle.gw_tables.proofs.SoundLemmas.{sound-else, sound-hushed, sound-spis}
use Rattle.gw_tables.proofs.tables.Tables.session.Goals as goal

pub invariant_of-self : goal.invariant_of-self
invariant_of-self c = (
  sound-spis c.clear-2.new.self.items c.clear-2.ensures.items
      (sound-else c.clear.new.self.items c.self.inside.clock (sound-hushed c.session.new.self c.session.ensures c.self.invariant.0)),
  subst (λ n. 65 ≤ n) (sym c.clear-2.ensures.capacity) c.self.invariant.1,
  c.self.invariant.2,
)
