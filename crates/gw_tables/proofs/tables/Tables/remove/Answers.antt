use Rattle.gw_tables.proofs.SoundLemmas.{sound-removed}
use Rattle.gw_tables.proofs.tables.Tables.remove.Goals as goal

pub invariant_of-self : goal.invariant_of-self
invariant_of-self c = (
  sound-removed c.args.name.now c.remove.new.self c.remove.ensures.halves c.self.invariant.0,
  c.self.invariant.1,
  c.self.invariant.2,
)
