use Rattle.gw_tables.proofs.SoundLemmas.{sound-removed-all}
use Rattle.gw_tables.proofs.tables.Tables.remove_all.Goals as goal

pub invariant_of-self : goal.invariant_of-self
invariant_of-self c = (
  sound-removed-all c.args.names.now c.take_out.new.halves c.take_out.ensures c.self.invariant.0,
  c.self.invariant.1,
  c.self.invariant.2,
)
