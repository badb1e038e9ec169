use Rattle.gw_tables.proofs.SoundLemmas.{sound-told}
use Rattle.gw_tables.proofs.tables.Tables.tell_overflow.Goals as goal

pub invariant_of-self : goal.invariant_of-self
invariant_of-self c = (
  sound-told c.args.i c.overflow.new.self c.overflow.ensures.halves c.self.invariant.0,
  c.self.invariant.1,
  c.self.invariant.2,
)
