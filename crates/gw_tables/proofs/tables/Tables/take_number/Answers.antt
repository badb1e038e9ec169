use Rattle.gw_tables.proofs.SoundLemmas.{sound-taken}
use Rattle.gw_tables.proofs.tables.Tables.take_number.Goals as goal

pub invariant_of-self : goal.invariant_of-self
invariant_of-self c = (
  sound-taken c.self.inside.clock c.args.octets c.args.number c.args.i c.take_at.new.halves c.take_at.ensures
      c.self.invariant.0,
  c.self.invariant.1,
  c.self.invariant.2,
)
