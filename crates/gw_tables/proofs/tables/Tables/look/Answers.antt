use Rattle.gw_tables.proofs.SoundLemmas.{sound-else, sound-looked}
use Rattle.gw_tables.proofs.tables.Tables.look.Goals as goal

pub invariant_of-self : goal.invariant_of-self
invariant_of-self c = (
  sound-else c.self.inside.acquires.items c.args.clock (sound-looked c.args.clock c.look_at_all.new.halves c.look_at_all.ensures
      c.self.invariant.0),
  c.self.invariant.1,
  c.self.invariant.2,
)
