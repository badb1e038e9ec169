use Rattle.gw_tables.proofs.SoundLemmas.{half-at}
use Rattle.gw_tables.proofs.tables.Tables.half.Goals as goal

pub returns-clause-sound : goal.returns-clause-sound
returns-clause-sound c = half-at c.self.inside.halves c.args.i c.half.result.now c.half.ensures c.self.invariant.0.halves
