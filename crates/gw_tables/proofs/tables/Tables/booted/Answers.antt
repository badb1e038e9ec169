use Rattle.std.proofs.Common.{sym, subst}
use Rattle.spd_match.specs.Kept.{AreOf}
use Rattle.gw_tables.proofs.SoundLemmas.{sound-empty}
use Rattle.gw_tables.proofs.tables.Tables.booted.Goals as goal

pub invariant_of-result : goal.invariant_of-result
invariant_of-result c = (
  sound-empty _ c.new.ensures c.new-3.ensures c.in_ok-bad_spis.ensures.items,
  c.in_ok-bad_spis.ensures.capacity,
  subst (AreOf c.new.result) (sym c.in_ok-new.ensures) tt,
)
