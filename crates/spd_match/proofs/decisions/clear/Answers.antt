use Rattle.std.proofs.Common.{◌∙◌, None, length-set}
use Rattle.spd_match.proofs.KeptLemmas.{emptied-next}
use Rattle.spd_match.proofs.decisions.clear.Goals as goal

pub loop-i-preserved : goal.loop-i-preserved
loop-i-preserved c = record {
  length = length-set c.loop-i.places.items c.loop-i.i None ∙ c.loop-i.invariant.length;
  nothing = emptied-next c.loop-i.places.items c.loop-i.i c.loop-i.invariant.nothing;
}
