use Rattle.std.proofs.Common.{◌∙◌}
use Rattle.gcm_seal.proofs.LaneSteps.{loaded}
use Rattle.gcm_seal.proofs.lanes.block_at.Goals as goal
use Rattle.gcm_seal.proofs.lanes.block_at.Goals.{then-at-octets, else-at-octets}

pub returns : goal.returns
returns c = elim c.if-at-octets.branch [
  | then-at-octets w ↦ w.result-is ∙ loaded c.args.octets.now c.args.at w.if-at-octets.true
  | else-at-octets w ↦ w.result-is ∙ w.filled_up.ensures
]
