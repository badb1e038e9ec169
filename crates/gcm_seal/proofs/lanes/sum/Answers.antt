use Rattle.std.proofs.Common.{arith}
use Rattle.gcm_seal.proofs.LaneSteps.{sum_is}
use Rattle.gcm_seal.proofs.lanes.sum.Goals as goal

pub returns : goal.returns
returns c = sum_is c.args.a.now c.args.b.now (omega arith) (omega arith)
