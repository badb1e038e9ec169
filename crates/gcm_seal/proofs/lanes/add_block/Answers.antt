use Rattle.std.proofs.Common.{arith}
use Rattle.gcm_seal.proofs.LaneSteps.{added}
use Rattle.gcm_seal.proofs.lanes.add_block.Goals as goal

pub returns-clause-within : goal.returns-clause-within
returns-clause-within c = λ k above below. added c.args.text.now c.args.stream.now c.args.at k c.requires (omega arith) above below
