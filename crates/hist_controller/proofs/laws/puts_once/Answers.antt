use Rattle.hist_controller.proofs.Often.{put-once, keys-right}
use Rattle.hist_controller.proofs.laws.puts_once.Goals as goal

pub returns-clause-once : goal.returns-clause-once
returns-clause-once c = put-once

pub returns-clause-keyed : goal.returns-clause-keyed
returns-clause-keyed c = keys-right
