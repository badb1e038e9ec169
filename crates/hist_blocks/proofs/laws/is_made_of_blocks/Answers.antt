use Rattle.hist_blocks.proofs.Histories.{blocks-take, history-blocks}
use Rattle.hist_blocks.proofs.laws.is_made_of_blocks.Goals as goal

pub returns : goal.returns
returns c = record { blocks = history-blocks; front = blocks-take }
