use Rattle.hist_blocks.proofs.Histories.{ends-forged, history-over}
use Rattle.hist_blocks.proofs.laws.ends_with_a_forgery.Goals as goal

pub returns : goal.returns
returns c = record { ends = ends-forged; over = history-over }
