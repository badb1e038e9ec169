use Rattle.hist_blocks.proofs.Histories.{blocks-length, genuine-none, history-more, history-one, none-genuine}
use Rattle.hist_blocks.proofs.laws.goes_on_event_by_event.Goals as goal

pub returns : goal.returns
returns c = record { genuine = none-genuine; none = genuine-none; count = blocks-length; one = history-one; more = history-more }
