use Rattle.hist_wire.proofs.Histories.{block-count, front-history, history-is, last-forged, more-history, one-history}
use Rattle.hist_wire.proofs.laws.has_one_history.Goals as goal

pub returns : goal.returns
returns c = record {
  is = history-is;
  one = one-history;
  more = more-history;
  front = front-history;
  count = block-count;
  forged =
      last-forged;
}
