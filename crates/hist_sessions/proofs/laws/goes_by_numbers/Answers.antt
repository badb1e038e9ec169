use Rattle.hist_sessions.proofs.Numbers.{answer-at, answers-in-order, few-answered, few-heard, handled-count, notices-in-order, order-at, orders-count}
use Rattle.hist_sessions.proofs.laws.goes_by_numbers.Goals as goal

pub returns : goal.returns
returns c = record {
  order = order-at;
  orders = orders-count;
  answer = answer-at;
  handled = handled-count;
  answers = answers-in-order;
  notices = notices-in-order;
  few_answers = few-answered;
  few_notices = few-heard;
}
