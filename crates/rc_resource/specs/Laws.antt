-- What laws over orders and replies speak of.
use Rattle.ikeless_tree.specs.declared.order.Answer.{Answer}
use Rattle.reply_table.specs.Reply.{Outcome}

-- the answer that a reply gives
abbrev pub answer_by : Outcome → Answer
answer_by r = record { status = r.status; tag = r.tag; names = r.names }
