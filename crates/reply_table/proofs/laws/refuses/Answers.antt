use Rattle.reply_table.proofs.Refusals.{good-reply}
use Rattle.reply_table.proofs.laws.refuses.Goals as goal

pub returns-clause-tree : goal.returns-clause-tree
returns-clause-tree c = λ t a e. (good-reply t a e).0

pub returns-clause-change : goal.returns-clause-change
returns-clause-change c = λ t a e. (good-reply t a e).1
