use Rattle.reply_table.proofs.ChangesLemmas.{fits-reply, makes-reply}
use Rattle.reply_table.proofs.laws.changes_fit.Goals as goal

pub returns-clause-before : goal.returns-clause-before
returns-clause-before c = fits-reply

pub returns-clause-after : goal.returns-clause-after
returns-clause-after c = makes-reply
