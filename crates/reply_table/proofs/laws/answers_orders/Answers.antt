use Rattle.std.proofs.Common.{refl}
use Rattle.reply_table.specs.Reply.{reply}
use Rattle.reply_table.proofs.Refusals.{put-is, remove-is}
use Rattle.reply_table.proofs.laws.answers_orders.Goals as goal

pub returns-clause-read : goal.returns-clause-read
unfolding reply
returns-clause-read c = λ t. (refl, refl)

pub returns-clause-policy : goal.returns-clause-policy
unfolding reply
returns-clause-policy c = λ t list. refl

pub returns-clause-put : goal.returns-clause-put
returns-clause-put c = put-is

pub returns-clause-remove : goal.returns-clause-remove
returns-clause-remove c = remove-is
