use Rattle.std.proofs.Common.{map}
use Rattle.gw_core.specs.Machine.{act_of_gone, acts_of_answer}
use Rattle.gw_core.proofs.Fronts.{kept-within, on-err, on-err-map}
use Rattle.gw_core.proofs.tell.put_done.Goals as goal

pub returns-in_err-put_gone-clause-err : goal.returns-in_err-put_gone-clause-err
returns-in_err-put_gone-clause-err c =
    on-err c.from_residual-in_err-put_gone.result
    (kept-within c.args.items.now.items (acts_of_answer c.args.done.answer) c.put_answer.new.items.items c.put_gone.new.items.items
    c.in_ok-put_answer.ensures.ok c.in_err-put_gone.ensures.err)

pub returns-clause-err : goal.returns-clause-err
returns-clause-err c =
    on-err-map c.put_notices.result
    (λ h. kept-within c.args.items.now.items (acts_of_answer c.args.done.answer) c.put_answer.new.items.items c.put_notices.new.items.items
    c.in_ok-put_answer.ensures.ok
    (kept-within c.put_answer.new.items.items (map act_of_gone c.args.done.gone) c.put_gone.new.items.items c.put_notices.new.items.items
    c.in_ok-put_gone.ensures.ok h))
    c.put_notices.ensures.err
