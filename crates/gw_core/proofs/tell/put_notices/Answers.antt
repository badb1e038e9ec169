use Rattle.std.proofs.Common.{map, ◌∙◌}
use Rattle.gw_core.specs.Machine.{act_of_notice}
use Rattle.gw_core.proofs.Fronts.{kept, on-err}
use Rattle.gw_core.proofs.tell.put_notices.Goals as goal

pub returns-in_err-push-clause-err : goal.returns-in_err-push-clause-err
returns-in_err-push-clause-err c =
    on-err c.from_residual.result (kept c.args.items.now.items (map act_of_notice c.loop-notice.yielded) c.push.new.self.items
    (c.in_err-push.ensures.items ∙ c.loop-notice.invariant))
