use Rattle.std.proofs.Common.{◌≡◌, ◌++◌, List, All, sym, ap, subst, ◌∙◌}
use Rattle.gw_core.specs.Machine.{seen, stepped}
use Rattle.gw_requests.specs.declared.act.GwAct.{GwAct}
use Rattle.world_steps.specs.Conditions.{IsWritten}
use Rattle.live_gateway.proofs.Written.{step-written}
use Rattle.live_gateway.proofs.happen.step.Goals as goal

pub returns-clause-written : goal.returns-clause-written
returns-clause-written c =
    let xs : List GwAct = (stepped c.args.node.now.gateway.config (seen c.args.e) c.args.node.now.gateway.kept).acts in
    let is : c.step.new.acts ≡ xs = c.in_ok-step.ensures.acts ∙ ap (λ zs. zs ++ xs) c.new-acts.ensures in
    subst (All IsWritten) (sym is)
    (step-written c.replies_can_be_written.ensures.asks c.args.node.now.gateway.config (seen c.args.e) c.args.node.now.gateway.kept
    c.in_ok-step.ensures.sound c.requires.event c.requires.refusal c.in_ok-step.ensures.tree)
