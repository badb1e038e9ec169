use Rattle.std.proofs.Common.{ap, ◌∙◌}
use Rattle.hist_acts.specs.declared.act.Act.TheVariants as acts
use Rattle.gw_core.specs.Machine.{Let}
use Rattle.world_steps.specs.Nodes.{outcome}
use Rattle.world_nodes.specs.Told.{acted}
use Rattle.world_run.proofs.Telling.{told-behind}
use Rattle.world_run.proofs.packets.let_in.Goals as goal

pub returns-clause-acts : goal.returns-clause-acts
returns-clause-acts c =
    told-behind c.args.node.now c.act.new.self (Let c.args.octets) c.in_ok-done.done c.args.acts.now c.push.new.self c.tell.new.acts
    (acts.Let c.args.g c.args.octets)
    (c.in_ok-done.ensures.node ∙ ap (λ z. acted (Let z) c.args.node.now) c.as_slice.ensures)
    (c.in_ok-done.ensures.acts ∙ ap (λ z. (outcome c.args.node.now (Let z)).acts) c.as_slice.ensures)
    c.in_ok-push.ensures.ok c.in_ok-tell.ensures.acts
