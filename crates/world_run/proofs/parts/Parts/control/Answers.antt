use Rattle.std.proofs.Common.{◌++◌, ap, subst, ◌∙◌}
use Rattle.ctl_core.specs.Step.{stepped}
use Rattle.world_steps.specs.Worlds.{World}
use Rattle.world_steps.specs.Steps.{controlled}
use Rattle.world_run.specs.declared.go.Go.TheVariants as gos
use Rattle.world_run.specs.Taken.{IsDone}
use Rattle.world_run.specs.contracts.parts.Parts.{the_view}
use Rattle.world_run.proofs.Giving.{controlled-done}
use Rattle.world_run.proofs.parts.Parts.control.Goals as goal

pub returns : goal.returns
returns c =
    let u : World = the_view c.self.inside in
    subst (λ (z : World). IsDone (controlled c.args.e z) c.args.acts.now c.give.new.acts c.give.new.self gos.On) c.self.view_is
    (controlled-done c.args.e u c.give.new.self c.step.new.self c.step.new.acts c.args.acts.now c.give.new.acts c.in_ok-step.ensures.state
    (c.in_ok-step.ensures.acts ∙ ap (λ z. z ++ (stepped c.self.inside.controller c.args.e).acts) c.new-given.ensures)
    c.in_ok-give.ensures.world c.in_ok-give.ensures.acts)
