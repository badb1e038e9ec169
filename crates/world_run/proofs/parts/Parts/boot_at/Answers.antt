use Rattle.std.proofs.Common.{◌≡◌, IfOk, refl, set, subst}
use Rattle.world_steps.specs.Worlds.{World, node_at}
use Rattle.world_steps.specs.Steps.{boot_at}
use Rattle.world_run.specs.declared.go.Go.TheVariants as gos
use Rattle.world_run.specs.Taken.{IsDone}
use Rattle.world_run.specs.contracts.parts.Parts.{the_view}
use Rattle.world_run.proofs.Done.{kept_with, boot-done, ok-two}
use Rattle.world_run.proofs.Places.{IsAt, at-index}
use Rattle.world_run.proofs.parts.Parts.boot_at.Goals as goal

pub returns : goal.returns
returns c =
    let u : World = the_view c.self.inside in
    let at : IsAt c.args.g c.args.i u c.index_mut-node.result.now =
    at-index c.args.g c.args.i u c.args.self.now c.index_mut-node.result.now c.self.view_is c.requires c.index_mut-node.ensures.value
    in
    let v : World = kept_with u (set u.nodes c.args.i c.restart.new.node) (the_view c.self.inside).sent in
    subst (λ (z : World). IfOk c.restart.result (λ go. IsDone (boot_at z (node_at c.args.g z)) c.args.acts.now c.restart.new.acts v go))
    c.self.view_is
    (ok-two (λ go. go ≡ gos.On) _ c.restart.result c.restart.ensures.go c.restart.ensures.node c.restart.ensures.acts
    (λ go e m a. boot-done u v c.args.g c.args.i c.index_mut-node.result.now c.restart.new.node c.args.acts.now c.restart.new.acts go at
    e m a refl))
