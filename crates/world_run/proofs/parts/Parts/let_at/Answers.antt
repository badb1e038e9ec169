use Rattle.std.proofs.Common.{◌≡◌, IfOk, refl, set, sym, subst}
use Rattle.gw_core.specs.Machine.{Let}
use Rattle.world_steps.specs.Worlds.{World, node_at}
use Rattle.world_steps.specs.Steps.{let_at}
use Rattle.world_steps.specs.Conditions.{TellsAt}
use Rattle.world_run.specs.declared.go.Go.TheVariants as gos
use Rattle.world_run.specs.Taken.{IsDone}
use Rattle.world_run.specs.contracts.parts.Parts.{the_view}
use Rattle.world_run.proofs.Done.{kept_with, let-done, ok-three}
use Rattle.world_run.proofs.Places.{IsAt, at-index}
use Rattle.world_run.proofs.parts.Parts.let_at.Goals as goal

pub let_in-requires-clause-written : goal.let_in-requires-clause-written
let_in-requires-clause-written c =
    let u : World = the_view c.self.inside in
    let at : IsAt c.args.g c.args.i u c.index_mut-node.result.now =
    at-index c.args.g c.args.i u c.args.self.now c.index_mut-node.result.now c.self.view_is c.requires.place c.index_mut-node.ensures.value
    in
    subst (TellsAt (Let c.args.octets)) at.node
    (subst (λ (z : World). TellsAt (Let c.args.octets) (node_at c.args.g z)) (sym c.self.view_is) c.requires.can)

pub returns : goal.returns
returns c =
    let u : World = the_view c.self.inside in
    let at : IsAt c.args.g c.args.i u c.index_mut-node.result.now =
    at-index c.args.g c.args.i u c.args.self.now c.index_mut-node.result.now c.self.view_is c.requires.place c.index_mut-node.ensures.value
    in
    let v : World = kept_with u (set u.nodes c.args.i c.let_in.new.node) c.let_in.new.sent in
    subst (λ (z : World). IfOk c.let_in.result
    (λ go. IsDone (let_at c.args.octets z (node_at c.args.g z)) c.args.acts.now c.let_in.new.acts v go)) c.self.view_is
    (ok-three (λ go. go ≡ gos.On) _ c.let_in.result c.let_in.ensures.go c.let_in.ensures.node c.let_in.ensures.sent c.let_in.ensures.acts
    (λ go e m s a. let-done u v c.args.g c.args.octets c.args.i c.index_mut-node.result.now c.let_in.new.node c.let_in.new.sent
    c.args.acts.now c.let_in.new.acts go at e m s a refl))
