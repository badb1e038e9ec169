use Rattle.std.proofs.Common.{Option, refl, set, sym, subst}
use Rattle.ikeless_tree.specs.declared.order.Order.{Order}
use Rattle.world_steps.specs.Nodes.{Node}
use Rattle.world_steps.specs.Worlds.{World, node_at}
use Rattle.world_steps.specs.Steps.{down_at}
use Rattle.world_steps.specs.Conditions.{Asks, at}
use Rattle.world_run.specs.declared.go.Go.TheVariants as gos
use Rattle.world_run.specs.Taken.{IsDone}
use Rattle.world_run.specs.contracts.parts.Parts.{the_view}
use Rattle.world_run.proofs.Done.{down-done, kept_with}
use Rattle.world_run.proofs.Places.{IsAt, at-found, at-index}
use Rattle.world_run.proofs.parts.Parts.down_at.Goals as goal

pub handle-requires-clause-asks : goal.handle-requires-clause-asks
handle-requires-clause-asks c =
    let u : World = the_view c.self.inside in
    let here : IsAt c.args.g.now c.args.i u c.index_mut-node.result.now =
    at-index c.args.g.now c.args.i u c.args.self.now c.index_mut-node.result.now c.self.view_is c.requires.place
    c.index_mut-node.ensures.value
    in
    let asks : (x : Option Order) × at (λ n. Asks n x) (node_at c.args.g.now u) =
    subst (λ (z : World). (x : Option Order) × at (λ n. Asks n x) (node_at c.args.g.now z)) (sym c.self.view_is) c.requires.asks
    in
    at-found (λ (x : Option Order) (n : Node). Asks n x) (node_at c.args.g.now u) c.index_mut-node.result.now here.node asks

pub returns : goal.returns
returns c =
    let u : World = the_view c.self.inside in
    let here : IsAt c.args.g.now c.args.i u c.index_mut-node.result.now =
    at-index c.args.g.now c.args.i u c.args.self.now c.index_mut-node.result.now c.self.view_is c.requires.place
    c.index_mut-node.ensures.value
    in
    let v : World = kept_with u (set u.nodes c.args.i c.handle.new.self) c.handle.new.sent in
    subst (λ (z : World). (x : Option Order) → at (λ n. Asks n x) (node_at c.args.g.now z)
    → IsDone (down_at x z (node_at c.args.g.now z)) c.args.acts.now c.handle.new.acts v gos.On)
    c.self.view_is
    (λ x a. down-done u v c.args.g.now c.args.i c.index_mut-node.result.now c.handle.new.self c.handle.new.sent c.args.acts.now
    c.handle.new.acts x here a
    c.in_ok-handle.ensures.none c.in_ok-handle.ensures.node c.in_ok-handle.ensures.sent c.in_ok-handle.ensures.acts refl)
