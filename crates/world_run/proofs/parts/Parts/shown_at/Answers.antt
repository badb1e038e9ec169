use Rattle.std.proofs.Common.{◌≡◌, [], Option, None, IfOk, refl, sym, ap, subst, ◌∙◌}
use Rattle.ikeless_tree.specs.declared.order.Lane.{Lane}
use Rattle.ikeless_tree.specs.declared.order.Lane.TheVariants as lanes
use Rattle.hist_wire.specs.Wire.{first_octets}
use Rattle.session_pipe.specs.UnderWay.{no_session}
use Rattle.world_steps.specs.Nodes.{Node}
use Rattle.world_steps.specs.Worlds.{World, node_at}
use Rattle.world_steps.specs.Steps.{pipe_of}
use Rattle.world_run.specs.Taken.{IsPlace}
use Rattle.world_run.specs.contracts.parts.Parts.{the_view}
use Rattle.world_run.proofs.Done.{ok-map}
use Rattle.world_run.proofs.Places.{IsAt, at-index, placed-found, unplaced}
use Rattle.world_run.proofs.parts.Parts.shown_at.Goals as goal

nothing : (lane : Lane) → [] ≡ first_octets lane no_session
nothing lanes.Down = refl
nothing lanes.Up = refl
nothing lanes.Note = refl

pub returns-in-None : goal.returns-in-None
returns-in-None c =
    let w : World = c.args.self.now in
    let none : node_at c.args.g.now w ≡ None = unplaced c.args.g.now
    (the_view c.self.inside) w c.deref.result.now c.in-None.ensures c.deref.ensures.value c.self.view_is in
    c.new.ensures ∙ nothing c.args.lane ∙ ap (λ z. first_octets c.args.lane (pipe_of z)) (sym none)

pub returns-in-Some : goal.returns-in-Some
returns-in-Some c =
    let u : World = the_view c.self.inside in
    let w : World = c.args.self.now in
    let place : IsPlace c.args.g.now c.in-Some.i w =
    placed-found c.args.g.now c.in-Some.i u w c.deref.result.now c.in-Some.ensures c.deref.ensures.value c.self.view_is
    in
    let here : IsAt c.args.g.now c.in-Some.i u c.index.result.now = at-index c.args.g.now c.in-Some.i u w c.index.result.now
    c.self.view_is place c.index.ensures in
    subst (λ (z : World). IfOk c.shown.result (λ o. o ≡ first_octets c.args.lane (pipe_of (node_at c.args.g.now z)))) c.self.view_is
    (ok-map (λ o. o ≡ first_octets c.args.lane c.index.result.now.pipe)
    (λ o. o ≡ first_octets c.args.lane (pipe_of (node_at c.args.g.now u))) c.shown.result c.shown.ensures
    (λ o e. e ∙ ap (λ (z : Option Node). first_octets c.args.lane (pipe_of z)) (sym here.node)))
