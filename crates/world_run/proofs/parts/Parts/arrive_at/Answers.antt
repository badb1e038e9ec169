use Rattle.std.proofs.Common.{IfOk, refl, set, sym, subst}
use Rattle.gw_core.specs.Machine.{Arrive}
use Rattle.world_steps.specs.Worlds.{World, node_at}
use Rattle.world_steps.specs.Steps.{arrive_at}
use Rattle.world_steps.specs.Conditions.{TellsAt}
use Rattle.world_run.specs.Packets.{IsTakenIn}
use Rattle.world_run.specs.Taken.{IsDone}
use Rattle.world_run.specs.contracts.parts.Parts.{the_view}
use Rattle.world_run.proofs.Done.{kept_with, arrive-done, ok-map}
use Rattle.world_run.proofs.Places.{IsAt, at-index}
use Rattle.world_run.proofs.parts.Parts.arrive_at.Goals as goal

pub take_in-requires-clause-written : goal.take_in-requires-clause-written
take_in-requires-clause-written c =
    let u : World = the_view c.self.inside in
    let at : IsAt c.args.g c.args.i u c.index_mut-node.result.now =
    at-index c.args.g c.args.i u c.args.self.now c.index_mut-node.result.now c.self.view_is c.requires.place c.index_mut-node.ensures.value
    in
    subst (TellsAt (Arrive c.args.octets)) at.node
    (subst (λ (z : World). TellsAt (Arrive c.args.octets) (node_at c.args.g z)) (sym c.self.view_is) c.requires.can)

pub returns : goal.returns
returns c =
    let u : World = the_view c.self.inside in
    let at : IsAt c.args.g c.args.i u c.index_mut-node.result.now =
    at-index c.args.g c.args.i u c.args.self.now c.index_mut-node.result.now c.self.view_is c.requires.place c.index_mut-node.ensures.value
    in
    let v : World = kept_with u (set u.nodes c.args.i c.take_in.new.node) c.take_in.new.sent in
    subst (λ (z : World). IfOk c.take_in.result
    (λ go. IsDone (arrive_at c.args.octets z (node_at c.args.g z)) c.args.acts.now c.take_in.new.acts v go)) c.self.view_is
    (ok-map (λ go. IsTakenIn c.args.g c.args.octets c.index_mut-node.result.now c.take_in.new.node u.sent c.take_in.new.sent
    c.args.acts.now c.take_in.new.acts go) _
    c.take_in.result c.take_in.ensures
    (λ go t. arrive-done u v c.args.g c.args.octets c.args.i c.index_mut-node.result.now c.take_in.new.node c.take_in.new.sent
    c.args.acts.now c.take_in.new.acts go at t refl))
