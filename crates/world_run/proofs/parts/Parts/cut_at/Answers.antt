use Rattle.std.proofs.Common.{◌≡◌, true, false, IfOk, refl, set, sym, ap, subst, ◌∙◌}
use Rattle.ctl_core.specs.declared.acts.CtlEvent.TheVariants as told
use Rattle.world_steps.specs.Nodes.{Node, cut}
use Rattle.world_steps.specs.Worlds.{World, node_at, with_node}
use Rattle.world_steps.specs.Steps.{controlled, cut_at}
use Rattle.world_steps.specs.Conditions.{AreNamed, Gives}
use Rattle.world_run.specs.declared.go.Go.TheVariants as gos
use Rattle.world_run.specs.Sessions.{IsCutIn}
use Rattle.world_run.specs.Taken.{IsDone}
use Rattle.world_run.specs.contracts.parts.Parts.{the_view}
use Rattle.world_run.proofs.Done.{kept_with, ok-map}
use Rattle.world_run.proofs.Led.{IsChanged, changed-by, cut-already, cut-done, gives-on, named-on, placed-is, same-world}
use Rattle.world_run.proofs.Places.{IsAt, at-index}
use Rattle.world_run.proofs.parts.Parts.cut_at.Goals as goal

pub control-requires-clause-gives : goal.control-requires-clause-gives
control-requires-clause-gives c =
    let u : World = the_view c.self.inside in
    let x : Node = c.index_mut-node.result.now in
    let here : IsAt c.args.g c.args.i u c.index_mut-node.result.now =
    at-index c.args.g c.args.i u c.args.self.now c.index_mut-node.result.now c.self.view_is c.requires.place c.index_mut-node.ensures.value
    in
    let facts : IsCutIn c.args.g c.index_mut-node.result.now c.cut_session.new.node c.args.acts.now c.cut_session.new.acts
    c.in_ok-cut_session.field-0 = c.in_ok-cut_session.ensures in
    let v : World = kept_with u (set u.nodes c.args.i c.cut_session.new.node) u.sent in
    let seen : c.index_mut-node.result.now.pipe.is_open ≡ true = sym facts.did ∙ c.if-branch.true in
    let node : c.cut_session.new.node ≡ cut c.index_mut-node.result.now = facts.node seen in
    let changed : IsChanged u v =
    changed-by u c.args.g c.args.i c.index_mut-node.result.now c.cut_session.new.node here (ap (λ (z : Node). z.name) node)
    (ap (λ (z : Node). z.config) node)
    in
    gives-on (told.Cut c.args.i) u v changed (subst (Gives (told.Cut c.args.i)) (sym c.self.view_is) c.requires.gives)

pub control-requires-clause-named : goal.control-requires-clause-named
control-requires-clause-named c =
    let u : World = the_view c.self.inside in
    let x : Node = c.index_mut-node.result.now in
    let here : IsAt c.args.g c.args.i u c.index_mut-node.result.now =
    at-index c.args.g c.args.i u c.args.self.now c.index_mut-node.result.now c.self.view_is c.requires.place c.index_mut-node.ensures.value
    in
    let facts : IsCutIn c.args.g c.index_mut-node.result.now c.cut_session.new.node c.args.acts.now c.cut_session.new.acts
    c.in_ok-cut_session.field-0 = c.in_ok-cut_session.ensures in
    let v : World = kept_with u (set u.nodes c.args.i c.cut_session.new.node) u.sent in
    let seen : c.index_mut-node.result.now.pipe.is_open ≡ true = sym facts.did ∙ c.if-branch.true in
    let node : c.cut_session.new.node ≡ cut c.index_mut-node.result.now = facts.node seen in
    let changed : IsChanged u v =
    changed-by u c.args.g c.args.i c.index_mut-node.result.now c.cut_session.new.node here (ap (λ (z : Node). z.name) node)
    (ap (λ (z : Node). z.config) node)
    in
    named-on u v changed (subst AreNamed (sym c.self.view_is) c.requires.named)

pub returns-then-branch : goal.returns-then-branch
returns-then-branch c =
    let u : World = the_view c.self.inside in
    let x : Node = c.index_mut-node.result.now in
    let here : IsAt c.args.g c.args.i u c.index_mut-node.result.now =
    at-index c.args.g c.args.i u c.args.self.now c.index_mut-node.result.now c.self.view_is c.requires.place c.index_mut-node.ensures.value
    in
    let facts : IsCutIn c.args.g c.index_mut-node.result.now c.cut_session.new.node c.args.acts.now c.cut_session.new.acts
    c.in_ok-cut_session.field-0 = c.in_ok-cut_session.ensures in
    let v : World = kept_with u (set u.nodes c.args.i c.cut_session.new.node) u.sent in
    let seen : c.index_mut-node.result.now.pipe.is_open ≡ true = sym facts.did ∙ c.if-branch.true in
    let node : c.cut_session.new.node ≡ cut c.index_mut-node.result.now = facts.node seen in
    let put : v ≡ with_node (cut c.index_mut-node.result.now) u =
    ap (λ z. kept_with u (set u.nodes c.args.i z) u.sent) node
    ∙ placed-is c.args.g c.args.i u c.index_mut-node.result.now (cut c.index_mut-node.result.now) here refl
    in
    subst (λ (z : World). IfOk c.control.result
    (λ go. IsDone (cut_at z (node_at c.args.g z)) c.args.acts.now c.control.new.acts c.control.new.self go)) c.self.view_is
    (ok-map (λ go. IsDone (controlled (told.Cut c.args.i) v) c.cut_session.new.acts c.control.new.acts c.control.new.self go)
    (λ go. IsDone (cut_at u (node_at c.args.g u)) c.args.acts.now c.control.new.acts c.control.new.self go) c.control.result
    c.control.ensures
    (λ go d. cut-done u v c.control.new.self c.args.g c.args.i c.index_mut-node.result.now c.args.acts.now c.cut_session.new.acts
    c.control.new.acts go here seen put (facts.acts seen) d))

pub returns-else-branch : goal.returns-else-branch
returns-else-branch c =
    let u : World = the_view c.self.inside in
    let x : Node = c.index_mut-node.result.now in
    let here : IsAt c.args.g c.args.i u c.index_mut-node.result.now =
    at-index c.args.g c.args.i u c.args.self.now c.index_mut-node.result.now c.self.view_is c.requires.place c.index_mut-node.ensures.value
    in
    let facts : IsCutIn c.args.g c.index_mut-node.result.now c.cut_session.new.node c.args.acts.now c.cut_session.new.acts
    c.in_ok-cut_session.field-0 = c.in_ok-cut_session.ensures in
    let v : World = kept_with u (set u.nodes c.args.i c.cut_session.new.node) u.sent in
    let seen : c.index_mut-node.result.now.pipe.is_open ≡ false = sym facts.did ∙ c.if-branch.false in
    subst (λ (z : World). IsDone (cut_at z (node_at c.args.g z)) c.args.acts.now c.cut_session.new.acts v gos.On) c.self.view_is
    (cut-already u v c.args.g c.args.i c.index_mut-node.result.now c.args.acts.now c.cut_session.new.acts gos.On here seen refl
    (facts.none seen)
    (same-world u v c.args.g c.args.i c.index_mut-node.result.now c.cut_session.new.node here (facts.same seen) refl))
