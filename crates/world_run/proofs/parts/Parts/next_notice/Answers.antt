use Rattle.std.proofs.Common.{◌≡◌, Option, IfOk, refl, set, subst}
use Rattle.ikeless_tree.specs.declared.order.Notice.{Notice}
use Rattle.world_steps.specs.Worlds.{World, node_at}
use Rattle.world_steps.specs.Conditions.{Notices, at}
use Rattle.world_run.specs.Sessions.{notice_heard}
use Rattle.world_run.specs.contracts.parts.Parts.{the_view}
use Rattle.world_run.proofs.Done.{kept_with}
use Rattle.world_run.proofs.Places.{IsAt, at-index}
use Rattle.world_run.proofs.Heard.{some-notice}
use Rattle.world_run.proofs.parts.Parts.next_notice.Goals as goal

pub returns : goal.returns
returns c =
    let u : World = the_view c.self.inside in
    let here : IsAt c.args.g.now c.args.i u c.index_mut-node.result.now =
    at-index c.args.g.now c.args.i u c.args.self.now c.index_mut-node.result.now c.self.view_is c.requires c.index_mut-node.ensures.value
    in
    let v : World = kept_with u (set u.nodes c.args.i c.hear_notice.new.self) u.sent in
    subst (λ (z : World). (x : Option Notice) → at (λ n. Notices n z x) (node_at c.args.g.now z)
    → IfOk c.hear_notice.result (λ y. (y ≡ x) × (v ≡ notice_heard x c.args.g.now z)))
    c.self.view_is
    (some-notice u v c.args.g.now c.args.i c.index_mut-node.result.now c.hear_notice.new.self c.hear_notice.result here
    c.hear_notice.ensures.none c.hear_notice.ensures.some refl)
