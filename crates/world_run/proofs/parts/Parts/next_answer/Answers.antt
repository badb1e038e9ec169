use Rattle.std.proofs.Common.{◌≡◌, Option, None, Some, IfOk, refl, set, sym, subst}
use Rattle.ikeless_tree.specs.declared.order.Answer.{Answer}
use Rattle.ctl_core.specs.Core.{expected}
use Rattle.world_steps.specs.Worlds.{World, node_at}
use Rattle.world_steps.specs.Conditions.{Answers, at}
use Rattle.world_run.specs.Sessions.{answer_heard}
use Rattle.world_run.specs.contracts.parts.Parts.{the_view}
use Rattle.world_run.proofs.Done.{kept_with}
use Rattle.world_run.proofs.Places.{IsAt, IsSomeAt, at-index, placed-some}
use Rattle.world_run.proofs.Heard.{no-answer, some-answer}
use Rattle.world_run.proofs.parts.Parts.next_answer.Goals as goal

pub returns-in-None : goal.returns-in-None
returns-in-None c =
    let w : World = c.args.self.now in
    let found : IsSomeAt c.args.g.now c.args.i w = placed-some c.args.g.now c.args.i w c.requires.place in
    let none : expected w.controller c.args.i ≡ None = subst (λ (z : World). expected z.controller c.args.i ≡ None) c.self.view_is
    (sym c.in-None.ensures) in
    no-answer w c.args.g.now c.args.i found.gateway found.here none

pub returns-in-Some : goal.returns-in-Some
returns-in-Some c =
    let u : World = the_view c.self.inside in
    let here : IsAt c.args.g.now c.args.i u c.index_mut-node.result.now =
    at-index c.args.g.now c.args.i u c.args.self.now c.index_mut-node.result.now c.self.view_is c.requires.place
    c.index_mut-node.ensures.value
    in
    let v : World = kept_with u (set u.nodes c.args.i c.hear_answer.new.self) u.sent in
    let waits : expected u.controller c.args.i ≡ Some c.in-Some.order.now = sym c.in-Some.ensures in
    subst (λ (z : World). (x : Option Answer) → at (λ n. Answers n z x) (node_at c.args.g.now z)
    → IfOk c.hear_answer.result (λ y. (y ≡ x) × (v ≡ answer_heard x c.args.g.now z)))
    c.self.view_is
    (some-answer u v c.args.g.now c.args.i c.index_mut-node.result.now c.hear_answer.new.self c.in-Some.order.now c.hear_answer.result
    here waits
    c.hear_answer.ensures.none c.hear_answer.ensures.some refl)
