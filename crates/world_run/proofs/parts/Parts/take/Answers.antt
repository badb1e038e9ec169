use Rattle.std.proofs.Common.{◌+◌, [], ◌∷◌, IfOk, sym, subst}
use Rattle.hist_acts.specs.declared.act.Act.TheVariants as acts
use Rattle.world_steps.specs.Worlds.{World}
use Rattle.world_steps.specs.Steps.{Found, step, taken}
use Rattle.world_steps.specs.Conditions.{CanStep}
use Rattle.world_run.specs.Taken.{IsDone}
use Rattle.world_run.specs.contracts.parts.Parts.{the_view}
use Rattle.world_run.proofs.Counts.{counted-on}
use Rattle.world_run.proofs.Done.{done-behind, ok-map}
use Rattle.world_run.proofs.Events.{can-count}
use Rattle.world_run.proofs.parts.Parts.take.Goals as goal

pub take_event-requires-clause-can : goal.take_event-requires-clause-can
take_event-requires-clause-can c =
    let u : World = the_view c.self.inside in
    can-count c.args.e (c.self.inside.taken + 1) u
    (subst (λ (z : World). (r : Found) × CanStep r c.args.e z) (sym c.self.view_is) c.requires.can)

pub returns : goal.returns
returns c =
    let u : World = the_view c.self.inside in
    let v : World = record u { taken = c.self.inside.taken + 1 } in
    subst (λ (z : World). (r : Found) → CanStep r c.args.e z
    → IfOk c.take_event.result (λ go. IsDone (step r c.args.e z) c.args.acts.now c.take_event.new.acts c.take_event.new.self go))
    c.self.view_is
    (λ r s. ok-map (λ go. IsDone (taken r c.args.e v) c.push.new.self c.take_event.new.acts c.take_event.new.self go)
    (λ go. IsDone (step r c.args.e u) c.args.acts.now c.take_event.new.acts c.take_event.new.self go) c.take_event.result
    (c.take_event.ensures r (counted-on r c.args.e (c.self.inside.taken + 1) u s.takes))
    (λ go d. done-behind (taken r c.args.e v)
    (acts.Took (c.self.inside.taken + 1) ∷ []) c.args.acts.now c.push.new.self c.take_event.new.acts c.take_event.new.self go
    c.in_ok-push.ensures.ok d))
