use Rattle.std.proofs.Common.{◌≡◌, ◌+◌, ◌-◌, ◌^◌, ◌<◌, true, false, sym, ap, subst, ◌∙◌}
use Rattle.hist_world.specs.Block.{Past, past_after}
use Rattle.hist_wire.specs.Wire.{under_way}
use Rattle.acts_spell.specs.Spelled.{IsSpelledEvent}
use Rattle.world_law.specs.Stands.{StandsFor, found}
use Rattle.world_steps.specs.Steps.{Found, step}
use Rattle.world_steps.specs.Conditions.{CanStep}
use Rattle.world_run.specs.declared.go.Go.TheVariants as gos
use Rattle.world_run.specs.Kept.{IsStanding, Stepped, Whole, does_go_on}
use Rattle.world_run.specs.contracts.world.World.{the_view}
use Rattle.world_run.proofs.Standing.{Follows, not-not, number-on, on-stands, stepped-is}
use Rattle.world_run.proofs.world.World.step.Goals as goal

pub take_whole-requires-clause-can : goal.take_whole-requires-clause-can
take_whole-requires-clause-can c =
    let s : IsStanding c.self.inside.header c.self.inside.parts = c.self.invariant c.if-self.false in
    let event : IsSpelledEvent c.self.inside.header.gateways c.args.e = subst (λ (z : Whole). IsSpelledEvent z.header.gateways c.args.e)
    (sym c.self.view_is) c.requires.event in
    let few : c.self.inside.parts.taken < 2 ^ 32 - 1 = subst (λ (z : Whole). z.world.taken < 2 ^ 32 - 1)
    (sym c.self.view_is) c.requires.few in
    (found s.past.world c.args.e, c.can_step.ensures c.self.inside.header s.past c.args.e c.self.inside.parts s.spelled event s.stands few)

pub invariant_of-self-2 : goal.invariant_of-self-2
invariant_of-self-2 c = λ on.
    let s : IsStanding c.self.inside.header c.self.inside.parts = c.self.invariant c.if-self.false in
    let event : IsSpelledEvent c.self.inside.header.gateways c.args.e = subst (λ (z : Whole). IsSpelledEvent z.header.gateways c.args.e)
    (sym c.self.view_is) c.requires.event in
    let few : c.self.inside.parts.taken < 2 ^ 32 - 1 = subst (λ (z : Whole). z.world.taken < 2 ^ 32 - 1)
    (sym c.self.view_is) c.requires.few in
    let r : Found = found s.past.world c.args.e in
    let can : CanStep r c.args.e c.self.inside.parts = c.can_step.ensures c.self.inside.header s.past c.args.e c.self.inside.parts
    s.spelled event s.stands few in
    let follows : Follows c.self.inside.header s.past c.args.e (step r c.args.e c.self.inside.parts) = record {
      acts = c.steps_follow.ensures.acts c.self.inside.header s.past c.args.e c.self.inside.parts s.spelled event s.stands few;
      genuine = c.steps_follow.ensures.genuine c.self.inside.header s.past c.args.e c.self.inside.parts s.spelled event s.stands few;
      forged = c.steps_follow.ensures.forged c.self.inside.header s.past c.args.e c.self.inside.parts s.spelled event s.stands few;
      stands = c.steps_follow.ensures.stands c.self.inside.header s.past c.args.e c.self.inside.parts s.spelled event s.stands few;
    } in
    let stepped : Stepped c.self.inside.header s.past c.args.e c.args.acts.now c.take_whole.new.acts c.take_whole.new.parts c.in_ok-go.go =
    stepped-is c.self.inside.header s.past c.args.e
    (step r c.args.e c.self.inside.parts) c.args.acts.now c.take_whole.new.acts c.take_whole.new.parts c.in_ok-go.go follows
    (c.in_ok-go.ensures.done r can)
    in
    let goes : does_go_on c.in_ok-go.go ≡ true = sym c.goes_on.ensures ∙ not-not c.goes_on.result on in
    record {
      spelled = s.spelled;
      past = past_after (under_way c.self.inside.header) c.self.inside.header s.past c.args.e;
      stands = on-stands c.self.inside.header s.past c.args.e c.args.acts.now c.take_whole.new.acts c.take_whole.new.parts c.in_ok-go.go
          goes stepped;
    }

pub returns-clause-law : goal.returns-clause-law
returns-clause-law c =
    let s : IsStanding c.self.inside.header c.self.inside.parts = c.self.invariant c.if-self.false in
    let event : IsSpelledEvent c.self.inside.header.gateways c.args.e = subst (λ (z : Whole). IsSpelledEvent z.header.gateways c.args.e)
    (sym c.self.view_is) c.requires.event in
    let few : c.self.inside.parts.taken < 2 ^ 32 - 1 = subst (λ (z : Whole). z.world.taken < 2 ^ 32 - 1)
    (sym c.self.view_is) c.requires.few in
    subst (λ (z : Whole). (p : Past) → StandsFor z.header p z.world → z.is_spent ≡ false
    → Stepped z.header p c.args.e c.args.acts.now c.take_whole.new.acts c.take_whole.new.parts c.in_ok-go.go)
    c.self.view_is
    (λ p stands unspent. stepped-is c.self.inside.header p c.args.e
    (step (found p.world c.args.e) c.args.e c.self.inside.parts) c.args.acts.now c.take_whole.new.acts c.take_whole.new.parts
    c.in_ok-go.go
    (record {
      acts = c.steps_follow.ensures.acts c.self.inside.header p c.args.e c.self.inside.parts s.spelled event stands few;
      genuine = c.steps_follow.ensures.genuine c.self.inside.header p c.args.e c.self.inside.parts s.spelled event stands few;
      forged = c.steps_follow.ensures.forged c.self.inside.header p c.args.e c.self.inside.parts s.spelled event stands few;
      stands = c.steps_follow.ensures.stands c.self.inside.header p c.args.e c.self.inside.parts s.spelled event stands few;
    })
    (c.in_ok-go.ensures.done (found p.world c.args.e)
    (c.can_step.ensures c.self.inside.header p c.args.e c.self.inside.parts s.spelled event stands few)))

pub returns-clause-count : goal.returns-clause-count
returns-clause-count c = λ on.
    let s : IsStanding c.self.inside.header c.self.inside.parts = c.self.invariant c.if-self.false in
    let event : IsSpelledEvent c.self.inside.header.gateways c.args.e = subst (λ (z : Whole). IsSpelledEvent z.header.gateways c.args.e)
    (sym c.self.view_is) c.requires.event in
    let few : c.self.inside.parts.taken < 2 ^ 32 - 1 = subst (λ (z : Whole). z.world.taken < 2 ^ 32 - 1)
    (sym c.self.view_is) c.requires.few in
    let r : Found = found s.past.world c.args.e in
    let can : CanStep r c.args.e c.self.inside.parts = c.can_step.ensures c.self.inside.header s.past c.args.e c.self.inside.parts
    s.spelled event s.stands few in
    number-on r c.args.e c.self.inside.parts c.args.acts.now c.take_whole.new.acts c.take_whole.new.parts c.in_ok-go.go
    (c.in_ok-go.ensures.done r can) on
    ∙ ap (λ (z : Whole). z.world.taken + 1) c.self.view_is
