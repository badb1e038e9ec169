-- A world that stands for what happened, and goes on to stand for it.
use Rattle.std.proofs.Common.{◌≡◌, ℕ, ◌+◌, Bool, true, false, not, List, ◌++◌, Result, Ok, Err, IfOk, OnOk, OnErr, refl, sym, ap, subst, ◌∙◌}
use Rattle.ikl_base.specs.declared.fault.NoMemory.{NoMemory}
use Rattle.hist_acts.specs.declared.act.Act.{Act}
use Rattle.hist_acts.specs.declared.event.Event.{Event}
use Rattle.hist_acts.specs.declared.event.Header.{Header}
use Rattle.hist_world.specs.Block.{Past, block, is_forged_event, past_after}
use Rattle.hist_wire.specs.Wire.{under_way}
use Rattle.world_law.specs.Stands.{StandsFor}
use Rattle.world_steps.specs.Worlds.{World}
use Rattle.world_steps.specs.Steps.{Done, Found, step}
use Rattle.world_run.specs.declared.go.Go.{Go}
use Rattle.world_run.specs.declared.go.Go.TheVariants as gos
use Rattle.world_run.specs.Kept.{Stepped, does_go_on}
use Rattle.world_run.specs.Taken.{IsDone, go_of}
use Rattle.world_run.proofs.Numbers.{one-more}

-- what the law says of a step
pub record Follows (header : Header) (p : Past) (e : Event) (d : Done) : Type 0 where
  pub acts : d.acts ≡ block (under_way header) header p e
  pub genuine : is_forged_event header p e ≡ false → d.is_forged ≡ false
  pub forged : is_forged_event header p e ≡ true → d.is_forged ≡ true
  pub stands : is_forged_event header p e ≡ false → StandsFor header (past_after (under_way header) header p e) d.world

pub stepped-is : (header : Header) (p : Past) (e : Event) (d : Done) (old new : List Act) (v : World) (go : Go) → Follows header p e d
    → IsDone d old new v go → Stepped header p e old new v go
stepped-is header p e d old new v go f i = by-forged (is_forged_event header p e) refl where
  added : new ≡ old ++ block (under_way header) header p e
  added = i.acts ∙ ap (λ z. old ++ z) f.acts

  by-forged : (b : Bool) → is_forged_event header p e ≡ b → Stepped header p e old new v go
  by-forged false s =
      let on : go ≡ gos.On = i.go ∙ ap go_of (f.genuine s) in
      let same : v ≡ d.world = i.world (f.genuine s) in
      let stands : StandsFor header (past_after (under_way header) header p e) v =
      subst (λ (z : World). StandsFor header (past_after (under_way header) header p e) z) (sym same) (f.stands s)
      in
      subst (λ (z : Go). Stepped header p e old new v z) (sym on) (added, s, stands)
  by-forged true s =
      let ends : go ≡ gos.Forged = i.go ∙ ap go_of (f.forged s) in
      subst (λ (z : Go). Stepped header p e old new v z) (sym ends) (added, s)

pub on-stands : (header : Header) (p : Past) (e : Event) (old new : List Act) (v : World) (go : Go) → does_go_on go ≡ true
    → Stepped header p e old new v go
    → StandsFor header (past_after (under_way header) header p e) v
on-stands header p e old new v gos.On s t = t.2
on-stands header p e old new v gos.Forged s t = absurd (cc)

pub not-not : (b : Bool) → not b ≡ false → b ≡ true
not-not true e = refl
not-not false e = absurd (cc)

-- the number after an event with which the script goes on
pub number-on : (r : Found) (e : Event) (w : World) (old new : List Act) (v : World) (go : Go) → IsDone (step r e w) old new v go
    → go ≡ gos.On → v.taken ≡ w.taken + 1
number-on r e w old new v go d s = ap (λ (z : World). z.taken) (d.world (genuine (step r e w).is_forged (sym d.go ∙ s)))
    ∙ one-more r e w where
      genuine : (b : Bool) → go_of b ≡ gos.On → b ≡ false
      genuine true e = absurd (cc)
      genuine false e = refl
