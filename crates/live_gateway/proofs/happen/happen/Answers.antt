use Rattle.std.proofs.Common.{sym, ap, subst, ◌∙◌}
use Rattle.std.proofs.lemmas.Result.{on_ok_weaker}
use Rattle.gw_core.specs.Machine.{Core}
use Rattle.live_gateway.specs.Causes.{MayWrite, StaysOrEnds}
use Rattle.live_gateway.proofs.Making.{carries-as}
use Rattle.live_gateway.proofs.Telling.{stays_same, tells_same}
use Rattle.live_gateway.proofs.happen.happen.Goals as goal

pub carry_all-requires-clause-may : goal.carry_all-requires-clause-may
carry_all-requires-clause-may g c = subst (λ s. MayWrite s (g.D.Dock.is_taken c.args.dock.now)) (sym c.in-Ok.ensures.session) c.requires.may

pub returns-in-Ok-clause-does : goal.returns-in-Ok-clause-does
returns-in-Ok-clause-does g c =
    on_ok_weaker c.carry_all.result (λ carries. record {
      core = c.carry_all.ensures.gateway ∙ c.in-Ok.ensures.gateway;
      carries = carries-as _ _ _ _ _ _ _ _ _ (ap (λ (x : Core). x.kept.clock) c.in-Ok.ensures.gateway) c.in-Ok.ensures.acts
          c.in-Ok.ensures.session carries;
    }) c.carry_all.ensures.carries

pub returns-in-Ok-clause-session : goal.returns-in-Ok-clause-session
returns-in-Ok-clause-session g c = subst (λ s. StaysOrEnds s c.carry_all.new.node.session) c.in-Ok.ensures.session
    c.carry_all.ensures.session

pub returns-in-Err-clause-session : goal.returns-in-Err-clause-session
returns-in-Err-clause-session g c = subst (λ s. StaysOrEnds c.args.node.now.session s) (sym c.in-Err.ensures.session)
    (stays_same c.args.node.now.session)

pub returns-in-Err-clause-inside_tells : goal.returns-in-Err-clause-inside_tells
returns-in-Err-clause-inside_tells g c = tells_same _ _

pub returns-in-Err-clause-outside_tells : goal.returns-in-Err-clause-outside_tells
returns-in-Err-clause-outside_tells g c = tells_same _ _

pub returns-in-Err-clause-accept_tells : goal.returns-in-Err-clause-accept_tells
returns-in-Err-clause-accept_tells g c = tells_same _ _
