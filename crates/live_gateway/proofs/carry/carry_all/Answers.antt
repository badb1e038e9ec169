use Rattle.std.proofs.Common.{◌<◌, length, refl, ap, ◌∙◌, arith}
use Rattle.gw_core.specs.Machine.{Core}
use Rattle.live_gateway.proofs.Making.{carries-as, carries-step}
use Rattle.live_gateway.proofs.Telling.{stays_on, tells_on}
use Rattle.live_gateway.proofs.carry.carry_all.Goals as goal

pub loop-act-preserved : goal.loop-act-preserved
loop-act-preserved g c =
    let inv = c.loop-act.invariant in
    let lt : c.loop-act.act-index < length c.as_slice-act-items.result.now = omega arith in
    record {
      gateway = c.in-Ok.ensures.gateway ∙ inv.gateway;
      carries = carries-step c.args.node.now.gateway.kept.clock c.as_slice-act-items.result.now c.loop-act.act-index c.act-item.result _ _ _
          _ _ _ lt
          c.act-item.is inv.carries
          (carries-as _ _ _ _ _ _ _ _ _ (ap (λ (z : Core). z.kept.clock) inv.gateway) refl refl c.in-Ok.ensures.carries);
      may = c.in-Ok.ensures.may;
      session = stays_on _ _ _ inv.session c.in-Ok.ensures.session;
      inside_tells = tells_on _ _ _ _ _ _ _ inv.inside_tells c.in-Ok.ensures.inside_tells;
      outside_tells = tells_on _ _ _ _ _ _ _ inv.outside_tells c.in-Ok.ensures.outside_tells;
      accept_tells = tells_on _ _ _ _ _ _ _ inv.accept_tells c.in-Ok.ensures.accept_tells;
    }
