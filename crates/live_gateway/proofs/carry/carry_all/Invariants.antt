use Rattle.std.proofs.Common.{◌≡◌, take, false}
use Rattle.live_gateway.specs.Carried.{Carries}
use Rattle.live_gateway.specs.Causes.{MayWrite, StaysOrEnds, Tells}
use Rattle.live_gateway.proofs.carry.carry_all.Given as goal

abbrev pub invariant-loop-act : goal.invariant-loop-act
invariant-loop-act g l = record {
  gateway : l.node.gateway ≡ l.initial.node.gateway;
  carries : Carries l.initial.node.gateway.kept.clock (take l.act-index l.act-items) l.initial.node.session l.node.session
      (record {
        inside = g.A.Wire.held l.initial.inside;
        outside = g.B.Wire.held l.initial.outside;
        dock = g.D.Dock.held l.initial.dock;
        faults = g.D.Dock.faults l.initial.dock;
      })
      (record {
        inside = g.A.Wire.held l.inside;
        outside = g.B.Wire.held l.outside;
        dock = g.D.Dock.held l.dock;
        faults =
            g.D.Dock.faults l.dock;
      });
  may : MayWrite l.node.session (g.D.Dock.is_taken l.dock);
  session : StaysOrEnds l.initial.node.session l.node.session;
  inside_tells : Tells (g.A.Wire.faults l.initial.inside) (g.A.Wire.faults l.inside) (g.A.Wire.last_failed l.initial.inside)
      (g.A.Wire.last_failed l.inside) false;
  outside_tells : Tells (g.B.Wire.faults l.initial.outside) (g.B.Wire.faults l.outside) (g.B.Wire.last_failed l.initial.outside)
      (g.B.Wire.last_failed l.outside) false;
  accept_tells : Tells (g.D.Dock.accept_faults l.initial.dock) (g.D.Dock.accept_faults l.dock) (g.D.Dock.accept_failed l.initial.dock)
      (g.D.Dock.accept_failed l.dock) false;
}
