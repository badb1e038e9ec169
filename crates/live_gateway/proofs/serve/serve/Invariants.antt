use Rattle.std.proofs.Common.{◌≡◌, ◌≤◌, false, length}
use Rattle.ikl_base.specs.Outside.{HasRisen}
use Rattle.live_gateway.specs.Causes.{IsRead, MayWrite, Tells}
use Rattle.live_gateway.proofs.Turning.{SoFar}
use Rattle.live_gateway.proofs.serve.serve.Given as goal

abbrev pub invariant-turns : goal.invariant-turns
invariant-turns g l = record {
  served : (HasRisen (g.D.Dock.faults l.initial.dock) (g.D.Dock.faults l.dock) → ⊥) → SoFar l.initial.node.gateway.config l._turn
      (record {
        inside = g.A.Wire.held l.initial.inside;
        outside = g.B.Wire.held l.initial.outside;
        dock = g.D.Dock.held l.initial.dock;
        faults = g.D.Dock.faults l.initial.dock;
      })
      (record {
        inside = g.A.Wire.held l.inside;
        outside = g.B.Wire.held l.outside;
        dock = g.D.Dock.held l.dock;
        faults =
            g.D.Dock.faults l.dock;
      })
      (g.C.Clock.readings l.initial.clock) (g.C.Clock.readings l.clock) l.node.gateway l.node.session;
  size : length l.buf ≡ 65575;
  later : g.D.Dock.faults l.initial.dock ≤ g.D.Dock.faults l.dock;
  may : MayWrite l.node.session (g.D.Dock.is_taken l.dock);
  read : IsRead l.node.session;
  inside_tells : Tells (g.A.Wire.faults l.initial.inside) (g.A.Wire.faults l.inside) (g.A.Wire.last_failed l.initial.inside)
      (g.A.Wire.last_failed l.inside) false;
  outside_tells : Tells (g.B.Wire.faults l.initial.outside) (g.B.Wire.faults l.outside) (g.B.Wire.last_failed l.initial.outside)
      (g.B.Wire.last_failed l.outside) false;
  accept_tells : Tells (g.D.Dock.accept_faults l.initial.dock) (g.D.Dock.accept_faults l.dock) (g.D.Dock.accept_failed l.initial.dock)
      (g.D.Dock.accept_failed l.dock) false;
}
