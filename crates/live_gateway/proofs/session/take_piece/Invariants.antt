use Rattle.std.proofs.Common.{◌≤◌, ◌++◌, List, false, length}
use Rattle.gw_packets.specs.declared.done.Config.{Config}
use Rattle.live_gateway.specs.Carried.{Devices}
use Rattle.live_gateway.specs.Causes.{IsRead, MayWrite, Tells}
use Rattle.live_gateway.specs.Past.{Item}
use Rattle.live_gateway.specs.Stands.{AreTaken, Stands}
use Rattle.live_gateway.proofs.session.take_piece.Given as goal

abbrev pub invariant-loop-rest : goal.invariant-loop-rest
invariant-loop-rest g l = record {
  goes : (c : Config) (start : Devices) (past : List Item)
      → Stands c start past l.piece
      (record {
        inside = g.A.Wire.held l.initial.inside;
        outside = g.B.Wire.held l.initial.outside;
        dock = g.D.Dock.held l.initial.dock;
        faults = g.D.Dock.faults l.initial.dock;
      })
      l.initial.node.gateway l.initial.node.session
      → (more : List Item) × AreTaken more × Stands c start (more ++ past) l.rest
      (record {
        inside = g.A.Wire.held l.inside;
        outside = g.B.Wire.held l.outside;
        dock = g.D.Dock.held l.dock;
        faults =
            g.D.Dock.faults l.dock;
      })
      l.node.gateway l.node.session;
  later : g.D.Dock.faults l.initial.dock ≤ g.D.Dock.faults l.dock;
  may : MayWrite l.node.session (g.D.Dock.is_taken l.dock);
  read : IsRead l.node.session;
  inside_tells : Tells (g.A.Wire.faults l.initial.inside) (g.A.Wire.faults l.inside) (g.A.Wire.last_failed l.initial.inside)
      (g.A.Wire.last_failed l.inside) false;
  outside_tells : Tells (g.B.Wire.faults l.initial.outside) (g.B.Wire.faults l.outside) (g.B.Wire.last_failed l.initial.outside)
      (g.B.Wire.last_failed l.outside) false;
  accept_tells : Tells (g.D.Dock.accept_faults l.initial.dock) (g.D.Dock.accept_faults l.dock) (g.D.Dock.accept_failed l.initial.dock)
      (g.D.Dock.accept_failed l.dock) false;
}

abbrev pub decreases-loop-rest : goal.decreases-loop-rest
decreases-loop-rest g l = length l.rest
