use Rattle.std.proofs.Common.{◌≡◌, ◌++◌, drop, min, length}
use Rattle.ctl_core.specs.Changes.{changed}
use Rattle.ctl_core.specs.Pass.{pass_draft, pass_pairs}
use Rattle.ctl_core.proofs.controller.Controller.pass.Given as goal

abbrev pub invariant-loop-i : goal.invariant-loop-i
invariant-loop-i l =
    (l.count ≡ min (length l.tunnels) (length l.pairs))
    × (pass_draft l.self.stations l.self.keys (changed l.change) l.ready (drop l.i l.tunnels) (drop l.i l.pairs) l.draft ≡ pass_draft
    l.self.stations l.self.keys (changed l.change) l.ready l.tunnels l.pairs l.initial.draft)
    × (l.after.items ++ pass_pairs l.self.stations l.self.keys (changed l.change) l.ready (drop l.i l.tunnels) (drop l.i l.pairs) l.draft ≡
    pass_pairs l.self.stations l.self.keys (changed l.change) l.ready l.tunnels l.pairs l.initial.draft)
