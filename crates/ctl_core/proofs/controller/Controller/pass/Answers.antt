use Rattle.std.proofs.Common.{◌≡◌, ◌++◌, false, get_or, sym, ap, ◌∙◌, arith, append-nil}
use Rattle.ctl_core.specs.Changes.{changed}
use Rattle.ctl_tunnels.specs.declared.tunnel.Pair.{Pair}
use Rattle.ctl_tunnels.specs.Tunnels.{begun}
use Rattle.ctl_core.proofs.Places.{stands}
use Rattle.ctl_core.proofs.Loops.{pass-turn, draft-end, pairs-end}
use Rattle.ctl_core.proofs.Untouched.{idle-pair}
use Rattle.ctl_core.proofs.controller.Controller.pass.Goals as goal
use Rattle.ctl_core.proofs.controller.Controller.pass.Goals.{then-is_idle+in_ok-push, else-is_idle+in_ok-next+in_ok-push-2}

pub returns-clause-pairs : goal.returns-clause-pairs
returns-clause-pairs c =
    let e : c.loop-i.i ≡ c.min-count.result = omega arith in
    let u = pairs-end c.args.self.now.stations c.args.self.now.keys (changed c.args.change.now) c.args.ready.now c.args.tunnels.now
    c.args.pairs.now c.loop-i.draft c.loop-i.i (e ∙ c.min-count.ensures) in
    sym (append-nil c.loop-i.after.items) ∙ ap (λ z. c.loop-i.after.items ++ z) (sym u) ∙ c.loop-i.invariant.2

pub returns-clause-draft : goal.returns-clause-draft
returns-clause-draft c =
    let e : c.loop-i.i ≡ c.min-count.result = omega arith in
    sym (draft-end c.args.self.now.stations c.args.self.now.keys (changed c.args.change.now) c.args.ready.now c.args.tunnels.now
    c.args.pairs.now c.loop-i.draft c.loop-i.i (e ∙ c.min-count.ensures)) ∙ c.loop-i.invariant.1

pub loop-i-preserved : goal.loop-i-preserved
loop-i-preserved c =
    let p : Pair = get_or c.args.pairs.now c.loop-i.i (begun false) in
    let s : p ≡ get_or c.args.pairs.now c.loop-i.i p = stands c.args.pairs.now c.loop-i.i (begun false) p (omega arith) in
    elim c.if-is_idle.branch [
      | then-is_idle+in_ok-push w ↦
          let k = idle-pair c.args.self.now.stations c.args.self.now.keys c.args.change.now c.args.ready.now c.index-tunnels-i.result p
          c.loop-i.draft (sym c.is_idle.ensures ∙ w.if-is_idle.true) in
          let u = pass-turn c.args.self.now.stations c.args.self.now.keys (changed c.args.change.now) c.args.ready.now c.args.tunnels.now
          c.args.pairs.now c.loop-i.i c.index-tunnels-i.result p c.loop-i.draft c.if-is_idle.draft _ p c.loop-i.after.items
          c.if-is_idle.after.items _ (omega arith) (omega arith) c.index-tunnels-i.is s (w.draft-is ∙ k.1) k.0
          (ap (λ v. v.items) w.after-is ∙ w.in_ok-push.ensures.items) c.loop-i.invariant.1 c.loop-i.invariant.2 in
          (c.loop-i.invariant.0, u.0, u.1)
      | else-is_idle+in_ok-next+in_ok-push-2 w ↦
          let u = pass-turn c.args.self.now.stations c.args.self.now.keys (changed c.args.change.now) c.args.ready.now c.args.tunnels.now
          c.args.pairs.now c.loop-i.i c.index-tunnels-i.result p c.loop-i.draft c.if-is_idle.draft _ _ c.loop-i.after.items
          c.if-is_idle.after.items _ (omega arith) (omega arith) c.index-tunnels-i.is s (w.draft-is ∙ w.in_ok-next.ensures.draft)
          w.in_ok-next.ensures.pair (ap (λ v. v.items) w.after-is ∙ w.in_ok-push-2.ensures.items) c.loop-i.invariant.1
          c.loop-i.invariant.2 in
          (c.loop-i.invariant.0, u.0, u.1)
    ]
