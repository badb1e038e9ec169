use Rattle.std.proofs.Common.{◌≡◌, ℕ, ◌+◌, ◌++◌, ◌||◌, ◌&&◌, ◌∷◌, [], true, false, Bool, List, length, drop, take, min, refl, sym, ap, ◌∙◌, arith, append-nil}
use Rattle.ctl_core.specs.Changes.{has_tunnel}
use Rattle.ctl_core.proofs.Loops.{tunnel-step, tunnel-end}
use Rattle.ctl_core.proofs.change.has_tunnel.Goals as goal

pub returns : goal.returns
returns c =
    let e : c.loop-i.i ≡ c.min-count.result = omega arith in
    sym (c.loop-i.invariant.1 ∙ tunnel-end c.args.reqid c.args.tunnels.now c.args.pairs.now c.loop-i.i (e ∙ c.min-count.ensures))

pub returns-then-is_live : goal.returns-then-is_live
returns-then-is_live c =
    let s = tunnel-step c.args.reqid c.args.tunnels.now c.args.pairs.now c.loop-i.i c.index-tunnels-i.result c.pair_at-pair.result
    (omega arith) (omega arith) c.index-tunnels-i.is c.pair_at-pair.ensures in
    sym (c.loop-i.invariant.1 ∙ s
    ∙ ap (λ z. z || has_tunnel c.args.reqid (drop (c.loop-i.i + 1) c.args.tunnels.now) (drop (c.loop-i.i + 1) c.args.pairs.now))
    (sym c.is_live.ensures ∙ c.if-is_live.true))

pub loop-i-preserved : goal.loop-i-preserved
loop-i-preserved c =
    let s = tunnel-step c.args.reqid c.args.tunnels.now c.args.pairs.now c.loop-i.i c.index-tunnels-i.result c.pair_at-pair.result
    (omega arith) (omega arith) c.index-tunnels-i.is c.pair_at-pair.ensures in (
      c.loop-i.invariant.0,
      c.loop-i.invariant.1 ∙ s
          ∙ ap (λ z. z || has_tunnel c.args.reqid (drop (c.loop-i.i + 1) c.args.tunnels.now) (drop (c.loop-i.i + 1) c.args.pairs.now))
          (sym c.is_live.ensures ∙ c.if-is_live.false),
    )
