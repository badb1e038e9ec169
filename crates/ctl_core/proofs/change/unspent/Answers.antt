use Rattle.std.proofs.Common.{◌≡◌, ℕ, ◌+◌, ◌++◌, ◌||◌, ◌&&◌, ◌∷◌, [], true, false, Bool, List, length, drop, take, min, refl, sym, ap, ◌∙◌, arith, append-nil}
use Rattle.ctl_core.proofs.Loops.{unspent-turn, unspent-end}
use Rattle.ctl_core.proofs.change.unspent.Goals as goal

pub returns-clause-tunnels : goal.returns-clause-tunnels
returns-clause-tunnels c =
    let e : c.loop-i.i ≡ c.min-count.result = omega arith in
    let u = unspent-end c.args.tunnels.now c.args.pairs.now c.loop-i.i (e ∙ c.min-count.ensures) in
    sym (append-nil c.loop-i.kept.items) ∙ ap (λ z. c.loop-i.kept.items ++ z) (sym u.0) ∙ c.loop-i.invariant.1

pub returns-clause-pairs : goal.returns-clause-pairs
returns-clause-pairs c =
    let e : c.loop-i.i ≡ c.min-count.result = omega arith in
    let u = unspent-end c.args.tunnels.now c.args.pairs.now c.loop-i.i (e ∙ c.min-count.ensures) in
    sym (append-nil c.loop-i.come.items) ∙ ap (λ z. c.loop-i.come.items ++ z) (sym u.1) ∙ c.loop-i.invariant.2

pub loop-i-preserved : goal.loop-i-preserved
loop-i-preserved c =
    let u = unspent-turn c.args.tunnels.now c.args.pairs.now c.loop-i.i c.index-tunnels-i.result c.pair_at-pair.result c.loop-i.kept.items _
    _ c.loop-i.come.items _ _ (omega arith) (omega arith) c.index-tunnels-i.is c.pair_at-pair.ensures c.in_ok-keep.ensures.tunnels
    c.in_ok-keep.ensures.pairs c.loop-i.invariant.1 c.loop-i.invariant.2 in
    (c.loop-i.invariant.0, u.0, u.1)
