use Rattle.std.proofs.Common.{◌≡◌, ℕ, ◌+◌, ◌++◌, ◌||◌, ◌&&◌, ◌∷◌, [], true, false, Bool, List, length, drop, take, min, refl, sym, ap, ◌∙◌, arith, append-nil}
use Rattle.ctl_core.specs.Room.{has_room_for, is_short}
use Rattle.ctl_core.proofs.Loops.{room-step, room-end}
use Rattle.ctl_core.proofs.peer.has_room.Goals as goal

pub returns : goal.returns
returns c =
    let e : c.loop-i.i ≡ c.min-count.result = omega arith in
    sym (c.loop-i.invariant.1 ∙ room-end c.args.stations.now c.args.queues.now c.loop-i.i (e ∙ c.min-count.ensures))

pub returns-then-not-is_short : goal.returns-then-not-is_short
returns-then-not-is_short c =
    let s = room-step c.args.stations.now c.args.queues.now c.loop-i.i c.index-stations-i.result c.index-queues-i.result (omega arith)
    (omega arith) c.index-stations-i.is c.index-queues-i.is in
    let b : is_short (length c.index-stations-i.result.queue) (length c.index-queues-i.result) ≡ false =
    ap (λ z. is_short z (length c.index-queues-i.result)) (sym c.len.ensures.value)
    ∙ ap (λ z. is_short c.len.result z) (sym c.len-in-loop-i.ensures.value) ∙ sym c.is_short.ensures ∙ c.if-not-is_short.true in
    sym (c.loop-i.invariant.1 ∙ s
    ∙ ap (λ z. z && has_room_for (drop (c.loop-i.i + 1) c.args.stations.now) (drop (c.loop-i.i + 1) c.args.queues.now)) b)

pub loop-i-preserved : goal.loop-i-preserved
loop-i-preserved c =
    let s = room-step c.args.stations.now c.args.queues.now c.loop-i.i c.index-stations-i.result c.index-queues-i.result (omega arith)
    (omega arith) c.index-stations-i.is c.index-queues-i.is in
    let b : is_short (length c.index-stations-i.result.queue) (length c.index-queues-i.result) ≡ true =
    ap (λ z. is_short z (length c.index-queues-i.result)) (sym c.len.ensures.value)
    ∙ ap (λ z. is_short c.len.result z) (sym c.len-in-loop-i.ensures.value) ∙ sym c.is_short.ensures ∙ c.if-not-is_short.false in (
      c.loop-i.invariant.0,
      c.loop-i.invariant.1 ∙ s
          ∙ ap (λ z. z && has_room_for (drop (c.loop-i.i + 1) c.args.stations.now) (drop (c.loop-i.i + 1) c.args.queues.now)) b,
    )
