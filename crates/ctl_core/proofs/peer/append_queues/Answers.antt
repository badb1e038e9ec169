use Rattle.std.proofs.Common.{◌≡◌, ℕ, ◌+◌, ◌++◌, true, List, length, drop, take, min, refl, sym, ap, ◌∙◌, arith}
use Rattle.std.proofs.Math.ListN.{length-set}
use Rattle.ctl_core.proofs.Loops.{Appending, append-turn, room-here, with-queues-end}
use Rattle.ctl_core.proofs.peer.append_queues.Goals as goal

pub join-requires : goal.join-requires
join-requires c =
    let a : Appending c.args.stations.now.items c.loop-i.stations.items c.args.queues.now.items c.loop-i.queues.items c.loop-i.i
    c.index_mut-station.result.now c.index_mut-more.result.now = record {
      station = omega arith;
      queue = omega arith;
      found = c.index_mut-station.ensures.value;
      more = c.index_mut-more.ensures.value;
      so_far = c.loop-i.invariant.1;
      rest = c.loop-i.invariant.2;
      room = c.loop-i.invariant.5;
    } in
    (room-here c.args.stations.now.items c.loop-i.stations.items c.args.queues.now.items c.loop-i.queues.items c.loop-i.i
    c.index_mut-station.result.now c.index_mut-more.result.now a).0

pub loop-i-preserved : goal.loop-i-preserved
loop-i-preserved c =
    let a : Appending c.args.stations.now.items c.loop-i.stations.items c.args.queues.now.items c.loop-i.queues.items c.loop-i.i
    c.index_mut-station.result.now c.index_mut-more.result.now = record {
      station = omega arith;
      queue = omega arith;
      found = c.index_mut-station.ensures.value;
      more = c.index_mut-more.ensures.value;
      so_far = c.loop-i.invariant.1;
      rest = c.loop-i.invariant.2;
      room = c.loop-i.invariant.5;
    } in
    let t = append-turn c.args.stations.now.items c.loop-i.stations.items c.args.queues.now.items c.loop-i.queues.items c.loop-i.i
    c.index_mut-station.result.now c.index_mut-more.result.now c.join.new.more c.join.new.queue a c.join.ensures in
    let r = room-here c.args.stations.now.items c.loop-i.stations.items c.args.queues.now.items c.loop-i.queues.items c.loop-i.i
    c.index_mut-station.result.now c.index_mut-more.result.now a in
    (c.loop-i.invariant.0, t.0, t.1, simp length-set c.loop-i.invariant.3, simp length-set c.loop-i.invariant.4, r.1)

pub returns : goal.returns
returns c =
    let e : c.loop-i.i ≡ c.min-count.result = omega arith in
    c.loop-i.invariant.1 ∙ with-queues-end c.args.stations.now.items c.args.queues.now.items c.loop-i.i (e ∙ c.loop-i.invariant.0)
