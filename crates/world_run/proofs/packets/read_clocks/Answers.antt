use Rattle.std.proofs.Common.{◌<◌, length, arith}
use Rattle.gw_core.specs.Machine.{Clock}
use Rattle.world_steps.specs.Nodes.{Node, acts_told, after_event, all_sent, outcome}
use Rattle.world_run.proofs.Telling.{flat-step, mapped-step}
use Rattle.world_run.proofs.packets.read_clocks.Goals as goal

pub loop-i-preserved : goal.loop-i-preserved
loop-i-preserved c =
    let f = after_event (Clock c.args.now) in
    let end = c.loop-i.invariant.end in
    let lt : c.loop-i.i < length c.args.nodes.now.items = omega arith in
    let x : Node = c.index_mut-node.result.now in
    let v = c.index_mut-node.ensures.value in
    record {
      nodes = mapped-step (after_event (Clock c.args.now)) c.args.nodes.now.items c.loop-i.nodes.items c.loop-i.i
          c.index_mut-node.result.now c.read_clock.new.node lt
          c.loop-i.invariant.nodes v c.in_ok-read_clock.ensures.node;
      end = c.loop-i.invariant.end;
      sent = flat-step (λ n. all_sent (outcome n (Clock c.args.now)).acts) c.args.nodes.now.items c.loop-i.nodes.items
          (after_event (Clock c.args.now)) c.loop-i.i
          c.index_mut-node.result.now c.args.sent.now c.loop-i.sent c.read_clock.new.sent lt c.loop-i.invariant.nodes v
          c.loop-i.invariant.sent c.in_ok-read_clock.ensures.sent;
      acts = flat-step (λ n. acts_told n (outcome n (Clock c.args.now)).acts) c.args.nodes.now.items c.loop-i.nodes.items
          (after_event (Clock c.args.now)) c.loop-i.i
          c.index_mut-node.result.now c.args.acts.now c.loop-i.acts c.read_clock.new.acts lt c.loop-i.invariant.nodes v
          c.loop-i.invariant.acts c.in_ok-read_clock.ensures.acts;
    }
