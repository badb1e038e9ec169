use Rattle.std.proofs.Common.{◌<◌, length, arith}
use Rattle.world_nodes.proofs.Lists.{sent-step}
use Rattle.world_nodes.proofs.tell.log_acts.Goals as goal

pub loop-act-preserved : goal.loop-act-preserved
loop-act-preserved c =
    let lt : c.loop-act.act-index < length c.as_slice-act-items.result.now = omega arith in
    sent-step c.args.sent.now c.loop-act.sent c.log_act.new.sent c.as_slice-act-items.result.now c.loop-act.act-index c.act-item.result lt
    c.act-item.is c.loop-act.invariant c.in_ok-log_act.ensures
