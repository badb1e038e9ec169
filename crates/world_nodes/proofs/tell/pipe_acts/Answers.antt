use Rattle.std.proofs.Common.{◌<◌, length, arith}
use Rattle.world_nodes.proofs.Lists.{piped-step}
use Rattle.world_nodes.proofs.tell.pipe_acts.Goals as goal

pub loop-act-preserved : goal.loop-act-preserved
loop-act-preserved c =
    let lt : c.loop-act.act-index < length c.as_slice-act-items.result.now = omega arith in
    piped-step c.args.now c.args.pipe.now c.loop-act.pipe c.pipe_act.new.pipe c.as_slice-act-items.result.now c.loop-act.act-index
    c.act-item.result lt
    c.act-item.is c.loop-act.invariant c.in_ok-pipe_act.ensures
