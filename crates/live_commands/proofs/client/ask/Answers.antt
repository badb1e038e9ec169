use Rattle.live_commands.proofs.ClientEnds.{called-said, ends-fault, ends-told, fault-written, memory-tells, sink-untold}
use Rattle.live_commands.proofs.client.ask.Goals as goal

pub returns-in-Ok-clause-asks : goal.returns-in-Ok-clause-asks
returns-in-Ok-clause-asks g c = ends-told _ c.print.result c.in-Ok.told _ _ (c.in-Ok.ensures.called, c.in-Ok.ensures.link)
    (tt, memory-tells _ _ _ _ c.in-Ok.told c.in-Ok.ensures.link) (called-said _ _ _ _ c.in-Ok.told c.in-Ok.ensures.called)
    c.print.ensures.printed

pub returns-in-Err-clause-asks : goal.returns-in-Err-clause-asks
returns-in-Err-clause-asks g c = rw c.fault_status.ensures (ends-fault _ c.in-Err.fault _ (c.in-Err.ensures.called, c.in-Err.ensures.link))

pub returns-in-Err-clause-sink : goal.returns-in-Err-clause-sink
returns-in-Err-clause-sink g c = rw (c.fault_status.ensures, fault-written c.in-Err.fault) (sink-untold _ _)
