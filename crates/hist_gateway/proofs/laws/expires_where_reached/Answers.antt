use Rattle.hist_gateway.proofs.Expiries.{look-end, look-hard, look-soft, clock-end, clock-hard, clock-soft}
use Rattle.hist_gateway.proofs.Reached.{ends-reached, hard-reached, soft-reached}
use Rattle.hist_gateway.proofs.laws.expires_where_reached.Goals as goal

pub returns-clause-ends : goal.returns-clause-ends
returns-clause-ends c = look-end

pub returns-clause-hard : goal.returns-clause-hard
returns-clause-hard c = look-hard

pub returns-clause-soft : goal.returns-clause-soft
returns-clause-soft c = look-soft

pub returns-clause-clock_ends : goal.returns-clause-clock_ends
returns-clause-clock_ends c = clock-end

pub returns-clause-clock_hard : goal.returns-clause-clock_hard
returns-clause-clock_hard c = clock-hard

pub returns-clause-clock_soft : goal.returns-clause-clock_soft
returns-clause-clock_soft c = clock-soft

pub returns-clause-block_ends : goal.returns-clause-block_ends
returns-clause-block_ends c = ends-reached

pub returns-clause-block_hard : goal.returns-clause-block_hard
returns-clause-block_hard c = hard-reached

pub returns-clause-block_soft : goal.returns-clause-block_soft
returns-clause-block_soft c = soft-reached
