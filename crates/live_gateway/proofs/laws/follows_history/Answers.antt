use Rattle.live_gateway.proofs.Runs.{found-tunnels, run-acts, run-kept}
use Rattle.live_gateway.specs.Past.{happened}
use Rattle.live_gateway.proofs.laws.follows_history.Goals as goal

pub returns-clause-kept : goal.returns-clause-kept
returns-clause-kept c = run-kept

pub returns-clause-acts : goal.returns-clause-acts
returns-clause-acts c = run-acts

pub returns-clause-history : goal.returns-clause-history
returns-clause-history c = λ config g start past found. c.runs_follow.ensures.begun config g (happened past)
    (found-tunnels config start past found)
