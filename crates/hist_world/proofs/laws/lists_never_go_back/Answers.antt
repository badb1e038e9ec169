use Rattle.hist_world.proofs.Commanded.{accepted, between, never-back}
use Rattle.hist_world.proofs.Runs.{start}
use Rattle.hist_world.proofs.laws.lists_never_go_back.Goals as goal

pub returns-clause-between : goal.returns-clause-between
returns-clause-between c = between

pub returns-clause-accepted : goal.returns-clause-accepted
returns-clause-accepted c = λ shows header events i g k. accepted shows header events g i k

pub returns-clause-history : goal.returns-clause-history
returns-clause-history c = λ shows header events i es g k. never-back shows header events g i es (start header) k
