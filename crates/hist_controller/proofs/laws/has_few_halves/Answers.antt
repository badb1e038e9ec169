use Rattle.hist_controller.proofs.Few.{few-left, few-tunnels, few-halves}
use Rattle.hist_controller.proofs.laws.has_few_halves.Goals as goal

pub returns-clause-left : goal.returns-clause-left
returns-clause-left c = few-left

pub returns-clause-tunnels : goal.returns-clause-tunnels
returns-clause-tunnels c = few-tunnels

pub returns-clause-halves : goal.returns-clause-halves
returns-clause-halves c = few-halves
