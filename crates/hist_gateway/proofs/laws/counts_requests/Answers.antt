use Rattle.hist_gateway.proofs.Requests.{requests-are}
use Rattle.hist_gateway.proofs.MayAct.{lawful-numbered}
use Rattle.hist_gateway.proofs.laws.counts_requests.Goals as goal

pub returns-clause-handled : goal.returns-clause-handled
returns-clause-handled c = requests-are

pub returns-clause-lawful : goal.returns-clause-lawful
returns-clause-lawful c = lawful-numbered
