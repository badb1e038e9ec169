use Rattle.hist_gateway.proofs.MayAct.{may-block}
use Rattle.hist_gateway.proofs.Safety.{lawful-block, lawful-history}
use Rattle.hist_gateway.proofs.laws.blocks_follow.Goals as goal

pub returns-clause-acts : goal.returns-clause-acts
returns-clause-acts c = may-block c.changes_fit.ensures.before

pub returns-clause-block : goal.returns-clause-block
returns-clause-block c = lawful-block c.changes_fit.ensures.before

pub returns-clause-history : goal.returns-clause-history
returns-clause-history c = lawful-history c.changes_fit.ensures.before
