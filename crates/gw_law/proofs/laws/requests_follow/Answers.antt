use Rattle.gw_law.proofs.Requests.{tree-left}
use Rattle.gw_law.proofs.laws.requests_follow.Goals as goal

pub returns-clause-tree : goal.returns-clause-tree
returns-clause-tree c = tree-left c.changes_fit.ensures.after
