use Rattle.hist_gateway.proofs.Databases.{tree-after}
use Rattle.hist_gateway.proofs.laws.requests_change.Goals as goal

pub returns : goal.returns
returns c = tree-after c.changes_fit.ensures.before c.changes_fit.ensures.after
