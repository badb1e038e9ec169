use Rattle.hist_controller.proofs.Spent.{short-pass, short-block}
use Rattle.hist_controller.proofs.facts.has_short_blocks.Goals as goal

pub returns-clause-pass : goal.returns-clause-pass
returns-clause-pass c = short-pass

pub returns-clause-block : goal.returns-clause-block
returns-clause-block c = short-block
