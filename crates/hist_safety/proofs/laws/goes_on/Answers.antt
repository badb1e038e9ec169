use Rattle.hist_safety.proofs.Blocks.{lawful-after, lawful-before}
use Rattle.hist_safety.proofs.laws.goes_on.Goals as goal

pub returns-clause-on : goal.returns-clause-on
returns-clause-on c = lawful-after

pub returns-clause-back : goal.returns-clause-back
returns-clause-back c = lawful-before
