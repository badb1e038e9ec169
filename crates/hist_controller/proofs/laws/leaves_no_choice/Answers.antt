use Rattle.hist_controller.proofs.Choices.{block-meets, only-block}
use Rattle.hist_controller.proofs.laws.leaves_no_choice.Goals as goal

pub returns-clause-meets : goal.returns-clause-meets
returns-clause-meets c = block-meets

pub returns-clause-only : goal.returns-clause-only
returns-clause-only c = only-block
