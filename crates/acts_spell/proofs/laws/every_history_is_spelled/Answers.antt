use Rattle.acts_spell.proofs.HeaderReads.{header-typed, lines-spelled}
use Rattle.acts_spell.proofs.Histories.{history-spelled}
use Rattle.acts_spell.proofs.laws.every_history_is_spelled.Goals as goal

pub returns-clause-events : goal.returns-clause-events
returns-clause-events c = history-spelled c.seal_law.ensures.len

pub returns-clause-script : goal.returns-clause-script
returns-clause-script c = λ line header lines events is are few.
    history-spelled c.seal_law.ensures.len header events (header-typed line header is) (lines-spelled header lines events are) few
