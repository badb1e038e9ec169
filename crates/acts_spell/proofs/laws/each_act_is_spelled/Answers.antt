use Rattle.acts_spell.proofs.Histories.{act-spelled, act-told}
use Rattle.acts_spell.proofs.laws.each_act_is_spelled.Goals as goal

pub returns-clause-block : goal.returns-clause-block
returns-clause-block c = act-spelled c.seal_law.ensures.len

pub returns-clause-told : goal.returns-clause-told
returns-clause-told c = act-told c.seal_law.ensures.len
