use Rattle.hist_world.specs.Block.{history, nothing}
use Rattle.hist_wire.specs.Wire.{under_way}
use Rattle.acts_spell.proofs.Histories.{history-spelled}
use Rattle.acts_spell.proofs.laws.histories_have_one_text.Goals as goal

pub returns : goal.returns
returns c = λ header these those h s few t less same.
    c.texts_differ.ensures header.gateways (history (under_way header) header nothing these)
    (history (under_way header) header nothing those) h.names
    (history-spelled c.seal_law.ensures.len header these h s few)
    (history-spelled c.seal_law.ensures.len header those h t less) same
