use Rattle.acts_spell.proofs.Blocks.{told-nothing}
use Rattle.acts_spell.proofs.laws.begins.Goals as goal

pub returns : goal.returns
returns c = λ header h. told-nothing header
