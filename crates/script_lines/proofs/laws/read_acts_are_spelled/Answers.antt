use Rattle.script_lines.proofs.SpelledAct.{read_is_spelled}
use Rattle.script_lines.proofs.SpelledText.{act_under}
use Rattle.script_lines.proofs.laws.read_acts_are_spelled.Goals as goal

pub returns : goal.returns
returns c = record { text = read_is_spelled; act = act_under }
