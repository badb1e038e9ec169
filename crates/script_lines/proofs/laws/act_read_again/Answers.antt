use Rattle.script_lines.proofs.ActText.{act_again}
use Rattle.script_lines.proofs.laws.act_read_again.Goals as goal

pub returns : goal.returns
returns c = act_again c.digits_read_again.ensures
