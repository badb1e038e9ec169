use Rattle.script_lines.proofs.TextLines.{texts_are_of_one}
use Rattle.script_lines.proofs.laws.texts_differ.Goals as goal

pub returns : goal.returns
returns c = texts_are_of_one c.digits_read_again.ensures
