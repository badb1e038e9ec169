use Rattle.std.proofs.Common.{◌∙◌}
use Rattle.drill_script.proofs.Counts.{counted_behind}
use Rattle.drill_script.proofs.tallying.count_with.Goals as goal

pub returns : goal.returns
returns c = c.beginning.ensures ∙ counted_behind c.args.front.now c.args.lines.now
