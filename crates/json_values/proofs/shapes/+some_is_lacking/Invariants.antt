use Rattle.std.proofs.Common.{length}
use Rattle.json_values.proofs.shapes.+some_is_lacking.Given as goal

abbrev pub decreases-some_is_lacking : goal.decreases-some_is_lacking
decreases-some_is_lacking l = length l.needed.now
