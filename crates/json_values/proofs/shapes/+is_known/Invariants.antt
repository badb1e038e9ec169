use Rattle.std.proofs.Common.{length}
use Rattle.json_values.proofs.shapes.+is_known.Given as goal

abbrev pub decreases-is_known : goal.decreases-is_known
decreases-is_known l = length l.names.now
