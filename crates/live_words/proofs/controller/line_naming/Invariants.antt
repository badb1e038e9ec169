use Rattle.std.proofs.Common.{◌≡◌, take}
use Rattle.live_words.specs.Controller.{naming_line}
use Rattle.live_words.proofs.controller.line_naming.Given as goal

abbrev pub invariant-loop-place : goal.invariant-loop-place
invariant-loop-place l = l.line.items ≡ naming_line (take l.place-index l.places)
