use Rattle.std.proofs.Common.{◌≡◌, ◌++◌, take}
use Rattle.line_words.specs.Text.{more_ranges_text}
use Rattle.line_words.proofs.write.put_more_ranges.Given as goal

abbrev pub invariant-loop-range : goal.invariant-loop-range
invariant-loop-range l = l.out.items ≡ l.initial.out.items ++ more_ranges_text (take l.range-index l.ranges)
