use Rattle.std.proofs.Common.{◌≡◌, drop}
use Rattle.line_words.specs.Parts.{texts}
use Rattle.line_words.specs.Words.{onto, each}
use Rattle.line_words.specs.Entry.{range_of}
use Rattle.line_words.proofs.entry.ranges.Given as goal

abbrev pub invariant-loop-word : goal.invariant-loop-word
invariant-loop-word l = onto l.list (each range_of (texts (drop l.word-index l.words))) ≡ each range_of (texts l.words)
