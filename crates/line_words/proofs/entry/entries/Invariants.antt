use Rattle.std.proofs.Common.{◌≡◌, drop}
use Rattle.line_words.specs.Parts.{texts}
use Rattle.line_words.specs.Words.{onto, each}
use Rattle.line_words.specs.Entry.{entry_of}
use Rattle.line_words.proofs.entry.entries.Given as goal

abbrev pub invariant-loop-word : goal.invariant-loop-word
invariant-loop-word l = onto l.list (each entry_of (texts (drop l.word-index l.words))) ≡ each entry_of (texts l.words)
