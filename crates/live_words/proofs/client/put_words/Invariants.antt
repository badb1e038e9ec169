use Rattle.std.proofs.Common.{◌≡◌, ◌++◌, take}
use Rattle.line_words.specs.Parts.{texts}
use Rattle.line_words.specs.Text.{spaced}
use Rattle.live_words.proofs.client.put_words.Given as goal

abbrev pub invariant-loop-word : goal.invariant-loop-word
invariant-loop-word l = l.out.items ≡ l.initial.out.items ++ spaced (texts (take l.word-index l.words))
