use Rattle.std.proofs.Common.{◌≡◌, drop}
use Rattle.line_words.specs.Parts.{texts}
use Rattle.line_words.specs.Words.{onto, each}
use Rattle.live_words.specs.Controller.{place_of}
use Rattle.live_words.proofs.controller.read_places.Given as goal

abbrev pub invariant-loop-word : goal.invariant-loop-word
invariant-loop-word l = onto l.list (each place_of (texts (drop l.word-index l.words))) ≡ each place_of (texts l.words)
