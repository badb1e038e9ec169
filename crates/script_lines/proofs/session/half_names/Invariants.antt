use Rattle.std.proofs.Common.{◌≡◌, drop}
use Rattle.line_words.specs.Parts.{texts}
use Rattle.line_words.specs.Words.{onto, each, half_name_of}
use Rattle.script_lines.proofs.session.half_names.Given as goal

abbrev pub invariant-loop-word : goal.invariant-loop-word
invariant-loop-word l = onto l.list (each half_name_of (texts (drop l.word-index l.words))) ≡ each half_name_of (texts l.words)
