use Rattle.std.proofs.Common.{◌∙◌, sym}
use Rattle.line_words.specs.Words.{half_name_of}
use Rattle.line_words.proofs.EachLemmas.{each-end}
use Rattle.script_lines.proofs.session.half_names.Goals as goal

pub returns : goal.returns
returns c = sym c.loop-word.invariant ∙ each-end half_name_of c.loop-word.list c.args.words.now c.loop-word.word-index
    c.loop-word-test.false
